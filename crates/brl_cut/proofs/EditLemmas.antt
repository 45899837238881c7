-- Edits and files, one more at a time.
use Rattle.std.proofs.Common.{◌≡◌, ℕ, ◌+◌, ◌<◌, Bool, true, false, cond, Bor, if◌then◌else◌, ◌&&◌, nat_eq, List, [], ◌∷◌, ◌++◌, length, map, take, get_or, refl, ap, sym, ◌∙◌, Option, Some, None, option_map, string_bytes}
use Rattle.std.specs.BTreeMap.{BTreeMap, get_by, get_by_text, is_at}
use Rattle.std.specs.Global.{Global, Vec}
use Rattle.std.specs.Ordering.{nat_cmp}
use Rattle.std.specs.Prelude.{String}
use Rattle.std.specs.Str.{bytes_eq}
use Rattle.std.proofs.lemmas.List.{map-append, take_more}
use Rattle.std.proofs.lemmas.List.Sums.{fold_push}
use Rattle.brl_cut.specs.Edits.{EditView, Texts, is_of, prefix_in}
use Rattle.brl_cut.specs.Files.{HasPrefixes, HoldsFiles, edit_view, file_view}
use Rattle.brl_cut.specs.Settling.{bytes_at}
use Rattle.brl_cut.specs.declared.files.Edit.{Edit}
use Rattle.brl_lines.proofs.Ordered.{is_eq-nat_eq}
use Rattle.brl_lines.specs.declared.gathering.GatheredFile.{GatheredFile}

views-more : {A B : Type 0} (view : A → B) (xs : List A) (i : ℕ) (x : A) → i < length xs → x ≡ get_or xs i x → map view (take (i + 1) xs) ≡ map view (take i xs) ++ view x ∷ []
views-more view xs i x within is =
    ap (map view) (take_more xs i x within ∙ ap (λ y. take i xs ++ y ∷ []) (sym is)) ∙ map-append view (take i xs) (x ∷ [])

-- what is put before a line, after one edit more
pub prefix-more : (edits : List Edit) (i : ℕ) (edit : Edit) → i < length edits → edit ≡ get_or edits i edit → (path : List ℕ) (number : ℕ)
    → prefix_in (map edit_view (take (i + 1) edits)) path number
    ≡ (if is_of path number (edit_view edit) then Some (string_bytes edit.prefix) else prefix_in (map edit_view (take i edits)) path number)
prefix-more edits i edit within is path number =
    ap (λ (es : List EditView). prefix_in es path number) (views-more edit_view edits i edit within is)
    ∙ fold_push (λ (found : Option (List ℕ)) (e : EditView). if is_of path number e then Some e.prefix else found) None (map edit_view (take i edits)) (edit_view edit)

-- the bytes at a path, after one file more
pub bytes-more : (files : List GatheredFile) (i : ℕ) (file : GatheredFile) → i < length files → file ≡ get_or files i file → (path : List ℕ)
    → bytes_at (map file_view (take (i + 1) files)) path
    ≡ (if bytes_eq (string_bytes file.path) path then Some file.bytes.items else bytes_at (map file_view (take i files)) path)
bytes-more files i file within is path =
    ap (λ (fs : Texts). bytes_at fs path) (views-more file_view files i file within is)
    ∙ fold_push (λ (found : Option (List ℕ)) (f : List ℕ × List ℕ). if bytes_eq f.0 path then Some f.1 else found) None (map file_view (take i files)) (file_view file)

-- a source with one file more
pub held-more : (m n : BTreeMap (String Global) (Vec ℕ)) (key : String Global) (bytes : Vec ℕ)
    → ((p : List ℕ) → get_by_text n p ≡ cond (bytes_eq (string_bytes key) p) (Some bytes) (get_by_text m p))
    → (files : List GatheredFile) (i : ℕ) (file : GatheredFile) → i < length files → file ≡ get_or files i file → string_bytes key ≡ string_bytes file.path → bytes.items ≡ file.bytes.items
    → HoldsFiles [] (map file_view (take i files)) (record { files = m; folders = None }) → HoldsFiles [] (map file_view (take (i + 1) files)) (record { files = n; folders = None })
held-more m n key bytes updates files i file within is named same before = (
  λ path.
      ap (option_map (λ (b : Vec ℕ). b.items)) (updates path) ∙ by_test path (bytes_eq (string_bytes key) path)
      ∙ ap (λ (k : List ℕ). if bytes_eq k path then Some file.bytes.items else bytes_at (map file_view (take i files)) path) named
      ∙ sym (bytes-more files i file within is path),
  refl,
)
  where
    by_test : (path : List ℕ) (b : Bool) → option_map (λ (v : Vec ℕ). v.items) (cond b (Some bytes) (get_by_text m path))
        ≡ (if b then Some file.bytes.items else bytes_at (map file_view (take i files)) path)
    by_test path true = ap Some same
    by_test path false = before.0 path

-- what is put before lines, after one edit more, of this file or of another
module _ (edits : List Edit) (i : ℕ) (edit : Edit) (within : i < length edits) (is : edit ≡ get_or edits i edit) (path : List ℕ) (m : BTreeMap ℕ (Bor (List ℕ))) (before : HasPrefixes m (prefix_in (map edit_view (take i edits)) path)) where
  pub prefixes-more : (n : BTreeMap ℕ (Bor (List ℕ))) (text : Bor (List ℕ)) → ((q : ℕ) → get_by (nat_cmp q) n ≡ cond (is_at (nat_cmp edit.line) q) (Some text) (get_by (nat_cmp q) m))
      → text.now ≡ string_bytes edit.prefix → bytes_eq path (string_bytes edit.file) ≡ true → HasPrefixes n (prefix_in (map edit_view (take (i + 1) edits)) path)
  prefixes-more n text updates same file number =
      ap (option_map (λ (t : Bor (List ℕ)). t.now)) (updates number)
      ∙ ap (λ b. option_map (λ (t : Bor (List ℕ)). t.now) (cond b (Some text) (get_by (nat_cmp number) m))) (is_eq-nat_eq edit.line number)
      ∙ by_test (nat_eq edit.line number)
      ∙ ap (λ b. if b && nat_eq edit.line number then Some (string_bytes edit.prefix) else prefix_in (map edit_view (take i edits)) path number) (sym file)
      ∙ sym (prefix-more edits i edit within is path number)
    where
      by_test : (b : Bool) → option_map (λ (t : Bor (List ℕ)). t.now) (cond b (Some text) (get_by (nat_cmp number) m))
          ≡ (if b then Some (string_bytes edit.prefix) else prefix_in (map edit_view (take i edits)) path number)
      by_test true = ap Some same
      by_test false = before number

  pub prefixes-same : bytes_eq path (string_bytes edit.file) ≡ false → HasPrefixes m (prefix_in (map edit_view (take (i + 1) edits)) path)
  prefixes-same file number =
      before number
      ∙ ap (λ b. if b && nat_eq edit.line number then Some (string_bytes edit.prefix) else prefix_in (map edit_view (take i edits)) path number) (sym file)
      ∙ sym (prefix-more edits i edit within is path number)
