-- A file that no edit is of stays as it is.
use Rattle.std.proofs.Common.{◌≡◌, ◌∙◌, ◌+◌, ◌++◌, ◌||◌, ◌&&◌, ◌==◌, ℕ, Bool, true, false, cond, fold, if◌then◌else◌, nat_eq, List, [], ◌∷◌, ap, drop, map, refl, sym, take, Option, Some, None, string_bytes}
use Rattle.std.specs.List.{enumerate_from, flat_map, list_any}
use Rattle.std.specs.Str.{bytes_eq}
use Rattle.std.proofs.lemmas.List.{take-append-drop}
use Rattle.std.proofs.lemmas.Slice.Eq.{bytes_eq-Decides}
use Rattle.brl_lines.specs.Rows.{onto, order_mark, without_mark}
use Rattle.brl_cut.specs.Edits.{EditView, edited, edited_line, is_of, mark_of, prefix_in, whole_lines}
use Rattle.brl_cut.specs.Files.{edit_view}
use Rattle.brl_cut.specs.declared.files.Edit.{Edit}

-- nothing is put before its lines
no-prefix : (path : List ℕ) (edits : List Edit) → list_any (λ edit. bytes_eq path (string_bytes edit.file)) edits ≡ false → (number : ℕ) (found : Option (List ℕ))
    → fold (λ (before : Option (List ℕ)) (edit : EditView). if is_of path number edit then Some edit.prefix else before) found (map edit_view edits) ≡ found
no-prefix path [] none number found = refl
no-prefix path (edit ∷ edits) none number found = by_path (bytes_eq path (string_bytes edit.file)) refl none (λ less. no-prefix path edits less number found)
  where
    next : Option (List ℕ) → Option (List ℕ)
    next o = fold (λ (before : Option (List ℕ)) (e : EditView). if is_of path number e then Some e.prefix else before) o (map edit_view edits)

    by_path : (here : Bool) → bytes_eq path (string_bytes edit.file) ≡ here → (here || list_any (λ e. bytes_eq path (string_bytes e.file)) edits) ≡ false
        → (list_any (λ e. bytes_eq path (string_bytes e.file)) edits ≡ false → next found ≡ found)
        → next (if bytes_eq path (string_bytes edit.file) && nat_eq edit.line number then Some (string_bytes edit.prefix) else found) ≡ found
    by_path true is e rest = absurd cc
    by_path false is e rest = ap (λ b. next (if b && nat_eq edit.line number then Some (string_bytes edit.prefix) else found)) is ∙ rest e

lines-as-they-are : (prefix : ℕ → Option (List ℕ)) → ((number : ℕ) → prefix number ≡ None) → (number : ℕ) (lines : List (List ℕ))
    → flat_map (λ entry. edited_line (prefix entry.0) entry.1) (enumerate_from number lines) ≡ flat_map (λ line. line) lines
lines-as-they-are prefix none number [] = refl
lines-as-they-are prefix none number (line ∷ lines) = λ j. edited_line (none number j) line ++ lines-as-they-are prefix none (number + 1) lines j

-- the lines of a text are all of it
all-lines : (text : List ℕ) → flat_map (λ line. line) (whole_lines text) ≡ text
all-lines [] = refl
all-lines (b ∷ bs) = by_feed (b == 10) (whole_lines bs) (all-lines bs)
  where
    by_feed : (feed : Bool) (lines : List (List ℕ)) → flat_map (λ line. line) lines ≡ bs → flat_map (λ line. line) (cond feed ((b ∷ []) ∷ lines) (onto b lines)) ≡ b ∷ bs
    by_feed true lines all = ap (λ (xs : List ℕ). b ∷ xs) all
    by_feed false [] all = ap (λ (xs : List ℕ). b ∷ xs) all
    by_feed false (line ∷ lines) all = ap (λ (xs : List ℕ). b ∷ xs) all

mark-and-text : (bytes : List ℕ) → mark_of bytes ++ without_mark bytes ≡ bytes
mark-and-text bytes = by_mark (bytes_eq (take 3 bytes) order_mark) refl
  where
    by_mark : (marked : Bool) → bytes_eq (take 3 bytes) order_mark ≡ marked → cond marked order_mark [] ++ cond marked (drop 3 bytes) bytes ≡ bytes
    by_mark true is = ap (λ (xs : List ℕ). xs ++ drop 3 bytes) (sym ((bytes_eq-Decides (take 3 bytes) order_mark).0 is)) ∙ take-append-drop 3 bytes
    by_mark false is = refl

pub unedited : (edits : List Edit) (path : List ℕ) → list_any (λ edit. bytes_eq path (string_bytes edit.file)) edits ≡ false → (bytes : List ℕ) → edited (prefix_in (map edit_view edits) path) bytes ≡ bytes
unedited edits path none bytes =
    ap (λ (xs : List ℕ). mark_of bytes ++ xs) (lines-as-they-are (prefix_in (map edit_view edits) path) (λ number. no-prefix path edits none number None) 1 (whole_lines (without_mark bytes)) ∙ all-lines (without_mark bytes))
    ∙ mark-and-text bytes
