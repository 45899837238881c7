-- The files that were read, and what the source answered for them.
use Rattle.std.proofs.Common.{◌≡◌, ℕ, zero, suc, ◌+◌, ◌<◌, ◌≤◌, Bool, true, false, cond, List, [], ◌∷◌, ◌++◌, length, map, refl, ap, sym, ◌∙◌, subst, arith, append_assoc, append-nil, length-append, length-drop, drop, take, option_map, Option, Some, None, Ok, Err}
use Rattle.std.proofs.lemmas.List.{map-append, take_more}
use Rattle.std.proofs.lemmas.Option.{get_or_from_slice_get, slice_get-map, slice_get_within}
use Rattle.std.proofs.lemmas.Slice.Eq.{bytes_eq-Decides}
use Rattle.std.specs.Global.{Global}
use Rattle.std.specs.Map.{lookup, lookup_key, values_of}
use Rattle.std.specs.Option.{option_map_or}
use Rattle.std.specs.Prelude.{String, is_some, not, slice_get, string_bytes}
use Rattle.std.specs.Str.{IsCharBoundary, bytes_eq}
use Rattle.std.proofs.lemmas.Map.Made.{lookup_key_passes}
use Rattle.brl_lines.specs.Answer.{FileAnswer, Holds, FileAnswers, is_missing, most_file_bytes, MayAnswer}
use Rattle.brl_lines.specs.Files.{Files, answer_for, answer_of_file, answers_of, lines_at, path_at, paths_of, span_lines, text_at, text_for}
use Rattle.brl_lines.specs.Lines.{Answers, LocationView, answer_at, text_of}
use Rattle.brl_lines.specs.Outcome.{AreGiven}
use Rattle.brl_lines.specs.Rows.{order_mark, piece, without_mark}
use Rattle.brl_lines.specs.Steps.{AreSpans, Extends, Fails, Finds, Grows, IsOpen, IsSpan, Reads, Sees}
use Rattle.brl_lines.specs.Tokens.{LineView, line_of, token_of, tokens}
use Rattle.brl_lines.specs.declared.checked_file.CheckedFile.{CheckedFile}
use Rattle.brl_failure.specs.declared.failure.Failure.{Failure}
use Rattle.brl_failure.specs.declared.failure.Failure.TheVariants.{Fault, Memory}
use Rattle.brl_lines.specs.declared.fault.LoadFault.{LoadFault}
use Rattle.brl_lines.specs.declared.open_file.OpenFile.{OpenFile}
use Rattle.brl_lines.specs.declared.span.LineSpan.{LineSpan}

-- ---- answers

-- the paths of one file more
pub one-more-path : (files : Files) (i : ℕ) (file : String Global × Option CheckedFile) → slice_get files i ≡ Some file → paths_of (take (i + 1) files) ≡ paths_of (take i files) ++ string_bytes file.0 ∷ []
one-more-path files i file h =
    ap paths_of (take_more files i file (slice_get_within files i file h))
    ∙ map-append (λ (f : String Global × Option CheckedFile). string_bytes f.0) (take i files) _
    ∙ ap (λ (f : String Global × Option CheckedFile). paths_of (take i files) ++ string_bytes f.0 ∷ []) (get_or_from_slice_get files i file file h)

-- the paths of the answers are those of the files
pub paths-of-answers : (files : Files) → map (λ entry. entry.0) (answers_of files) ≡ paths_of files
paths-of-answers [] = refl
paths-of-answers (file ∷ files) = ap (λ (paths : List (List ℕ)). string_bytes file.0 ∷ paths) (paths-of-answers files)

-- answers at the end change none of those before
pub kept : (answers others : Answers) (path : List ℕ) (a : FileAnswer) → answer_at answers path ≡ Some a → answer_at (answers ++ others) path ≡ Some a
kept [] others path a h = absurd cc
kept (entry ∷ answers) others path a h = by_test (bytes_eq path entry.0) h (kept answers others path a)
  where
    by_test : (b : Bool) → cond b (Some entry.1) (answer_at answers path) ≡ Some a → (answer_at answers path ≡ Some a → answer_at (answers ++ others) path ≡ Some a)
        → cond b (Some entry.1) (answer_at (answers ++ others) path) ≡ Some a
    by_test true k more = k
    by_test false k more = more k

-- an answer at the end, for a path that had none
pub last : (answers : Answers) (path : List ℕ) (a : FileAnswer) → answer_at answers path ≡ None → answer_at (answers ++ (path, a) ∷ []) path ≡ Some a
last [] path a h = let same : bytes_eq path path ≡ true = (bytes_eq-Decides path path).1 refl in rw same refl
last (entry ∷ answers) path a h = by_test (bytes_eq path entry.0) h (last answers path a)
  where
    by_test : (b : Bool) → cond b (Some entry.1) (answer_at answers path) ≡ None → (answer_at answers path ≡ None → answer_at (answers ++ (path, a) ∷ []) path ≡ Some a)
        → cond b (Some entry.1) (answer_at (answers ++ (path, a) ∷ []) path) ≡ Some a
    by_test true k more = cc
    by_test false k more = more k

pub given-more : (gives : FileAnswers) (answers : Answers) (path : List ℕ) (a : FileAnswer) → AreGiven gives answers → MayAnswer gives path a → AreGiven gives (answers ++ (path, a) ∷ [])
given-more gives [] path a h k = (k, tt)
given-more gives (entry ∷ answers) path a h k = (h.0, given-more gives answers path a h.1 k)

-- ---- files at an index

-- files at the end change none of those before
pub get-kept : {X : Type 0} (xs ys : List X) (i : ℕ) → i < length xs → slice_get (xs ++ ys) i ≡ slice_get xs i
get-kept [] ys i h = absurd (omega arith)
get-kept (x ∷ xs) ys zero h = refl
get-kept (x ∷ xs) ys (suc i) h = get-kept xs ys i (omega arith)

-- ---- files that were added

module _ (gives : FileAnswers) (old new : Files) (grows : Grows gives old new) where
  pub longer : (i : ℕ) → i < length old → i < length new
  longer i h =
      let whole : length new ≡ length old + length grows.more = ap length grows.kept ∙ length-append old grows.more in
      omega arith

  same-file : (i : ℕ) → i < length old → slice_get new i ≡ slice_get old i
  same-file i h = ap (λ (files : Files). slice_get files i) grows.kept ∙ get-kept old grows.more i h

  path_at-grows : (i : ℕ) → i < length old → path_at new i ≡ path_at old i
  path_at-grows i h = ap (λ file. option_map_or (λ (f : String Global × Option CheckedFile). string_bytes f.0) file []) (same-file i h)

  pub text_at-grows : (i : ℕ) → i < length old → text_at new i ≡ text_at old i
  text_at-grows i h = ap (λ file. option_map_or (λ (f : String Global × Option CheckedFile). text_for f.1) file []) (same-file i h)

  pub extends-older : (answer : List ℕ → Option FileAnswer) → Extends new answer → Extends old answer
  extends-older answer h path a e =
      h path a (ap (λ (files : Files). answer_at (answers_of files) path) grows.kept ∙ ap (λ (answers : Answers). answer_at answers path) (map-append answer_of_file old grows.more)
      ∙ kept (answers_of old) (answers_of grows.more) path a e)

  pub open-grows : (file : OpenFile) → IsOpen old file → IsOpen new file
  open-grows file h = record { within = longer file.index h.within; path = path_at-grows file.index h.within ∙ h.path }

  -- spans stay where they are
  pub span-grows : (span : LineSpan) → IsSpan old span → IsSpan new span
  span-grows span h =
      let text = sym (text_at-grows span.file h.file) in
      record {
        file = longer span.file h.file;
        range = h.range;
        within = subst (λ (t : List ℕ). span.to ≤ length t) text h.within;
        from_boundary = subst (λ (t : List ℕ). IsCharBoundary t span.from) text h.from_boundary;
        to_boundary = subst (λ (t : List ℕ). IsCharBoundary t span.to) text h.to_boundary;
      }

  pub spans-grow : (spans : List LineSpan) → AreSpans old spans → AreSpans new spans
  spans-grow [] h = tt
  spans-grow (span ∷ spans) h = (span-grows span h.0, spans-grow spans h.1)

  span_lines-grows : (span : LineSpan) → IsSpan old span → span_lines new span ≡ span_lines old span
  span_lines-grows span h =
      ap (λ (path : List ℕ). line_of path span.line (map token_of (tokens (piece (text_at new span.file) span.from span.to)))) (path_at-grows span.file h.file)
      ∙ ap (λ (text : List ℕ). line_of (path_at old span.file) span.line (map token_of (tokens (piece text span.from span.to)))) (text_at-grows span.file h.file)

  pub lines_at-grows : (spans : List LineSpan) → AreSpans old spans → lines_at new spans ≡ lines_at old spans
  lines_at-grows [] h = refl
  lines_at-grows (span ∷ spans) h =
      ap (λ (lines : List LineView). lines ++ lines_at new spans) (span_lines-grows span h.0) ∙ ap (λ (lines : List LineView). span_lines old span ++ lines) (lines_at-grows spans h.1)

-- no files are added
pub grows-none : (gives : FileAnswers) (files : Files) → AreGiven gives (answers_of files) → Grows gives files files
grows-none gives files given = record { more = []; kept = sym (append-nil files); given = given }

-- files are added twice
pub grows-twice : (gives : FileAnswers) (old mid new : Files) → Grows gives old mid → Grows gives mid new → Grows gives old new
grows-twice gives old mid new h k = record {
  more = h.more ++ k.more;
  kept = k.kept ∙ ap (λ files. files ++ k.more) h.kept ∙ append_assoc old h.more k.more;
  given = k.given;
}

-- ---- a file that is looked up

pub answer_at-lookup : (files : Files) (path : List ℕ) → answer_at (answers_of files) path ≡ option_map answer_for (lookup (λ k. bytes_eq path (string_bytes k)) files)
answer_at-lookup [] path = refl
answer_at-lookup (file ∷ files) path = by_test (bytes_eq path (string_bytes file.0)) (answer_at-lookup files path)
  where
    by_test : (b : Bool) → answer_at (answers_of files) path ≡ option_map answer_for (lookup (λ k. bytes_eq path (string_bytes k)) files)
        → cond b (Some (answer_for file.1)) (answer_at (answers_of files) path)
        ≡ option_map answer_for (cond b (Some file.1) (lookup (λ k. bytes_eq path (string_bytes k)) files))
    by_test true e = refl
    by_test false e = e

-- a file that was read before
pub found-file : (files : Files) (path : List ℕ) (index : ℕ) (name : String Global) (file : CheckedFile) → slice_get files index ≡ Some (name, Some file)
    → lookup_key (λ k. bytes_eq path (string_bytes k)) files ≡ Some name → lookup (λ k. bytes_eq path (string_bytes k)) files ≡ Some (Some file)
    → Finds files path index
found-file files path index name file at key value =
    let known = answer_at-lookup files path ∙ ap (option_map answer_for) value in
    record {
      within = slice_get_within files index (name, Some file) at;
      path_is = ap (λ (f : Option (String Global × Option CheckedFile)). option_map_or (λ (g : String Global × Option CheckedFile). string_bytes g.0) f []) at
          ∙ sym ((bytes_eq-Decides path (string_bytes name)).0 (lookup_key_passes (λ k. bytes_eq path (string_bytes k)) files name key));
      text_is = λ answer h place.
          ap (text_of path place) (h path (Holds (string_bytes file.whole)) known)
          ∙ file.good path place
          ∙ ap (λ (f : Option (String Global × Option CheckedFile)). Ok (option_map_or (λ (g : String Global × Option CheckedFile). text_for g.1) f []))
          (sym at);
    }

-- a file that wasn't read before
pub not-read : (files : Files) (path : List ℕ) → None ≡ lookup (λ k. bytes_eq path (string_bytes k)) files → answer_at (answers_of files) path ≡ None
not-read files path e = answer_at-lookup files path ∙ ap (option_map answer_for) (sym e)

-- no file is one that is missing
missing-is : (file : Option CheckedFile) → is_missing (Some (answer_for file)) ≡ not (is_some file)
missing-is None = refl
missing-is (Some file) = refl

-- a file that is read now, and refused
pub read-refused : (gives : FileAnswers) (files : Files) (path : List ℕ) (place : Option LocationView) → AreGiven gives (answers_of files) → answer_at (answers_of files) path ≡ None
    → (failure : Failure LoadFault) → Reads gives path place (Err failure) → Fails gives files (λ answer. text_of path place (answer path)) failure
read-refused gives files path place given none Memory h = tt
read-refused gives files path place given none (Fault fault) h = record {
  answers = answers_of files ++ (path, h.0) ∷ [];
  given = given-more gives (answers_of files) path h.0 given h.1;
  extends = kept (answers_of files) ((path, h.0) ∷ []);
  fails = ap (text_of path place) (last (answers_of files) path h.0 none) ∙ h.2;
  unreadable = h.3;
}

-- a path that is read now, where there is a file or none
pub seen-now : (gives : FileAnswers) (files new : Files) (path : List ℕ) (name : String Global) (file : Option CheckedFile) (there : Bool) → AreGiven gives (answers_of files)
    → answer_at (answers_of files) path ≡ None → string_bytes name ≡ path → MayAnswer gives path (answer_for file) → new ≡ files ++ (name, file) ∷ [] → there ≡ is_some file
    → Sees gives files new path there
seen-now gives files new path name file there given none path_is gave e is =
    let answers : answers_of new ≡ answers_of files ++ (path, answer_for file) ∷ [] =
    ap answers_of e ∙ map-append answer_of_file files ((name, file) ∷ []) ∙ ap (λ (p : List ℕ). answers_of files ++ (p, answer_for file) ∷ []) path_is in
    record {
      grows = record {
        more = (name, file) ∷ [];
        kept = e;
        given = subst (AreGiven gives) (sym answers) (given-more gives (answers_of files) path (answer_for file) given gave);
      };
      answer = answer_for file;
      known = ap (λ (known : Answers). answer_at known path) answers ∙ last (answers_of files) path (answer_for file) none;
      is = missing-is file ∙ ap not (sym is);
    }

-- a path that was read before
pub seen-before : (gives : FileAnswers) (files : Files) (path : List ℕ) (file : Option CheckedFile) (there : Bool) → AreGiven gives (answers_of files)
    → lookup (λ k. bytes_eq path (string_bytes k)) files ≡ Some file → there ≡ is_some file → Sees gives files files path there
seen-before gives files path file there given value is = record {
  grows = grows-none gives files given;
  answer = answer_for file;
  known = answer_at-lookup files path ∙ ap (option_map answer_for) value;
  is = missing-is file ∙ ap not (sym is);
}

-- ---- the text of a file

pub text-at : (files : Files) (index : ℕ) (file : Option CheckedFile) → slice_get (values_of files) index ≡ Some file → text_for file ≡ text_at files index
text-at files index file e = by_file (slice_get files index) (sym (slice_get-map (λ (entry : String Global × Option CheckedFile). entry.1) files index) ∙ e)
  where
    by_file : (f : Option (String Global × Option CheckedFile)) → option_map (λ (entry : String Global × Option CheckedFile). entry.1) f ≡ Some file
        → text_for file ≡ option_map_or (λ (g : String Global × Option CheckedFile). text_for g.1) f []
    by_file None h = absurd cc
    by_file (Some entry) h = let same : entry.1 ≡ file = cc in ap text_for (sym same)

mark-less : (bytes : List ℕ) → length (without_mark bytes) ≤ length bytes
mark-less bytes = by_test (bytes_eq (take 3 bytes) order_mark)
  where
    by_test : (b : Bool) → length (cond b (drop 3 bytes) bytes) ≤ length bytes
    by_test true = rw length-drop (omega arith)
    by_test false = omega arith

-- it isn't too long, and may be cut at its start
pub text_at-small : (files : Files) (index : ℕ) → (length (text_at files index) ≤ most_file_bytes) × IsCharBoundary (text_at files index) 0
text_at-small files index = by_file (slice_get files index)
  where
    text_if : Option (String Global × Option CheckedFile) → List ℕ
    text_if f = option_map_or (λ (g : String Global × Option CheckedFile). text_for g.1) f []

    by_file : (f : Option (String Global × Option CheckedFile)) → (length (text_if f) ≤ most_file_bytes) × IsCharBoundary (text_if f) 0
    by_file (Some (name, Some file)) = let small = file.small in let less = mark-less (string_bytes file.whole) in (omega arith, file.starts)
    by_file f = (omega arith, (omega arith, λ some. absurd (omega arith)))
