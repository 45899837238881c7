-- Files whose lines are the same as those of others, but for comments, define the same table.
use Rattle.std.proofs.Common.{◌≡◌, ◌∙◌, ◌||◌, ◌⊎◌, inl, inr, ℕ, Bool, true, false, cond, if◌then◌else◌, nat_le, nat_lt, List, [], ◌∷◌, ap, arith, fold, length, map, refl, subst, sym, Option, Some, None, Result, Ok, Err}
use Rattle.std.specs.Cmp.{first_so, second_so}
use Rattle.std.specs.Result.{is_ok}
use Rattle.std.specs.Str.{bytes_eq, is_utf8}
use Rattle.std.proofs.lemmas.Bool.Decides.{nat_tests}
use Rattle.std.proofs.lemmas.Option.{same_Some}
use Rattle.std.proofs.lemmas.Slice.Eq.{bytes_eq-Decides}
use Rattle.brl_lines.specs.Answer.{FileAnswer, Holds, Large, answer_of, most_file_bytes, same_answer}
use Rattle.brl_lines.specs.Lines.{Answers, LocationView, Refusal, answer_at, long_row, refusal, text_in, text_of, unless_long}
use Rattle.brl_lines.specs.Outcome.{AreGiven}
use Rattle.brl_lines.specs.Rows.{without_mark}
use Rattle.brl_lines.specs.Tokens.{LineView, lines_in}
use Rattle.brl_lines.specs.declared.fault.LoadFaultKind.TheVariants as kinds
use Rattle.brl_lines.proofs.MemoryLemmas.{answer_of-readable, told_of_all}
use Rattle.brl_table.specs.Reading.{AreGood, table_of}
use Rattle.brl_rules.specs.TableView.{TableView}
use Rattle.brl_cut.specs.Alike.{keep_files, keeps_file, keeps_lines}
use Rattle.brl_cut.specs.Cuts.{IsReadAs, only}
use Rattle.brl_cut.specs.Edits.{Texts}
use Rattle.brl_cut.specs.Settling.{bytes_at, lines_among}
use Rattle.brl_cut.proofs.AlikeLoads.{leads-lines}
use Rattle.brl_cut.proofs.AlikeTexts.{keeps-good, keeps-lines}
use Rattle.brl_cut.proofs.BareLines.{bare}
use Rattle.brl_cut.proofs.BareTables.{good-too, same-table}

-- bytes are as good as others
abbrev AreAsGood : List ℕ → List ℕ → Type 0
AreAsGood bytes other = (bytes_eq bytes other || keeps_lines bytes other) ≡ true

-- a text that is good by some bytes is so by bytes that are as good
good-still : (bytes other : List ℕ) → AreAsGood bytes other → (path : List ℕ) (place : Option LocationView) (text : List ℕ) → text_in path place bytes ≡ Ok text
    → (new : List ℕ) × (text_in path place other ≡ Ok new) × ((file : List ℕ) → map bare (lines_in file new) ≡ map bare (lines_in file text))
good-still bytes other good path place text is = by_bytes (bytes_eq bytes other) refl good
  where
    by_bytes : (same : Bool) → bytes_eq bytes other ≡ same → (same || keeps_lines bytes other) ≡ true
        → (new : List ℕ) × (text_in path place other ≡ Ok new) × ((file : List ℕ) → map bare (lines_in file new) ≡ map bare (lines_in file text))
    by_bytes true same h = (text, ap (text_in path place) (sym ((bytes_eq-Decides bytes other).0 same)) ∙ is, λ file. refl)
    by_bytes false same h =
        let both = keeps-good bytes other h path place text is in
        (without_mark other, both.1, λ file. keeps-lines bytes other h file ∙ ap (λ t. map bare (lines_in file t)) (sym both.0))

-- a file whose text is good isn't too large
small-is : (path : List ℕ) (place : Option LocationView) (bytes text : List ℕ) → text_in path place bytes ≡ Ok text → nat_le (length bytes) most_file_bytes ≡ true
unfolding text_in
small-is path place bytes text is = by_large (nat_lt most_file_bytes (length bytes)) refl is
  where
    by_large : (large : Bool) → nat_lt most_file_bytes (length bytes) ≡ large
        → cond large (Err (refusal kinds.TooLarge path place)) (cond (is_utf8 bytes) (unless_long path (without_mark bytes) (long_row (without_mark bytes))) (Err (refusal kinds.NotUtf8 path place))) ≡ Ok text
        → nat_le (length bytes) most_file_bytes ≡ true
    by_large true large e = absurd cc
    by_large false large e = grind (arith, nat_tests, large)

-- ---- Bytes at paths

-- where there are bytes at one, there are some as good at the other
abbrev HasAsGood : Option (List ℕ) → Option (List ℕ) → Type 0
HasAsGood one other = (bytes : List ℕ) → one ≡ Some bytes → (new : List ℕ) × (other ≡ Some new) × AreAsGood bytes new

module _ (path : List ℕ) where
  abbrev last : Option (List ℕ) → List ℕ × List ℕ → Option (List ℕ)
  last found file = if bytes_eq file.0 path then Some file.1 else found

  good-after : (files others : Texts) → keep_files files others ≡ true → (one other : Option (List ℕ)) → HasAsGood one other → HasAsGood (fold last one files) (fold last other others)
  good-after [] [] keep one other good = good
  good-after (file ∷ files) (new ∷ others) keep one other good =
      good-after files others (second_so (keeps_file file new) (keep_files files others) keep) (last one file) (last other new) (by_path (bytes_eq file.0 path) refl)
    where
      keeps : keeps_file file new ≡ true
      keeps = first_so (keeps_file file new) (keep_files files others) keep

      same_path : file.0 ≡ new.0
      same_path = (bytes_eq-Decides file.0 new.0).0 (first_so (bytes_eq file.0 new.0) (bytes_eq file.1 new.1 || keeps_lines file.1 new.1) keeps)

      by_path : (here : Bool) → bytes_eq file.0 path ≡ here → HasAsGood (if bytes_eq file.0 path then Some file.1 else one) (if bytes_eq new.0 path then Some new.1 else other)
      by_path true is bytes e =
          let first = same_Some file.1 bytes (ap (λ b. cond b (Some file.1) one) (sym is) ∙ e) in (
            new.1,
            ap (λ b. cond b (Some new.1) other) (ap (λ p. bytes_eq p path) (sym same_path) ∙ is),
            subst (λ b. AreAsGood b new.1) first (second_so (bytes_eq file.0 new.0) (bytes_eq file.1 new.1 || keeps_lines file.1 new.1) keeps),
          )
      by_path false is bytes e =
          let there = good bytes (ap (λ b. cond b (Some file.1) one) (sym is) ∙ e) in
          (there.0, ap (λ b. cond b (Some new.1) other) (ap (λ p. bytes_eq p path) (sym same_path) ∙ is) ∙ there.1, there.2)
  good-after files others keep one other good = absurd cc

  -- an answer for the path of each file
  abbrev answers_by : (List ℕ → FileAnswer) → Texts → Answers
  answers_by answer files = map (λ file. (file.0, answer file.0)) files

  answered : (answer : List ℕ → FileAnswer) (files : Texts) (found : Option (List ℕ)) (bytes : List ℕ) → fold last found files ≡ Some bytes
      → (found ≡ Some bytes) ⊎ (answer_at (answers_by answer files) path ≡ Some (answer path))
  answered answer [] found bytes e = inl e
  answered answer (file ∷ files) found bytes e = by_path (bytes_eq path file.0) refl (answered answer files (last found file) bytes e)
    where
      by_path : (here : Bool) → bytes_eq path file.0 ≡ here → (last found file ≡ Some bytes) ⊎ (answer_at (answers_by answer files) path ≡ Some (answer path))
          → (found ≡ Some bytes) ⊎ (cond here (Some (answer file.0)) (answer_at (answers_by answer files) path) ≡ Some (answer path))
      by_path true is later = inr (ap (λ p. Some (answer p)) (sym ((bytes_eq-Decides path file.0).0 is)))
      by_path false is (inr there) = inr there
      by_path false is (inl here) = inl (by_same (bytes_eq file.0 path) refl here)
        where
          by_same : (same : Bool) → bytes_eq file.0 path ≡ same → cond same (Some file.1) found ≡ Some bytes → found ≡ Some bytes
          by_same true same f =
              let no : bytes_eq path file.0 ≡ true = (bytes_eq-Decides path file.0).1 (sym ((bytes_eq-Decides file.0 path).0 same)) in
              absurd cc
          by_same false same f = f

-- what is answered for files is given by them
same-self : (answer : FileAnswer) → same_answer answer answer ≡ true
same-self (Holds bytes) = (bytes_eq-Decides bytes bytes).1 refl
same-self answer = refl

all-given : (files some : Texts) → AreGiven (only [] files) (map (λ file. (file.0, answer_of (bytes_at files file.0))) some)
all-given files [] = tt
all-given files (file ∷ some) = (same-self (answer_of (bytes_at files file.0)), all-given files some)

-- ---- Tables

-- files that define a table have its lines
pub lines-read : (files : Texts) (root : List ℕ) (t : TableView) → IsReadAs files root t
    → (lines : List LineView) × (lines_among [] files root ≡ Ok lines) × AreGood lines × (t ≡ table_of lines)
lines-read files root t is =
    (is.0, told_of_all [] (λ path. answer_of (bytes_at files path)) (λ path. answer_of-readable (bytes_at files path)) root (Ok is.0) is.1 tt, is.2, is.3)

pub loads-read : (files : Texts) (root : List ℕ) (t : TableView) → IsReadAs files root t → is_ok (lines_among [] files root) ≡ true
loads-read files root t is = ap is_ok (lines-read files root t is).1

-- and no others
pub reads-read : (files : Texts) (root : List ℕ) (t : TableView) → IsReadAs files root t
    → (lines : List LineView) → lines_among [] files root ≡ Ok lines → AreGood lines × (t ≡ table_of lines)
reads-read files root t is lines there =
    let read = lines-read files root t is in
    let both : ◌≡◌ {A = Result (List LineView) Refusal} (Ok read.0) (Ok lines) = sym read.1 ∙ there in
    let same : read.0 ≡ lines = cc in
    (subst AreGood same read.2, read.3 ∙ ap table_of same)

-- Files whose lines are the same as those of files that define a table define it too.
module _ (files others : Texts) (keep : keep_files files others ≡ true) where
  abbrev before : List ℕ → Option FileAnswer
  before path = Some (answer_of (bytes_at files path))

  abbrev answers : Answers
  answers = map (λ file. (file.0, answer_of (bytes_at others file.0))) others

  texts : (path : List ℕ) (place : Option LocationView) (text : List ℕ) → text_of path place (before path) ≡ Ok text
      → (new : List ℕ) × (text_of path place (answer_at answers path) ≡ Ok new) × ((file : List ℕ) → map bare (lines_in file new) ≡ map bare (lines_in file text))
  texts path place text is = by_bytes (bytes_at files path) refl is
    where
      by_new : (new bytes : List ℕ) → bytes_at others path ≡ Some bytes → text_in path place bytes ≡ Ok new → text_of path place (answer_at answers path) ≡ Ok new
      by_new new bytes there good =
          ap (text_of path place) (by_answer (answered path (λ p. answer_of (bytes_at others p)) others None bytes there) ∙ ap (λ o. Some (answer_of o)) there
          ∙ ap (λ b. Some (cond b (Holds bytes) Large)) (small-is path place bytes new good)) ∙ good
        where
          by_answer : (None ≡ Some bytes) ⊎ (answer_at answers path ≡ Some (answer_of (bytes_at others path))) → answer_at answers path ≡ Some (answer_of (bytes_at others path))
          by_answer (inl nothing) = absurd cc
          by_answer (inr is) = is

      by_bytes : (o : Option (List ℕ)) → bytes_at files path ≡ o → text_of path place (Some (answer_of o)) ≡ Ok text
          → (new : List ℕ) × (text_of path place (answer_at answers path) ≡ Ok new) × ((file : List ℕ) → map bare (lines_in file new) ≡ map bare (lines_in file text))
      by_bytes None there e = absurd cc
      by_bytes (Some bytes) there e = by_size (nat_le (length bytes) most_file_bytes) e
        where
          by_size : (small : Bool) → text_of path place (Some (cond small (Holds bytes) Large)) ≡ Ok text
              → (new : List ℕ) × (text_of path place (answer_at answers path) ≡ Ok new) × ((file : List ℕ) → map bare (lines_in file new) ≡ map bare (lines_in file text))
          by_size false e = absurd cc
          by_size true e =
              let other = good-after path files others keep None None (λ b no. absurd cc) bytes there in
              let still = good-still bytes other.0 other.2 path place text e in
              (still.0, by_new still.0 other.0 other.1 still.1, still.2)

  pub read-still : (root : List ℕ) (t : TableView) → is_ok (lines_among [] files root) ≡ true
      → ((lines : List LineView) → lines_among [] files root ≡ Ok lines → AreGood lines × (t ≡ table_of lines)) → IsReadAs others root t
  read-still root t loads reads = by_lines (lines_among [] files root) refl loads
    where
      by_lines : (found : Result (List LineView) Refusal) → lines_among [] files root ≡ found → is_ok found ≡ true → IsReadAs others root t
      by_lines (Err why) is loaded = absurd cc
      by_lines (Ok lines) is loaded =
          let read = reads lines is in
          let new = leads-lines before (answer_at answers) texts root lines is in
          (new.0, (answers, all-given others others, new.1), good-too lines new.0 new.2 read.0, read.1 ∙ sym (same-table lines new.0 new.2))
