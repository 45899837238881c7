-- What is at other paths where a file in memory is written, and what a file in memory gives.
use Rattle.std.proofs.Common.{◌≡◌, ◌∙◌, ℕ, List, Bool, true, false, cond, length, nat_le, None, Option, Some, Result, Ok, Err, IfErr, OnErr, String, ap, refl, sym}
use Rattle.std.specs.Prelude.{◌≢◌, MatchBool, is_some, string_bytes}
use Rattle.std.proofs.lemmas.Bool.{false≢true}
use Rattle.std.proofs.lemmas.Map.Text.{btree_map_updates_text}
use Rattle.std.proofs.lemmas.Slice.Eq.{bytes_eq-Decides}
use Rattle.std.specs.BTreeMap.{BTreeMap, UpdatesBy, get_by_text}
use Rattle.std.specs.Cmp.Lexicographic.{slice_cmp}
use Rattle.std.specs.Ordering.{nat_cmp}
use Rattle.std.specs.Str.{bytes_eq}
use Rattle.std.specs.String.{string_cmp}
use Rattle.brl_answers.specs.Files.{AllAre, GivesAlso, MayBeAbsent, MayBeThere, StaysWhereThere}
use Rattle.brl_answers.specs.declared.files.CreateFault.{CreateFault}
use Rattle.brl_answers.specs.declared.files.CreateFault.TheVariants.{AlreadyThere, Failed}
use Rattle.brl_failure.specs.declared.failure.Failure.{Failure}
use Rattle.brl_failure.specs.declared.failure.Failure.TheVariants.{Fault, Memory}
use Rattle.brl_lines.specs.Answer.{FileAnswer, Holds, Large, Missing, Unreadable, answer_of, most_file_bytes, same_answer}
use Rattle.brl_lines.specs.InMemory.{bytes_in, folders_of, given_in}
use Rattle.brl_lines.specs.declared.map_source.MapSource.{MapSource}

-- a map that changes at one text finds at each other one what it found
pub other_texts : {Y X : Type 0} (old new : BTreeMap (String Y) X) (w : Option X) (bs : List ℕ) → UpdatesBy string_cmp (λ k. slice_cmp nat_cmp bs (string_bytes k)) old new w
    → (cs : List ℕ) → cs ≢ bs → get_by_text new cs ≡ get_by_text old cs
other_texts {Y} {X} old new w bs updates cs differ = btree_map_updates_text bs old new w updates cs ∙ apart (bytes_eq bs cs) refl
  where
    apart : (b : Bool) → bytes_eq bs cs ≡ b → cond b w (get_by_text old cs) ≡ get_by_text old cs
    apart true same = absurd (differ (sym ((bytes_eq-Decides bs cs).0 same)))
    apart false same = refl

-- ---- What a file in memory gives

same_as_itself : (answer : FileAnswer) → same_answer answer answer ≡ true
same_as_itself (Holds bytes) = (bytes_eq-Decides bytes bytes).1 refl
same_as_itself Missing = refl
same_as_itself Large = refl
same_as_itself Unreadable = refl

-- the answer with its bytes
pub gives_held : (source : MapSource) (path bytes : List ℕ) → bytes_in source path ≡ Some bytes → GivesAlso (given_in source) path bytes
gives_held source path bytes is = ap (λ (found : Option (List ℕ)). same_answer (answer_of (Some bytes)) (answer_of found)) is ∙ same_as_itself (answer_of (Some bytes))

not_missing : (bytes : List ℕ) → answer_of (Some bytes) ≢ Missing
not_missing bytes = by_test (nat_le (length bytes) most_file_bytes)
  where
    by_test : (b : Bool) → cond b (Holds bytes) Large ≢ Missing
    by_test true e = absurd cc
    by_test false e = absurd cc

-- which isn't that there is no file
pub is_held : (source : MapSource) (path : List ℕ) → is_some (bytes_in source path) ≡ true → MayBeThere (given_in source) path
is_held source path some = by_file (bytes_in source path) refl some
  where
    by_file : (found : Option (List ℕ)) → bytes_in source path ≡ found → is_some found ≡ true → MayBeThere (given_in source) path
    by_file None is none = absurd (false≢true none)
    by_file (Some bytes) is held = (answer_of (Some bytes), not_missing bytes, gives_held source path bytes is)

-- whether a file is there
pub told_there : (source : MapSource) (path : List ℕ) (there : Bool) → there ≡ is_some (bytes_in source path) → MatchBool there (MayBeThere (given_in source) path) (MayBeAbsent (given_in source) path)
told_there source path true is = is_held source path (sym is)
told_there source path false is = by_file (bytes_in source path) (sym is)
  where
    by_file : (found : Option (List ℕ)) → is_some found ≡ false → same_answer Missing (answer_of found) ≡ true
    by_file None none = refl
    by_file (Some bytes) held = absurd (false≢true (sym held))

-- no file changes where one can't be made since one is there
pub stays_where_held : (old new : MapSource) (path : List ℕ) (result : Result (Unit {0}) (Failure CreateFault)) → (bytes_in old path ≡ None → IfErr result (λ failure. failure ≡ Memory))
    → folders_of new.folders ≡ folders_of old.folders → OnErr result (AllAre old new) → IfErr result (StaysWhereThere (given_in old) (given_in new) path)
stays_where_held old new path (Ok done) absent folders all = tt
stays_where_held old new path (Err (Fault AlreadyThere)) absent folders all =
    (is_held old path (by_file (bytes_in old path) absent), λ j. record { folders = folders j; may = λ p answer. same_answer answer (answer_of (all p j)) })
  where
    by_file : (found : Option (List ℕ)) → (found ≡ None → Fault AlreadyThere ≡ Memory) → is_some found ≡ true
    by_file None never = let e = never refl in absurd cc
    by_file (Some bytes) never = refl
stays_where_held old new path (Err (Fault Failed)) absent folders all = tt
stays_where_held old new path (Err Memory) absent folders all = tt
