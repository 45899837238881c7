-- The outcomes of checking a file's text.
use Rattle.std.proofs.Common.{◌≡◌, ℕ, ◌<◌, ◌≤◌, Bool, true, false, nat_lt, List, length, refl, ap, ◌∙◌, arith, IsUtf8, Option, Some, None, Result, Ok, Err}
use Rattle.std.proofs.lemmas.Bool.Decides.{nat_tests}
use Rattle.std.proofs.lemmas.Str.{IsUtf8-from_is_utf8, is_utf8-from_IsUtf8}
use Rattle.std.specs.Str.{is_utf8}
use Rattle.brl_failure.specs.Failure.{IfFault}
use Rattle.brl_lines.specs.Answer.{most_file_bytes}
use Rattle.brl_lines.specs.Rows.{without_mark}
use Rattle.brl_lines.specs.Lines.{Refusal, LocationView, refusal, long_row, text_in, unless_long}
use Rattle.brl_lines.specs.Views.{load_fault_view}
use Rattle.brl_lines.specs.declared.fault.LoadFault.{LoadFault}
use Rattle.brl_failure.specs.declared.failure.Failure.{Failure}
use Rattle.brl_failure.specs.declared.failure.Failure.TheVariants.{Fault, Memory}
use Rattle.brl_lines.specs.declared.fault.LoadFaultKind.TheVariants as kinds

-- a step has the fault of the definition
pub same-fault : {U : Type 0} (want : Result U Refusal) (e : Refusal) (failure : Failure LoadFault) → want ≡ Err e → IfFault (λ fault. e ≡ load_fault_view fault) failure
    → IfFault (λ fault. want ≡ Err (load_fault_view fault)) failure
same-fault want e Memory h k = tt
same-fault want e (Fault fault) h k = h ∙ ap Err k

module _ (path : List ℕ) (place : Option LocationView) (bytes : List ℕ) where
  pub text_in-large : most_file_bytes < length bytes → text_in path place bytes ≡ Err (refusal kinds.TooLarge path place)
  unfolding text_in
  text_in-large h =
      let large : nat_lt most_file_bytes (length bytes) ≡ true = grind (arith, nat_tests) in
      rw large refl

  pub text_in-not_utf8 : length bytes ≤ most_file_bytes → ¬ (IsUtf8 bytes) → text_in path place bytes ≡ Err (refusal kinds.NotUtf8 path place)
  unfolding text_in
  text_in-not_utf8 h wrong =
      let small : nat_lt most_file_bytes (length bytes) ≡ false = grind (arith, nat_tests) in
      let bad : is_utf8 bytes ≡ false = by_test (is_utf8 bytes) refl in
      rw (small, bad) refl
    where
      by_test : (b : Bool) → is_utf8 bytes ≡ b → b ≡ false
      by_test true e = absurd (wrong (IsUtf8-from_is_utf8 bytes e))
      by_test false e = refl

  -- the rows of a text decide
  pub text_in-rows : length bytes ≤ most_file_bytes → IsUtf8 bytes → text_in path place bytes ≡ unless_long path (without_mark bytes) (long_row (without_mark bytes))
  unfolding text_in
  text_in-rows h good =
      let small : nat_lt most_file_bytes (length bytes) ≡ false = grind (arith, nat_tests) in
      rw (small, is_utf8-from_IsUtf8 bytes good) refl

  -- a text that is good
  pub text_in-good : (text : List ℕ) → length bytes ≤ most_file_bytes → IsUtf8 bytes → text ≡ without_mark bytes → long_row text ≡ None → text_in path place bytes ≡ Ok text
  text_in-good text h good e none = text_in-rows h good ∙ rw (← e, none) refl

  -- a text with a row that is too long
  pub text_in-long : (text : List ℕ) (number : ℕ) → length bytes ≤ most_file_bytes → IsUtf8 bytes → text ≡ without_mark bytes → long_row text ≡ Some number
      → text_in path place bytes ≡ Err (refusal kinds.LineTooLong path (Some (record { file = path; line = number })))
  text_in-long text number h good e long = text_in-rows h good ∙ rw (← e, long) refl
