-- The number of an entry that a look-up finds is small.
use Rattle.std.proofs.Common.{ℕ, ◌≡◌, ◌<◌, ◌≤◌, List, length, nat_eq, Option, Some, None, arith, sym}
use Rattle.std.specs.Prelude.{IfSome, option_copied, slice_get}
use Rattle.std.specs.Borrow.{Bor}
use Rattle.std.specs.Map.{lookup}
use Rattle.std.proofs.lemmas.Map.Entries.{place_from_lookup}
use Rattle.std.proofs.lemmas.Option.{slice_get_within}
use Rattle.brl_rules.specs.declared.rule.Info.{Info}

-- an entry's number is its place, and so less than the number of entries
pub number_small : (entries : List (ℕ × Info)) → ((place : ℕ) (entry : ℕ × Info) → slice_get entries place ≡ Some entry → entry.1.number ≡ place) → length entries ≤ 1024
    → (c : ℕ) (found : Option Info) → lookup (nat_eq c) entries ≡ found → IfSome found (λ info. info.number < 1024)
number_small entries numbered few c None e = tt
number_small entries numbered few c (Some info) e =
    let place = place_from_lookup (nat_eq c) entries info e in
    let within : place.0 < length entries = slice_get_within entries place.0 (place.1, info) place.2 in
    let number : info.number ≡ place.0 = numbered place.0 (place.1, info) place.2 in
    omega arith

pub found_number-small : (entries : List (ℕ × Info)) → ((place : ℕ) (entry : ℕ × Info) → slice_get entries place ≡ Some entry → entry.1.number ≡ place) → length entries ≤ 1024
    → (c : ℕ) (found : Option (Bor Info)) → option_copied found ≡ lookup (nat_eq c) entries → IfSome found (λ info. info.now.number < 1024)
found_number-small entries numbered few c None e = tt
found_number-small entries numbered few c (Some info) e = number_small entries numbered few c (Some info.now) (sym e)
