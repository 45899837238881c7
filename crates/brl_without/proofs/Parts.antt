-- The parts of a machine are those of it without some characters.
use Rattle.std.proofs.Common.{ℕ, List, filter, nat_eq, ap, ◌∙◌}
use Rattle.std.specs.List.{flat_map}
use Rattle.std.specs.Option.{IfSome}
use Rattle.std.specs.Prelude.{Option, Some, None, Result, Ok, Err}
use Rattle.std.specs.Result.{IfOk}
use Rattle.brl_pairs.specs.Parted.{ArePartsOf, of_rule}
use Rattle.brl_pairs.specs.declared.step.Step.{Step}
use Rattle.brl_pairs.proofs.Filtered.{filter-either, filter-flat_map}
use Rattle.brl_without.specs.LeftOut.{uses_none}
use Rattle.brl_without.specs.Without.{steps_without}

pub parts_without : {S P : Type 0} (left_out : List ℕ) (steps_of : P → List (Step S)) (listed : List (Step S)) (parts : List P)
    → ArePartsOf steps_of listed parts → ArePartsOf (λ part. steps_without left_out (steps_of part)) (steps_without left_out listed) parts
parts_without {S = S} left_out steps_of listed parts are number =
    let unused = λ (x : Step S). uses_none left_out x.reads in
    let has_number = λ (x : Step S). nat_eq number x.rule in
    filter-either has_number unused listed
    ∙ ap (filter unused) (are number)
    ∙ filter-either unused has_number (flat_map steps_of parts)
    ∙ ap (of_rule number) (filter-flat_map unused steps_of parts)

-- the same of parts that may be found
pub found_without : {S P L E : Type 0} (left_out : List ℕ) (steps_of : P → List (Step S)) (listed : List (Step S)) (r : Result (Option L) E) (items : L → List P)
    → IfOk r (λ found. IfSome found (λ parts. ArePartsOf steps_of listed (items parts)))
    → IfOk r (λ found. IfSome found (λ parts. ArePartsOf (λ part. steps_without left_out (steps_of part)) (steps_without left_out listed) (items parts)))
found_without left_out steps_of listed (Ok (Some parts)) items are = parts_without left_out steps_of listed (items parts) are
found_without left_out steps_of listed (Ok None) items are = are
found_without left_out steps_of listed (Err e) items are = are
