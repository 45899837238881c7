-- The parts of a state's steps: lists of steps that several states share. The project's own choice.
use Rattle.std.specs.Prelude.{◌≡◌, ℕ, ◌==◌, List, filter, flat_map}
use Rattle.brl_pairs.specs.declared.step.Step.{Step}

-- the steps of the rule with this number
abbrev pub of_rule : {S : Type 0} → ℕ → List (Step S) → List (Step S)
of_rule number listed = filter (λ x. number == x.rule) listed

-- a state's steps are those of these parts: of each rule the same ones, in the same order
abbrev pub ArePartsOf : {S P : Type 0} → (P → List (Step S)) → List (Step S) → List P → Type 0
ArePartsOf steps_of listed parts = (number : ℕ) → of_rule number listed ≡ of_rule number (flat_map steps_of parts)
