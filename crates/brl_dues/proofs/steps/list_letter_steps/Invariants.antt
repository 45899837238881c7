use Rattle.std.proofs.Common.{◌≡◌, [], ◌∷◌, ◌++◌, drop}
use Rattle.brl_dues.specs.Letters.{steps_found}
use Rattle.brl_dues.proofs.steps.list_letter_steps.Given as goal

-- what is listed and what the rules that are left give is all that there is to be listed
abbrev pub invariant-loop-number : goal.invariant-loop-number
invariant-loop-number l =
    l.listed.items ++ steps_found l.table l.state l.number (drop l.number l.table.rules) (l.letter ∷ [])
    ≡ steps_found l.table l.state 0 l.table.rules (l.fn.letter ∷ [])
