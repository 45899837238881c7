use Rattle.std.proofs.Common.{◌≡◌, ◌++◌, ◌∷◌, [], ◌-◌, take, true}
use Rattle.std.specs.List.{flat_map}
use Rattle.std.specs.Map.{keys_of}
use Rattle.brl_window.specs.Windows.{windows_on, steps_at}
use Rattle.brl_window.proofs.steps.+push_steps.Given as goal

abbrev pub decreases-push_steps : goal.decreases-push_steps
decreases-push_steps l = l.more

-- what was known is known again, and the windows of the first letters have given their steps
abbrev pub invariant-loop-number : goal.invariant-loop-number
invariant-loop-number l = (l.known.items ≡ l.fn.known.items)
    × (l.found.items ≡ l.fn.found.items ++ (steps_at l.table l.here (record { known = l.fn.known.items; ended = true })
    ++ flat_map (steps_at l.table l.here) (flat_map (λ c. windows_on (keys_of l.table.characters) (l.more - 1) (l.fn.known.items ++ c ∷ [])) (take l.number (keys_of l.table.characters)))))
