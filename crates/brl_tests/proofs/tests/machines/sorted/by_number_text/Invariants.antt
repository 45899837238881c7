use Rattle.std.specs.Prelude.{◌≡◌, ◌<◌, All, length}
use Rattle.brl_tests.proofs.tests.machines.sorted.by_number_text.Given as goal

-- each word so far has given an edge and a number below 10
abbrev pub invariant-loop-word : goal.invariant-loop-word
invariant-loop-word l =
    (goal.iterator-loop-word).can_next l.word-iterator ×
    (goal.iterator-loop-word).is_finite l.word-iterator ×
    (length l.numbers.items ≡ length l.edges.items) ×
    All (λ number. number < 10) l.numbers.items
