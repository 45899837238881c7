-- The sets of states and of pairs that a body lists. The project's own choice.
use Rattle.std.specs.Prelude.{ℕ, List, Option, Some, slice_get, option_and_then}
use Rattle.brl_pairs.specs.Body.{BodyView, NumberPair}
use Rattle.brl_pairs.specs.Pairs.{Sets, numbered}
use Rattle.brl_pairs.specs.declared.step.Pair.{Pair}

module _ {S : Type 0} where
  -- the pair of runs whose states have these numbers
  abbrev pub pair_of : List S → NumberPair → Option (Pair S)
  pair_of states pair = option_and_then (λ ahead. option_and_then (λ behind. Some (record { ahead = ahead; behind = behind; lead = pair.lead }))
      (slice_get states pair.behind)) (slice_get states pair.ahead)

  -- the pair with this number
  abbrev pub pair_at : BodyView S → ℕ → Option (Pair S)
  pair_at body number = option_and_then (pair_of body.states) (slice_get body.pairs number)

  -- the states that have numbers, and the pairs that have
  abbrev pub sets_of : BodyView S → Sets S
  sets_of body = numbered (slice_get body.states) (pair_at body)
