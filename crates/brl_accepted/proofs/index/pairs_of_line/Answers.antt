use Rattle.std.proofs.Common.{◌≡◌, ◌∙◌, ◌++◌, All, ℕ, List, [], ap, flat_map, map, sym}
use Rattle.brl_accepted.specs.Pairs.{pairs_of_line}
use Rattle.brl_accepted.proofs.PairLemmas.{no_pairs, pairs_are}
use Rattle.brl_accepted.proofs.index.pairs_of_line.Goals as goal
use Rattle.brl_accepted.proofs.index.pairs_of_line.Goals.{in-Some+in_ok-push_pairs, in_default}

abbrev pairs_from : List ℕ → List ℕ → List (ℕ × ℕ)
pairs_from others ones = flat_map (λ r. map (λ s. (r, s)) others) ones

pub returns : goal.returns
returns c words numbers three index =
    let row = c.args.row.now in
    elim c.match-parts.branch [
      | in-Some+in_ok-push_pairs w ↦
          let one = w.in-Some.one.now in
          let other = w.in-Some.other.now in
          let are = pairs_are words numbers row three one other w.in-Some.ensures in
          ap (λ v. v.items) w.pairs-is ∙ w.in_ok-push_pairs.ensures ∙ ap (λ (front : List (ℕ × ℕ)). front ++ pairs_from w.numbers_at-in-Some.result.now w.numbers_at.result.now) c.new-pairs.ensures.items
          ∙ (λ i. pairs_from ((w.numbers_at-in-Some.ensures ∙ index other) i) ((w.numbers_at.ensures ∙ index one) i)) ∙ sym are
      | in_default w ↦ ap (λ v. v.items) w.pairs-is ∙ c.new-pairs.ensures.items ∙ sym (no_pairs words numbers row three w.in_default.ensures)
    ]
