use Rattle.std.proofs.Common.{◌+◌, ◌≤◌, ap, arith, length}
use Rattle.brl_search.proofs.Smallest.{minimal-from_none}
use Rattle.brl_search.proofs.small.ClashFilter.without_one.Goals as goal

pub returns-clause-none : goal.returns-clause-none
returns-clause-none c =
    let texts = c.args.texts.now in
    let count = c.in_ok-keys_of.ensures.count in
    let size = ap length c.as_slice.ensures.value in
    let all : length texts.left.items + 1 ≤ c.loop-place.place = omega (arith, count, size) in
    minimal-from_none c.args.self.now.table.now c.args.self.now.rules texts (λ i j within other. c.loop-place.invariant i (omega (arith, within, all)) j other)
