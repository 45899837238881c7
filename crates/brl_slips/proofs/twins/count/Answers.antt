use Rattle.std.proofs.Common.{◌+◌, ap, sym, ◌∙◌, if◌then◌else◌}
use Rattle.std.specs.Option.{unwrap_or}
use Rattle.brl_slips.specs.Pairing.{are_letters, count_of}
use Rattle.brl_slips.proofs.Counting.{count-insert}
use Rattle.brl_slips.proofs.twins.count.Goals as goal

pub returns : goal.returns
returns c other =
    let pair = c.args.letters in
    let m = c.get_mut.follows.lender-at-none in
    let none = ap (λ found. unwrap_or found 0) c.in_default.ensures.value in
    count-insert m c.insert.new.self pair 1 c.in_ok-insert.ensures.updates
    (ap (λ n. n + 1) (none ∙ ap (λ o. count_of o pair) (sym c.get_mut.follows.holds-at-none))) other
    ∙ ap (λ o. count_of o other + (if are_letters pair other then 1 else 0)) c.get_mut.follows.holds-at-none
