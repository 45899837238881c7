use Rattle.std.proofs.Common.{◌∙◌, ap, ◌+◌, ◌*◌, ◌%◌, ◌^◌}
use Rattle.brl_pairs.specs.Seed.{after_number, folded}
use Rattle.brl_pairs.proofs.seed.SeededHasher.add.Goals as goal

pub returns : goal.returns
unfolding after_number
returns c =
    let state = c.fold-self.ensures.value ∙ ap (λ n. folded (n * (c.args.self.now.point % 2 ^ 61) + c.args.number)) c.fold.ensures.value in
    λ i. record { state = state i; point = c.args.self.now.point }
