use Rattle.std.proofs.Common.{◌∙◌, Bool, List, ℕ, ap, arith}
use Rattle.std.proofs.lemmas.List.{take_all}
use Rattle.brl_acting.specs.Classes.{is_name_of}
use Rattle.brl_acting.specs.Sets.{pair_views}
use Rattle.brl_acting.proofs.Mapped.{names_more}
use Rattle.brl_acting.proofs.classes.names_of.Goals as goal

pub loop-pair-preserved : goal.loop-pair-preserved
loop-pair-preserved c = λ word.
    let added = ap {B = Bool} (λ (names : List ℕ → Bool). names word) c.in_ok-add.ensures in
    names_more c.args.pairs.now c.loop-pair.pair-index word _ _ _ c.loop-pair-test.true (c.loop-pair.invariant word) added

pub returns : goal.returns
returns c = λ j word.
    let pairs = c.args.pairs.now in
    let all = take_all c.loop-pair.pair-index pairs (omega (arith, c.loop-pair-test.false)) in
    (c.loop-pair.invariant word ∙ ap (λ ps. is_name_of (pair_views ps) word) all) j
