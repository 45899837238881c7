use Rattle.std.proofs.Common.{◌≡◌, All, List, ℕ, Vec, subst, take_all, true}
use Rattle.std.specs.Global.{Global}
use Rattle.std.specs.Str.{all_scalars}
use Rattle.std.proofs.lemmas.List.Elements.{All-more}
use Rattle.brl_accepted.proofs.laws.sets_law.Goals as goal

abbrev AreScalars : Vec ℕ Global → Type 0
AreScalars set = all_scalars set.items ≡ true

pub loop-set-preserved : goal.loop-set-preserved
loop-set-preserved c =
    All-more AreScalars c.args.sets.now c.loop-set.set-index c.set-item.result c.loop-set-test.true c.loop-set.invariant
    (subst AreScalars c.set-item.is (subst (λ (cs : List ℕ). all_scalars cs ≡ true) c.as_slice.ensures.value c.characters_law.ensures))

pub returns : goal.returns
returns c = subst (All AreScalars) (take_all c.loop-set.set-index c.args.sets.now c.loop-set-test.false) c.loop-set.invariant
