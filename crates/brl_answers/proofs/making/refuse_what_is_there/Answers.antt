use Rattle.std.proofs.Common.{arith, sym, subst, take, ◌∙◌}
use Rattle.brl_answers.specs.Making.{AreNew, IsFree, IsTaken}
use Rattle.brl_answers.proofs.MakingLemmas.{all_of, more_new, path_at}
use Rattle.brl_answers.proofs.making.refuse_what_is_there.Goals as goal

pub loop-place-init : goal.loop-place-init
loop-place-init g c = ((λ i j d l m same. absurd (omega arith)), (λ k d l. absurd (omega arith)))

pub loop-place-preserved : goal.loop-place-preserved
loop-place-preserved g c =
    let gives = g.F.Source.gives c.args.files.now in
    let first = take c.loop-place.place c.args.new.now in
    more_new c.args.new.now c.loop-place.place c.index-new-place.result c.loop-place-test.true c.index-new-place.is gives c.loop-place.invariant
    (subst (IsFree gives first) c.as_str.ensures.value c.if-is_taken.ensures)

pub returns-then-is_taken-clause-refused : goal.returns-then-is_taken-clause-refused
returns-then-is_taken-clause-refused g c =
    let gives = g.F.Source.gives c.args.files.now in
    let first = take c.loop-place.place c.args.new.now in (
      c.loop-place.place,
      path_at c.args.new.now c.loop-place.place c.index-new-place.result c.loop-place-test.true c.index-new-place.is _ (sym c.in_ok-clone.ensures.cases),
      c.loop-place.invariant,
      subst (IsTaken gives first) (c.as_str.ensures.value ∙ sym c.in_ok-clone.ensures.cases) c.if-is_taken.ensures,
    )

pub returns-clause-new : goal.returns-clause-new
returns-clause-new g c = all_of (AreNew (g.F.Source.gives c.args.files.now)) c.args.new.now c.loop-place.place c.loop-place-test.false c.loop-place.invariant
