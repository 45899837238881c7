use Rattle.std.proofs.Common.{ℕ, List, arith, refl, subst}
use Rattle.brl_answers.specs.Files.{GivesAlso, OthersStay, path_of}
use Rattle.brl_answers.specs.Making.{AreWritten}
use Rattle.brl_answers.proofs.MakingLemmas.{all_of, more_written, stops_here}
use Rattle.brl_answers.proofs.making.make_files.Goals as goal

pub loop-place-init : goal.loop-place-init
loop-place-init g c = ((λ k d l. absurd (omega arith)), (refl, λ p a none. refl))

pub loop-place-preserved : goal.loop-place-preserved
loop-place-preserved g c =
    let gives = g.F.Source.gives in
    let file = c.index-new-place.result in
    let old = gives c.loop-place.files in
    let new = gives c.create.new.self in
    more_written c.args.new.now c.loop-place.place file c.loop-place-test.true c.index-new-place.is c.requires (gives c.args.files.now) old new c.loop-place.invariant
    (subst (OthersStay old new) c.as_str.ensures.value c.in-Ok.ensures.others)
    (subst (λ (bytes : List ℕ). GivesAlso new (path_of file) bytes) c.as_slice.ensures.value (subst (λ (path : List ℕ). GivesAlso new path c.as_slice.result.now) c.as_str.ensures.value c.in-Ok.ensures.made))

pub returns-clause-made : goal.returns-clause-made
returns-clause-made g c =
    all_of (λ files. AreWritten files (g.F.Source.gives c.args.files.now) (g.F.Source.gives c.loop-place.files)) c.args.new.now c.loop-place.place c.loop-place-test.false c.loop-place.invariant

pub returns-in-Err-Fault-clause-stopped : goal.returns-in-Err-Fault-clause-stopped
returns-in-Err-Fault-clause-stopped g c =
    let gives = g.F.Source.gives in
    let old = gives c.loop-place.files in
    let new = gives c.create.new.self in (
      c.loop-place-test.true,
      stops_here c.args.new.now c.loop-place.place c.index-new-place.result c.loop-place-test.true c.index-new-place.is c.requires (gives c.args.files.now) old new c.loop-place.invariant
          (subst (OthersStay old new) c.as_str.ensures.value c.create.ensures.others),
    )

pub returns-in-Err-Memory-clause-stopped : goal.returns-in-Err-Memory-clause-stopped
returns-in-Err-Memory-clause-stopped g c =
    let gives = g.F.Source.gives in
    let old = gives c.loop-place.files in
    let new = gives c.create.new.self in (
      c.loop-place.place,
      stops_here c.args.new.now c.loop-place.place c.index-new-place.result c.loop-place-test.true c.index-new-place.is c.requires (gives c.args.files.now) old new c.loop-place.invariant
          (subst (OthersStay old new) c.as_str.ensures.value c.create.ensures.others),
    )
