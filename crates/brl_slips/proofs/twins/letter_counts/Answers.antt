use Rattle.std.proofs.Common.{rules, ◌≡◌, ◌<◌, ◌+◌, ◌^◌, subst, sym, ◌∙◌, arith, get_or, length, take}
use Rattle.std.specs.List.{Contains}
use Rattle.std.proofs.lemmas.List.{get_or_default}
use Rattle.brl_slips.specs.Pairing.{AreCounted}
use Rattle.brl_slips.specs.declared.twins.Twins.{Twins}
use Rattle.brl_slips.proofs.Counting.{counted-few, counted-push, counted-same, counted-whole}
use Rattle.brl_slips.proofs.Once.{all_taken}
use Rattle.brl_slips.proofs.twins.letter_counts.Goals as goal
use Rattle.brl_slips.proofs.twins.letter_counts.Goals.{in-Some+in_ok-count, in_default}

pub count-requires : goal.count-requires
count-requires c =
    let few = counted-few c.args.lexicon.now c.args.pairs.now c.loop-twins.twins-index c.loop-twins.counts c.in-Some.letters c.loop-twins.invariant in
    let long : length c.args.pairs.now < 2 ^ 63 = search rules in
    omega (arith, few, long, c.loop-twins-test.true)

pub loop-twins-preserved : goal.loop-twins-preserved
loop-twins-preserved c =
    let lexicon = c.args.lexicon.now in
    let pairs = c.args.pairs.now in
    let i = c.loop-twins.twins-index in
    let d : Twins = record { one = 0; other = 0; place = 0; length = 0 } in
    let t = get_or pairs i d in
    let is : get_or pairs i t ≡ t = get_or_default pairs i t d c.loop-twins-test.true in
    elim c.match-letters.branch [
      | in-Some+in_ok-count w ↦
          subst (AreCounted lexicon (Contains (take (i + 1) pairs))) (sym w.counts-is)
          (counted-push lexicon pairs c.requires.once i t c.loop-twins-test.true is c.loop-twins.counts w.count.new.counts w.in-Some.letters c.loop-twins.invariant (sym c.letters.ensures ∙ w.in-Some.is) w.in_ok-count.ensures)
      | in_default w ↦
          subst (AreCounted lexicon (Contains (take (i + 1) pairs))) (sym w.counts-is)
          (counted-same lexicon pairs c.requires.once i t c.loop-twins-test.true is c.loop-twins.counts c.loop-twins.invariant (sym c.letters.ensures ∙ w.in_default.is))
    ]

pub returns : goal.returns
returns c =
    counted-whole c.args.lexicon.now c.args.pairs.now (take c.loop-twins.twins-index c.args.pairs.now) c.loop-twins.counts
    (all_taken c.args.pairs.now c.loop-twins.twins-index (omega (arith, c.loop-twins-test.false))) c.requires c.loop-twins.invariant
