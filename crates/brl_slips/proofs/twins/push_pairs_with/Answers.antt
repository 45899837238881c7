use Rattle.std.proofs.Common.{◌≡◌, ◌+◌, ap, subst, sym, ◌∙◌, arith, get_or, take}
use Rattle.std.proofs.lemmas.List.{get_or_default}
use Rattle.brl_slips.specs.Pairing.{AreAll, AreFound, IsPairWith}
use Rattle.brl_slips.proofs.Once.{all_taken}
use Rattle.brl_slips.proofs.Pairing.{pairs-end, pairs-none, pairs-push, pairs-start}
use Rattle.brl_slips.proofs.twins.push_pairs_with.Goals as goal
use Rattle.brl_slips.proofs.twins.push_pairs_with.Goals.{in-Some+in_ok-push, in_default}

pub loop-one-init : goal.loop-one-init
loop-one-init c = pairs-start c.args.lexicon.now c.args.other c.args.pairs.now.items c.requires.pairs

pub loop-one-preserved : goal.loop-one-preserved
loop-one-preserved c =
    let lexicon = c.args.lexicon.now in
    let other = c.args.other in
    let members = c.args.members.now in
    let i = c.loop-one.one-index in
    let one = get_or members i 0 in
    let pairs = c.loop-one.pairs.items in
    let is : get_or members i one ≡ one = get_or_default members i one 0 c.loop-one-test.true in
    elim c.match-twins_of.branch [
      | in-Some+in_ok-push w ↦
          let found = subst (AreFound lexicon one other) w.in-Some.is c.twins_of.ensures in
          subst (AreAll (IsPairWith lexicon other (take (i + 1) members))) (sym (ap (λ v. v.items) w.pairs-is ∙ w.in_ok-push.ensures.items))
          (pairs-push lexicon other members c.requires.members i one c.loop-one-test.true is pairs c.loop-one.invariant w.in-Some.twins found.0 found.1 found.2)
      | in_default w ↦
          subst (AreAll (IsPairWith lexicon other (take (i + 1) members))) (sym (ap (λ v. v.items) w.pairs-is))
          (pairs-none lexicon other members c.requires.members i one c.loop-one-test.true is pairs c.loop-one.invariant (subst (AreFound lexicon one other) w.in_default.is c.twins_of.ensures))
    ]

pub returns : goal.returns
returns c =
    let lexicon = c.args.lexicon.now in
    let members = c.args.members.now in
    pairs-end lexicon c.args.other members c.requires.members c.loop-one.pairs.items
    (subst (λ l. AreAll (IsPairWith lexicon c.args.other l) c.loop-one.pairs.items) (all_taken members c.loop-one.one-index (omega (arith, c.loop-one-test.false))) c.loop-one.invariant)
