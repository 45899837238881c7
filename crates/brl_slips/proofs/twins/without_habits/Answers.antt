use Rattle.std.proofs.Common.{◌≡◌, ◌+◌, ap, subst, sym, ◌∙◌, arith, get_or, take, true≢false}
use Rattle.std.specs.List.{Contains}
use Rattle.std.proofs.lemmas.List.{get_or_default}
use Rattle.brl_slips.specs.Pairing.{AreAll}
use Rattle.brl_slips.specs.Twins.{AreRare, letters}
use Rattle.brl_slips.specs.declared.twins.Twins.{Twins}
use Rattle.brl_slips.proofs.Counting.{kept-push, kept-same, kept-whole}
use Rattle.brl_slips.proofs.Once.{all_taken}
use Rattle.brl_slips.proofs.twins.without_habits.Goals as goal
use Rattle.brl_slips.proofs.twins.without_habits.Goals.{then-are_rare+in_ok-push, else-are_rare}

pub loop-twins-preserved : goal.loop-twins-preserved
loop-twins-preserved c =
    let lexicon = c.args.lexicon.now in
    let pairs = c.args.pairs.now in
    let i = c.loop-twins.twins-index in
    let d : Twins = record { one = 0; other = 0; place = 0; length = 0 } in
    let t = get_or pairs i d in
    let is : get_or pairs i t ≡ t = get_or_default pairs i t d c.loop-twins-test.true in
    let kept = c.loop-twins.kept.items in
    elim c.if-are_rare.branch [
      | then-are_rare+in_ok-push w ↦
          subst (AreAll (λ twins. Contains (take (i + 1) pairs) twins × AreRare lexicon (letters lexicon twins))) (sym (ap (λ v. v.items) w.kept-is ∙ w.in_ok-push.ensures.items))
          (kept-push lexicon pairs c.requires.once i t c.loop-twins-test.true is kept (c.are_rare.ensures.0 w.if-are_rare.true) c.loop-twins.invariant)
      | else-are_rare w ↦
          subst (AreAll (λ twins. Contains (take (i + 1) pairs) twins × AreRare lexicon (letters lexicon twins))) (sym (ap (λ v. v.items) w.kept-is))
          (kept-same lexicon pairs c.requires.once i t c.loop-twins-test.true is kept (λ rare. true≢false (sym (c.are_rare.ensures.1 rare) ∙ w.if-are_rare.false)) c.loop-twins.invariant)
    ]

pub returns : goal.returns
returns c =
    kept-whole c.args.lexicon.now c.args.pairs.now (take c.loop-twins.twins-index c.args.pairs.now) c.loop-twins.kept.items
    (all_taken c.args.pairs.now c.loop-twins.twins-index (omega (arith, c.loop-twins-test.false))) c.requires c.loop-twins.invariant
