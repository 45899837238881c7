use Rattle.std.proofs.Common.{◌≡◌, ◌++◌, ◌∷◌, [], if◌then◌else◌, subst}
use Rattle.brl_pairs.specs.Members.{IsMember}
use Rattle.brl_closure.specs.declared.check.kinds.Kind.{Kind}
use Rattle.brl_closure.proofs.KeptSteps.{counted_again, counted_once}
use Rattle.brl_closure.proofs.check.kinds.count.Goals as goal

pub returns-then-branch : goal.returns-then-branch
returns-then-branch c =
    counted_once c.args.once.now c.insert.new.self c.args.twice.now c.args.twice.now _ c.in_ok-insert.field-0 c.if-branch.true
    (subst (λ (k : Kind). c.insert.new.self ≡ (if c.in_ok-insert.field-0 then c.args.once.now ++ k ∷ [] else c.args.once.now)) c.of.ensures c.in_ok-insert.ensures.members)

pub returns : goal.returns
returns c =
    counted_again c.args.once.now c.insert.new.self c.args.twice.now c.insert-2.new.self _ c.in_ok-insert.field-0 c.in_ok-added.added c.if-branch.false
    (subst (λ (k : Kind). c.insert.new.self ≡ (if c.in_ok-insert.field-0 then c.args.once.now ++ k ∷ [] else c.args.once.now)) c.of.ensures c.in_ok-insert.ensures.members)
    (subst (IsMember c.args.once.now) c.of.ensures (c.in_ok-insert.ensures.known c.if-branch.false))
    (λ known. subst (IsMember c.args.twice.now) c.of-2.ensures (c.in_ok-added.ensures.known known))
    (subst (λ (k : Kind). c.insert-2.new.self ≡ (if c.in_ok-added.added then c.args.twice.now ++ k ∷ [] else c.args.twice.now)) c.of-2.ensures c.in_ok-added.ensures.members)
