use Rattle.std.proofs.Common.{Some, [], ◌∷◌, true, ap, subst, sym, ◌∙◌}
use Rattle.brl_dues.specs.Adding.{Adds}
use Rattle.brl_dues.specs.Carry.{need}
use Rattle.brl_dues.proofs.Gathering.{bars-broken, none-broken, found-proper}
use Rattle.brl_dues.proofs.step.next_dues.Goals as goal

pub returns-then-not-branch : goal.returns-then-not-branch
returns-then-not-branch c =
    sym (bars-broken c.args.origin.now.table.now c.args.origin.now.state.now.before c.args.origin.now.letter.now c.args.taken.run c.args.next c.args.taken.others.now c.args.taken.after c.args.left.items
    c.add_need.new.found.items (subst (λ l. Adds (need c.args.taken.after ∷ []) l c.add_need.new.found.items true) c.in_ok-make_room.ensures c.in_ok-add_need.ensures) c.add_need-2.new.found.items c.in_ok-add_need-2.ensures _ c.character.ensures _ c.above-above.ensures
    c.add_bars.new.found.items c.in_ok-add_bars.field-0 c.in_ok-add_bars.ensures c.if-not-branch.true)

pub in_order-requires : goal.in_order-requires
in_order-requires c =
    found-proper c.args.origin.now.table.now c.args.origin.now.state.now.before c.args.origin.now.letter.now c.args.taken.run c.args.next c.args.taken.others.now c.args.taken.after c.args.left.items
    c.add_need.new.found.items (subst (λ l. Adds (need c.args.taken.after ∷ []) l c.add_need.new.found.items true) c.in_ok-make_room.ensures c.in_ok-add_need.ensures) c.add_need-2.new.found.items c.in_ok-add_need-2.ensures _ c.character.ensures _ c.above-above.ensures
    c.add_bars.new.found.items c.in_ok-add_bars.field-0 c.in_ok-add_bars.ensures c.if-not-branch.false c.requires

pub returns : goal.returns
returns c =
    ap Some c.in_order.ensures
    ∙ sym (none-broken c.args.origin.now.table.now c.args.origin.now.state.now.before c.args.origin.now.letter.now c.args.taken.run c.args.next c.args.taken.others.now c.args.taken.after c.args.left.items
    c.add_need.new.found.items (subst (λ l. Adds (need c.args.taken.after ∷ []) l c.add_need.new.found.items true) c.in_ok-make_room.ensures c.in_ok-add_need.ensures) c.add_need-2.new.found.items c.in_ok-add_need-2.ensures _ c.character.ensures _ c.above-above.ensures
    c.add_bars.new.found.items c.in_ok-add_bars.field-0 c.in_ok-add_bars.ensures c.if-not-branch.false)
