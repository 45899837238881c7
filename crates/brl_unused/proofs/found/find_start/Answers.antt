use Rattle.std.proofs.Common.{◌∙◌, Some, ap, refl}
use Rattle.brl_unused.proofs.Exploring.{found_first, one_first}
use Rattle.brl_unused.proofs.found.find_start.Goals as goal

pub returns-clause-found : goal.returns-clause-found
returns-clause-found g c =
    found_first (g.M.Machine.behaviour c.args.machine.now) (g.M.Based.sharing c.args.machine.now) c.args.found.now
    (record { contexts = record { named = c.number_of.new.self; bases = c.args.found.now.contexts.bases; forms = c.args.found.now.contexts.forms }; order = c.add.new.order; marks = c.add.new.marks; expanded = c.args.found.now.expanded })
    c.in_ok-start.start c.requires refl refl c.in_ok-start.ensures.carried c.in_ok-start.ensures.owing refl (c.in_ok-start.ensures.number ∙ ap Some c.start.ensures.start) c.in_ok-add.ensures.adds c.in_ok-add.ensures.there c.in_ok-add.ensures.marked

pub returns-clause-one : goal.returns-clause-one
returns-clause-one g c = one_first c.args.found.now.order.items c.in_ok-start.start c.add.new.order.items c.requires.order c.in_ok-add.ensures.adds c.in_ok-add.ensures.there
