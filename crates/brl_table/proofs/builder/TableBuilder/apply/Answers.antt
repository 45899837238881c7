use Rattle.std.proofs.Common.{◌∙◌, ap, sym, arith}
use Rattle.brl_table.specs.Faults.{repeats_indicator}
use Rattle.brl_table.specs.Reading.{definitions}
use Rattle.brl_rules.specs.Signs.{with_cells}
use Rattle.brl_table.proofs.ItemSteps.{represents-indicates, no_cells-yet}
use Rattle.brl_table.proofs.DefinitionSteps.{one-more}
use Rattle.brl_table.proofs.builder.TableBuilder.apply.Goals as goal

pub define-requires-in-DefinesBoth-2 : goal.define-requires-in-DefinesBoth-2
define-requires-in-DefinesBoth-2 c =
    let old = c.requires.represents.defined in
    let items = definitions c.args.self.now.items.items in
    let new = c.in_ok-define-in-DefinesBoth.ensures items old in
    omega (arith, one-more items c.in-DefinesBoth.upper c.args.self.now.characters c.define-in-DefinesBoth.new.self old new, c.requires.within.few_characters)

pub returns-in_ok-copy-in-Indicates-clause-represents : goal.returns-in_ok-copy-in-Indicates-clause-represents
returns-in_ok-copy-in-Indicates-clause-represents c =
    let items = c.args.self.now.items.items in
    let sign = c.in-Indicates.sign in
    let none = no_cells-yet items sign c.in-Indicates.cells (sym (ap (repeats_indicator items) c.in-Indicates.is) ∙ c.requires.once) in
    let set = c.set.ensures ∙ ap (with_cells c.args.self.now.signs sign) c.in_ok-copy-in-Indicates.ensures in
    rw c.in-Indicates.is
    (represents-indicates items c.args.self.now.characters c.args.self.now.signs c.args.self.now.used c.requires.represents c.signs_law.ensures.own c.signs_law.ensures.same sign c.in-Indicates.cells c.set.new.self none set)
