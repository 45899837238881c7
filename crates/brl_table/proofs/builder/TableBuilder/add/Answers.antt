use Rattle.std.proofs.Common.{◌∙◌, ◌+◌, ◌++◌, ◌∷◌, [], ap, sym, Some}
use Rattle.brl_lines.specs.Views.{line_view}
use Rattle.brl_table.specs.declared.table_fault.TableFaultKind.TheVariants.{TooMany}
use Rattle.brl_table.specs.Items.{fault}
use Rattle.brl_table.specs.Faults.{fault_after}
use Rattle.brl_table.proofs.ItemSteps.{fault-too_many, refused-adds, signs-within, within-limits}
use Rattle.brl_table.proofs.builder.TableBuilder.add.Goals as goal

pub returns-then-exceeds_limits-clause-adds : goal.returns-then-exceeds_limits-clause-adds
returns-then-exceeds_limits-clause-adds c =
    let items = c.args.self.now.items.items in
    let line = line_view c.args.line.now in
    let once = sym (c.repeats_indicator.ensures items c.requires.represents.indicated) ∙ c.if-repeats_indicator.false in
    let many = sym (c.exceeds_limits.ensures items c.requires.represents) ∙ c.if-exceeds_limits.true in
    refused-adds items line c.args.file _ _ _ _ _ (fault TooMany c.opcode_in-opcode.result.now) c.refuse-then-exceeds_limits.result c.refuse-then-exceeds_limits.ensures
    (ap (fault_after items line) c.in_ok-item.ensures.item
    ∙ fault-too_many items line c.in_ok-item.item once many
    ∙ ap (λ opcode. Some (fault TooMany opcode)) (sym c.opcode_in-opcode.ensures))

pub returns-clause-adds : goal.returns-clause-adds
returns-clause-adds c =
    let items = c.args.self.now.items.items in
    let item = c.in_ok-item.item in
    let signs = c.apply.new.self.signs in
    let once = sym (c.repeats_indicator.ensures items c.requires.represents.indicated) ∙ c.if-repeats_indicator.false in
    let few = sym (c.exceeds_limits.ensures items c.requires.represents) ∙ c.if-exceeds_limits.false in
    let limits = within-limits items (line_view c.args.line.now) item once c.apply.new.self.characters signs c.apply.new.self.used c.in_ok-apply.ensures.represents few in (
      item,
      c.in_ok-item.ensures.item,
      record {
        added = c.in_ok-push.ensures.items ∙ ap (λ xs. xs ++ item ∷ []) c.in_ok-apply.ensures.items;
        once = once;
        limits = c.in_ok-item.ensures.limits;
        represents = c.in_ok-apply.ensures.represents;
        within = record {
          few_characters = limits.0;
          few_cells = signs-within c.signs_law.ensures.own c.signs_law.ensures.same items (c.args.file + 1) item c.args.self.now.signs signs once c.in_ok-item.ensures.limits c.requires.represents.indicated c.in_ok-apply.ensures.represents.indicated
              c.requires.within.few_cells;
          few_rules = limits.1;
        };
      },
    )
