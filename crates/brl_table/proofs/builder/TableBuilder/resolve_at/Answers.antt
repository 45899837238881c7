use Rattle.std.proofs.Common.{◌<◌, ◌∙◌, arith, length, subst, sym, refl}
use Rattle.std.proofs.lemmas.Option.{slice_get_read}
use Rattle.brl_lines.specs.Views.{line_view}
use Rattle.brl_rules.proofs.Facts.{some_is}
use Rattle.brl_table.specs.Building.{FindsReference}
use Rattle.brl_table.specs.declared.item.Item.{Item}
use Rattle.brl_table.proofs.UnresolvedSteps.{without-rule}
use Rattle.brl_table.proofs.builder.TableBuilder.resolve_at.Goals as goal

pub returns : goal.returns
returns c item at =
    let characters = c.args.self.now.characters.infos.entries in
    let items = c.args.self.now.items in
    let line = line_view c.args.line.now in
    let inside : c.args.place < length items.items = omega (arith, items.ok.0) in
    let same = some_is c.index.result.now item (sym (slice_get_read items.items (length items.items) c.args.place c.index.result.now refl inside c.index.ensures) ∙ at) in
    subst (λ (one : Item). FindsReference characters line one c.resolve.result) same (without-rule characters line c.index.result.now _ _ c.resolve.result c.resolve.ensures)
