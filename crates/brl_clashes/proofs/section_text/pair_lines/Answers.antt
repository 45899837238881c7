use Rattle.std.proofs.Common.{subst, sym}
use Rattle.brl_clashes.specs.Sections.{AreClashesOf}
use Rattle.brl_clashes.proofs.Shown.{shown_clash}
use Rattle.brl_clashes.proofs.section_text.pair_lines.Goals as goal

pub push_shown-requires : goal.push_shown-requires
push_shown-requires c =
    let of = c.args.listing in
    subst (AreClashesOf of.table.now) (sym c.as_slice.ensures.value)
    (shown_clash c.args.form of.table.now of.firsts.now of.listed.now c.args.new.items c.shown_clashes.result.items c.in_order-shown.result.items c.shown_clashes.ensures c.in_order-shown.ensures.moved c.requires)
