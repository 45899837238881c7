use Rattle.std.proofs.Common.{◌∙◌, ap, not, sym}
use Rattle.std.proofs.lemmas.List.{take-map}
use Rattle.brl_acting.specs.WholeTable.{acting_view}
use Rattle.brl_tool.specs.Acting.{has_opcode}
use Rattle.brl_tool.proofs.acting.is_first.Goals as goal

pub returns : goal.returns
returns c =
    ap not (c.has_opcode.ensures ∙ ap (λ lines. has_opcode lines c.args.opcode.now) (sym (take-map acting_view c.args.place c.args.lines.now)))
