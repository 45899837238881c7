use Rattle.std.proofs.Common.{◌∙◌, rules, sym, tests, bytes_eq}
use Rattle.std.proofs.lemmas.Iterator.{YieldsList-from_slice}
use Rattle.std.proofs.lemmas.Iterator.Search.{any_from_yields_List}
use Rattle.brl_acting.specs.WholeTable.{ActingView, acting_view}
use Rattle.brl_acting.proofs.Mapped.{list_any-map}
use Rattle.brl_tool.proofs.acting.has_opcode.Goals as goal

pub returns : goal.returns
returns c =
    any_from_yields_List (λ line. bytes_eq c.args.opcode.now (acting_view line).opcode) _ _ _ c.any.ensures.ran (YieldsList-from_slice _ c.iter.ensures.rest) (λ x b q k. search (rules, tests))
    ∙ sym (list_any-map (λ (line : ActingView). bytes_eq c.args.opcode.now line.opcode) acting_view c.args.lines.now)
