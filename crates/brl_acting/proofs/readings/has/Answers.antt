use Rattle.std.proofs.Common.{◌∙◌, rules, sym, tests}
use Rattle.std.proofs.lemmas.Iterator.{YieldsList-from_slice}
use Rattle.std.proofs.lemmas.Iterator.Search.{any_from_yields_List}
use Rattle.brl_acting.specs.Capitals.{has_opcode}
use Rattle.brl_acting.specs.PartsViews.{parts_view}
use Rattle.brl_acting.proofs.Mapped.{list_any-map}
use Rattle.brl_acting.proofs.readings.has.Goals as goal

pub returns : goal.returns
returns c =
    any_from_yields_List (λ parts. has_opcode c.args.word.now (parts_view parts)) _ _ _ c.any.ensures.ran (YieldsList-from_slice _ c.iter.ensures.rest) (λ x b q k. search (rules, tests))
    ∙ sym (list_any-map (has_opcode c.args.word.now) parts_view c.args.lines.now)
