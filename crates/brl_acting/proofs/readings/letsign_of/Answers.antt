use Rattle.std.proofs.Common.{◌∙◌, rules, sym, tests}
use Rattle.std.proofs.lemmas.Iterator.{YieldsList-from_slice}
use Rattle.std.proofs.lemmas.Iterator.Search.{position_from_yields_List}
use Rattle.brl_acting.specs.Readings.{is_kept_letsign}
use Rattle.brl_acting.specs.PartsViews.{parts_view}
use Rattle.brl_acting.proofs.Mapped.{position-map}
use Rattle.brl_acting.proofs.readings.letsign_of.Goals as goal

pub returns : goal.returns
returns c =
    position_from_yields_List (λ parts. is_kept_letsign (parts_view parts)) _ _ _ c.position.ensures.ran (YieldsList-from_slice _ c.iter.ensures.rest) (λ x b q k. search (rules, tests))
    ∙ sym (position-map is_kept_letsign parts_view c.args.lines.now)
