use Rattle.std.proofs.Common.{◌∙◌, rules, sym, tests}
use Rattle.std.proofs.lemmas.Iterator.{YieldsList-from_slice}
use Rattle.std.proofs.lemmas.Iterator.Search.{any_from_yields_List}
use Rattle.brl_acting.specs.Acting.{is_always_before}
use Rattle.brl_acting.specs.Readings.{rule_view}
use Rattle.brl_acting.proofs.Mapped.{list_any-map}
use Rattle.brl_acting.proofs.kept.has_always.Goals as goal

pub returns : goal.returns
returns c =
    any_from_yields_List (λ rule. is_always_before c.args.place c.args.character (rule_view rule)) _ _ _ c.any.ensures.ran (YieldsList-from_slice _ c.iter.ensures.rest) (λ x b q k. search (rules, tests))
    ∙ sym (list_any-map (is_always_before c.args.place c.args.character) rule_view c.args.rules.now)
