use Rattle.std.proofs.Common.{◌∙◌, rules, sym, tests}
use Rattle.std.proofs.lemmas.Iterator.{YieldsList-from_slice}
use Rattle.std.proofs.lemmas.Iterator.Search.{any_from_yields_List}
use Rattle.brl_acting.specs.Tests.{is_open, item_view}
use Rattle.brl_acting.proofs.Mapped.{list_any-map}
use Rattle.brl_acting.proofs.tests_met.are_open.Goals as goal

pub returns : goal.returns
returns c =
    any_from_yields_List (λ entry. is_open (item_view entry)) _ _ _ c.any.ensures.ran (YieldsList-from_slice _ c.iter.ensures.rest) (λ x b q k. search (rules, tests))
    ∙ sym (list_any-map is_open item_view c.args.items.now)
