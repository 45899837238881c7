use Rattle.std.proofs.Common.{◌≡◌, ◌∙◌, ◌&&◌, IfOk, false, not, rules, subst, sym, tests}
use Rattle.std.specs.List.{list_any}
use Rattle.std.proofs.lemmas.Iterator.{YieldsList-from_slice}
use Rattle.std.proofs.lemmas.Iterator.Search.{any_from_yields_List}
use Rattle.brl_acting.specs.Readings.{known_view}
use Rattle.brl_acting.specs.Tests.{are_dots_met, is_virtual}
use Rattle.brl_acting.proofs.tests_met.is_row_met.Goals as goal

pub returns : goal.returns
returns c =
    let known = known_view c.args.known.now in
    let text = c.args.text.now in
    let found : c.any.result ≡ list_any is_virtual text =
    any_from_yields_List is_virtual _ _ _ c.any.ensures.ran (YieldsList-from_slice _ c.iter.ensures.rest) (λ x b q k. search (rules, tests)) in
    let none : false ≡ list_any is_virtual text = sym c.if-any.false ∙ found in
    subst (λ b. IfOk c.are_dots_met.result (λ is. is ≡ (not b && are_dots_met known text))) none c.are_dots_met.ensures
