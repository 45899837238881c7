use Rattle.std.proofs.Common.{◌≡◌, ◌∙◌, ◌||◌, ap, false, rules, sym, take, tests}
use Rattle.std.specs.List.{list_any}
use Rattle.std.proofs.lemmas.Iterator.{YieldsList-from_slice}
use Rattle.std.proofs.lemmas.Iterator.Search.{any_from_yields_List}
use Rattle.brl_acting.specs.Readings.{known_view}
use Rattle.brl_acting.specs.Tests.{is_letter_met, may_be_missing, name_length}
use Rattle.brl_acting.proofs.tests_met.are_classes_met.Goals as goal

pub returns-else-may_be_missing : goal.returns-else-may_be_missing
returns-else-may_be_missing c =
    let known = known_view c.args.known.now in
    let text = c.args.text.now in
    let letters : c.first_of-letters.result.now ≡ take (name_length text) text = c.first_of-letters.ensures ∙ ap (λ n. take n text) c.name_length.ensures in
    let needed : may_be_missing text ≡ false = sym c.may_be_missing.ensures ∙ c.if-may_be_missing.false in
    any_from_yields_List (is_letter_met known) _ _ _ c.any.ensures.ran (YieldsList-from_slice _ c.iter.ensures.rest) (λ x b q k. search (rules, tests))
    ∙ ap (list_any (is_letter_met known)) letters
    ∙ sym (ap (λ b. b || list_any (is_letter_met known) (take (name_length text) text)) needed)
