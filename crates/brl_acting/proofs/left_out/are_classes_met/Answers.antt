use Rattle.std.proofs.Common.{◌∙◌, List, ℕ, ap, rules, sym, tests}
use Rattle.std.specs.Borrow.{Bor}
use Rattle.std.proofs.lemmas.Iterator.{YieldsList-from_slice}
use Rattle.std.proofs.lemmas.Iterator.Search.{all_from_yields_List}
use Rattle.std.specs.List.{list_all}
use Rattle.std.proofs.lemmas.List.Folds.{list_all-map}
use Rattle.brl_acting.specs.Readings.{known_view}
use Rattle.brl_acting.specs.Tests.{is_class_met}
use Rattle.brl_acting.proofs.left_out.are_classes_met.Goals as goal

pub returns : goal.returns
returns c =
    let known = known_view c.args.known.now in
    all_from_yields_List (λ (name : Bor (List ℕ)). is_class_met known name.now) _ _ _ c.all.ensures.ran (YieldsList-from_slice _ c.iter.ensures.rest) (λ x b q k. search (rules, tests))
    ∙ ap (list_all (λ (name : Bor (List ℕ)). is_class_met known name.now)) c.deref.ensures.value
    ∙ sym (list_all-map (is_class_met known) (λ (name : Bor (List ℕ)). name.now) c.args.parts.now.classes.items)
