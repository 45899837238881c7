use Rattle.std.proofs.Common.{◌∙◌, List, ℕ, map, rules, sym, tests}
use Rattle.std.proofs.lemmas.Iterator.{YieldsList-from_slice}
use Rattle.std.proofs.lemmas.Iterator.Search.{any_from_yields_List}
use Rattle.std.specs.Borrow.{Bor}
use Rattle.brl_acting.specs.Acting.{is_same_small}
use Rattle.brl_acting.specs.Readings.{rule_view}
use Rattle.brl_acting.proofs.Mapped.{list_any-map}
use Rattle.brl_acting.proofs.kept.has_same.Goals as goal

pub returns : goal.returns
returns c =
    any_from_yields_List (λ rule. is_same_small c.args.place (map (λ (word : Bor (List ℕ)). word.now) c.args.words.now) c.args.small.now (rule_view rule)) _ _ _ c.any.ensures.ran (YieldsList-from_slice _ c.iter.ensures.rest) (λ x b q k. search (rules, tests))
    ∙ sym (list_any-map (is_same_small c.args.place (map (λ (word : Bor (List ℕ)). word.now) c.args.words.now) c.args.small.now) rule_view c.args.rules.now)
