use Rattle.std.proofs.Common.{◌∙◌, ℕ, Bor, List, rules, sym, tests, bytes_eq}
use Rattle.std.proofs.lemmas.Iterator.{YieldsList-from_slice}
use Rattle.std.proofs.lemmas.Iterator.Search.{any_from_yields_List}
use Rattle.brl_report.proofs.Mapped.{any_of_map}
use Rattle.brl_report.proofs.rules.is_among.Goals as goal

pub returns : goal.returns
returns c =
    any_from_yields_List (λ own. bytes_eq c.args.word.now own.now) _ _ _ c.any.ensures.ran (YieldsList-from_slice _ c.iter.ensures.rest) (λ x b q k. search (rules, tests))
    ∙ sym (any_of_map (bytes_eq c.args.word.now) (λ (own : Bor (List ℕ)). own.now) c.args.words.now)
