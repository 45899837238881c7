use Rattle.std.proofs.Common.{◌∙◌, ℕ, Vec, rules, sym, tests}
use Rattle.std.specs.Global.{Global}
use Rattle.std.proofs.lemmas.Iterator.{YieldsList-from_slice}
use Rattle.std.proofs.lemmas.Iterator.Search.{any_from_yields_List}
use Rattle.brl_accepted.specs.Sets.{are_characters_of}
use Rattle.brl_report.proofs.Mapped.{any_of_map}
use Rattle.brl_accepted.proofs.sets.is_named.Goals as goal

pub returns : goal.returns
returns c =
    let set = c.args.set.now in
    any_from_yields_List (λ characters. are_characters_of set characters.items) _ _ _ c.any.ensures.ran (YieldsList-from_slice _ c.iter.ensures.rest) (λ x b q k. search (rules, tests))
    ∙ sym (any_of_map (are_characters_of set) (λ (characters : Vec ℕ Global). characters.items) c.args.named.now)
