use Rattle.std.proofs.Common.{◌∙◌, ℕ, List, Vec, rules, sym, tests}
use Rattle.std.specs.Global.{Global}
use Rattle.std.proofs.lemmas.Iterator.{YieldsList-from_slice}
use Rattle.std.proofs.lemmas.Iterator.Search.{any_from_yields_List}
use Rattle.brl_accepted.specs.Sets.{is_within}
use Rattle.brl_report.proofs.Mapped.{any_of_map}
use Rattle.brl_accepted.proofs.sets.are_within_one.Goals as goal

pub returns : goal.returns
returns c =
    let characters = c.args.characters.now in
    any_from_yields_List (λ set. is_within set.items characters) _ _ _ c.any.ensures.ran (YieldsList-from_slice _ c.iter.ensures.rest) (λ x b q k. search (rules, tests))
    ∙ sym (any_of_map (λ (set : List ℕ). is_within set characters) (λ (set : Vec ℕ Global). set.items) c.args.sets.now)
