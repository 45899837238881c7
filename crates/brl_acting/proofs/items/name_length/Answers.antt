use Rattle.std.proofs.Common.{◌≡◌, position, rules, sym, tests}
use Rattle.std.proofs.lemmas.Iterator.{YieldsList-from_slice}
use Rattle.std.proofs.lemmas.Iterator.Search.{position_from_yields_List}
use Rattle.brl_acting.specs.Tests.{ends_letters}
use Rattle.brl_acting.proofs.items.name_length.Goals as goal

pub returns : goal.returns
returns c =
    let found : c.position.result ≡ position ends_letters c.args.marks.now =
    position_from_yields_List ends_letters _ _ c.position.result c.position.ensures.ran (YieldsList-from_slice _ c.iter.ensures.rest) (λ x b q k. search (rules, tests)) in
    rw (sym found) (search rules)
