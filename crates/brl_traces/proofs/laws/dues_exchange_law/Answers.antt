use Rattle.brl_dues.proofs.Known.{known_of}
use Rattle.brl_dues.proofs.Taking.{Choosing}
use Rattle.brl_rules.proofs.OneByOne.{translating}
use Rattle.brl_traces.proofs.Alike.{texts-agree}
use Rattle.brl_traces.proofs.laws.dues_exchange_law.Goals as goal

pub returns : goal.returns
returns c left_out exchanged rules but =
    let t = c.args.table.now in
    let choosing : Choosing c.args.table.now = record { first = c.choice_laws.ensures.first t; none = c.choice_laws.ensures.none t } in
    texts-agree t choosing (translating c.translation_laws.ensures.rest c.translation_laws.ensures.end c.translation_laws.ensures.rule t) (known_of t c.law.ensures) (c.translation_laws.ensures.context t) exchanged rules left_out but
