use Rattle.brl_dues.proofs.Known.{known_of}
use Rattle.brl_dues.proofs.Taking.{Choosing}
use Rattle.brl_rules.proofs.OneByOne.{translating}
use Rattle.brl_traces.proofs.Traces.{diverge-as-paths, paths-are-traces}
use Rattle.brl_traces.proofs.laws.dues_trace_law.Goals as goal

pub returns-clause-steps : goal.returns-clause-steps
returns-clause-steps c =
    let t = c.args.table.now in
    let choosing : Choosing c.args.table.now = record { first = c.choice_laws.ensures.first t; none = c.choice_laws.ensures.none t } in
    paths-are-traces t choosing (translating c.translation_laws.ensures.rest c.translation_laws.ensures.end c.translation_laws.ensures.rule t) (known_of t c.law.ensures) (c.translation_laws.ensures.context t)

pub returns-clause-diverge : goal.returns-clause-diverge
returns-clause-diverge c =
    let t = c.args.table.now in
    let choosing : Choosing c.args.table.now = record { first = c.choice_laws.ensures.first t; none = c.choice_laws.ensures.none t } in
    diverge-as-paths t choosing (translating c.translation_laws.ensures.rest c.translation_laws.ensures.end c.translation_laws.ensures.rule t) (known_of t c.law.ensures) (c.translation_laws.ensures.context t)
