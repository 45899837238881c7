use Rattle.std.proofs.Common.{List, Option, subst, ℕ}
use Rattle.brl_tool.specs.Verdicts.{Checks}
use Rattle.brl_tool.proofs.CheckLemmas.{accepts_good}
use Rattle.brl_tool.proofs.check.check_by_words.Goals as goal

pub returns-clause-accepts : goal.returns-clause-accepts
returns-clause-accepts g c one none alphabet spelled bytes there short t table all accepted deserved =
    let gives = g.S.Source.gives c.args.source.now in
    let path = c.args.paths.table.now in
    let cert = c.args.paths.cert.now in
    let option = c.args.option in
    accepts_good gives one alphabet path cert bytes there short t table (λ u is. c.one_table_law.ensures.table one path t u table is) (c.one_table_law.ensures.fault one path t table) all accepted deserved option spelled c.check_files.result
    (subst (λ (accept : Option (List ℕ)). Checks gives path cert accept option c.check_files.result) none c.check_files.ensures.checks)
