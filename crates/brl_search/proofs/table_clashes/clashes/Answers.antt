use Rattle.std.proofs.Common.{◌∙◌, ℕ, List, subst₂}
use Rattle.brl_divergence.specs.Answers.{AreDivergencesOf}
use Rattle.brl_dues.specs.Steps.{dues_machine}
use Rattle.brl_rules.specs.TableView.{TableView}
use Rattle.brl_without.specs.Without.{without}
use Rattle.brl_search.proofs.table_clashes.clashes.Goals as goal

pub clashes_of-requires-clause-divergences : goal.clashes_of-requires-clause-divergences
clashes_of-requires-clause-divergences g c = (c.args.limit, subst₂ (λ (cs : List ℕ) (t : TableView). AreDivergencesOf (without cs (dues_machine t)) c.args.limit c.in_ok-divergences.divergences) c.new-machine.ensures.left_out (c.new-machine.ensures.machine ∙ c.new-dues.ensures.table) c.in_ok-divergences.ensures)

pub returns : goal.returns
returns g c = c.clashes_of.ensures c.args.limit (subst₂ (λ (cs : List ℕ) (t : TableView). AreDivergencesOf (without cs (dues_machine t)) c.args.limit c.in_ok-divergences.divergences) c.new-machine.ensures.left_out (c.new-machine.ensures.machine ∙ c.new-dues.ensures.table) c.in_ok-divergences.ensures)
