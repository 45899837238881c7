use Rattle.std.proofs.Common.{◌∙◌, ap, subst, sym}
use Rattle.brl_pairs.specs.Parted.{ArePartsOf}
use Rattle.brl_rules.specs.TableView.{TableView}
use Rattle.brl_dues.specs.Parts.{state_parts, steps_of_part}
use Rattle.brl_dues.specs.Steps.{dues_steps}
use Rattle.brl_dues.proofs.PartSteps.{are-parts}
use Rattle.brl_dues.proofs.machine.DuesParted.parts.Goals as goal

pub returns : goal.returns
returns c =
    let t = c.args.self.now in
    let s = c.args.state.now in
    subst (ArePartsOf (steps_of_part t) (dues_steps t s)) (sym (c.in_ok-find_parts.ensures ∙ ap (λ (x : TableView). state_parts x s) c.self.view_is)) (are-parts t s)
