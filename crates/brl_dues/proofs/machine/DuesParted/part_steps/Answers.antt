use Rattle.std.proofs.Common.{◌≡◌, ◌∙◌, ◌∷◌, [], List, ap, subst}
use Rattle.std.specs.Result.{IfOk}
use Rattle.brl_pairs.specs.declared.step.Step.{Step}
use Rattle.brl_rules.specs.TableView.{TableView}
use Rattle.brl_states.specs.declared.due.Due.{Due}
use Rattle.brl_states.specs.declared.dues_state.DuesState.{DuesState}
use Rattle.brl_dues.specs.LetterView.{LetterView}
use Rattle.brl_dues.specs.Letters.{new_letter, steps_found}
use Rattle.brl_dues.specs.Parts.{steps_of_part}
use Rattle.brl_dues.proofs.machine.DuesParted.part_steps.Goals as goal

pub returns : goal.returns
returns c =
    let t = c.self.inside.table.now in
    let s = c.args.part.now.state in
    subst (λ (x : TableView). IfOk c.list_letter_steps.result (λ listed. listed.items ≡ steps_of_part x c.args.part.now)) c.self.view_is
    (subst (λ (found : List (Step DuesState)). IfOk c.list_letter_steps.result (λ listed. listed.items ≡ found))
    (ap (λ (x : TableView). steps_found x s 0 x.rules (c.new_letter_of-letter.result ∷ [])) c.in_ok-table.ensures
    ∙ ap (λ (l : LetterView). steps_found t s 0 t.rules (l ∷ []))
    (c.new_letter_of-letter.ensures ∙ ap (λ (dues : List Due). new_letter t dues c.args.part.now.character) c.as_slice-dues.ensures.dues)) c.list_letter_steps.ensures)
