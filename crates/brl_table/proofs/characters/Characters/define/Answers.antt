use Rattle.std.proofs.Common.{◌∙◌, sym, refl, append-nil}
use Rattle.brl_table.proofs.DefinitionSteps.{represents-more}
use Rattle.brl_table.proofs.characters.Characters.define.Goals as goal

pub returns-in_ok-push : goal.returns-in_ok-push
returns-in_ok-push c defined represents =
    let again = sym (c.is_repeated-again.ensures defined represents) ∙ c.if-again.true in
    represents-more defined c.args.definition.now c.args.self.now represents _ (c.in_ok-update_infos.ensures defined represents.entries_are) c.in_ok-insert_plain.ensures
    (c.in_ok-push.ensures.items ∙ rw again refl)

pub returns-else-again : goal.returns-else-again
returns-else-again c defined represents =
    let again = sym (c.is_repeated-again.ensures defined represents) ∙ c.if-again.false in
    represents-more defined c.args.definition.now c.args.self.now represents _ (c.in_ok-update_infos.ensures defined represents.entries_are) c.in_ok-insert_plain.ensures
    (rw again (sym (append-nil c.args.self.now.notices.items)))
