use Rattle.std.proofs.Common.{◌≡◌, ◌∙◌, IfOk, Some, ap, map, option_map, subst, sym}
use Rattle.brl_lines.specs.Views.{line_view}
use Rattle.brl_cut.specs.Contractions.{cells_before, sign_cells}
use Rattle.brl_cut.specs.Files.{file_view}
use Rattle.brl_cut.specs.Rewriting.{Change, change_by}
use Rattle.brl_cut.specs.RewritingViews.{around_view, change_from, change_view}
use Rattle.brl_cut.specs.Signs.{letsign_of, sign_view}
use Rattle.brl_cut.proofs.rewriting.last_change.Goals as goal

pub returns-in-Some : goal.returns-in-Some
returns-in-Some c =
    let around = around_view c.args.around in
    let files = map file_view c.args.files.now in
    let lines = map line_view c.args.lines.now in
    let sign = sign_view c.in-Some.sign in
    let signs : c.in_ok-given.given.signs.items ≡ sign_cells lines = c.in_ok-given.ensures.signs ∙ ap (cells_before lines) c.in_ok-letsign.ensures in
    let given : Some sign ≡ letsign_of lines = ap (option_map sign_view) (sym c.in-Some.is) ∙ c.in_ok-letsign.ensures in
    subst (λ (ch : Change). IfOk c.change_by_sign.result (λ new. change_view new ≡ ch))
    ((λ j. change_from around files (c.in_ok-given.ensures.characters j) (signs j) sign lines) ∙ ap (change_by around files lines) given) c.change_by_sign.ensures
