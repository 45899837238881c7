use Rattle.std.proofs.Common.{◌≡◌, ◌∙◌, Bool, IfOk, ap, false, if◌then◌else◌, map, subst, sym, true}
use Rattle.brl_lines.specs.Views.{line_view}
use Rattle.brl_cut.specs.Files.{file_view}
use Rattle.brl_cut.specs.Rewriting.{Change, may_change}
use Rattle.brl_cut.specs.RewritingViews.{around_view, change_view, contraction_change_of, sign_change_of}
use Rattle.brl_cut.specs.Signs.{sign_view}
use Rattle.brl_cut.proofs.rewriting.change_by_sign.Goals as goal

pub returns-then-branch : goal.returns-then-branch
returns-then-branch c =
    let around = around_view c.args.around in
    let files = map file_view c.args.files.now in
    let given = c.args.given.now in
    let lines = map line_view c.args.lines.now in
    let change = sign_change_of around.home given.characters.entries given.signs.items (sign_view c.args.sign.now) lines in
    let may : may_change around files change ≡ true = ap (may_change around files) (sym c.in_ok-change.ensures) ∙ sym c.in_ok-may_change.ensures ∙ c.if-branch.true in
    c.in_ok-change.ensures ∙ sym (ap (λ (b : Bool). if b then change else contraction_change_of given.characters.entries given.signs.items lines) may)

pub returns : goal.returns
returns c =
    let around = around_view c.args.around in
    let files = map file_view c.args.files.now in
    let given = c.args.given.now in
    let lines = map line_view c.args.lines.now in
    let change = sign_change_of around.home given.characters.entries given.signs.items (sign_view c.args.sign.now) lines in
    let may : may_change around files change ≡ false = ap (may_change around files) (sym c.in_ok-change.ensures) ∙ sym c.in_ok-may_change.ensures ∙ c.if-branch.false in
    subst (λ (ch : Change). IfOk c.contraction_change.result (λ new. change_view new ≡ ch))
    (sym (ap (λ (b : Bool). if b then change else contraction_change_of given.characters.entries given.signs.items lines) may)) c.contraction_change.ensures
