use Rattle.std.proofs.Common.{◌≡◌, ◌∙◌, Bool, IfOk, [], ap, if◌then◌else◌, map, subst, sym}
use Rattle.brl_cut.specs.Files.{file_view}
use Rattle.brl_cut.specs.Rewriting.{RewrittenView, with_definitions, with_last_change}
use Rattle.brl_cut.specs.RewritingViews.{around_view, rewritten_view}
use Rattle.brl_cut.proofs.rewriting.rewrite_files.Goals as goal

pub returns-then-rewrite : goal.returns-then-rewrite
returns-then-rewrite c =
    let around = around_view c.args.around in
    let files = map file_view c.args.files.items in
    let definitions = c.in_ok-rewritten.ensures ∙ ap (with_definitions around) (ap (map file_view) c.as_slice.ensures.value) in
    let last = ap (λ (b : Bool). if b then with_last_change around (with_definitions around files) else record { edits = []; made = []; files = files }) (sym c.if-rewrite.true) in
    subst (λ (new : RewrittenView). IfOk c.rewrite_last.result (λ rewritten. rewritten_view rewritten ≡ new)) (ap (with_last_change around) definitions ∙ last) c.rewrite_last.ensures
