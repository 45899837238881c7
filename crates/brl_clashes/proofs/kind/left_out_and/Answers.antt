use Rattle.std.proofs.Common.{◌≡◌, ◌∙◌, ◌++◌, List, ap, rules, subst, ℕ}
use Rattle.std.specs.Prelude.{IfOk}
use Rattle.std.proofs.lemmas.Fn.{filter_same}
use Rattle.brl_clashes.specs.Kinds.{of_kinds}
use Rattle.brl_clashes.proofs.kind.left_out_and.Goals as goal

pub returns : goal.returns
returns c =
    let more : c.retain.new.self.items ≡ of_kinds c.args.table.now c.args.later.now c.args.characters.now =
    filter_same _ _ _ (λ x b f k. search rules) _ _ c.retain.ensures.filtered ∙ ap (of_kinds c.args.table.now c.args.later.now) c.in_ok-more.ensures.items in
    let given : c.extend_from_slice.new.self.items ≡ c.args.left_out.now ++ of_kinds c.args.table.now c.args.later.now c.args.characters.now =
    c.in_ok-extend_from_slice.ensures.items ∙ ap (λ front. front ++ c.as_slice-2.result.now) (c.in_ok-given.ensures.items ∙ c.as_slice.ensures)
    ∙ ap (λ rest. c.args.left_out.now ++ rest) (c.as_slice-2.ensures.value ∙ more) in
    subst (λ (all : List ℕ). IfOk c.new.result (λ found. found ≡ all)) given c.new.ensures
