use Rattle.std.proofs.Common.{◌≡◌, ◌≢◌, ℕ, List, [], ◌++◌, Some, None, sym, ◌∙◌, ap, append-nil}
use Rattle.std.proofs.lemmas.Slice.Eq.{strip_prefix_is}
use Rattle.std.proofs.lemmas.Bool.Decides.{Decides-eqb}
use Rattle.brl_pairs.proofs.lead.advance.Goals as goal

pub returns-in-Some : goal.returns-in-Some
returns-in-Some c = strip_prefix_is Decides-eqb c.args.lead.now c.args.cells.now (Some c.in-Some.rest) c.in-Some.ensures.cases

pub returns-in-Some-strip_prefix : goal.returns-in-Some-strip_prefix
returns-in-Some-strip_prefix c =
    let longer : c.args.cells.now ≡ c.args.lead.now ++ c.in-Some-strip_prefix.rest.now = strip_prefix_is Decides-eqb c.args.cells.now c.args.lead.now (Some c.in-Some-strip_prefix.rest) c.in-Some-strip_prefix.ensures.cases in
    let none : (rest : List ℕ) → c.args.lead.now ≢ c.args.cells.now ++ rest = strip_prefix_is Decides-eqb c.args.lead.now c.args.cells.now None c.in_default.ensures.cases in
    ((λ empty. none [] (sym (append-nil c.args.cells.now ∙ longer ∙ ap (λ (r : List ℕ). c.args.lead.now ++ r) empty ∙ append-nil c.args.lead.now))), longer)

pub returns-in-None : goal.returns-in-None
returns-in-None c =
    (strip_prefix_is Decides-eqb c.args.lead.now c.args.cells.now None c.in_default.ensures.cases, strip_prefix_is Decides-eqb c.args.cells.now c.args.lead.now None c.in-None.ensures.cases)
