use Rattle.std.proofs.Common.{List, ℕ, sym, ◌∙◌, ap, subst}
use Rattle.std.proofs.lemmas.Result.{on_ok_weaker}
use Rattle.brl_pairs.specs.NumberPairs.{IsFollowed}
use Rattle.brl_pairs.specs.Sorted.{cells_of}
use Rattle.brl_closure.proofs.Adding.{adds_as}
use Rattle.brl_closure.specs.Trail.{IsOneOf}
use Rattle.brl_divergence.specs.Expanded.{AreTwoEdges}
use Rattle.brl_divergence.specs.Found.{IsOfSplit}
use Rattle.brl_divergence.proofs.Splits.{split_origin, steps_followed, two_explain, two_fit}
use Rattle.brl_divergence.proofs.explorer.Explorer.find_split.Goals as goal

pub follow-requires-clause-fits : goal.follow-requires-clause-fits
follow-requires-clause-fits g c =
    let a = c.args in
    rw (c.cells_of-lead.ensures, c.cells_of-own.ensures, c.as_slice-cells.ensures.members)
    (two_fit (g.M.Machine.behaviour a.self.now.finder.now.machine.now) a.trail.now.states a.self.now.expanded.now.cells a.state a.first.now a.second.now c.requires.edges.0 c.requires.edges.1 c.requires.active.laws)

pub follow-requires-clause-explained : goal.follow-requires-clause-explained
follow-requires-clause-explained g c =
    let a = c.args in
    rw (c.cells_of-lead.ensures, c.cells_of-own.ensures, c.as_slice-cells.ensures.members)
    (two_explain (g.M.Machine.behaviour a.self.now.finder.now.machine.now) a.trail.now.states a.self.now.expanded.now.cells a.state a.first.now a.second.now c.requires.edges.0 c.requires.edges.1 c.requires.active.laws a.trail.now.pairs)

pub returns-clause-followed : goal.returns-clause-followed
returns-clause-followed g c =
    let a = c.args in
    let m = g.M.Machine.behaviour a.self.now.finder.now.machine.now in
    let u = c.follow.new.trail in
    on_ok_weaker c.follow.result
    (λ followed x y x_taken y_taken.
    steps_followed m u.states a.self.now.expanded.now.cells a.state a.first.now a.second.now c.requires.edges.0
    (subst (λ (xs : List g.row.M-State.Denot). AreTwoEdges m xs a.self.now.expanded.now.cells a.state a.first.now a.second.now c.requires.edges.0) (sym c.follow.ensures.adds.states) c.requires.edges.1)
    u.pairs (λ e next is.
    subst (λ (own : List ℕ). IsFollowed u.pairs a.first.now.next own e) (c.cells_of-lead.ensures ∙ ap (λ (cells : List (List ℕ)). cells_of cells a.first.now) c.as_slice-cells.ensures.members)
    (followed e next (is ∙ sym (c.cells_of-own.ensures ∙ ap (λ (cells : List (List ℕ)). cells_of cells a.second.now) c.as_slice-cells.ensures.members)))) x y x_taken y_taken)
    c.follow.ensures.followed

pub returns-clause-adds : goal.returns-clause-adds
returns-clause-adds g c from = adds_as (IsOneOf _) (IsOfSplit c.args.state c.args.first.now.place c.args.second.now.place from) c.args.trail.now c.follow.new.trail (split_origin c.args.state c.args.first.now.place c.args.second.now.place from) c.follow.ensures.adds
