use Rattle.std.proofs.Common.{◌≡◌, ◌∙◌, ◌<◌, ℕ, Bool, true, false, not, List, [], Some, ap, get_or, length, nat_eq, refl, slice_get, subst, sym}
use Rattle.std.specs.Cmp.Lexicographic.{bytes_decides, pointwise}
use Rattle.std.proofs.lemmas.Option.{get_or_from_slice_get}
use Rattle.brl_contexts.specs.Changes.{AreAlike}
use Rattle.brl_contexts.specs.declared.forms.Forms.{Forms}
use Rattle.brl_contexts.proofs.changes.are_alike.Goals as goal
use Rattle.brl_contexts.proofs.changes.are_alike.Goals.{then-edge-second-via-then-edge-second, then-edge-second-via-else-edge-second+then-ne}
use Rattle.brl_pairs.specs.Sorted.{or_none}
use Rattle.brl_pairs.specs.declared.edge.ListedEdge.{ListedEdge}
use Rattle.brl_pairs.proofs.Lists.{read_at, same_place}

-- by the edges that are read
module _ (cells : List (List ℕ)) (forms : Forms) (one other : ℕ) (e f : ListedEdge) (one_less : one < length forms.edges.items) (other_less : other < length forms.edges.items)
    (e_is : e ≡ get_or forms.edges.items one e) (f_is : f ≡ get_or forms.edges.items other f) where
  e_at : slice_get forms.edges.items one ≡ Some e
  e_at = read_at forms.edges.items forms.edges.items one e refl one_less e_is

  f_at : slice_get forms.edges.items other ≡ Some f
  f_at = read_at forms.edges.items forms.edges.items other f refl other_less f_is

  one_rule : AreAlike cells forms one other → e.rule ≡ f.rule
  one_rule a =
      ap (λ (x : ListedEdge). x.rule) (same_place forms.edges.items one e a.first e_at a.first_at) ∙ a.rule ∙ ap (λ (x : ListedEdge). x.rule) (same_place forms.edges.items other a.second f a.second_at f_at)

  one_cells : AreAlike cells forms one other → or_none (slice_get cells e.cells) ≡ or_none (slice_get cells f.cells)
  one_cells a =
      ap (λ (x : ListedEdge). or_none (slice_get cells x.cells)) (same_place forms.edges.items one e a.first e_at a.first_at) ∙ a.same_cells
      ∙ ap (λ (x : ListedEdge). or_none (slice_get cells x.cells)) (same_place forms.edges.items other a.second f a.second_at f_at)

not-no : (b : Bool) → false ≡ not b → b ≡ true
not-no true e = refl
not-no false e = cc

pub returns-then-edge-second : goal.returns-then-edge-second
returns-then-edge-second c = elim c.then-edge-second.branch [
  | then-edge-second-via-then-edge-second w ↦ (
    λ wrong. absurd (let no : false ≡ true = wrong in cc),
    λ a. absurd (w.if-edge-second.true (one_rule c.args.cells.now c.args.forms.now c.args.one c.args.other
        c.index-edge.result.now c.index-second.result.now c.requires.one c.requires.other c.index-edge.ensures c.index-second.ensures a)),
  )
  | then-edge-second-via-else-edge-second+then-ne w ↦ (
    λ wrong. absurd (let no : false ≡ true = wrong in cc),
    λ a. absurd (
        let same : w.cells_at.result.now ≡ w.cells_at-else-edge-second.result.now = w.cells_at.ensures ∙ one_cells c.args.cells.now c.args.forms.now c.args.one c.args.other
        c.index-edge.result.now c.index-second.result.now c.requires.one c.requires.other c.index-edge.ensures c.index-second.ensures a ∙ sym w.cells_at-else-edge-second.ensures in
        let yes = (bytes_decides w.cells_at.result.now w.cells_at-else-edge-second.result.now).1 same in
        let no : true ≡ not true = w.if-ne.ensures ∙ ap not yes in cc),
  )
]

pub returns : goal.returns
returns c =
    let forms = c.args.forms.now in
    let reads = forms.reads.items in
    let one_less = subst (λ (n : ℕ). c.args.one < n) (sym c.requires.reads) c.requires.one in
    let other_less = subst (λ (n : ℕ). c.args.other < n) (sym c.requires.reads) c.requires.other in
    let one = get_or_from_slice_get reads c.args.one c.index.result.now [] (read_at reads reads c.args.one c.index.result.now refl one_less c.index.ensures) in
    let other = get_or_from_slice_get reads c.args.other c.index-2.result.now [] (read_at reads reads c.args.other c.index-2.result.now refl other_less c.index-2.ensures) in
    let cells = c.args.cells.now in (
      λ yes. record {
        first = c.index-edge.result.now;
        first_at = e_at cells forms c.args.one c.args.other c.index-edge.result.now c.index-second.result.now c.requires.one c.requires.other c.index-edge.ensures c.index-second.ensures;
        second = c.index-second.result.now;
        second_at = f_at cells forms c.args.one c.args.other c.index-edge.result.now c.index-second.result.now c.requires.one c.requires.other c.index-edge.ensures c.index-second.ensures;
        rule = c.if-edge-second.false;
        same_cells = sym c.cells_at.ensures ∙ (bytes_decides c.cells_at.result.now c.cells_at-else-edge-second.result.now).0 (not-no (pointwise nat_eq c.cells_at.result.now c.cells_at-else-edge-second.result.now) c.if-ne.ensures) ∙ c.cells_at-else-edge-second.ensures;
        reads = one ∙ (bytes_decides c.index.result.now c.index-2.result.now).0 (sym c.eq.ensures ∙ yes) ∙ sym other;
      },
      λ a. c.eq.ensures ∙ (bytes_decides c.index.result.now c.index-2.result.now).1 (sym one ∙ a.reads ∙ other),
    )
