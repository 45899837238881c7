-- Steps by numbers: more of them, more states and cells, and the edges that they are.
use Rattle.std.proofs.Common.{◌≡◌, ℕ, ◌+◌, List, [], ◌∷◌, ◌++◌, Some, slice_get, refl, ◌∙◌, ap, subst, arith}
use Rattle.std.proofs.lemmas.Option.{slice_get_within}
use Rattle.std.proofs.lemmas.List.{length-map}
use Rattle.brl_pairs.specs.Edges.{AreEdges, IsEdge}
use Rattle.brl_pairs.specs.Listed.{AreEdgesOf, AreListedEdges, HaveCells, IsByNumbers, edge_of, edges_with}
use Rattle.brl_pairs.specs.Runs.{Behaviour}
use Rattle.brl_pairs.specs.Sorted.{or_none}
use Rattle.brl_pairs.specs.declared.edge.ListedEdge.{ListedEdge}
use Rattle.brl_pairs.specs.declared.step.Step.{Step}
use Rattle.brl_pairs.proofs.Lists.{count_push, each_push, inside, mapped_from}

pub none_listed : {S : Type 0} (states : List S) (cells : List (List ℕ)) → AreListedEdges states cells [] []
none_listed states cells = record { count = refl; each = λ place x e at there. cc }

-- the numbers stay right where states and cells are added
module _ {S : Type 0} (old new : List S) (stays : (k : ℕ) (s : S) → slice_get old k ≡ Some s → slice_get new k ≡ Some s)
    (before after : List (List ℕ)) (kept : (k : ℕ) (own : List ℕ) → slice_get before k ≡ Some own → slice_get after k ≡ Some own) where
  pub still_by_numbers : (x : Step S) (e : ListedEdge) → IsByNumbers old before x e → IsByNumbers new after x e
  still_by_numbers x e h = record { rule = h.rule; own_cells = kept e.cells x.cells h.own_cells; next = stays e.next x.next h.next }

  pub still_listed : (xs : List (Step S)) (es : List ListedEdge) → AreListedEdges old before xs es → AreListedEdges new after xs es
  still_listed xs es h = record { count = h.count; each = λ place x e at there. still_by_numbers x e (h.each place x e at there) }

  -- one more step
  pub listed_push : (xs : List (Step S)) (es : List ListedEdge) (x : Step S) (e : ListedEdge) → AreListedEdges old before xs es → IsByNumbers new after x e → AreListedEdges new after (xs ++ x ∷ []) (es ++ e ∷ [])
  listed_push xs es x e h own = record {
    count = count_push xs es x e h.count;
    each = each_push xs es x e h.count (IsByNumbers old before) (IsByNumbers new after) still_by_numbers h.each own;
  }

-- ---- The edges that they are

pub edge_of_numbers : {S : Type 0} (states : List S) (cells : List (List ℕ)) (x : Step S) (e : ListedEdge) → IsByNumbers states cells x e → IsEdge states x (edge_of cells e)
edge_of_numbers states cells x e h = record { rule = h.rule; cells = ap or_none h.own_cells; next = h.next }

pub edges_of_state : {S : Type 0} (m : Behaviour S) (states : List S) (cells : List (List ℕ)) (number : ℕ) (edges : List ListedEdge) → AreEdgesOf m states cells number edges → AreEdges m states number (edges_with cells edges)
edges_of_state m states cells number edges h = record {
  state = h.state;
  at = h.at;
  listed = record {
    count = length-map edges (edge_of cells) ∙ h.listed.count;
    each = λ place x e at there.
        (let own = mapped_from (edge_of cells) edges place e there in
        subst (IsEdge states x) own.2 (edge_of_numbers states cells x own.0 (h.listed.each place x own.0 at own.1)));
  };
}

pub have_cells : {S : Type 0} (m : Behaviour S) (states : List S) (cells : List (List ℕ)) (number : ℕ) (edges : List ListedEdge) → AreEdgesOf m states cells number edges → HaveCells cells edges
have_cells m states cells number edges h place e there =
    let within = slice_get_within edges place e there in
    let many = h.listed.count in
    let x = inside (m.steps h.state) place (omega (arith, within, many)) in
    slice_get_within cells e.cells x.0.cells (h.listed.each place x.0 e x.1 there).own_cells
