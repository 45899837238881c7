-- The steps of a state by numbers, put together from those of its parts.
use Rattle.std.proofs.Common.{◌≡◌, ℕ, zero, suc, ◌+◌, ◌<◌, ◌≤◌, List, [], ◌∷◌, ◌++◌, length, map, take, Some, slice_get, get_or, nat_eq, sym, ◌∙◌, ap, subst, add-one, append-nil, arith}
use Rattle.std.specs.Prelude.{filter}
use Rattle.std.specs.Global.{Vec}
use Rattle.std.specs.List.{AllZip, flat_map}
use Rattle.std.proofs.lemmas.Option.{get_or_from_slice_get, slice_get-get_or, slice_get_within}
use Rattle.std.specs.List.Sorted.{IsNonDecreasingBy, IsStableByKey}
use Rattle.std.specs.Ordering.{nat_cmp}
use Rattle.std.proofs.Math.Seq.{take-suc}
use Rattle.std.proofs.lemmas.Grind.{flat_map-append}
use Rattle.brl_pairs.specs.Listed.{AreListedEdges, IsByNumbers}
use Rattle.brl_pairs.specs.Parted.{ArePartsOf}
use Rattle.brl_pairs.specs.Runs.{IsInOrder}
use Rattle.brl_pairs.specs.declared.edge.ListedEdge.{ListedEdge}
use Rattle.brl_pairs.specs.declared.step.Step.{Step}
use Rattle.brl_pairs.proofs.Along.{along-ascending, along-at, along-each, along-filter, along-flat_map, along-length, ascends, stable_number, with_number}
use Rattle.brl_pairs.specs.Grouped.{grouped}
use Rattle.brl_pairs.proofs.ByNumber.{grouped_ascends, grouped_number}
use Rattle.brl_parts.specs.Parts.{AreByRule, PartsView, edges_of, or_no_edges}

-- the rules of a state's edges ascend
rises : (edges : List ListedEdge) → IsNonDecreasingBy (λ (e : ListedEdge). e.rule) edges → (i j : ℕ) (x y : ListedEdge) → i ≤ j → slice_get edges i ≡ Some x → slice_get edges j ≡ Some y → x.rule ≤ y.rule
rises edges h i j x y le at there =
    let within = slice_get_within edges j y there in
    let low = ap (λ (e : ListedEdge). e.rule) (get_or_from_slice_get edges i x x at) in
    let high = ap (λ (e : ListedEdge). e.rule) (get_or_from_slice_get edges j y x there) in
    let up = h i j x le within in
    omega (arith, low, high, up)

module _ {S P : Type 0} (steps_of : P → List (Step S)) (states : List S) (cells : List (List ℕ)) (kept : PartsView P) where
  -- the number is that of the part, whose edges are those of its steps
  pub record IsNumberOf (part : P) (number : ℕ) : Type 0 where
    pub edges : AreListedEdges states cells (steps_of part) (edges_of kept number)

  pub merged_edges : (listed : List (Step S)) (parts : List P) (numbers : List ℕ) (edges : List ListedEdge) → IsInOrder listed → ArePartsOf steps_of listed parts → AllZip IsNumberOf parts numbers
      → AreByRule (flat_map (edges_of kept) numbers) edges → AreListedEdges states cells listed edges
  merged_edges listed parts numbers edges in_order parted all by_rule =
      let R : Step S → ListedEdge → Type 0 = IsByNumbers states cells in
      let joined : AllZip R (flat_map steps_of parts) (flat_map (edges_of kept) numbers) =
      along-flat_map R IsNumberOf steps_of (edges_of kept) (λ part number own. along-each R (steps_of part) (edges_of kept number) own.edges.count own.edges.each) parts numbers all in
      let each : (k : ℕ) → AllZip R (with_number (λ (x : Step S). x.rule) k listed) (with_number (λ (e : ListedEdge). e.rule) k edges) = λ k.
      subst (λ (l : List (Step S)). AllZip R l (with_number (λ (e : ListedEdge). e.rule) k edges)) (sym (parted k))
      (subst (λ (l : List ListedEdge). AllZip R (with_number (λ (x : Step S). x.rule) k (flat_map steps_of parts)) l) (sym (by_rule.each k))
      (along-filter R (λ (x : Step S). nat_eq k x.rule) (λ (e : ListedEdge). nat_eq k e.rule) (λ x e is. ap (nat_eq k) is.rule) (flat_map steps_of parts) (flat_map (edges_of kept) numbers) joined)) in
      let whole : AllZip R listed edges = along-ascending R (λ (x : Step S). x.rule) (λ (e : ListedEdge). e.rule) listed edges
      (ascends (λ (x : Step S). x.rule) listed (λ i j x y before at there. (in_order i j x y before at there).ascend))
      (ascends (λ (e : ListedEdge). e.rule) edges (λ i j x y before at there. rises edges by_rule.ascending i j x y (omega (arith, before)) at there))
      each in
      record { count = along-length R listed edges whole; each = along-at R listed edges whole }

-- ---- Joining and sorting

-- the edges of one more part
pub joined_more : {P : Type 0} (kept : PartsView P) (numbers : List ℕ) (k : ℕ) (edges : Vec ListedEdge) → k < length numbers → slice_get kept.edges (get_or numbers k 0) ≡ Some edges
    → flat_map (edges_of kept) (take k numbers) ++ edges.items ≡ flat_map (edges_of kept) (take (k + 1) numbers)
joined_more kept numbers k edges within at =
    let n = get_or numbers k 0 in
    ap (λ l. flat_map (edges_of kept) (take k numbers) ++ l) (sym (ap or_no_edges at) ∙ sym (append-nil (edges_of kept n)))
    ∙ sym (flat_map-append (edges_of kept) (take k numbers) (n ∷ []))
    ∙ ap (flat_map (edges_of kept)) (sym (take-suc numbers k 0 within) ∙ ap (λ m. take m numbers) (sym (add-one k)))

-- a stable sort by rules leaves the edges of one rule as they are
pub one_rule : (edges listed : List ListedEdge) → IsStableByKey (λ (e : ListedEdge). e.rule) nat_cmp edges listed → (rule : ℕ) → filter (λ (e : ListedEdge). nat_eq rule e.rule) listed ≡ filter (λ (e : ListedEdge). nat_eq rule e.rule) edges
one_rule edges listed stable rule = stable_number (λ (e : ListedEdge). e.rule) edges listed stable (record { rule = rule; cells = 0; next = 0 })

-- edges by the numbers of their rules
pub grouped_by_rule : (edges listed : List ListedEdge) (count : ℕ) → ((k : ℕ) (e : ListedEdge) → slice_get edges k ≡ Some e → e.rule < count) → listed ≡ grouped (λ (e : ListedEdge). e.rule) count edges → AreByRule edges listed
grouped_by_rule edges listed count below is =
    let f : ListedEdge → ℕ = λ (e : ListedEdge). e.rule in
    subst (AreByRule edges) (sym is) (record {
      ascending = λ i j d le within.
          grouped_ascends f count edges i j (get_or (grouped f count edges) i d) (get_or (grouped f count edges) j d) le
          (slice_get-get_or (grouped f count edges) i d (omega (arith, le, within))) (slice_get-get_or (grouped f count edges) j d within);
      each = λ rule. grouped_number f count edges below rule;
    })

-- each edge has its rule among the rules of all
pub rule_at : (edges : List ListedEdge) (k : ℕ) (e : ListedEdge) → slice_get edges k ≡ Some e → slice_get (map (λ (x : ListedEdge). x.rule) edges) k ≡ Some e.rule
rule_at [] k e at = cc
rule_at (x ∷ edges) zero e at = (let same : x ≡ e = cc in ap (λ (z : ListedEdge). Some z.rule) same)
rule_at (x ∷ edges) (suc k) e at = rule_at edges k e at
