-- The edges of a state, by its context, are those of its steps.
use Rattle.std.proofs.Common.{◌≡◌, ◌∙◌, ℕ, zero, suc, ◌+◌, ◌<◌, ◌≤◌, Bool, true, false, not, List, [], ◌∷◌, ◌++◌, Option, None, Some, ap, append-nil, arith, cond, filter, flat_map, get_or, length, map, refl, slice_get, subst, sym}
use Rattle.std.proofs.lemmas.Grind.{flat_map-append}
use Rattle.std.proofs.lemmas.List.{take_all}
use Rattle.std.proofs.lemmas.Option.{get_or_from_slice_get, slice_get_within}
use Rattle.std.specs.List.{list_any, range_with_len}
use Rattle.brl_contexts.specs.Changes.{AreChangesBelow, IsChanged, before, change_of, own_step}
use Rattle.brl_contexts.specs.Contexts.{IsWithinForms, changed, edge_in, edges_in, no_edge}
use Rattle.brl_contexts.specs.Forms.{AreForms}
use Rattle.brl_contexts.specs.declared.contexts.ByContext.{ByContext}
use Rattle.brl_contexts.specs.declared.forms.Forms.{Forms}
use Rattle.brl_contexts.specs.declared.named.Named.{Named}
use Rattle.brl_contexts.proofs.Found.{counting_on}
use Rattle.brl_contexts.proofs.Own.{firsts_more}
use Rattle.brl_contexts.proofs.PushChanges.{many_reads, opens_form, reads_of_form}
use Rattle.brl_pairs.specs.Based.{KeepsSharing, Sharing, firsts, is_same, step_past, with_past}
use Rattle.brl_pairs.specs.Listed.{AreListedEdges, IsByNumbers}
use Rattle.brl_pairs.specs.Runs.{Behaviour}
use Rattle.brl_pairs.specs.declared.edge.ListedEdge.{ListedEdge}
use Rattle.brl_pairs.specs.declared.step.Step.{Step}
use Rattle.brl_pairs.proofs.ListedLaws.{listed_push, none_listed}
use Rattle.brl_pairs.proofs.Lists.{inside}

module _ {S : Type 0} (eq : S → S → Bool) (same : (a b : S) → eq a b ≡ true → a ≡ b) {D : Type 0} (m : Behaviour S) (h : Sharing S D) (keeps : KeepsSharing eq m h) (s base : S) (is_base : h.base s ≡ Some base)
    (named : Named S D) (forms : Forms) (are : AreForms h named (m.steps base) forms) (own : ByContext) (opens : own.opens.items ≡ map (h.opens s) forms.gates.items)
    (changes : AreChangesBelow eq h named s (m.steps base) (length forms.edges.items) own.changes.items) where
  abbrev steps : List (Step S)
  steps = m.steps base

  -- steps and their edges, with what the state has of one form more
  with_form : (k : ℕ) (x : Step S) (e : ListedEdge) (o : Option (Option ℕ)) (xs : List (Step S)) (es : List ListedEdge) → IsByNumbers named.states named.cells x e
      → IsChanged h s named x o (own_step h s steps eq k x) → AreListedEdges named.states named.cells xs es → AreListedEdges named.states named.cells (xs ++ own_step h s steps eq k x) (es ++ changed e o)
  with_form k x e None xs es numbers is listed =
      subst (λ l. AreListedEdges named.states named.cells (xs ++ l) (es ++ e ∷ [])) (sym is.0)
      (listed_push named.states named.states (λ n t at. at) named.cells named.cells (λ n c at. at) xs es x e listed numbers)
  with_form k x e (Some None) xs es numbers is listed =
      subst (λ l. AreListedEdges named.states named.cells (xs ++ l) (es ++ [])) (sym is)
      (subst (λ l. AreListedEdges named.states named.cells l (es ++ [])) (sym (append-nil xs)) (subst (AreListedEdges named.states named.cells xs) (sym (append-nil es)) listed))
  with_form k x e (Some (Some next)) xs es numbers is listed =
      subst (λ l. AreListedEdges named.states named.cells (xs ++ l) (es ++ record e { next = next } ∷ [])) (sym is.2)
      (listed_push named.states named.states (λ n t at. at) named.cells named.cells (λ n c at. at) xs es (record x { next = is.0 }) (record e { next = next }) listed
      (record { rule = numbers.rule; own_cells = numbers.own_cells; next = is.1 }))

  -- the same with a form whose gate may be closed
  with_gate : (k : ℕ) (x : Step S) (e : ListedEdge) (b : Bool) (xs : List (Step S)) (es : List ListedEdge) → IsByNumbers named.states named.cells x e → h.opens s (h.gate x.reads) ≡ b
      → (h.opens s (h.gate x.reads) ≡ true → IsChanged h s named x (change_of own.changes.items k) (own_step h s steps eq k x)) → AreListedEdges named.states named.cells xs es
      → AreListedEdges named.states named.cells (xs ++ own_step h s steps eq k x) (es ++ cond b (changed e (change_of own.changes.items k)) [])
  with_gate k x e true xs es numbers is right listed = with_form k x e (change_of own.changes.items k) xs es numbers (right is) listed
  with_gate k x e false xs es numbers is right listed =
      let none : own_step h s steps eq k x ≡ [] = ap (λ b. filter (λ z. not (list_any (is_same eq z) (before h s steps k))) (cond b (with_past h x (h.past s x.reads x.next)) [])) is in
      subst (λ l. AreListedEdges named.states named.cells (xs ++ l) (es ++ [])) (sym none)
      (subst (λ l. AreListedEdges named.states named.cells l (es ++ [])) (sym (append-nil xs)) (subst (AreListedEdges named.states named.cells xs) (sym (append-nil es)) listed))

  place_of : (k : ℕ) → k < length forms.edges.items → (place : ℕ) × (slice_get forms.gate_of.items k ≡ Some place)
  place_of k less = (let count = are.gates.count in let many = many_reads h named steps forms are in inside forms.gate_of.items k (omega (arith, count, many, less)))

  -- what the state has of a form, by numbers
  edge_is : (k : ℕ) (x : Step S) (e : ListedEdge) → slice_get steps k ≡ Some x → slice_get forms.edges.items k ≡ Some e → edge_in forms own k ≡ cond (h.opens s (h.gate x.reads)) (changed e (change_of own.changes.items k)) []
  edge_is k x e x_at e_at =
      let place = place_of k (slice_get_within forms.edges.items k e e_at) in
      let through = opens_form h named steps forms are s own.opens.items opens k place.0 x.reads (reads_of_form h named steps forms are k x x_at) place.1 in
      let gate : get_or own.opens.items (get_or forms.gate_of.items k 0) false ≡ h.opens s (h.gate x.reads) =
      ap (λ (p : ℕ). get_or own.opens.items p false) (get_or_from_slice_get forms.gate_of.items k place.0 0 place.1) ∙ get_or_from_slice_get own.opens.items place.0 (h.opens s (h.gate x.reads)) false through in
      ap (λ b. cond b (changed (get_or forms.edges.items k no_edge) (change_of own.changes.items k)) []) gate
      ∙ ap (λ (d : ListedEdge). cond (h.opens s (h.gate x.reads)) (changed d (change_of own.changes.items k)) []) (get_or_from_slice_get forms.edges.items k e no_edge e_at)

  first_edges : (n : ℕ) → n ≤ length steps → AreListedEdges named.states named.cells (firsts eq (before h s steps n)) (flat_map (edge_in forms own) (range_with_len 0 n))
  first_edges zero within = none_listed named.states named.cells
  first_edges (suc n) within =
      let count = are.edges.count in
      let x = inside steps n (omega (arith, within)) in
      let e = inside forms.edges.items n (omega (arith, within, count)) in
      let more : suc n ≡ n + 1 = omega arith in
      let zero_on : 0 + n ≡ n = omega arith in
      let left : firsts eq (before h s steps (suc n)) ≡ firsts eq (before h s steps n) ++ own_step h s steps eq n x.0 =
      ap (λ (k : ℕ). firsts eq (before h s steps k)) more ∙ firsts_more eq same h s steps n x.0 x.1 in
      let right : flat_map (edge_in forms own) (range_with_len 0 (suc n)) ≡ flat_map (edge_in forms own) (range_with_len 0 n) ++ cond (h.opens s (h.gate x.0.reads)) (changed e.0 (change_of own.changes.items n)) [] =
      ap (λ (k : ℕ). flat_map (edge_in forms own) (range_with_len 0 k)) more ∙ ap (flat_map (edge_in forms own)) (counting_on 0 n ∙ ap (λ (k : ℕ). range_with_len 0 n ++ k ∷ []) zero_on)
      ∙ flat_map-append (edge_in forms own) (range_with_len 0 n) (n ∷ []) ∙ ap (λ l. flat_map (edge_in forms own) (range_with_len 0 n) ++ l) (append-nil (edge_in forms own n) ∙ edge_is n x.0 e.0 x.1 e.1) in
      subst (λ l. AreListedEdges named.states named.cells l (flat_map (edge_in forms own) (range_with_len 0 (suc n)))) (sym left)
      (subst (AreListedEdges named.states named.cells (firsts eq (before h s steps n) ++ own_step h s steps eq n x.0)) (sym right)
      (with_gate n x.0 e.0 (h.opens s (h.gate x.0.reads)) (firsts eq (before h s steps n)) (flat_map (edge_in forms own) (range_with_len 0 n)) (are.edges.each n x.0 e.0 x.1 e.1) refl
      (changes.each n x.0 x.1 (slice_get_within forms.edges.items n e.0 e.1)) (first_edges n (omega (arith, within)))))

  pub are_edges : AreListedEdges named.states named.cells (m.steps s) (edges_in forms own)
  are_edges =
      let all : firsts eq (before h s steps (length steps)) ≡ m.steps s = ap (λ l. firsts eq (flat_map (step_past h s) l)) (take_all (length steps) steps (omega arith)) ∙ sym (keeps.steps s base is_base) in
      subst (λ l. AreListedEdges named.states named.cells l (edges_in forms own)) all
      (subst (λ (n : ℕ). AreListedEdges named.states named.cells (firsts eq (before h s steps (length steps))) (flat_map (edge_in forms own) (range_with_len 0 n))) (sym are.edges.count) (first_edges (length steps) (omega arith)))

  pub is_within : IsWithinForms forms own
  is_within = record {
    gates = are.gates.count ∙ many_reads h named steps forms are;
    opens = λ form place at.
        (let within = slice_get_within forms.gate_of.items form place at in
        let count = are.gates.count in
        let chars = inside forms.reads.items form (omega (arith, within, count)) in
        slice_get_within own.opens.items place _ (opens_form h named steps forms are s own.opens.items opens form place chars.0 chars.1 at));
    ascending = changes.ascending;
    below = changes.below;
  }
