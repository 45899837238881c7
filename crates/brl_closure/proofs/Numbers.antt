-- The pairs and the steps that a body's numbers name.
use Rattle.std.proofs.Common.{◌≡◌, ℕ, All, ◌<◌, List, inl, inr, length, get_or, Some, slice_get, sym, ◌∙◌, ap, subst, arith}
use Rattle.std.proofs.lemmas.Option.{slice_get_within}
use Rattle.brl_pairs.specs.Members.{HaveOneNumber}
use Rattle.brl_pairs.specs.Body.{BodyView, IsPairOf, NumberPair}
use Rattle.brl_pairs.specs.Sets.{pair_at, sets_of}
use Rattle.brl_pairs.specs.Edges.{AreEdges, IsEdge}
use Rattle.brl_pairs.specs.NumberPairs.{IsThere}
use Rattle.brl_pairs.specs.declared.edge.Edge.{Edge}
use Rattle.brl_pairs.specs.Pairs.{HasPair, swapped}
use Rattle.brl_pairs.specs.Runs.{Behaviour, IsListedAt}
use Rattle.brl_pairs.specs.declared.step.Pair.{Pair}
use Rattle.brl_pairs.specs.declared.step.Step.{Step}
use Rattle.brl_pairs.proofs.Lists.{inside, same_place}
use Rattle.brl_closure.proofs.Naming as naming
use Rattle.brl_closure.proofs.Naming.{Names, NamedAt}

-- a pair that is read is in range
pub range_read : (states : ℕ) (pairs read : List NumberPair) → read ≡ pairs → All (IsPairOf states) pairs → (k : ℕ) → k < length pairs → (q : NumberPair) → q ≡ get_or read k q → IsPairOf states q
range_read states pairs read same all k within q is = subst (IsPairOf states) (sym (is ∙ ap (λ (z : List NumberPair). get_or z k q) same)) (all k q within)

module _ {S : Type 0} where
  -- a pair of runs: the first one is ahead of the second by the lead
  abbrev pub runs : S → S → List ℕ → Pair S
  runs ahead behind lead = record { ahead = ahead; behind = behind; lead = lead }

  -- ---- Pairs

  module _ (body : BodyView S) where
    -- the pair with a number
    pub named_at : (n : ℕ) (p : Pair S) → pair_at body n ≡ Some p → NamedAt body.states body.pairs n p
    named_at n p e = naming.named_at body.states body.pairs n p e

    pub at_named : (n : ℕ) (q : NumberPair) (p : Pair S) → slice_get body.pairs n ≡ Some q → Names body.states q p → pair_at body n ≡ Some p
    at_named n q p at h = naming.at_named body.states body.pairs n q p at h

    -- these numbers name the pair with this number
    pub names_at : (n : ℕ) (q : NumberPair) (p : Pair S) → slice_get body.pairs n ≡ Some q → pair_at body n ≡ Some p → Names body.states q p
    names_at n q p at e =
        let h = named_at n p e in
        subst (λ (z : NumberPair). Names body.states z p) (same_place body.pairs n h.numbers q h.at at) h.names

    parts : (q : NumberPair) (a b : ℕ) (lead : List ℕ) → q.ahead ≡ a → q.behind ≡ b → q.lead ≡ lead → q ≡ record { ahead = a; behind = b; lead = lead }
    parts q a b lead ahead behind same = λ i. record { ahead = ahead i; behind = behind i; lead = same i }

    -- a pair of numbers that is there names a pair that is there
    pub has_pair : (a b : ℕ) (lead : List ℕ) (p : Pair S) → slice_get body.states a ≡ Some p.ahead → slice_get body.states b ≡ Some p.behind → lead ≡ p.lead → IsThere body.pairs a b lead → HasPair (sets_of body) p
    has_pair a b lead p a_at b_at same (inl h) = inl (h.0, at_named h.0 _ p h.1 (record { ahead = a_at; behind = b_at; lead = same }))
    has_pair a b lead p a_at b_at same (inr h) = inr (sym same ∙ h.0, (h.1.0, at_named h.1.0 _ (swapped p) h.1.1 (record { ahead = b_at; behind = a_at; lead = same })))

    -- and where each state has one number, the numbers of a pair that is there are there
    pub is_there : HaveOneNumber body.states → (a b : ℕ) (lead : List ℕ) (p : Pair S) → slice_get body.states a ≡ Some p.ahead → slice_get body.states b ≡ Some p.behind → lead ≡ p.lead → HasPair (sets_of body) p → IsThere body.pairs a b lead
    is_there one a b lead p a_at b_at same (inl h) =
        let n = named_at h.0 p h.1 in
        inl (h.0, n.at ∙ ap (λ (z : NumberPair). Some z) (parts n.numbers a b lead (one n.numbers.ahead a p.ahead n.names.ahead a_at) (one n.numbers.behind b p.behind n.names.behind b_at) (n.names.lead ∙ sym same)))
    is_there one a b lead p a_at b_at same (inr h) =
        let n = named_at h.1.0 (swapped p) h.1.1 in
        inr (same ∙ h.0, (h.1.0, n.at ∙ ap (λ (z : NumberPair). Some z) (parts n.numbers b a lead (one n.numbers.ahead b p.behind n.names.ahead b_at) (one n.numbers.behind a p.ahead n.names.behind a_at) (n.names.lead ∙ sym same))))

  -- ---- Steps

  -- an edge at a place has a step that is listed at that place
  pub record HasStep (states : List S) (listed : List (Step S)) (place : ℕ) (e : Edge) : Type 0 where
    pub step : Step S
    pub at : IsListedAt listed place step
    pub is_edge : IsEdge states step e

  -- and the other way round
  pub record HasEdge (states : List S) (edges : List Edge) (place : ℕ) (x : Step S) : Type 0 where
    pub edge : Edge
    pub at : slice_get edges place ≡ Some edge
    pub is_edge : IsEdge states x edge

  module _ (m : Behaviour S) (states : List S) (number : ℕ) (edges : List Edge) (h : AreEdges m states number edges) where
    pub step_of : (place : ℕ) (e : Edge) → slice_get edges place ≡ Some e → HasStep states (m.steps h.state) place e
    step_of place e at =
        let within : place < length edges = slice_get_within edges place e at in
        let x = inside (m.steps h.state) place (omega (arith, within, h.listed.count)) in
        record { step = x.0; at = x.1; is_edge = h.listed.each place x.0 e x.1 at }

    pub edge_of : (s : S) → slice_get states number ≡ Some s → (place : ℕ) (x : Step S) → IsListedAt (m.steps s) place x → HasEdge states edges place x
    edge_of s s_at place x x_at =
        let same : s ≡ h.state = same_place states number s h.state s_at h.at in
        let here : IsListedAt (m.steps h.state) place x = subst (λ (z : S). IsListedAt (m.steps z) place x) same x_at in
        let within : place < length (m.steps h.state) = slice_get_within (m.steps h.state) place x here in
        let e = inside edges place (omega (arith, within, h.listed.count)) in
        record { edge = e.0; at = e.1; is_edge = h.listed.each place x e.0 here e.1 }
