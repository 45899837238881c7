-- Where nothing is left to do, the sets are closed.
use Rattle.std.proofs.Common.{◌≡◌, ℕ, ◌<◌, IsTrue, List, [], ◌∷◌, ◌++◌, inl, inr, length, Some, slice_get, refl, sym, ◌∙◌, ap, subst, arith, append-nil}
use Rattle.std.proofs.lemmas.Option.{slice_get_within}
use Rattle.brl_pairs.specs.Sets.{pair_at, sets_of}
use Rattle.brl_pairs.specs.Body.{NumberPair, listed}
use Rattle.brl_pairs.specs.Pairs.{Splits, Follows, HasPair, IsClosed, swapped}
use Rattle.brl_pairs.specs.Runs.{Behaviour, IsListed, IsListedAt}
use Rattle.brl_pairs.specs.declared.step.Pair.{Pair}
use Rattle.brl_pairs.specs.declared.step.Step.{Step}
use Rattle.brl_pairs.specs.Edges.{AreEdges, IsEdge}
use Rattle.brl_pairs.specs.NumberPairs.{IsFollowed, IsThere}
use Rattle.brl_closure.specs.Edges.{IsWalked}
use Rattle.brl_closure.specs.Trail.{HasTwoEnds}
use Rattle.brl_closure.specs.Worklist.{IsFinished}
use Rattle.brl_pairs.specs.declared.edge.Edge.{Edge}
use Rattle.brl_closure.specs.declared.search.finder.Finder.{Finder}
use Rattle.brl_closure.specs.declared.search.trail.Trail.{Trail}
use Rattle.brl_closure.proofs.Naming.{named_at, at_named}
use Rattle.brl_pairs.proofs.Lists.{inside, same_place, either_way}

-- a body whose states have edges, whose pairs are walked, and none of whose pairs has two ends
module _ {S : Type 0} (m : Behaviour S) (t : Trail S) where
  -- the edge of a listed step
  record HasEdge (edges : List Edge) (place : ℕ) (x : Step S) : Type 0 where
    edge : Edge
    at : slice_get edges place ≡ Some edge
    is_edge : IsEdge t.states x edge

  edge_of : (number : ℕ) (edges : List Edge) → AreEdges m t.states number edges → (s : S) → slice_get t.states number ≡ Some s → (place : ℕ) (x : Step S) → IsListedAt (m.steps s) place x → HasEdge edges place x
  edge_of number edges h s s_at place x x_at =
      let same : s ≡ h.state = same_place t.states number s h.state s_at h.at in
      let here : slice_get (m.steps h.state) place ≡ Some x = subst (λ (z : S). slice_get (m.steps z) place ≡ Some x) same x_at in
      let within : place < length (m.steps h.state) = slice_get_within (m.steps h.state) place x here in
      let e = inside edges place (omega (arith, within, h.listed.count)) in
      record { edge = e.0; at = e.1; is_edge = h.listed.each place x e.0 here e.1 }

  -- a pair of numbers that is there names a pair that is there
  has_pair : (a b : ℕ) (lead : List ℕ) (p : Pair S) → slice_get t.states a ≡ Some p.ahead → slice_get t.states b ≡ Some p.behind → lead ≡ p.lead → IsThere t.pairs a b lead → HasPair (sets_of (listed t.states t.pairs)) p
  has_pair a b lead p a_at b_at same (inl h) = inl (h.0, at_named t.states t.pairs h.0 _ p h.1 (record { ahead = a_at; behind = b_at; lead = same }))
  has_pair a b lead p a_at b_at same (inr h) = inr (sym same ∙ h.0, (h.1.0, at_named t.states t.pairs h.1.0 _ (swapped p) h.1.1 (record { ahead = b_at; behind = a_at; lead = same })))

  pub steps_there : (k : ℕ) (edges : List Edge) → AreEdges m t.states k edges → (s : S) (x : Step S) → slice_get t.states k ≡ Some s → IsListed (m.steps s) x → (n : ℕ) × (slice_get t.states n ≡ Some x.next)
  steps_there k edges are_edges s x at l =
      let edge = edge_of k edges are_edges s at l.0 x l.1 in
      (edge.edge.next, edge.is_edge.next)

  -- ---- The split of an earlier step and a later one

  module _ (x y : Step S) (e f : Edge) (x_is : IsEdge t.states x e) (y_is : IsEdge t.states y f) (p : Pair S) (h : IsFollowed t.pairs e.next e.cells f) where
    -- the cells of the earlier step are longer
    pub earlier_longer : p.ahead ≡ x.next → p.behind ≡ y.next → x.cells ≡ y.cells ++ p.lead → HasPair (sets_of (listed t.states t.pairs)) p
    earlier_longer ahead behind lead =
        has_pair e.next f.next p.lead p (x_is.next ∙ ap (λ (z : S). Some z) (sym ahead)) (y_is.next ∙ ap (λ (z : S). Some z) (sym behind)) refl
        (h.still p.lead (x_is.cells ∙ lead ∙ ap (λ (l : List ℕ). l ++ p.lead) (sym y_is.cells)))

    longer_by : (lead : List ℕ) → lead ≡ p.lead → slice_get t.states f.next ≡ Some p.ahead → slice_get t.states e.next ≡ Some p.behind → f.cells ≡ e.cells ++ lead → HasPair (sets_of (listed t.states t.pairs)) p
    longer_by [] same ahead behind cells =
        elim (h.still [] (sym (append-nil e.cells) ∙ sym cells ∙ sym (append-nil f.cells))) [
          | inl there ↦ has_pair f.next e.next [] p ahead behind same (inr (refl, there))
          | inr there ↦ has_pair f.next e.next [] p ahead behind same (inl there.1)
        ]
    longer_by (c ∷ lead) same ahead behind cells = has_pair f.next e.next (c ∷ lead) p ahead behind same (h.swapped (c ∷ lead) (λ none. cc) cells)

    -- the cells of the later step are longer
    pub later_longer : p.ahead ≡ y.next → p.behind ≡ x.next → y.cells ≡ x.cells ++ p.lead → HasPair (sets_of (listed t.states t.pairs)) p
    later_longer ahead behind lead =
        longer_by p.lead refl (y_is.next ∙ ap (λ (z : S). Some z) (sym ahead)) (x_is.next ∙ ap (λ (z : S). Some z) (sym behind))
        (y_is.cells ∙ lead ∙ ap (λ (l : List ℕ). l ++ p.lead) (sym x_is.cells))

  -- ---- Walked pairs

  pub moves_there : (p q : Pair S) (n : ℕ) → pair_at (listed t.states t.pairs) n ≡ Some p → IsWalked m t.states t.pairs n → Follows m p q → HasPair (sets_of (listed t.states t.pairs)) q
  moves_there p q n is w move =
      let h = named_at t.states t.pairs n p is in
      let names = h.names in
      let same : w.pair ≡ h.numbers = same_place t.pairs n w.pair h.numbers w.at h.at in
      let behind_at : slice_get t.states w.pair.behind ≡ Some p.behind = ap (λ (z : NumberPair). slice_get t.states z.behind) same ∙ names.behind in
      let ahead_at : slice_get t.states w.pair.ahead ≡ Some p.ahead = ap (λ (z : NumberPair). slice_get t.states z.ahead) same ∙ names.ahead in
      let lead : w.pair.lead ≡ p.lead = ap (λ (z : NumberPair). z.lead) same ∙ names.lead in
      let x = edge_of w.pair.behind w.edges w.are_edges p.behind behind_at move.listed.0 move.step move.listed.1 in
      let followed = w.moves move.listed.0 x.edge x.at in
      elim move.moved [
        | inl h ↦ has_pair w.pair.ahead x.edge.next q.lead q (ahead_at ∙ ap (λ (z : S). Some z) (sym h.ahead)) (x.is_edge.next ∙ ap (λ (z : S). Some z) (sym h.behind)) refl
            (followed.still q.lead (lead ∙ h.lead ∙ ap (λ (l : List ℕ). l ++ q.lead) (sym x.is_edge.cells)))
        | inr h ↦ has_pair x.edge.next w.pair.ahead q.lead q (x.is_edge.next ∙ ap (λ (z : S). Some z) (sym h.ahead)) (ahead_at ∙ ap (λ (z : S). Some z) (sym h.behind)) refl
            (followed.swapped q.lead h.some (x.is_edge.cells ∙ h.lead ∙ ap (λ (l : List ℕ). l ++ q.lead) (sym lead)))
      ]

  pub ends_apart : ((n : ℕ) (r : NumberPair) → slice_get t.pairs n ≡ Some r → HasTwoEnds m t.states r → ⊥)
      → (p : Pair S) (n : ℕ) → pair_at (listed t.states t.pairs) n ≡ Some p → p.lead ≡ [] → IsTrue (m.ends p.ahead) → IsTrue (m.ends p.behind) → ⊥
  ends_apart no_two_ends p n is no_lead ahead behind =
      let h = named_at t.states t.pairs n p is in
      no_two_ends n h.numbers h.at (record {
        no_lead = h.names.lead ∙ no_lead;
        ahead = p.ahead;
        behind = p.behind;
        ahead_at = h.names.ahead;
        behind_at = h.names.behind;
        ahead_ends = ahead;
        behind_ends = behind;
      })

module _ {M S : Type 0} (behaviour : M → Behaviour S) (f : Finder M S) (t : Trail S) (done : IsFinished behaviour f t) where
  splits_there : (s : S) (p : Pair S) (k : ℕ) → slice_get t.states k ≡ Some s → Splits ((behaviour f.machine.now).steps s) p → HasPair (sets_of (listed t.states t.pairs)) p
  splits_there s p k at split =
      let m = behaviour f.machine.now in
      let e = done.states k (slice_get_within t.states k s at) in
      let x = edge_of m t k e.edges e.are_edges s at split.i split.longer split.longer_listed in
      let y = edge_of m t k e.edges e.are_edges s at split.j split.shorter split.shorter_listed in
      elim (either_way split.i split.j split.differ) [
        | inl before ↦ earlier_longer m t split.longer split.shorter x.edge y.edge x.is_edge y.is_edge p (e.splits split.i split.j x.edge y.edge before x.at y.at) split.ahead split.behind split.lead
        | inr after ↦ later_longer m t split.shorter split.longer y.edge x.edge y.is_edge x.is_edge p (e.splits split.j split.i y.edge x.edge after y.at x.at) split.ahead split.behind split.lead
      ]

  pub finished_closed : IsClosed (behaviour f.machine.now) (sets_of (listed t.states t.pairs))
  finished_closed =
      let m = behaviour f.machine.now in
      record {
        start = (0, done.active.traced.start);
        steps = λ s x has l. (let e = done.states has.0 (slice_get_within t.states has.0 s has.1) in steps_there m t has.0 e.edges e.are_edges s x has.1 l);
        splits = λ s p has split. splits_there s p has.0 has.1 split;
        moves = λ p q has move. (let h = named_at t.states t.pairs has.0 p has.1 in moves_there m t p q has.0 has.1 (done.pairs has.0 (slice_get_within t.pairs has.0 h.numbers h.at)) move);
        ends = λ p has no_lead ahead behind. ends_apart m t done.active.no_two_ends p has.0 has.1 no_lead ahead behind;
      }
