-- What is found from a split, where it is kept and where it is dropped.
use Rattle.std.proofs.Common.{◌≡◌, ℕ, List, inl, length, take, refl, sym, ◌∙◌, ap, subst, arith}
use Rattle.std.specs.Prelude.{Contains}
use Rattle.brl_pairs.specs.Runs.{Behaviour}
use Rattle.brl_pairs.specs.declared.sorted.SortedEdge.{SortedEdge}
use Rattle.brl_closure.specs.Diverging.{AreTextsOf, AreTwoPathsAt}
use Rattle.brl_closure.specs.Trail.{AddsPairs, HasTwoEndsAt}
use Rattle.brl_closure.specs.declared.search.finder.Finder.{Finder}
use Rattle.brl_closure.specs.declared.search.trail.Trail.{Trail}
use Rattle.brl_divergence.specs.Expanded.{AreExpanded, AreTwoEdges}
use Rattle.brl_divergence.specs.Found.{AreSettledAt, IsExplored, IsOfSplit}
use Rattle.brl_divergence.specs.Listed.{rules_of}
use Rattle.brl_divergence.specs.declared.expanded.Expanded.{Expanded}
use Rattle.brl_divergence.specs.declared.found.FoundSoFar.{FoundSoFar}
use Rattle.brl_divergence.proofs.Splits.{added_come, one_rule, other_rule}
use Rattle.brl_divergence.proofs.Trails.{active_same, ends_added, taken_origins, taken_pairs, walked_same}

-- the steps of two edges whose pair of rules is listed are settled
pub settled_by_list : {S : Type 0} (m : Behaviour S) (it : FoundSoFar S) (cells : List (List ℕ)) (number : ℕ) (x y : SortedEdge) (rules : ℕ × ℕ)
    → AreTwoEdges m it.trail.states cells number x y rules → Contains (rules_of it.list) rules → AreSettledAt m it number x.place y.place
settled_by_list m it cells number x y rules two there s r s_taken r_taken =
    let one : rules.0 ≡ s.rule = one_rule m it.trail.states cells number x y rules two s s_taken in
    let other : rules.1 ≡ r.rule = other_rule m it.trail.states cells number x y rules two r r_taken in
    inl (subst (Contains (rules_of it.list)) (λ i. (one i, other i)) there)

module _ {M S : Type 0} (behaviour : M → Behaviour S) (f : Finder M S) (e : Expanded) (t u v : Trail S) (number i j : ℕ) (explored : IsExplored behaviour f e t) (adds : AddsPairs (IsOfSplit number i j (length t.pairs)) t u) where
  -- where the pairs that were added are dropped, all is as before
  module _ (states : v.states ≡ u.states) (state_origins : v.state_origins.items ≡ u.state_origins.items) (pairs : v.pairs ≡ take (length t.pairs) u.pairs) (origins : v.pair_origins.items ≡ take (length t.pairs) u.pair_origins.items) where
    many : length t.pair_origins.items ≡ length t.pairs
    many = explored.ready.active.traced.pair_origins

    pub dropped_states : v.states ≡ t.states
    dropped_states = states ∙ adds.states

    pub dropped_pairs : v.pairs ≡ t.pairs
    dropped_pairs = taken_pairs (IsOfSplit number i j (length t.pairs)) t u adds v pairs

    dropped_origins : v.pair_origins.items ≡ t.pair_origins.items
    dropped_origins = taken_origins (IsOfSplit number i j (length t.pairs)) t u adds v many origins

    pub dropped_explored : IsExplored behaviour f e v
    dropped_explored =
        let so = state_origins ∙ adds.state_origins in
        record {
          ready = record {
            active = active_same t v dropped_states so dropped_pairs dropped_origins behaviour f explored.ready.active;
            expanded = subst (λ (xs : List S). AreExpanded (behaviour f.machine.now) xs e) (sym dropped_states) explored.ready.expanded;
            all = explored.ready.all ∙ ap length (sym dropped_states);
          };
          walked = λ n less.
              walked_same t v dropped_states so dropped_pairs dropped_origins (behaviour f.machine.now) n
              (explored.walked n (let same = ap length dropped_pairs in omega (arith, less, same)));
        }

-- the texts of two ends that were met diverge at the rules of the split
pub texts_diverge : {M S : Type 0} (behaviour : M → Behaviour S) (f : Finder M S) (e : Expanded) (t u : Trail S) (cells : List (List ℕ)) (number : ℕ) (x y : SortedEdge) (rules : ℕ × ℕ)
    → IsExplored behaviour f e t → AreTwoEdges (behaviour f.machine.now) t.states cells number x y rules → AddsPairs (IsOfSplit number x.place y.place (length t.pairs)) t u
    → (n : ℕ) → HasTwoEndsAt (behaviour f.machine.now) u.states u.pairs n → (left right : List ℕ) → AreTextsOf (behaviour f.machine.now) u n left right → AreTwoPathsAt (behaviour f.machine.now) rules.0 rules.1 left right
texts_diverge behaviour f e t u cells number x y rules explored two adds n ends left right texts =
    let m = behaviour f.machine.now in
    let active = explored.ready.active in (
      texts.paths,
      texts.diverge rules.0 rules.1 (length t.pairs)
          (added_come m t.states cells number x y rules two t u refl active.traced.pair_origins adds)
          (ends_added (IsOfSplit number x.place y.place (length t.pairs)) t u adds m active.no_two_ends n ends),
    )
