-- Steps that are settled stay settled, and where all are, the sets are closed but for the listed
-- pairs of rules.
use Rattle.std.proofs.Common.{◌≡◌, ℕ, ◌<◌, ◌≤◌, ◌⊎◌, List, inl, inr, length, Some, slice_get, refl, sym, ◌∙◌, ap, subst, arith}
use Rattle.std.proofs.lemmas.Option.{slice_get_within}
use Rattle.brl_pairs.specs.Body.{listed}
use Rattle.brl_pairs.specs.Divergence.{HaveRules, IsClosedBut}
use Rattle.brl_pairs.specs.Edges.{AreEdges}
use Rattle.brl_pairs.specs.Pairs.{HasPair, Splits}
use Rattle.brl_pairs.specs.Runs.{Behaviour}
use Rattle.brl_pairs.specs.Sets.{sets_of}
use Rattle.brl_pairs.specs.declared.edge.Edge.{Edge}
use Rattle.brl_pairs.specs.declared.step.Pair.{Pair}
use Rattle.brl_pairs.specs.declared.step.Step.{Step}
use Rattle.brl_pairs.proofs.Lists.{either_way, inside}
use Rattle.brl_parts.specs.Parts.{AreKeptParts, PartsView, no_parts}
use Rattle.brl_closure.specs.Trail.{TakesStep}
use Rattle.brl_closure.specs.declared.search.finder.Finder.{Finder}
use Rattle.brl_closure.proofs.Closed.{earlier_longer, ends_apart, later_longer, moves_there, steps_there}
use Rattle.brl_closure.proofs.Growing.{stays_refl, stays_trans}
use Rattle.brl_closure.proofs.KnownLists.{none_known}
use Rattle.brl_closure.proofs.Naming.{named_at}
use Rattle.brl_divergence.specs.Found.{AreSettled, AreSettledAt, IsSettledState, IsSound, Keeps}
use Rattle.brl_divergence.specs.Listed.{rules_of}
use Rattle.brl_divergence.specs.Working.{IsDone, IsExpanding, IsSettling, IsWorking}
use Rattle.brl_divergence.specs.declared.expanded.Expanded.{Expanded}
use Rattle.brl_divergence.specs.declared.found.FoundSoFar.{FoundSoFar}
use Rattle.brl_divergence.proofs.Rules.{has_listed, has_listed_back}
use Rattle.brl_divergence.proofs.Splits.{followed_on}
use Rattle.brl_divergence.proofs.Steps.{rules_there}

module _ {S : Type 0} where
  pub keeps_refl : (f : FoundSoFar S) → Keeps f f
  keeps_refl f = record { states = refl; pairs = stays_refl f.trail.pairs; rules = λ rules h. h }

  pub keeps_trans : (f g h : FoundSoFar S) → Keeps f g → Keeps g h → Keeps f h
  keeps_trans f g h a b = record {
    states = b.states ∙ a.states;
    pairs = stays_trans f.trail.pairs g.trail.pairs h.trail.pairs a.pairs b.pairs;
    rules = λ rules there. b.rules rules (a.rules rules there);
  }

  module _ (f g : FoundSoFar S) (keeps : Keeps f g) where
    pub settled_more : (x y : Step S) → AreSettled f x y → AreSettled g x y
    settled_more x y (inl h) = inl (keeps.rules (x.rule, y.rule) h)
    settled_more x y (inr h) = inr (followed_on f.trail g.trail keeps.states keeps.pairs x y h)

    pub settled_at_more : (m : Behaviour S) (number i j : ℕ) → AreSettledAt m f number i j → AreSettledAt m g number i j
    settled_at_more m number i j h x y x_taken y_taken =
        settled_more x y (h x y (subst (λ (xs : List S). TakesStep m xs number i x) keeps.states x_taken) (subst (λ (xs : List S). TakesStep m xs number j y) keeps.states y_taken))

    pub settled_state_more : (m : Behaviour S) (number : ℕ) → IsSettledState m f number → IsSettledState m g number
    settled_state_more m number h i j less = settled_at_more m number i j (h i j less)

-- ---- Where all is done

module _ {M S : Type 0} (behaviour : M → Behaviour S) (f : Finder M S) (e : Expanded) (it : FoundSoFar S) (done : IsDone behaviour f e it) where
  -- the edges of a state
  edges_at : (k : ℕ) → k < length it.trail.states → (edges : List Edge) × AreEdges (behaviour f.machine.now) it.trail.states k edges
  edges_at k less =
      let ready = done.sound.explored.ready in
      let sorted = inside e.edges.items k (omega (arith, less, ready.all)) in
      let rules = rules_there (behaviour f.machine.now) it.trail.states e ready.expanded k (omega (arith, less, ready.all)) in
      let steps = ready.expanded.each k sorted.0 rules.0 sorted.1 rules.1 in
      (steps.edges, steps.are_edges)

  splits_listed : (s : S) (p : Pair S) (k : ℕ) → slice_get it.trail.states k ≡ Some s → (h : Splits ((behaviour f.machine.now).steps s) p)
      → HaveRules (rules_of it.list) h.longer h.shorter ⊎ HasPair (sets_of (listed it.trail.states it.trail.pairs)) p
  splits_listed s p k at h =
      let m = behaviour f.machine.now in
      let t = it.trail in
      let less = slice_get_within t.states k s at in
      let longer : TakesStep m t.states k h.i h.longer = record { state = s; at = at; listed = h.longer_listed } in
      let shorter : TakesStep m t.states k h.j h.shorter = record { state = s; at = at; listed = h.shorter_listed } in
      elim (either_way h.i h.j h.differ) [
        | inl before ↦ elim (done.states k less h.i h.j before h.longer h.shorter longer shorter) [
          | inl there ↦ inl (has_listed (rules_of it.list) h.longer.rule h.shorter.rule there)
          | inr by ↦ inr (earlier_longer m t h.longer h.shorter by.one by.other by.one_is by.other_is p by.followed h.ahead h.behind h.lead)
        ]
        | inr after ↦ elim (done.states k less h.j h.i after h.shorter h.longer shorter longer) [
          | inl there ↦ inl (has_listed_back (rules_of it.list) h.shorter.rule h.longer.rule there)
          | inr by ↦ inr (later_longer m t h.shorter h.longer by.one by.other by.one_is by.other_is p by.followed h.ahead h.behind h.lead)
        ]
      ]

  pub done_closed : IsClosedBut (behaviour f.machine.now) (rules_of it.list) (sets_of (listed it.trail.states it.trail.pairs))
  done_closed =
      let m = behaviour f.machine.now in
      let t = it.trail in
      let active = done.sound.explored.ready.active in
      record {
        start = (0, active.traced.start);
        steps = λ s x has l. (let edges = edges_at has.0 (slice_get_within t.states has.0 s has.1) in steps_there m t has.0 edges.0 edges.1 s x has.1 l);
        splits = λ s p has h. splits_listed s p has.0 has.1 h;
        moves = λ p q has move. (let h = named_at t.states t.pairs has.0 p has.1 in moves_there m t p q has.0 has.1 (done.sound.explored.walked has.0 (slice_get_within t.pairs has.0 h.numbers h.at)) move);
        ends = λ p has no_lead ahead behind. ends_apart m t active.no_two_ends p has.0 has.1 no_lead ahead behind;
      }

-- ---- Steps of a listing

module _ {M S P : Type 0} (behaviour : M → Behaviour S) (steps_of : M → P → List (Step S)) (f : Finder M S) (e : Expanded) (parts : PartsView P) (it : FoundSoFar S) where
  -- where all states are expanded and no pair is found yet, nothing is left to be walked
  pub sound_from_expanding : IsExpanding behaviour steps_of f e parts it → length it.trail.states ≤ length e.edges.items → IsSound behaviour f e it
  sound_from_expanding h all = record {
    explored = record {
      ready = record { active = h.active; expanded = h.expanded; all = omega (arith, h.there, all) };
      walked = λ n less. absurd (let none : length it.trail.pairs ≡ 0 = ap length h.no_pairs in omega (arith, less, none));
    };
    listed = h.listed;
    few = h.few;
    known = none_known (behaviour f.machine.now) it.trail.states it.known h.no_known;
  }

  -- so the splits of states can be settled
  pub settling_of : (settled : ℕ) → IsWorking behaviour steps_of f e parts it settled → length it.trail.states ≤ length e.edges.items → IsSettling behaviour f e it settled
  settling_of settled (inl h) all = record {
    sound = sound_from_expanding h.0 all;
    there = let none : settled ≡ 0 = h.1 in omega (arith, none);
    states = λ k less. absurd (let none : settled ≡ 0 = h.1 in omega (arith, less, none));
  }
  settling_of settled (inr h) all = h

  -- as long as a state isn't expanded, none is settled
  pub expanding_of : (settled : ℕ) → IsWorking behaviour steps_of f e parts it settled → length e.edges.items < length it.trail.states → IsExpanding behaviour steps_of f e parts it × (settled ≡ 0)
  expanding_of settled (inl h) less = h
  expanding_of settled (inr h) less = absurd (let all = h.sound.explored.ready.all in omega (arith, all, less))

-- where the same parts are kept, or none, what holds of a listing goes on holding
pub working_without : {M S P : Type 0} (behaviour : M → Behaviour S) (steps_of : M → P → List (Step S)) (f : Finder M S) (e : Expanded) (parts kept : PartsView P) (it : FoundSoFar S) (settled : ℕ)
    → IsWorking behaviour steps_of f e parts it settled → (kept ≡ parts) ⊎ (kept ≡ no_parts) → IsWorking behaviour steps_of f e kept it settled
working_without behaviour steps_of f e parts kept it settled (inr settling) which = inr settling
working_without behaviour steps_of f e parts kept it settled (inl (expanding, none)) which = inl (
  record {
    active = expanding.active;
    expanded = expanding.expanded;
    kept_parts = elim which [
      | inl same ↦ subst (AreKeptParts (steps_of f.machine.now) it.trail.states e.cells) (sym same) expanding.kept_parts
      | inr empty ↦ subst (AreKeptParts (steps_of f.machine.now) it.trail.states e.cells) (sym empty) (λ number part edges is. (let there = is.part_at in cc))
    ];
    there = expanding.there;
    no_pairs = expanding.no_pairs;
    listed = expanding.listed;
    few = expanding.few;
    no_known = expanding.no_known;
  },
  none,
)
