-- What is reached comes from lists that contain a machine's steps.
use Rattle.std.proofs.Common.{◌≡◌, ℕ, ◌+◌, ◌≤◌, List, ◌++◌, inl, inr, length, sym, ◌∙◌, ap, append_assoc, arith, length-append}
use Rattle.std.specs.List.{Contains, flat_map}
use Rattle.brl_pairs.specs.declared.step.Pair.{Pair}
use Rattle.brl_pairs.specs.declared.step.Step.{Step}
use Rattle.brl_pairs.specs.Pairs.{GetsAhead, Follows, Splits, StaysBehind, swapped}
use Rattle.brl_pairs.specs.Runs.{Behaviour, IsListed, KeepsLaws}
use Rattle.std.proofs.Common.{subst}
use Rattle.brl_closure.specs.Deciding.{HasLeadOfStep, HoldsSteps, all_pairs, pairs_with}
use Rattle.brl_closure.specs.Reached.{AtMost, Reached, ReachedPair, SamePair, SameState, start, step, split, move, other_order}
use Rattle.brl_closure.proofs.Members.{at_most_listed}
use Rattle.brl_pairs.proofs.Listing.{Contains-in, in-Contains, in-flat_map, in-map}

module _ {S : Type 0} (m : Behaviour S) where
  -- ---- The lead of a pair

  of_split : (s : S) (p : Pair S) → Reached m s → Splits (m.steps s) p → HasLeadOfStep m p
  of_split s p reached h = record {
    ahead = subst (Reached m) (sym h.ahead) (step reached (h.i, h.longer_listed));
    behind = subst (Reached m) (sym h.behind) (step reached (h.j, h.shorter_listed));
    state = s;
    step = h.longer;
    reached = reached;
    listed = (h.i, h.longer_listed);
    front = h.shorter.cells;
    ends = h.lead;
  }

  -- the same step, for a lead that its cells end with after others
  same_step : (p q : Pair S) (r : HasLeadOfStep m p) → Reached m q.ahead → Reached m q.behind → (front : List ℕ) → r.step.cells ≡ front ++ q.lead → HasLeadOfStep m q
  same_step p q r ahead behind front ends = record { ahead = ahead; behind = behind; state = r.state; step = r.step; reached = r.reached; listed = r.listed; front = front; ends = ends }

  of_still : (p q : Pair S) (x : Step S) → IsListed (m.steps p.behind) x → StaysBehind p x q → HasLeadOfStep m p → HasLeadOfStep m q
  of_still p q x listed h r =
      same_step p q r (subst (Reached m) (sym h.ahead) r.ahead) (subst (Reached m) (sym h.behind) (step r.behind listed)) (r.front ++ x.cells)
      (r.ends ∙ ap (λ (l : List ℕ). r.front ++ l) h.lead ∙ sym (append_assoc r.front x.cells q.lead))

  of_swap : (p q : Pair S) (x : Step S) → IsListed (m.steps p.behind) x → GetsAhead p x q → HasLeadOfStep m p → HasLeadOfStep m q
  of_swap p q x listed h r = record {
    ahead = subst (Reached m) (sym h.ahead) (step r.behind listed);
    behind = subst (Reached m) (sym h.behind) r.ahead;
    state = p.behind;
    step = x;
    reached = r.behind;
    listed = listed;
    front = p.lead;
    ends = h.lead;
  }

  of_move : (p q : Pair S) → Follows m p q → HasLeadOfStep m p → HasLeadOfStep m q
  of_move p q h r = elim h.moved [
    | inl still ↦ of_still p q h.step h.listed still r
    | inr swap ↦ of_swap p q h.step h.listed swap r
  ]

  -- the lead of a reached pair is what the cells of one step end with
  pub lead_of : {p : Pair S} → ReachedPair m p → HasLeadOfStep m p
  lead_of (split {s = s} {p = p} reached h) = of_split s p reached h
  lead_of (move {p = p} {q = q} reached h) = of_move p q h (lead_of reached)
  lead_of (other_order {p = p} reached no_lead) = let r = lead_of reached in same_step p (swapped p) r r.behind r.ahead r.front r.ends

  pub short_lead : KeepsLaws m → {p : Pair S} → ReachedPair m p → length p.lead ≤ 1024
  short_lead laws {p} reached =
      let l = lead_of reached in
      let few = (laws.good_steps l.state l.step l.listed).few_cells in
      let size : length l.step.cells ≡ length l.front + length p.lead = ap length l.ends ∙ length-append l.front p.lead in
      omega (arith, few, size)

  -- ---- Lists

  module _ (states : List S) (leads : List (List ℕ)) (holds : HoldsSteps m states leads) where
    pub state_listed : {s : S} → Reached m s → Contains states s
    state_listed start = holds.start
    state_listed (step {s = s} {x = x} reached listed) = holds.next s x (state_listed reached) listed

    pub lead_listed : {p : Pair S} → ReachedPair m p → Contains leads p.lead
    lead_listed {p} reached = (let l = lead_of reached in holds.each_lead l.state l.step l.front p.lead (state_listed l.reached) l.listed l.ends)

    pub pair_listed : {p : Pair S} → ReachedPair m p → Contains (all_pairs states leads) p
    pair_listed {p} reached =
        let l = lead_of reached in
        let ahead = Contains-in p.ahead states (state_listed l.ahead) in
        let behind = Contains-in p.behind states (state_listed l.behind) in
        let lead = Contains-in p.lead leads (lead_listed reached) in
        in-Contains p (all_pairs states leads)
        (in-flat_map (λ a. flat_map (pairs_with leads a) states) p.ahead p states ahead
        (in-flat_map (pairs_with leads p.ahead) p.behind p states behind (in-map (λ l. record { ahead = p.ahead; behind = p.behind; lead = l }) p.lead leads lead)))

    pub few_states : AtMost (length states) SameState (Reached m)
    few_states = at_most_listed SameState (Reached m) (λ x y e. e) states (λ s reached. state_listed reached)

    pub few_pairs : AtMost (length (all_pairs states leads)) SamePair (ReachedPair m)
    few_pairs = at_most_listed SamePair (ReachedPair m) (λ x y e. inl e) (all_pairs states leads) (λ p reached. pair_listed reached)
