use Rattle.std.proofs.Common.{◌≡◌, ◌++◌, ◌∷◌, [], List, length, inl, inr, refl, sym, ◌∙◌, subst, arith, true≢false}
use Rattle.brl_pairs.specs.NumberPairs.{IsThere}
use Rattle.brl_pairs.specs.Body.{NumberPair}
use Rattle.brl_closure.specs.SearchView.{Stays}
use Rattle.brl_closure.specs.Trail.{Advances, HasTwoEnds}
use Rattle.brl_closure.proofs.Growing.{stays_push, stays_refl}
use Rattle.brl_closure.proofs.There.{absent_differ, added_absent, nothing_inserted, pair_inserted}
use Rattle.brl_closure.proofs.Additions.{advances_refl, pair_pushed, pair_active}
use Rattle.brl_closure.proofs.Adding.{adds_none, adds_one, adds_pair}
use Rattle.brl_closure.proofs.search.finder.Finder.find_pair.Goals as goal
use Rattle.brl_pairs.proofs.Lists.{length_push, push_last}

pub returns-then-is_there_swapped-clause-advances : goal.returns-then-is_there_swapped-clause-advances
returns-then-is_there_swapped-clause-advances g c = advances_refl g.M.Machine.behaviour c.args.self.now c.args.trail.now c.requires.active

pub returns-then-not-branch-clause-there : goal.returns-then-not-branch-clause-there
returns-then-not-branch-clause-there g c =
    let same : c.insert.new.self ≡ c.args.trail.now.pairs = nothing_inserted c.args.trail.now.pairs c.insert.new.self c.args.pair c.in_ok-insert.field-0 c.if-not-branch.true c.in_ok-insert.ensures.members in
    rw same (inl (c.in_ok-insert.ensures.known c.if-not-branch.true))

pub returns-then-not-branch-clause-advances : goal.returns-then-not-branch-clause-advances
returns-then-not-branch-clause-advances g c =
    let t = c.args.trail.now in
    let same : c.insert.new.self ≡ t.pairs = nothing_inserted t.pairs c.insert.new.self c.args.pair c.in_ok-insert.field-0 c.if-not-branch.true c.in_ok-insert.ensures.members in
    subst (λ (ps : List NumberPair). Advances g.M.Machine.behaviour c.args.self.now t (record { states = t.states; state_origins = t.state_origins; pairs = ps; pair_origins = t.pair_origins })) (sym same)
    (advances_refl g.M.Machine.behaviour c.args.self.now t c.requires.active)

pub returns-then-len-self-clause-stopped : goal.returns-then-len-self-clause-stopped
returns-then-len-self-clause-stopped g c =
    let absent : IsThere c.args.trail.now.pairs c.args.pair.ahead c.args.pair.behind c.args.pair.lead → ⊥ = added_absent c.args.trail.now.pairs c.args.pair (c.in_ok-insert.ensures.new c.if-not-branch.false)
    (λ swapped. true≢false (sym (c.is_there_swapped.ensures.1 swapped) ∙ c.if-is_there_swapped.false)) in
    let pairs : c.insert.new.self ≡ c.args.trail.now.pairs ++ c.args.pair ∷ [] = pair_inserted c.args.trail.now.pairs c.insert.new.self c.args.pair c.in_ok-insert.field-0 absent c.in_ok-insert.ensures.known c.in_ok-insert.ensures.members in (
      pair_pushed (g.M.Machine.behaviour c.args.self.now.machine.now) c.args.trail.now _ c.args.pair c.args.origin c.requires.active.traced c.requires.origin c.requires.range (absent_differ c.args.trail.now.pairs c.args.pair absent) refl refl pairs c.in_ok-push.ensures.items,
      record {
        more = inr (omega arith);
        states = omega (arith, c.requires.active.few_states);
        pairs = rw pairs (omega (arith, length_push c.args.trail.now.pairs c.args.pair, c.requires.active.few_pairs));
      },
    )

pub returns-then-two_ends-clause-stopped : goal.returns-then-two_ends-clause-stopped
returns-then-two_ends-clause-stopped g c =
    let absent : IsThere c.args.trail.now.pairs c.args.pair.ahead c.args.pair.behind c.args.pair.lead → ⊥ = added_absent c.args.trail.now.pairs c.args.pair (c.in_ok-insert.ensures.new c.if-not-branch.false)
    (λ swapped. true≢false (sym (c.is_there_swapped.ensures.1 swapped) ∙ c.if-is_there_swapped.false)) in
    let pairs : c.insert.new.self ≡ c.args.trail.now.pairs ++ c.args.pair ∷ [] = pair_inserted c.args.trail.now.pairs c.insert.new.self c.args.pair c.in_ok-insert.field-0 absent c.in_ok-insert.ensures.known c.in_ok-insert.ensures.members in (
      pair_pushed (g.M.Machine.behaviour c.args.self.now.machine.now) c.args.trail.now _ c.args.pair c.args.origin c.requires.active.traced c.requires.origin c.requires.range (absent_differ c.args.trail.now.pairs c.args.pair absent) refl refl pairs c.in_ok-push.ensures.items,
      record {
        pair = c.args.pair;
        at = rw (pairs, c.len-number.ensures) (push_last c.args.trail.now.pairs c.args.pair);
        ends = subst (λ (xs : _). HasTwoEnds (g.M.Machine.behaviour c.args.self.now.machine.now) xs c.args.pair) c.as_slice.ensures.members (c.if-two_ends.ensures.yes);
      },
    )

pub returns-clause-there : goal.returns-clause-there
returns-clause-there g c =
    let absent : IsThere c.args.trail.now.pairs c.args.pair.ahead c.args.pair.behind c.args.pair.lead → ⊥ = added_absent c.args.trail.now.pairs c.args.pair (c.in_ok-insert.ensures.new c.if-not-branch.false)
    (λ swapped. true≢false (sym (c.is_there_swapped.ensures.1 swapped) ∙ c.if-is_there_swapped.false)) in
    let pairs : c.insert.new.self ≡ c.args.trail.now.pairs ++ c.args.pair ∷ [] = pair_inserted c.args.trail.now.pairs c.insert.new.self c.args.pair c.in_ok-insert.field-0 absent c.in_ok-insert.ensures.known c.in_ok-insert.ensures.members in
    inl (length c.args.trail.now.pairs, rw pairs (push_last c.args.trail.now.pairs c.args.pair))

pub returns-clause-advances : goal.returns-clause-advances
returns-clause-advances g c =
    let absent : IsThere c.args.trail.now.pairs c.args.pair.ahead c.args.pair.behind c.args.pair.lead → ⊥ = added_absent c.args.trail.now.pairs c.args.pair (c.in_ok-insert.ensures.new c.if-not-branch.false)
    (λ swapped. true≢false (sym (c.is_there_swapped.ensures.1 swapped) ∙ c.if-is_there_swapped.false)) in
    let pairs : c.insert.new.self ≡ c.args.trail.now.pairs ++ c.args.pair ∷ [] = pair_inserted c.args.trail.now.pairs c.insert.new.self c.args.pair c.in_ok-insert.field-0 absent c.in_ok-insert.ensures.known c.in_ok-insert.ensures.members in (
      pair_active g.M.Machine.behaviour c.args.self.now c.args.trail.now _ c.args.pair c.args.origin c.requires.active c.requires.origin c.requires.range (absent_differ c.args.trail.now.pairs c.args.pair absent)
          (subst (λ (xs : _). HasTwoEnds (g.M.Machine.behaviour c.args.self.now.machine.now) xs c.args.pair → ⊥) c.as_slice.ensures.members (c.if-two_ends.ensures.no)) refl refl pairs c.in_ok-push.ensures.items (omega arith),
      record {
        states = stays_refl c.args.trail.now.states;
        pairs = subst (Stays c.args.trail.now.pairs) (sym pairs) (stays_push c.args.trail.now.pairs c.args.pair);
        more_states = omega arith;
        more_pairs = rw pairs (omega (arith, length_push c.args.trail.now.pairs c.args.pair));
      },
    )

pub returns-then-is_there_swapped-clause-adds : goal.returns-then-is_there_swapped-clause-adds
returns-then-is_there_swapped-clause-adds g c = adds_none (λ o. o ≡ c.args.origin) c.args.trail.now c.args.trail.now refl refl refl refl

pub returns-in_err-insert-clause-adds : goal.returns-in_err-insert-clause-adds
returns-in_err-insert-clause-adds g c = adds_none (λ o. o ≡ c.args.origin) c.args.trail.now _ refl refl c.in_err-insert.ensures.err refl

pub returns-then-not-branch-clause-adds : goal.returns-then-not-branch-clause-adds
returns-then-not-branch-clause-adds g c =
    adds_none (λ o. o ≡ c.args.origin) c.args.trail.now _ refl refl
    (nothing_inserted c.args.trail.now.pairs c.insert.new.self c.args.pair c.in_ok-insert.field-0 c.if-not-branch.true c.in_ok-insert.ensures.members) refl
