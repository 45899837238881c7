use Rattle.std.proofs.Common.{◌≡◌, ◌++◌, ◌∷◌, [], inl, refl, sym, subst, arith}
use Rattle.brl_closure.specs.SearchView.{Stays}
use Rattle.brl_closure.proofs.Growing.{inserted, stays_push, stays_refl}
use Rattle.brl_closure.proofs.Additions.{advances_refl, state_pushed, state_active}
use Rattle.brl_closure.proofs.search.finder.Finder.find_state.Goals as goal
use Rattle.brl_pairs.proofs.Lists.{length_push, push_last}

pub returns-in-Some-clause-advances : goal.returns-in-Some-clause-advances
returns-in-Some-clause-advances g c = advances_refl g.M.Machine.behaviour c.args.self.now c.args.trail.now c.requires.active

pub returns-then-len-self-clause-stopped : goal.returns-then-len-self-clause-stopped
returns-then-len-self-clause-stopped g c =
    let states : c.insert.new.self ≡ c.args.trail.now.states ++ c.args.state ∷ [] =
    inserted c.args.state c.args.trail.now.states c.insert.new.self c.in_ok-insert.field-0 (λ m. c.in_default.not-Some m.0 (c.index_of.ensures.only m.0 m.1)) c.in_ok-insert.ensures.known c.in_ok-insert.ensures.members in (
      state_pushed (g.M.Machine.behaviour c.args.self.now.machine.now) c.args.trail.now _ c.args.state c.args.origin c.requires.active.traced c.requires.origin states c.in_ok-push.ensures.items refl refl,
      record {
        more = inl (omega arith);
        states = rw states (omega (arith, length_push c.args.trail.now.states c.args.state, c.requires.active.few_states));
        pairs = omega (arith, c.requires.active.few_pairs);
      },
    )

pub returns-clause-number : goal.returns-clause-number
returns-clause-number g c =
    let states : c.insert.new.self ≡ c.args.trail.now.states ++ c.args.state ∷ [] =
    inserted c.args.state c.args.trail.now.states c.insert.new.self c.in_ok-insert.field-0 (λ m. c.in_default.not-Some m.0 (c.index_of.ensures.only m.0 m.1)) c.in_ok-insert.ensures.known c.in_ok-insert.ensures.members in
    rw (states, c.len-number.ensures) (push_last c.args.trail.now.states c.args.state)

pub returns-clause-advances : goal.returns-clause-advances
returns-clause-advances g c =
    let states : c.insert.new.self ≡ c.args.trail.now.states ++ c.args.state ∷ [] =
    inserted c.args.state c.args.trail.now.states c.insert.new.self c.in_ok-insert.field-0 (λ m. c.in_default.not-Some m.0 (c.index_of.ensures.only m.0 m.1)) c.in_ok-insert.ensures.known c.in_ok-insert.ensures.members in (
      state_active g.M.Machine.behaviour c.args.self.now c.args.trail.now _ c.args.state c.args.origin c.requires.active c.requires.origin states c.in_ok-push.ensures.items refl refl (omega arith),
      record {
        states = subst (Stays c.args.trail.now.states) (sym states) (stays_push c.args.trail.now.states c.args.state);
        pairs = stays_refl c.args.trail.now.pairs;
        more_states = rw states (omega (arith, length_push c.args.trail.now.states c.args.state));
        more_pairs = omega arith;
      },
    )
