use Rattle.std.proofs.Common.{ℕ, ◌<◌, ◌≤◌, length, refl, subst, arith}
use Rattle.std.proofs.lemmas.Result.{IfOk-weaker}
use Rattle.std.proofs.lemmas.Option.{slice_get_read, slice_get_within}
use Rattle.brl_closure.specs.Diverging.{AreTextsOf, AreTextsOfSplit, ComeOf, ComesOf}
use Rattle.brl_closure.specs.Trail.{IsEarlier, IsPairOrigin}
use Rattle.brl_closure.proofs.Path.{ends_continue, pair_origin_of, split_continues, still_back, swapped_back}
use Rattle.brl_closure.proofs.search.finder.Finder.texts_of.Given.{Over}
use Rattle.brl_closure.proofs.search.finder.Finder.texts_of.Goals.{After-index}
use Rattle.brl_closure.proofs.search.finder.Finder.texts_of.Goals as goal

-- how the pair at hand was found
origin : (g : Over) (c : After-index g) → IsEarlier c.loop-pair.found c.index.result.now
    × IsPairOrigin (g.M.Machine.behaviour c.args.self.now.machine.now) c.args.trail.now.states c.args.trail.now.pairs c.loop-pair.invariant.continues.pair c.index.result.now
origin g c = pair_origin_of (g.M.Machine.behaviour c.args.self.now.machine.now) c.args.trail.now c.requires.traced c.loop-pair.found c.loop-pair.invariant.continues.pair c.loop-pair.invariant.continues.at c.index.result.now c.index.ensures

-- what comes of some rules from a number on, at the origin at hand
come_at : (g : Over) (c : After-index g) (r s from : ℕ) → ComeOf (g.M.Machine.behaviour c.args.self.now.machine.now) r s from c.args.trail.now → from ≤ c.args.number
    → ComesOf (g.M.Machine.behaviour c.args.self.now.machine.now) c.args.trail.now.states r s from c.index.result.now
come_at g c r s from come low =
    let t = c.args.trail.now in
    let within : c.loop-pair.found < length t.pairs = slice_get_within t.pairs c.loop-pair.found c.loop-pair.invariant.continues.pair c.loop-pair.invariant.continues.at in
    come c.loop-pair.found c.index.result.now (c.loop-pair.invariant.among r s from come low)
    (slice_get_read t.pair_origins.items (length t.pair_origins.items) c.loop-pair.found c.index.result.now refl (omega (arith, within, c.requires.traced.pair_origins)) c.index.ensures)

pub loop-pair-init : goal.loop-pair-init
loop-pair-init g c = record {
  continues = rw (c.new-ahead.ensures.items, c.new-behind.ensures.items)
      (ends_continue (g.M.Machine.behaviour c.args.self.now.machine.now) c.args.trail.now c.requires.traced c.args.number c.requires.ends.pair c.requires.ends.at c.requires.ends.ends);
  among = λ r s from come low. low;
  known = c.requires.known;
}

pub index-requires : goal.index-requires
index-requires g c =
    let within = slice_get_within c.args.trail.now.pairs c.loop-pair.found c.loop-pair.invariant.continues.pair c.loop-pair.invariant.continues.at in
    omega (arith, within, c.requires.traced.pair_origins, c.args.trail.now.pair_origins.ok.0)

pub push_behind-requires-clause-step : goal.push_behind-requires-clause-step
push_behind-requires-clause-step g c =
    let by = subst (IsPairOrigin (g.M.Machine.behaviour c.args.self.now.machine.now) c.args.trail.now.states c.args.trail.now.pairs c.loop-pair.invariant.continues.pair) c.in-Still.is (origin g (goal.at.push_behind-requires-clause-step g c).After-index).1 in
    record { pair = by.0; at = by.1; step = record { step = by.2.step; taken = by.2.taken } }

pub loop-pair-smaller-in-Still : goal.loop-pair-smaller-in-Still
loop-pair-smaller-in-Still g c = subst (IsEarlier c.loop-pair.found) c.in-Still.is (origin g (goal.at.loop-pair-smaller-in-Still g c).After-index).0

pub loop-pair-preserved-in-Still : goal.loop-pair-preserved-in-Still
loop-pair-preserved-in-Still g c =
    let by = subst (IsPairOrigin (g.M.Machine.behaviour c.args.self.now.machine.now) c.args.trail.now.states c.args.trail.now.pairs c.loop-pair.invariant.continues.pair) c.in-Still.is (origin g (goal.at.loop-pair-preserved-in-Still g c).After-index).1 in
    record {
      continues = still_back (g.M.Machine.behaviour c.args.self.now.machine.now) c.args.trail.now c.requires.traced c.loop-pair.found c.in-Still.pair c.in-Still.place c.loop-pair.ahead.items c.loop-pair.behind.items c.push_behind.new.text.items c.loop-pair.invariant.continues by.0 by.1 by.2
          (c.in_ok-push_behind-in-Still.ensures.text by.0 by.2.step by.1 by.2.taken);
      among = λ r s from come low. subst (ComesOf (g.M.Machine.behaviour c.args.self.now.machine.now) c.args.trail.now.states r s from) c.in-Still.is (come_at g (goal.at.loop-pair-preserved-in-Still g c).After-index r s from come low);
      known = c.in_ok-push_behind-in-Still.ensures.known;
    }

pub push_behind-requires-in-Swapped-clause-step : goal.push_behind-requires-in-Swapped-clause-step
push_behind-requires-in-Swapped-clause-step g c =
    let by = subst (IsPairOrigin (g.M.Machine.behaviour c.args.self.now.machine.now) c.args.trail.now.states c.args.trail.now.pairs c.loop-pair.invariant.continues.pair) c.in-Swapped.is (origin g (goal.at.push_behind-requires-in-Swapped-clause-step g c).After-index).1 in
    record { pair = by.0; at = by.1; step = record { step = by.2.step; taken = by.2.taken } }

pub loop-pair-smaller : goal.loop-pair-smaller
loop-pair-smaller g c = subst (IsEarlier c.loop-pair.found) c.in-Swapped.is (origin g (goal.at.loop-pair-smaller g c).After-index).0

pub loop-pair-preserved : goal.loop-pair-preserved
loop-pair-preserved g c =
    let by = subst (IsPairOrigin (g.M.Machine.behaviour c.args.self.now.machine.now) c.args.trail.now.states c.args.trail.now.pairs c.loop-pair.invariant.continues.pair) c.in-Swapped.is (origin g (goal.at.loop-pair-preserved g c).After-index).1 in
    record {
      continues = rw (c.swap.ensures.x_after, c.swap.ensures.y_after)
          (swapped_back (g.M.Machine.behaviour c.args.self.now.machine.now) c.args.trail.now c.requires.traced c.loop-pair.found c.in-Swapped.pair c.in-Swapped.place c.loop-pair.ahead.items c.loop-pair.behind.items c.push_behind-in-Swapped.new.text.items c.loop-pair.invariant.continues by.0 by.1 by.2
          (c.in_ok-push_behind-in-Swapped.ensures.text by.0 by.2.step by.1 by.2.taken));
      among = λ r s from come low. subst (ComesOf (g.M.Machine.behaviour c.args.self.now.machine.now) c.args.trail.now.states r s from) c.in-Swapped.is (come_at g (goal.at.loop-pair-preserved g c).After-index r s from come low);
      known = c.in_ok-push_behind-in-Swapped.ensures.known;
    }

pub texts_of_split-requires-clause-continues : goal.texts_of_split-requires-clause-continues
texts_of_split-requires-clause-continues g c =
    let by = subst (IsPairOrigin (g.M.Machine.behaviour c.args.self.now.machine.now) c.args.trail.now.states c.args.trail.now.pairs c.loop-pair.invariant.continues.pair) c.in-Split.is (origin g (goal.at.texts_of_split-requires-clause-continues g c).After-index).1 in
    split_continues (g.M.Machine.behaviour c.args.self.now.machine.now) c.args.trail.now c.requires.traced c.loop-pair.found c.in-Split.state c.in-Split.longer c.in-Split.shorter c.loop-pair.ahead.items c.loop-pair.behind.items c.loop-pair.invariant.continues by

pub returns-in-Split-clause-texts : goal.returns-in-Split-clause-texts
returns-in-Split-clause-texts g c =
    let m = g.M.Machine.behaviour c.args.self.now.machine.now in
    let t = c.args.trail.now in
    IfOk-weaker c.texts_of_split.result
    (λ texts. AreTextsOfSplit m t.states c.in-Split.state c.in-Split.longer c.in-Split.shorter texts.left.items texts.right.items)
    (λ texts. AreTextsOf m t c.args.number texts.left.items texts.right.items)
    (λ texts h. record {
      paths = h.paths;
      diverge = λ r s from come low. h.diverge r s (subst (ComesOf m t.states r s from) c.in-Split.is (come_at g (goal.at.returns-in-Split-clause-texts g c).After-index r s from come low));
    })
    c.texts_of_split.ensures.texts
