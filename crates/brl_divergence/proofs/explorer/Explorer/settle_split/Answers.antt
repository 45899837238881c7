use Rattle.std.proofs.Common.{◌≡◌, ℕ, List, inr, length, take, sym, ◌∙◌, ap, subst, arith}
use Rattle.std.specs.Global.{Vec}
use Rattle.brl_closure.specs.KnownSteps.{AreKnown}
use Rattle.brl_closure.specs.declared.search.trail.StateOrigin.{StateOrigin}
use Rattle.brl_divergence.specs.Expanded.{AreTwoEdges}
use Rattle.brl_divergence.specs.Found.{IsExplored, IsOfSplit}
use Rattle.brl_divergence.proofs.Dropping.{dropped_explored, settled_by_list, texts_diverge}
use Rattle.brl_divergence.proofs.Rules.{found_listed}
use Rattle.brl_divergence.proofs.Splits.{rules_ascend}
use Rattle.brl_divergence.proofs.Trails.{added_stay}
use Rattle.brl_divergence.proofs.explorer.Explorer.settle_split.Given.{Over}
use Rattle.brl_divergence.proofs.explorer.Explorer.settle_split.Goals.{After-list, After-rules_of-rules}
use Rattle.brl_divergence.proofs.explorer.Explorer.settle_split.Goals as goal

pub rules_of-rules-requires-clause-expanded : goal.rules_of-rules-requires-clause-expanded
rules_of-rules-requires-clause-expanded g c = (c.args.found.now.trail.states, c.requires.sound.explored.ready.expanded)

pub explore-requires-clause-explored : goal.explore-requires-clause-explored
explore-requires-clause-explored g c = c.requires.sound.explored

pub explore-requires-clause-edges : goal.explore-requires-clause-edges
explore-requires-clause-edges g c = (c.rules_of-rules.result, c.rules_of-rules.ensures c.args.found.now.trail.states c.requires.sound.explored.ready.expanded)

-- the two edges with their rules
two : (g : Over) (c : After-rules_of-rules g) → AreTwoEdges (g.M.Machine.behaviour c.args.self.now.finder.now.machine.now) c.args.found.now.trail.states c.args.self.now.expanded.now.cells c.args.state c.args.first.now c.args.second.now c.rules_of-rules.result
two g c = c.rules_of-rules.ensures c.args.found.now.trail.states c.requires.sound.explored.ready.expanded

pub returns-then-contains_key-clause-settled : goal.returns-then-contains_key-clause-settled
returns-then-contains_key-clause-settled g c =
    let a = c.args in
    settled_by_list (g.M.Machine.behaviour a.self.now.finder.now.machine.now) a.found.now a.self.now.expanded.now.cells a.state a.first.now a.second.now c.rules_of-rules.result
    (two g (goal.at.returns-then-contains_key-clause-settled g c).After-rules_of-rules)
    (found_listed a.found.now.list c.rules_of-rules.result (sym c.contains_key.ensures ∙ c.if-contains_key.true))

pub list-requires-clause-divergence : goal.list-requires-clause-divergence
list-requires-clause-divergence g c =
    let a = c.args in
    let m = g.M.Machine.behaviour a.self.now.finder.now.machine.now in
    let edges = two g (goal.at.list-requires-clause-divergence g c).After-rules_of-rules in
    let end = c.in-Err-Fault-BothEnd in
    let failed = rw end.field-0-is at end.ensures.stopped in
    let stopped = rw end.field-0-0-is at failed in
    let texts = c.in_ok-texts-in-Err-Fault-BothEnd.texts in
    record {
      in_order = rules_ascend m a.found.now.trail.states a.self.now.expanded.now.cells a.state a.first.now a.second.now c.rules_of-rules.result edges c.requires.sound.explored.ready.active.laws;
      texts = texts_diverge g.M.Machine.behaviour a.self.now.finder.now a.self.now.expanded.now a.found.now.trail c.explore.new.trail a.self.now.expanded.now.cells a.state a.first.now a.second.now c.rules_of-rules.result
          c.requires.sound.explored edges c.explore.ensures.adds end.number stopped.1 texts.left.items texts.right.items c.in_ok-texts-in-Err-Fault-BothEnd.ensures.texts;
    }

-- where the pairs are dropped, all is as before
dropped : (g : Over) (c : After-list g) → IsExplored g.M.Machine.behaviour c.args.self.now.finder.now c.args.self.now.expanded.now c.take_back.new.trail
dropped g c =
    let a = c.args in
    let u = c.explore.new.trail in
    dropped_explored g.M.Machine.behaviour a.self.now.finder.now a.self.now.expanded.now a.found.now.trail u c.take_back.new.trail a.state a.first.now.place a.second.now.place c.requires.sound.explored c.explore.ensures.adds
    c.take_back.ensures.states (ap (λ (o : Vec StateOrigin). o.items) c.take_back.ensures.state_origins)
    (subst (λ (n : ℕ). c.take_back.new.trail.pairs ≡ take n u.pairs) c.len-kept.ensures c.take_back.ensures.pairs)
    (subst (λ (n : ℕ). c.take_back.new.trail.pair_origins.items ≡ take n u.pair_origins.items) c.len-kept.ensures c.take_back.ensures.pair_origins)

pub returns-then-len-self-clause-over : goal.returns-then-len-self-clause-over
returns-then-len-self-clause-over g c =
    let active = (dropped g (goal.at.returns-then-len-self-clause-over g c).After-list).ready.active in
    let listed = c.in_ok-list-in-Err-Fault-BothEnd.ensures in
    record {
      traced = active.traced;
      listed = listed.listed;
      more = inr (inr (omega (arith, c.if-len-self.true, c.len.ensures.len)));
      states = omega (arith, active.few_states);
      pairs = omega (arith, active.few_pairs);
      rules = omega (arith, listed.one_more, c.requires.sound.few);
    }

pub texts_of-requires-clause-known : goal.texts_of-requires-clause-known
texts_of-requires-clause-known g c =
    subst (λ (xs : List g.row.M-State.Denot). AreKnown (g.M.Machine.behaviour c.args.self.now.finder.now.machine.now) xs c.args.found.now.known) (sym c.explore.ensures.adds.states) c.requires.sound.known

pub returns-in-Ok-clause-sound : goal.returns-in-Ok-clause-sound
returns-in-Ok-clause-sound g c = record {
  explored = c.in-Ok.ensures.explored;
  listed = c.requires.sound.listed;
  few = c.requires.sound.few;
  known = subst (λ (xs : List g.row.M-State.Denot). AreKnown (g.M.Machine.behaviour c.args.self.now.finder.now.machine.now) xs c.args.found.now.known) (sym c.explore.ensures.adds.states) c.requires.sound.known;
}

pub returns-in-Ok-clause-keeps : goal.returns-in-Ok-clause-keeps
returns-in-Ok-clause-keeps g c = record {
  states = c.explore.ensures.adds.states;
  pairs = added_stay (IsOfSplit c.args.state c.args.first.now.place c.args.second.now.place (length c.args.found.now.trail.pairs)) c.args.found.now.trail c.explore.new.trail c.explore.ensures.adds;
  rules = λ rules h. h;
}

pub returns-else-len-self-clause-sound : goal.returns-else-len-self-clause-sound
returns-else-len-self-clause-sound g c = record {
  explored = dropped g (goal.at.returns-else-len-self-clause-sound g c).After-list;
  listed = c.in_ok-list-in-Err-Fault-BothEnd.ensures.listed;
  few = omega (arith, c.if-len-self.false, c.len.ensures.len);
  known = subst (λ (xs : List g.row.M-State.Denot). AreKnown (g.M.Machine.behaviour c.args.self.now.finder.now.machine.now) xs c.texts_of.new.known) (sym c.take_back.ensures.states)
      c.in_ok-texts-in-Err-Fault-BothEnd.ensures.known;
}

pub returns-else-len-self-clause-settled : goal.returns-else-len-self-clause-settled
returns-else-len-self-clause-settled g c =
    let a = c.args in
    let m = g.M.Machine.behaviour a.self.now.finder.now.machine.now in
    let states = c.take_back.ensures.states ∙ c.explore.ensures.adds.states in
    settled_by_list m (record { trail = c.take_back.new.trail; list = c.list.new.list; known = c.texts_of.new.known }) a.self.now.expanded.now.cells a.state a.first.now a.second.now c.rules_of-rules.result
    (subst (λ (xs : List g.row.M-State.Denot). AreTwoEdges m xs a.self.now.expanded.now.cells a.state a.first.now a.second.now c.rules_of-rules.result) (sym states)
    (two g (goal.at.returns-else-len-self-clause-settled g c).After-rules_of-rules))
    c.in_ok-list-in-Err-Fault-BothEnd.ensures.there
