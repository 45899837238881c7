use Rattle.std.proofs.Common.{ap, subst, arith}
use Rattle.brl_closure.specs.SearchView.{SearchView, Stays}
use Rattle.brl_closure.proofs.Steps.{same_left, working_without}
use Rattle.brl_closure.proofs.search.explore.SearchSliced.run.Goals as goal

pub run-requires : goal.run-requires
run-requires g c = record {
  working = working_without g.M.Machine.behaviour g.M.Parted.steps_of c.self.inside.finder c.self.inside.trail c.self.inside.worklist c.forget_parts.new.self c.self.invariant c.forget_parts.ensures.parts c.forget_parts.ensures.cells c.forget_parts.ensures.expanded c.forget_parts.ensures.queue;
}

pub returns-in-Ok-true-clause-unfinished : goal.returns-in-Ok-true-clause-unfinished
returns-in-Ok-true-clause-unfinished g c =
    let is = c.self.view_is in
    let steps = rw c.in-Ok-true.field-0-test at c.in-Ok-true.ensures.steps in
    record {
      same_search = record {
        same_machine = ap (λ (v : SearchView g.row.M.Denot g.row.M-State.Denot). v.machine) is;
        same_limit = ap (λ (v : SearchView g.row.M.Denot g.row.M-State.Denot). v.limit) is;
      };
      states = subst (λ (v : SearchView g.row.M.Denot g.row.M-State.Denot). Stays v.states c.run.new.trail.states) is steps.extends.states;
      pairs = subst (λ (v : SearchView g.row.M.Denot g.row.M-State.Denot). Stays v.pairs c.run.new.trail.pairs) is steps.extends.pairs;
      fewer =
          let fewer = steps.fewer in
          let same = same_left c.self.inside.finder.limit c.self.inside.trail c.self.inside.worklist c.forget_parts.new.self c.forget_parts.ensures.expanded c.forget_parts.ensures.queue in
          omega (arith, fewer, same, ap (λ (v : SearchView g.row.M.Denot g.row.M-State.Denot). v.steps_left) is);
    }
