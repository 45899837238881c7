use Rattle.std.proofs.Common.{map}
use Rattle.brl_lines.specs.Views.{line_view}
use Rattle.brl_table.proofs.ResolveSteps.{first-unresolved, resolves-next, reference-refusal, rules-next}
use Rattle.brl_failure.specs.Raised.{if_fault-weaker}
use Rattle.brl_table.proofs.builder.TableBuilder.resolve_all.Goals as goal

pub returns-in-Err-clause-fault : goal.returns-in-Err-clause-fault
returns-in-Err-clause-fault c =
    let characters = c.args.self.now.characters.infos.entries in
    let lines = c.args.lines.now in
    let items = c.args.self.now.items.items in
    let line = c.index-lines-place.result in
    reference-refusal characters (map line_view lines) items c.loop-place.place (line_view line) c.index.result.now c.in-Err.failure c.fault_at.result
    (if_fault-weaker _ _ c.in-Err.failure
    (λ wrong h. first-unresolved characters lines items c.requires c.loop-place.place line c.loop-place-test.true c.index-lines-place.is c.index.result.now c.index.ensures
    wrong h c.loop-place.invariant.passed)
    c.in-Err.ensures)
    c.fault_at.ensures

pub loop-place-preserved : goal.loop-place-preserved
loop-place-preserved c =
    let characters = c.args.self.now.characters.infos.entries in
    let lines = c.args.lines.now in
    let items = c.args.self.now.items.items in
    let i = c.loop-place.place in
    let line = c.index-lines-place.result in
    record {
      rules = rules-next characters lines items c.requires i line c.loop-place-test.true c.index-lines-place.is c.index.result.now c.index.ensures
          _ _ c.in_default.ensures.1 c.loop-place.invariant.rules;
      passed = resolves-next characters lines items c.requires i line c.loop-place-test.true c.index-lines-place.is c.index.result.now c.index.ensures
          c.in_default.ensures.0 c.loop-place.invariant.passed;
    }
