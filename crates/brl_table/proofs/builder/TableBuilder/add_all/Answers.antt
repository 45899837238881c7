use Rattle.brl_failure.specs.Raised.{if_fault-weaker}
use Rattle.std.proofs.Common.{◌≤◌, sym, subst, length, map, arith}
use Rattle.std.proofs.lemmas.List.{length-map}
use Rattle.brl_lines.specs.Views.{line_view}
use Rattle.brl_table.specs.Building.{Represents}
use Rattle.brl_table.proofs.SecondPass.{whole}
use Rattle.brl_table.proofs.FirstPass.{aligned-more, first-fault, limits-more, number-of, number-within, passes-more, refusal}
use Rattle.brl_table.proofs.builder.TableBuilder.add_all.Goals as goal

pub loop-line-preserved : goal.loop-line-preserved
loop-line-preserved c =
    let lines = c.args.lines.now in
    let names = c.args.files.now in
    let named = c.requires.named in
    let i = c.loop-line.line-index in
    let line = c.line-item.result in
    let items = c.loop-line.self.items.items in
    let before = c.loop-line.invariant in
    let number = number-of line.file.now names _ c.place_of.result c.unwrap-file.result named c.place_of.ensures c.unwrap-file.ensures in
    let within = number-within line.file.now names _ c.place_of.result c.unwrap-file.result named c.place_of.ensures c.unwrap-file.ensures in
    let item = c.in_default.ensures.adds.0 in
    let is = c.in_default.ensures.adds.1 in
    let more = c.in_default.ensures.adds.2 in
    let after = c.add.new.self in
    record {
      aligned = aligned-more lines names named i line c.loop-line-test.true c.line-item.is c.unwrap-file.result number items before.aligned item _ is more.added;
      represents = subst (λ xs. Represents xs after.characters after.signs after.used) (sym more.added) more.represents;
      limits = limits-more lines names named i line c.loop-line-test.true c.line-item.is c.unwrap-file.result number items _ item within more.limits more.added before.limits;
      within = more.within;
      passed = passes-more lines names named i line c.loop-line-test.true c.line-item.is c.unwrap-file.result number items before.aligned item _ _ _ is
          more.once more.represents more.within before.passed;
    }

pub returns-in-Err-clause-fault : goal.returns-in-Err-clause-fault
returns-in-Err-clause-fault c =
    let lines = c.args.lines.now in
    let names = c.args.files.now in
    let named = c.requires.named in
    let i = c.loop-line.line-index in
    let line = c.line-item.result in
    let number = number-of line.file.now names _ c.place_of.result c.unwrap-file.result named c.place_of.ensures c.unwrap-file.ensures in
    refusal (map line_view lines) i (line_view line) c.in-Err.failure c.fault_at.result
    (if_fault-weaker _ _ c.in-Err.failure
    (λ wrong h. first-fault lines names named i line c.loop-line-test.true c.line-item.is c.unwrap-file.result number c.loop-line.self.items.items c.loop-line.invariant.aligned
    wrong h c.loop-line.invariant.passed)
    c.in-Err.ensures.adds)
    c.fault_at.ensures

pub returns-clause-added : goal.returns-clause-added
returns-clause-added c =
    let lines = map line_view c.args.lines.now in
    let count = length-map c.args.lines.now line_view in
    let past : length lines ≤ c.loop-line.line-index = omega (arith, c.loop-line-test.false, count) in
    let all = c.loop-line.invariant in
    record {
      aligned = whole lines c.loop-line.self.items.items c.loop-line.line-index past all.aligned;
      represents = all.represents;
      limits = all.limits;
      within = all.within;
      passed = λ place line within there. all.passed place line (omega (arith, within, past)) there;
    }
