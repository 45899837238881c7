use Rattle.std.proofs.Common.{◌∙◌, ◌+◌, List, ap, map, subst, sym}
use Rattle.brl_failure.specs.Raised.{if_fault-weaker}
use Rattle.brl_lines.specs.Views.{line_view}
use Rattle.brl_table.specs.Building.{AreWithinLimits, Represents}
use Rattle.brl_table.specs.Faults.{fault_after}
use Rattle.brl_table.specs.declared.faulty.FaultyLine.{FaultyLine}
use Rattle.brl_table.specs.declared.builder.TableBuilder.{TableBuilder}
use Rattle.brl_table.proofs.FirstPass.{reads, there}
use Rattle.brl_table.proofs.ItemSteps.{fault-none}
use Rattle.brl_table.proofs.SurveySteps.{IsSurveyed, if_fault-holds, surveyed-faulty, surveyed-good}
use Rattle.brl_table.proofs.faulty.find_faulty.Goals as goal
use Rattle.brl_table.proofs.faulty.find_faulty.Goals.{in-Err+in_ok-faulty_line+in_ok-push, in_default}

pub loop-line-preserved : goal.loop-line-preserved
loop-line-preserved c =
    let lines = c.args.lines.now in
    let i = c.loop-line.line-index in
    let line = c.line-item.result in
    let view = line_view line in
    let before = c.loop-line.invariant in
    let items = c.loop-line.builder.items.items in
    let after = c.add.new.self in
    let at = there lines c.args.files.now c.requires.named i line c.loop-line-test.true c.line-item.is in
    let read =
    reads lines c.args.files.now c.requires.named i line c.loop-line-test.true c.line-item.is c.place_of.result c.unwrap-file.result c.place_of.ensures c.unwrap-file.ensures in
    elim c.match-add.branch [
      | in-Err+in_ok-faulty_line+in_ok-push w ↦
          (let same = if_fault-holds w.in-Err.failure w.in-Err.ensures.same w.in_ok-faulty_line.ensures.1 in
          record {
            represents = subst (λ (b : TableBuilder). Represents b.items.items b.characters b.signs b.used) (sym same) before.represents;
            within = subst (λ (b : TableBuilder). AreWithinLimits b.characters b.signs b.used) (sym same) before.within;
            so_far = surveyed-faulty (map line_view lines) i view at items c.loop-line.found.items before.so_far w.in-Err.failure w.in_ok-faulty_line.field-0 after.items.items c.match-add.found.items
                (if_fault-weaker _ _ w.in-Err.failure (λ wrong h. ap (fault_after items view) (sym read) ∙ h) w.in-Err.ensures.adds)
                w.in_ok-faulty_line.ensures
                (if_fault-weaker _ _ w.in-Err.failure (λ wrong h. ap (λ b. b.items.items) h) w.in-Err.ensures.same)
                (ap (λ v. v.items) w.found-is ∙ w.in_ok-push.ensures.items);
          })
      | in_default w ↦
          (let item = w.in_default.ensures.adds.0 in
          let is = w.in_default.ensures.adds.1 in
          let more = w.in_default.ensures.adds.2 in
          let represents = subst (λ xs. Represents xs after.characters after.signs after.used) (sym more.added) more.represents in
          record {
            represents = represents;
            within = more.within;
            so_far = subst (λ (found : List FaultyLine). IsSurveyed (map line_view lines) (i + 1) after.items.items found) (sym (ap (λ v. v.items) w.found-is))
                (surveyed-good (map line_view lines) i view at items c.loop-line.found.items before.so_far item after.items.items
                (ap (fault_after items view) (sym read ∙ is)
                ∙ fault-none items view item more.once after.characters after.signs after.used more.represents more.within.few_characters more.within.few_rules)
                (sym read ∙ is) more.added);
          })
    ]
