use Rattle.std.proofs.Common.{subst, ◌∙◌}
use Rattle.brl_rules.specs.Limits.{IsTable}
use Rattle.brl_dues.proofs.Casing.{longer-apart, no-other, one-other, other-again}
use Rattle.brl_states.proofs.Kept.{keeps_of}
use Rattle.brl_dues.proofs.steps.push_steps.Goals as goal

pub returns-in_default : goal.returns-in_default
returns-in_default c =
    let o = c.args.origin.now in
    no-other o.table.now o.state.now o.letter.now c.args.taken.number c.args.taken.after c.args.taken.cells.now (keeps_of o.table.now (subst IsTable c.table.ensures c.law.ensures)).single
    c.args.taken.others.now c.args.taken.run c.requires c.in_ok-step.field-0 c.in_ok-step.ensures c.args.listed.now.items c.push_caps_run_steps.new.listed.items c.in_ok-push_caps_run_steps.ensures c.in_default.is

pub returns-in_ok-push : goal.returns-in_ok-push
returns-in_ok-push c =
    let o = c.args.origin.now in
    one-other o.table.now o.state.now o.letter.now c.args.taken.number c.args.taken.after c.args.taken.cells.now (keeps_of o.table.now (subst IsTable c.table.ensures c.law.ensures)).single
    c.args.taken.others.now c.args.taken.run c.requires c.in_ok-step.field-0 c.in_ok-step.ensures c.args.listed.now.items c.push_caps_run_steps.new.listed.items c.in_ok-push_caps_run_steps.ensures
    c.in-Some.step c.in-Some.is c.deref.result.now c.len-first.result c.deref.ensures.value (c.len-first.ensures ∙ c.args.listed.now.ok.0) c.is_also_in_caps_run.result c.is_also_in_caps_run.ensures c.if-not-is_also_in_caps_run.true c.push.new.self.items c.in_ok-push.ensures.items

pub returns-else-not-is_also_in_caps_run : goal.returns-else-not-is_also_in_caps_run
returns-else-not-is_also_in_caps_run c =
    let o = c.args.origin.now in
    other-again o.table.now o.state.now o.letter.now c.args.taken.number c.args.taken.after c.args.taken.cells.now (keeps_of o.table.now (subst IsTable c.table.ensures c.law.ensures)).single
    c.args.taken.others.now c.args.taken.run c.requires c.in_ok-step.field-0 c.in_ok-step.ensures c.args.listed.now.items c.push_caps_run_steps.new.listed.items c.in_ok-push_caps_run_steps.ensures
    c.in-Some.step c.in-Some.is c.deref.result.now c.len-first.result c.deref.ensures.value (c.len-first.ensures ∙ c.args.listed.now.ok.0) c.is_also_in_caps_run.result c.is_also_in_caps_run.ensures c.if-not-is_also_in_caps_run.false

pub is_also_in_caps_run-requires : goal.is_also_in_caps_run-requires
is_also_in_caps_run-requires c =
    let o = c.args.origin.now in
    longer-apart o.table.now o.state.now o.letter.now c.args.taken.number c.args.taken.after c.args.taken.cells.now (keeps_of o.table.now (subst IsTable c.table.ensures c.law.ensures)).single
    c.args.taken.others.now c.args.taken.run c.requires c.in_ok-step.field-0 c.in_ok-step.ensures c.args.listed.now.items c.push_caps_run_steps.new.listed.items c.in_ok-push_caps_run_steps.ensures
    c.in-Some.step c.in-Some.is c.deref.result.now c.len-first.result c.deref.ensures.value (c.len-first.ensures ∙ c.args.listed.now.ok.0)
