use Rattle.std.proofs.Common.{◌+◌, ◌∙◌, List, ap, subst, sym}
use Rattle.brl_slips.specs.Finding.{IsSlipFound}
use Rattle.brl_slips.specs.Slips.{AreSlips}
use Rattle.brl_slips.proofs.Judging.{slips-more, slips-push}
use Rattle.brl_slips.proofs.findings.judge_all.Goals as goal
use Rattle.brl_slips.proofs.findings.judge_all.Goals.{in-Some+in_ok-push, in_default}

pub loop-entry-preserved : goal.loop-entry-preserved
loop-entry-preserved c =
    let lexicon = c.args.lexicon.now in
    let end = c.loop-entry.entry in
    let slips = c.loop-entry.slips.items in
    elim c.match-branch-2.branch [
      | in-Some+in_ok-push w ↦
          let found = subst (IsSlipFound lexicon end) w.in-Some.is c.in_ok-slip.ensures in
          subst (AreSlips lexicon (end + 1)) (sym (ap (λ v. v.items) w.slips-is ∙ w.in_ok-push.ensures.items)) (slips-push lexicon end slips w.in-Some.slip c.loop-entry.invariant found.0 found.1)
      | in_default w ↦
          subst (AreSlips lexicon (end + 1)) (sym (ap (λ v. v.items) w.slips-is))
          (slips-more lexicon end slips c.loop-entry.invariant (subst (IsSlipFound lexicon end) w.in_default.is c.in_ok-slip.ensures))
    ]
