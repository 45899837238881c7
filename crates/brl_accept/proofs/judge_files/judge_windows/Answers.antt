use Rattle.std.proofs.Common.{subst}
use Rattle.std.proofs.lemmas.Result.{on_ok_weaker}
use Rattle.brl_states.specs.declared.cert.Cert.TheVariants.{Window}
use Rattle.brl_without.specs.Tables.{IsUnambiguousWithout}
use Rattle.brl_accept.proofs.Judged.{judged, shown_plainly}
use Rattle.brl_accept.proofs.judge_files.judge_windows.Goals as goal

pub returns : goal.returns
returns g c =
    let window = c.in-Ok.window in
    let left_out = c.args.scope.left_out.now in
    let excused = c.args.scope.excused.now in
    let t = c.args.table.now in
    let h = judged left_out excused t window (Window c.args.body.now) c.in-Ok.ensures.table c.requires c.in-Ok.ensures.ok c.judge_body.result c.judge_body.ensures.accepted c.judge_body.ensures.refused in
    record {
      shown = on_ok_weaker c.judge_body.result (λ single. shown_plainly left_out excused t (subst (IsUnambiguousWithout left_out) c.in-Ok.ensures.table (single c.requires.1))) c.judge_body.ensures.unambiguous;
      accepted = h.0;
      refused = h.1;
    }
