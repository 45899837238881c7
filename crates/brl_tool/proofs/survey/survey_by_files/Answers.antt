use Rattle.std.proofs.Common.{◌≡◌, ◌∙◌, ◌+◌, ◌++◌, ◌∷◌, [], ℕ, Bor, List, ap, get_or, length, map, nat_lt, refl, string_bytes, take}
use Rattle.std.proofs.lemmas.List.{map-append, take_more}
use Rattle.brl_answers.specs.declared.status.Status.TheVariants.{Faulty}
use Rattle.brl_tool.proofs.SurveyLemmas.{so-far-moved, with-report, without-report}
use Rattle.brl_tool.specs.Surveying.{alphabet_if_any, part_text}
use Rattle.brl_tool.proofs.survey.survey_by_files.Goals as goal
use Rattle.brl_tool.proofs.survey.survey_by_files.Goals.{in-Some+in_ok-push_part-in-Some, in-None}

pub loop-path-preserved : goal.loop-path-preserved
loop-path-preserved g c =
    let gives = g.S.Source.gives c.args.source.now in
    let brief = c.args.manner.brief in
    let only = alphabet_if_any c.args.manner.only in
    let paths = c.args.paths.now in
    let i = c.loop-path.path-index in
    let none : Bor (List ℕ) = record { ref_ptr = (0, 0); now = [] } in
    let path = (get_or paths i none).now in
    let name = λ (p : Bor (List ℕ)). p.now in
    let several = nat_lt 1 (length paths) in
    let before = c.loop-path.invariant in
    let more : map (λ p. p.now) (take (i + 1) paths) ≡ map (λ p. p.now) (take i paths) ++ path ∷ [] =
    ap (map name) (take_more paths i none c.loop-path-test.true) ∙ map-append name (take i paths) (get_or paths i none ∷ []) in
    record {
      same = c.report_if_any.ensures.same ∙ before.same;
      so_far = elim c.match-branch-2.branch [
        | in-Some+in_ok-push_part-in-Some w ↦
            so-far-moved brief only gives several more (ap string_bytes w.text-is) w.status-is
            (with-report brief only gives several (map name (take i paths)) (string_bytes c.loop-path.text) c.loop-path.status before.so_far path (string_bytes w.in-Some.report.text) (string_bytes w.push_part.new.text)
            w.in-Some.report.suspect w.after_report-status.result (rw (before.same, w.in-Some.is) at c.in_ok-report.ensures.report) (w.in_ok-push_part-in-Some.ensures ∙ ap (λ report. string_bytes c.loop-path.text ++ part_text several path report) w.as_str.ensures.value)
            w.after_report-status.ensures)
        | in-None w ↦
            let told = rw (before.same, w.in-None.is) at c.in_ok-report.ensures.report in
            so-far-moved brief only gives several more (ap string_bytes w.text-is) w.status-is
            (without-report brief only gives several (map name (take i paths)) (string_bytes c.loop-path.text) c.loop-path.status before.so_far path told.0 Faulty told.1 refl)
      ];
    }
