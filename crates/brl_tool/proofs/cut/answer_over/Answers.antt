use Rattle.std.proofs.Common.{◌≡◌, ◌∙◌, Err, List, ap, inl, map, refl, subst}
use Rattle.std.proofs.lemmas.Result.{err_from_is_err_and}
use Rattle.brl_acting.specs.WholeTable.{acting_view}
use Rattle.brl_answers.proofs.StepLemmas.{failed}
use Rattle.brl_cut.specs.Cuts.{IsRead, IsUnwritten, written_root}
use Rattle.brl_cut.specs.Edits.{Texts}
use Rattle.brl_cut.specs.Files.{file_view}
use Rattle.brl_cut.specs.Marks.{marked_files}
use Rattle.brl_failure.specs.Failure.{IfFault}
use Rattle.brl_lines.specs.Lines.{LocationView}
use Rattle.brl_lines.specs.Views.{location_view}
use Rattle.brl_tool.specs.Acting.{left_out_places}
use Rattle.brl_tool.specs.Cutting.{AreMarked, IsActingAnswer}
use Rattle.brl_without.specs.Alphabet.{alphabet_view}
use Rattle.brl_tool.proofs.cut.answer_over.Goals.{In_ok-marked}
use Rattle.brl_tool.proofs.cut.answer_over.Goals as goal

-- the marked files define no table
pub returns-in_err-marked : goal.returns-in_err-marked
returns-in_err-marked c =
    let path = c.args.asked.table.now in
    let dir = c.args.asked.dir.now in
    let places : map location_view c.as_slice.result.now ≡ left_out_places (map acting_view c.args.judged.acting.now) = ap (map location_view) c.as_slice.ensures.value ∙ c.in_ok-places.ensures in
    failed _ _ c.from_residual-in_err-marked.ensures.1
    (subst (λ (ps : List LocationView). IfFault (IsUnwritten (marked_files ps c.args.of.now) path dir) c.in_err-marked.field-0.0) places c.in_err-marked.ensures.fault)

-- the files with marks
marked : (c : In_ok-marked) → AreMarked c.args.asked.table.now c.args.asked.dir.now c.args.of.now (map acting_view c.args.judged.acting.now) (marked_files (left_out_places (map acting_view c.args.judged.acting.now)) c.args.of.now)
marked c =
    let dir = c.args.asked.dir.now in
    let places : map location_view c.as_slice.result.now ≡ left_out_places (map acting_view c.args.judged.acting.now) = ap (map location_view) c.as_slice.ensures.value ∙ c.in_ok-places.ensures in
    (refl, subst (λ (ps : List LocationView). IsRead (marked_files ps c.args.of.now) (written_root dir c.args.asked.table.now)) places c.in_ok-marked.ensures.read)

-- memory runs out at the answer
pub returns-in_err-acting_answer : goal.returns-in_err-acting_answer
returns-in_err-acting_answer c =
    let p = err_from_is_err_and c.from_residual-in_err-acting_answer.result c.from_residual-in_err-acting_answer.ensures.1 in
    inl (_, marked ((goal.at.returns-in_err-acting_answer c).In_ok-marked), rw (p.1 ∙ ap Err p.2) tt)

pub returns : goal.returns
returns c =
    let dir = c.args.asked.dir.now in
    let lines = map acting_view c.args.judged.acting.now in
    let places : map location_view c.as_slice.result.now ≡ left_out_places lines = ap (map location_view) c.as_slice.ensures.value ∙ c.in_ok-places.ensures in
    let texts : map file_view c.as_slice-2.result.now ≡ marked_files (left_out_places lines) c.args.of.now =
    ap (map file_view) c.as_slice-2.ensures.value ∙ c.in_ok-marked.ensures.files ∙ ap (λ (ps : List LocationView). marked_files ps c.args.of.now) places in
    inl (
      marked_files (left_out_places lines) c.args.of.now,
      marked ((goal.at.returns c).In_ok-marked),
      subst (λ (fs : Texts). IsActingAnswer c.args.asked.rewrite c.args.asked.table.now dir (alphabet_view c.args.judged.alphabet.now) c.args.of.now.cut lines fs c.in_ok-acting_answer.field-0) texts c.in_ok-acting_answer.ensures,
    )
