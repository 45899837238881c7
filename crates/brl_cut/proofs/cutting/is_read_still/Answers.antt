use Rattle.std.proofs.Common.{◌≡◌, ◌∙◌, List, ap, map, subst, sym, true, ℕ}
use Rattle.std.proofs.lemmas.Bool.{false≢true}
use Rattle.std.proofs.lemmas.Slice.Eq.{bytes_eq-Decides}
use Rattle.brl_lines.specs.declared.gathering.GatheredFile.{GatheredFile}
use Rattle.brl_cut.specs.Alike.{keep_files}
use Rattle.brl_cut.specs.Cuts.{IsRead}
use Rattle.brl_cut.specs.Files.{file_view}
use Rattle.brl_cut.proofs.AlikeFiles.{read-still}
use Rattle.brl_cut.proofs.cutting.is_read_still.Goals.{else-eq, then-eq}
use Rattle.brl_cut.proofs.cutting.is_read_still.Goals as goal

pub returns : goal.returns
returns c = λ so.
    elim c.if-eq.branch [
      | then-eq w ↦
          (let of = c.args.of.now in
          let others = map file_view c.args.files.now in
          let keep : keep_files (map file_view of.cut.files.items) others ≡ true =
          ap (λ (fs : List GatheredFile). keep_files (map file_view fs) others) (sym w.as_slice.ensures.value) ∙ sym w.keep_files.ensures ∙ sym w.result-is ∙ so in
          let same = (bytes_eq-Decides c.as_str.result.now c.as_str-2.result.now).0 (sym c.eq.ensures ∙ w.if-eq.true) in
          let path = sym c.as_str.ensures.value ∙ same ∙ c.as_str-2.ensures.value ∙ c.in_ok-written.ensures in
          subst (λ (root : List ℕ). IsRead others root) path (of.table, read-still (map file_view of.cut.files.items) others keep _ of.table of.loads of.reads))
      | else-eq w ↦ absurd (false≢true (sym w.if-eq.false ∙ sym w.result-is ∙ so))
    ]
