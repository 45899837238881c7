use Rattle.std.proofs.Common.{◌≡◌, ◌∙◌, ap, string_bytes, sym}
use Rattle.std.specs.Str.{bytes_eq}
use Rattle.brl_cut.proofs.EditLemmas.{prefixes-more, prefixes-same}
use Rattle.brl_cut.proofs.files.prefixes_of.Goals as goal
use Rattle.brl_cut.proofs.files.prefixes_of.Goals.{then-eq+in_ok-insert, else-eq}

pub loop-edit-preserved : goal.loop-edit-preserved
loop-edit-preserved c =
    let edits = c.args.edits.now in
    let i = c.loop-edit.edit-index in
    let edit = c.edit-item.result in
    let path = c.args.path.now in
    let told : bytes_eq path (string_bytes edit.file) ≡ c.eq.result = ap (bytes_eq path) (sym c.as_str.ensures.value) ∙ sym c.eq.ensures in
    elim c.if-eq.branch [
      | then-eq+in_ok-insert w ↦
          rw w.prefixes-is
          (prefixes-more edits i edit c.loop-edit-test.true c.edit-item.is path c.loop-edit.prefixes c.loop-edit.invariant w.insert.new.self w.as_str-then-eq.result w.in_ok-insert.ensures.updates.0
          w.as_str-then-eq.ensures.value (told ∙ w.if-eq.true))
      | else-eq w ↦
          rw w.prefixes-is
          (prefixes-same edits i edit c.loop-edit-test.true c.edit-item.is path c.loop-edit.prefixes c.loop-edit.invariant (told ∙ w.if-eq.false))
    ]
