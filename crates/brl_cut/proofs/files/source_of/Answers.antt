use Rattle.std.proofs.Common.{◌∙◌, string_bytes, Some}
use Rattle.std.proofs.lemmas.Map.Text.{btree_map_updates_text}
use Rattle.brl_cut.proofs.EditLemmas.{held-more}
use Rattle.brl_cut.proofs.files.source_of.Goals as goal

pub loop-file-preserved : goal.loop-file-preserved
loop-file-preserved c =
    let key = c.in_ok-path.path in
    let bytes = c.in_ok-bytes.bytes in
    held-more c.loop-file.map c.insert.new.self key bytes
    (btree_map_updates_text (string_bytes key) c.loop-file.map c.insert.new.self (Some bytes) c.in_ok-insert.ensures.updates)
    c.args.files.now c.loop-file.file-index c.file-item.result c.loop-file-test.true c.file-item.is (c.in_ok-path.ensures.ok ∙ c.as_str.ensures.value) (c.in_ok-bytes.ensures.items ∙ c.as_slice.ensures.value) c.loop-file.invariant
