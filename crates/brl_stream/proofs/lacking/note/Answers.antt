use Rattle.std.proofs.Common.{◌++◌, arith, length-append, length-take, take}
use Rattle.brl_stream.specs.Lacking.{uses_in}
use Rattle.brl_stream.proofs.LackingLemmas.{uses_in-few}
use Rattle.brl_stream.proofs.lacking.note.Goals as goal

pub note_use-requires : goal.note_use-requires
note_use-requires c =
    let i = c.loop-character.character-index in
    let text = c.args.text.now in
    let uses = c.requires.0 in
    let so_far = uses_in c.args.table.now c.args.number (take i text) in
    let few = uses_in-few c.args.table.now c.args.number (take i text) in
    let count = length-append uses so_far in
    (uses ++ so_far, c.loop-character.invariant uses c.requires.1, omega (arith, few, count, length-take i text, c.loop-character-test.true, c.requires.2))
