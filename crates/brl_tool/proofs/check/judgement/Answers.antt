use Rattle.std.specs.Option.{option_copied}
use Rattle.brl_tool.proofs.CheckLemmas.{accepted_told, refused_told}
use Rattle.brl_without.specs.Alphabet.{alphabet_view}
use Rattle.brl_tool.proofs.check.judgement.Goals as goal

pub returns-in-Ok : goal.returns-in-Ok
returns-in-Ok g c =
    let but_for = c.args.but_for in
    accepted_told (alphabet_view but_for.alphabet.now) (option_copied but_for.accept) but_for.excusal.now c.args.table.now c.args.bytes.now c.requires.defined c.in-Ok.accepted (rw c.requires.left_out at c.in-Ok.ensures.shown) (rw c.requires.left_out at c.in-Ok.ensures.accepted) c.acceptance.result c.acceptance.ensures

pub returns-in-Err : goal.returns-in-Err
returns-in-Err g c =
    let but_for = c.args.but_for in
    refused_told (alphabet_view but_for.alphabet.now) (option_copied but_for.accept) but_for.excusal.now c.args.table.now c.args.bytes.now c.requires.defined c.in-Err.failure (rw c.requires.left_out at c.in-Err.ensures.refused) c.answer_failure.result c.answer_failure.ensures
