use Rattle.std.proofs.Common.{◌≡◌, map, string_bytes, take}
use Rattle.brl_cut.proofs.files.copies.Given as goal

abbrev pub invariant-loop-text : goal.invariant-loop-text
invariant-loop-text l = map string_bytes l.others.items ≡ map string_bytes (take l.text-index l.texts)
