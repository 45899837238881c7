use Rattle.std.proofs.Common.{◌≡◌, ◌≤◌, drop}
use Rattle.brl_lines.proofs.NumberLemmas.{going}
use Rattle.brl_lines.proofs.number.read_number.Given as goal

abbrev pub invariant-loop-byte : goal.invariant-loop-byte
invariant-loop-byte l = record {
  rest : going l.radix l.greatest l.value (drop l.byte-index l.field) ≡ going l.radix l.greatest 0 l.field;
  small : l.value ≤ l.greatest;
}
