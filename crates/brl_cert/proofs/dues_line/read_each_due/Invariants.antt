use Rattle.std.proofs.Common.{◌≡◌, map, take, All, IsTrue, Some}
use Rattle.brl_cert.specs.Dues.{lenient_due}
use Rattle.brl_cert.specs.Fields.{each}
use Rattle.brl_states.specs.Order.{is_proper}
use Rattle.brl_cert.proofs.dues_line.read_each_due.Given as goal

abbrev pub invariant-loop-field : goal.invariant-loop-field
invariant-loop-field l = record {
  found : each lenient_due (map (λ field. field.now) (take l.field-index l.fields)) ≡ Some l.dues.items;
  proper : All (λ due. IsTrue (is_proper due)) l.dues.items;
}
