use Rattle.std.proofs.Common.{◌≡◌, take, map, Some}
use Rattle.brl_cert.specs.Fields.{each, lenient_char}
use Rattle.brl_cert.proofs.field.read_each.Given as goal

abbrev pub invariant-loop-part : goal.invariant-loop-part
invariant-loop-part l = each lenient_char (map (λ part. part.now) (take l.part-index l.parts)) ≡ Some l.characters.items
