use Rattle.std.proofs.Common.{◌∷◌, true, false, ◌≡◌, arith, append_assoc, rules}
use Rattle.std.specs.Fmt.{digits}
use Rattle.brl_cert.specs.Fields.{is_char}
use Rattle.brl_cert.proofs.More.{one_more, all_more}
use Rattle.brl_cert.proofs.field.push_more.Goals as goal

pub loop-character-preserved : goal.loop-character-preserved
loop-character-preserved c = record {
  written = one_more (λ x. 46 ∷ digits 16 false x) c.args.out.now.items c.args.characters.now c.loop-character.character-index c.character-item.result c.loop-character.out.items c.push_char.new.out.items (omega arith) c.character-item.is c.loop-character.invariant.written (search (rules, append_assoc));
  in_range = all_more (λ x. is_char x ≡ true) c.args.characters.now c.loop-character.character-index c.character-item.result (omega arith) c.character-item.is c.loop-character.invariant.in_range c.push_char.ensures.in_range;
}
