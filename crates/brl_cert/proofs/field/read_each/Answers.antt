use Rattle.std.proofs.Common.{arith, sym, ap, ◌∙◌, Some}
use Rattle.brl_cert.specs.Fields.{lenient_char}
use Rattle.brl_cert.proofs.Each.{each_more, each_none}
use Rattle.brl_cert.proofs.field.read_each.Goals as goal

pub returns-in_default : goal.returns-in_default
returns-in_default c = sym (each_none lenient_char (λ part. part.now) c.args.parts.now c.loop-part.part-index _ (omega arith) (sym c.in_default.ensures))

pub loop-part-preserved : goal.loop-part-preserved
loop-part-preserved c =
    each_more lenient_char (λ part. part.now) c.args.parts.now c.loop-part.part-index _ c.loop-part.characters.items c.in-Some.character (omega arith) c.loop-part.invariant (sym c.in-Some.ensures)
    ∙ ap (λ cs. Some cs) (sym c.in_ok-push.ensures.items)
