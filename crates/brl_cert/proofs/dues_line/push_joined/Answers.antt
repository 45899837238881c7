use Rattle.std.proofs.Common.{◌++◌, ◌∙◌, ap, arith}
use Rattle.brl_cert.proofs.More.{some_joined}
use Rattle.brl_cert.proofs.Lists.{chars_spelled}
use Rattle.brl_cert.proofs.dues_line.push_joined.Goals as goal

pub returns-clause-written : goal.returns-clause-written
returns-clause-written c =
    chars_spelled c.args.characters.now c.first-item.result c.args.out.now.items c.push_char.new.out.items c.push_more.new.out.items (omega (arith, c.in-len1-up.len_at_least)) c.first-item.is c.in_ok-push_char.ensures.written c.in_ok-push_more.ensures.written
    ∙ ap (λ l. c.args.out.now.items ++ l) (some_joined c.args.characters.now (omega (arith, c.in-len1-up.len_at_least)))
