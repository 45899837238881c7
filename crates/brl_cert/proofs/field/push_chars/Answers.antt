use Rattle.std.proofs.Common.{arith}
use Rattle.brl_cert.proofs.Lists.{chars_spelled}
use Rattle.brl_cert.proofs.field.push_chars.Goals as goal

pub returns-in_ok-push_more-in-len1-up-clause-written : goal.returns-in_ok-push_more-in-len1-up-clause-written
returns-in_ok-push_more-in-len1-up-clause-written c =
    chars_spelled c.args.characters.now c.first-item.result c.args.out.now.items c.push_char.new.out.items c.push_more.new.out.items (omega (arith, c.in-len1-up.len_at_least)) c.first-item.is c.in_ok-push_char-in-len1-up.ensures.written c.in_ok-push_more-in-len1-up.ensures.written
