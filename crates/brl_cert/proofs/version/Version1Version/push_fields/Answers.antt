use Rattle.std.proofs.Common.{rules, append_assoc}
use Rattle.std.proofs.lemmas.List.{append-nil}
use Rattle.std.proofs.lemmas.Result.{on_ok_weaker}
use Rattle.brl_cert.proofs.version.Version1Version.push_fields.Goals as goal

pub returns-clause-written : goal.returns-clause-written
returns-clause-written c = on_ok_weaker c.push_chars.result (λ h. search (rules, append_assoc, append-nil)) c.push_chars.ensures.written
