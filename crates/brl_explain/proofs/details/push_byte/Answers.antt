use Rattle.std.proofs.Common.{false, rules}
use Rattle.std.proofs.lemmas.Fmt.{hex_byte}
use Rattle.brl_explain.proofs.details.push_byte.Goals as goal

pub returns : goal.returns
returns c = search (rules, hex_byte false c.args.byte c.requires)
