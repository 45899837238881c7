use Rattle.std.proofs.Common.{false, rules}
use Rattle.std.proofs.lemmas.Fmt.{hex_byte}
use Rattle.brl_lines.proofs.SpellingLemmas.{two_digits_ascii}
use Rattle.brl_lines.proofs.visible.push_digits.Goals as goal

pub returns : goal.returns
returns c = search (rules, two_digits_ascii c.args.number c.requires, hex_byte false c.args.number c.requires)
