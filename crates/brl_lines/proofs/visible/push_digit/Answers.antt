use Rattle.std.proofs.Common.{false, rules}
use Rattle.std.proofs.lemmas.Fmt.{hex_one_digit}
use Rattle.brl_lines.proofs.VisibleLemmas.{digit_ascii}
use Rattle.brl_lines.proofs.visible.push_digit.Goals as goal

pub returns : goal.returns
returns c = search (rules, digit_ascii c.args.digit c.requires, hex_one_digit false c.args.digit c.requires)
