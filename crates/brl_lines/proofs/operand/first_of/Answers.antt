use Rattle.std.proofs.Common.{◌∙◌, sym}
use Rattle.brl_lines.proofs.EscapeLemmas.{first_character}
use Rattle.brl_lines.proofs.operand.first_of.Goals as goal

pub returns : goal.returns
returns c = rw c.as_str.ensures (first_character c.args.text.now _ c.in_ok-first.first c.utf8.text (sym c.chars-rest.ensures.rest ∙ c.in_ok-first.ensures.steps.0))
