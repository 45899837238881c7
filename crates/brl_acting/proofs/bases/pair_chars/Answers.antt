use Rattle.std.proofs.Common.{sym}
use Rattle.brl_acting.specs.PartsViews.{parts_view}
use Rattle.brl_acting.proofs.OpcodeForms.{no_pair}
use Rattle.brl_acting.proofs.bases.pair_chars.Goals as goal

pub returns-then-not-tells_of_characters : goal.returns-then-not-tells_of_characters
returns-then-not-tells_of_characters c = sym (no_pair (parts_view c.args.parts.now) c.args.parts.now.form_is cc)
