use Rattle.std.proofs.Common.{sym}
use Rattle.brl_acting.specs.PartsViews.{parts_view}
use Rattle.brl_acting.proofs.OpcodeForms.{no_noletsigns}
use Rattle.brl_acting.proofs.class_pairs.lists_noletsigns.Goals as goal

pub returns-then-not-tells_of_characters : goal.returns-then-not-tells_of_characters
returns-then-not-tells_of_characters c = sym (no_noletsigns (parts_view c.args.parts.now) c.args.parts.now.form_is cc)
