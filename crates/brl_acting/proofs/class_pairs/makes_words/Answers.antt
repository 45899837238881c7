use Rattle.std.proofs.Common.{◌≡◌, false, sym}
use Rattle.brl_acting.specs.PartsViews.{parts_view}
use Rattle.brl_acting.specs.Readings.{is_rule}
use Rattle.brl_acting.proofs.OpcodeForms.{no_words}
use Rattle.brl_acting.proofs.class_pairs.makes_words.Goals as goal

pub returns-then-not-is_rule : goal.returns-then-not-is_rule
returns-then-not-is_rule c =
    let other : is_rule c.args.parts.now.form ≡ false = cc in
    sym (no_words (parts_view c.args.parts.now) c.args.parts.now.form_is other)
