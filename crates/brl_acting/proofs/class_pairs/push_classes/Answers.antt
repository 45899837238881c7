use Rattle.std.proofs.Common.{◌∙◌, ◌++◌, ap, append-nil, sym}
use Rattle.brl_acting.specs.PartsViews.{parts_view}
use Rattle.brl_acting.specs.Sets.{pair_views}
use Rattle.brl_acting.proofs.OpcodeForms.{no_classes}
use Rattle.brl_acting.proofs.class_pairs.push_classes.Goals as goal

pub returns-then-not-tells_of_characters : goal.returns-then-not-tells_of_characters
returns-then-not-tells_of_characters c =
    let none = no_classes (parts_view c.args.parts.now) c.args.parts.now.form_is cc in
    sym (ap (λ l. pair_views c.args.pairs.now.items ++ l) (none (sym c.defines.ensures ∙ c.if-defines.false)) ∙ append-nil (pair_views c.args.pairs.now.items))
