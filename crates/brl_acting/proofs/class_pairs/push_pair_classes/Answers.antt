use Rattle.std.proofs.Common.{◌∙◌, ◌++◌, List, ℕ, ap, codes}
use Rattle.std.proofs.lemmas.List.{append_assoc}
use Rattle.brl_acting.specs.Classes.{classes_with}
use Rattle.brl_acting.specs.Sets.{pair_views}
use Rattle.brl_acting.proofs.class_pairs.push_pair_classes.Goals as goal

pub returns : goal.returns
returns c =
    let upper = classes_with (codes "uppercase") c.args.base.0 in
    let lower = classes_with (codes "lowercase") c.args.base.1 in
    c.in_ok-push_with-2.ensures ∙ ap (λ (ps : List (List ℕ × ℕ)). ps ++ lower) c.in_ok-push_with.ensures ∙ append_assoc (pair_views c.args.pairs.now.items) upper lower
