use Rattle.std.proofs.Common.{◌≡◌, ◌∙◌, ap}
use Rattle.brl_acting.specs.Classes.{is_name_of, met_by}
use Rattle.brl_acting.specs.Sets.{names_view, pair_views, set_view}
use Rattle.brl_acting.proofs.classes.classes_of.Goals as goal

pub returns : goal.returns
returns c =
    let met : names_view c.in_ok-met.met ≡ is_name_of (met_by (set_view c.args.stood.now) (pair_views c.args.pairs.now)) =
    c.in_ok-met.ensures ∙ ap is_name_of (ap pair_views c.as_slice.ensures.value ∙ c.in_ok-met_pairs.ensures) in
    λ j. record {
      names = c.in_ok-names.ensures j;
      met = met j;
      capitals = set_view c.args.all.capitals;
      plain_digits = set_view c.args.all.plain_digits;
      literary_digits = set_view c.args.all.literary_digits;
      letters = set_view c.args.all.letters;
      noletsigns = set_view c.args.noletsigns;
    }
