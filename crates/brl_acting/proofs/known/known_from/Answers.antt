use Rattle.std.proofs.Common.{◌≡◌, ◌∙◌, map}
use Rattle.brl_acting.specs.Classes.{classes_from, classes_view, members_view}
use Rattle.brl_acting.specs.Capitals.{reach_by, reach_view}
use Rattle.brl_acting.specs.Readings.{readings_by, readings_view}
use Rattle.brl_acting.specs.Sets.{pair_views, set_view}
use Rattle.brl_acting.specs.PartsViews.{parts_view}
use Rattle.brl_acting.proofs.known.known_from.Goals as goal

pub returns : goal.returns
returns c =
    let lines = map parts_view c.args.lines.now in
    let pairs = pair_views c.args.pairs.now in
    let bases = c.args.bases.now in
    let facts = c.args.facts in
    let all = members_view c.args.all in
    let noletsigns = set_view c.args.noletsigns in
    let reach : reach_view c.in_ok-reach.reach ≡ reach_by bases c.args.chars.now = c.in_ok-reach.ensures in
    let classes : classes_view c.in_ok-classes.classes ≡ classes_from all noletsigns pairs (reach_by bases c.args.chars.now).stood =
    c.in_ok-classes.ensures ∙ (λ j. classes_from all noletsigns pairs (reach j).stood) in
    let read : readings_view c.in_ok-read.read ≡ readings_by lines bases (reach_by bases c.args.chars.now).near facts =
    c.in_ok-read.ensures ∙ (λ j. readings_by lines bases (reach j).near facts) in
    λ j. record { reach = reach j; classes = classes j; facts = facts; read = read j }
