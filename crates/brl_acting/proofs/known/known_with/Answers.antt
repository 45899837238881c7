use Rattle.std.proofs.Common.{◌≡◌, ◌∙◌, ap, map, subst}
use Rattle.std.specs.Result.{IfOk}
use Rattle.brl_acting.specs.Capitals.{bases_of}
use Rattle.brl_acting.specs.Classes.{besides_of, classes_of, facts_by, members_in, members_view, noletsigns_of}
use Rattle.brl_acting.specs.Readings.{Known, known_by, known_from, known_view}
use Rattle.brl_acting.specs.Sets.{is_in, pair_views, set_view}
use Rattle.brl_acting.specs.PartsViews.{parts_view}
use Rattle.brl_acting.proofs.known.known_with.Goals as goal

pub returns : goal.returns
returns c =
    let lines = map parts_view c.args.lines.now in
    let chars = c.args.chars.now in
    let pairs : pair_views c.as_slice-pairs.result.now ≡ classes_of lines = ap pair_views c.as_slice-pairs.ensures.value ∙ c.in_ok-pairs.ensures in
    let bases : c.as_slice-bases.result.now ≡ bases_of lines = c.as_slice-bases.ensures.value ∙ c.in_ok-bases.ensures in
    let letters : set_view c.in_ok-noletsigns.noletsigns ≡ is_in (noletsigns_of lines) =
    c.in_ok-noletsigns.ensures ∙ ap is_in (c.as_slice.ensures.value ∙ c.in_ok-noletsigns_of.ensures) in
    let all : members_view c.in_ok-all.all ≡ members_in (classes_of lines) = c.in_ok-all.ensures ∙ ap members_in pairs in
    let besides : c.as_slice-2.result.now ≡ besides_of lines = c.as_slice-2.ensures.value ∙ c.in_ok-besides.ensures in
    let facts : c.in_ok-facts.facts ≡ facts_by (members_in (classes_of lines)) (bases_of lines) (is_in (noletsigns_of lines)) (besides_of lines) chars =
    c.in_ok-facts.ensures ∙ (λ j. facts_by (all j) (bases j) (letters j) (besides j) chars) in
    let is : known_from lines (pair_views c.as_slice-pairs.result.now) c.as_slice-bases.result.now (members_view c.in_ok-all.all) (set_view c.in_ok-noletsigns.noletsigns) c.in_ok-facts.facts chars ≡ known_by lines chars =
    λ j. known_from lines (pairs j) (bases j) (all j) (letters j) (facts j) chars in
    subst (λ (known : Known). IfOk c.known_from.result (λ found. known_view found ≡ known)) is c.known_from.ensures
