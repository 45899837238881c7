use Rattle.std.proofs.Common.{◌≡◌, ◌∙◌, ◌&&◌, ◌||◌, ap, codes, map, not}
use Rattle.brl_acting.specs.Classes.{classes_of, members}
use Rattle.brl_acting.specs.Sets.{is_in, pair_views, set_view}
use Rattle.brl_acting.specs.PartsViews.{parts_view}
use Rattle.brl_acting.proofs.letters.letters_of_parts.Goals as goal

pub returns : goal.returns
returns c =
    let lines = map parts_view c.args.lines.now in
    let pairs : pair_views c.as_slice.result.now ≡ classes_of lines = ap pair_views c.as_slice.ensures.value ∙ c.in_ok-pairs.ensures in
    let pairs-2 : pair_views c.as_slice-2.result.now ≡ classes_of lines = ap pair_views c.as_slice-2.ensures.value ∙ c.in_ok-pairs.ensures in
    let letters : set_view c.in_ok-letters.letters ≡ is_in (members (codes "letter") (classes_of lines)) =
    c.in_ok-letters.ensures ∙ (λ j. is_in (members (codes "letter") (pairs j))) in
    let others = c.in_ok-add.ensures
    ∙ (λ j q. (c.in_ok-without_sign.ensures ∙ (λ i. is_in (members (codes "uppercase") (pairs-2 i)))) j q || is_in ((c.as_slice-3.ensures.value ∙ c.in_ok-noletsigns_of.ensures) j) q) in
    λ j. record {
      is_letter = letters j;
      takes_sign = λ q. letters j q && not (others j q);
    }
