use Rattle.std.proofs.Common.{◌≡◌, ◌∙◌, ap, map}
use Rattle.brl_acting.specs.Acting.{acting_of}
use Rattle.brl_acting.specs.Readings.{known_of, known_view}
use Rattle.brl_acting.specs.PartsViews.{parts_view}
use Rattle.brl_acting.specs.Words.{parts_of, table_line_view}
use Rattle.brl_acting.proofs.judging.acting.Goals as goal

pub returns : goal.returns
returns c =
    let lines = map parts_of (map table_line_view c.args.lines.now) in
    let parts : map parts_view c.as_slice.result.now ≡ lines = ap (map parts_view) c.as_slice.ensures.value ∙ c.in_ok-parts.ensures in
    let parts-2 : map parts_view c.as_slice-2.result.now ≡ lines = ap (map parts_view) c.as_slice-2.ensures.value ∙ c.in_ok-parts.ensures in
    let known : known_view c.in_ok-known.known ≡ known_of lines c.args.alphabet.now = c.in_ok-known.ensures ∙ ap (λ ps. known_of ps c.args.alphabet.now) parts in
    c.in_ok-places.ensures ∙ (λ j. acting_of (known j) (parts-2 j))
