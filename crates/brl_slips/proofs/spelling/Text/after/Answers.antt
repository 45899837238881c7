use Rattle.std.proofs.Common.{arith, ◌≡◌, ◌≤◌, ◌<◌, ◌+◌, ◌-◌, ◌∷◌, ap, subst, sym, ◌∙◌, length, drop, take, get_or, length-drop}
use Rattle.std.proofs.lemmas.List.{take_rest}
use Rattle.brl_slips.specs.Pieces.{cells_at, chars_at}
use Rattle.brl_slips.specs.Searching.{misses_in}
use Rattle.brl_slips.proofs.Completing.{at-within, cells_there, chars_there, completes-fits}
use Rattle.brl_slips.proofs.spelling.Text.after.Goals as goal

pub overflow_add-result : goal.overflow_add-result
overflow_add-result c =
    omega (
      arith,
      at-within c.args.self.pieces.now c.args.self.chars.now c.args.state.character c.args.number c.requires.piece,
      ap length (chars_there c.args.self.pieces.now c.args.number c.index-self-number.result c.requires.piece.piece.there),
    )

pub returns-in_default : goal.returns-in_default
returns-in_default c rest by =
    let pieces = c.args.self.pieces.now in
    let wanted = c.args.wanted.cells.now in
    let cell = c.args.state.cell in
    let fits = completes-fits pieces c.args.self.chars.now wanted c.args.state.character cell c.args.state.misses c.args.number rest by in
    let left = take_rest wanted cell in
    let cells : c.as_slice.result.now ≡ cells_at pieces c.args.number = c.as_slice.ensures ∙ sym (cells_there pieces c.args.number c.index-self-number.result c.requires.piece.piece.there) in
    let missed = c.in_default.ensures (omega (arith, fits.0, ap length left, ap length cells)) in
    omega (arith, missed, fits.1, ap (λ w. misses_in w c.as_slice.result.now) left, ap (misses_in (drop cell wanted)) cells)

pub returns : goal.returns
returns c =
    let pieces = c.args.self.pieces.now in
    let wanted = c.args.wanted.cells.now in
    let cell = c.args.state.cell in
    let left = take_rest wanted cell in
    let piece = c.index-self-number.result in
    let there = c.requires.piece.piece.there in
    let chars = chars_there pieces c.args.number piece there in
    let cells = cells_there pieces c.args.number piece there in
    let same : c.as_slice.result.now ≡ cells_at pieces c.args.number = c.as_slice.ensures ∙ sym cells in
    record {
      character = ap (λ n. c.args.state.character + n) (c.len.ensures ∙ sym (ap length chars));
      cell = ap (λ n. cell + n) (c.len-2.ensures ∙ sym (ap length cells));
      within = omega (arith, c.in-Some.ensures.0, ap length left, ap length same, ap length cells, c.len-2.ensures, length-drop cell wanted, c.requires.cell);
      misses = omega (arith, c.in-Some.ensures.1, ap (λ w. misses_in w c.as_slice.result.now) left, ap (misses_in (drop cell wanted)) same);
    }
