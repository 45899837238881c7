use Rattle.std.proofs.Common.{◌≡◌, ℕ, List, ap, refl, ◌∙◌, slice_get, option_copied}
use Rattle.brl_cells.specs.Marks.{ascii_mark, braille_ascii}
use Rattle.brl_cells.specs.declared.marks.TheConstants.{ASCII_MARKS}
use Rattle.brl_cells.proofs.Tables.{looked_up, unmarked}
use Rattle.brl_cells.proofs.marks.to_ascii.Goals as goal

-- the table of the code is that of Braille ASCII
same_marks : ◌≡◌ {A = List ℕ} ASCII_MARKS braille_ascii
same_marks = refl

pub returns : goal.returns
unfolding ascii_mark
returns c =
    let found : option_copied c.get.result ≡ slice_get ASCII_MARKS c.from.result = looked_up ASCII_MARKS c.from.result c.get.result c.get.ensures.lookup in
    let mark = c.copied.ensures ∙ found ∙ ap (λ (n : ℕ). slice_get ASCII_MARKS n) (c.from.ensures ∙ c.cell.view_is)
    ∙ ap (λ (marks : List ℕ). slice_get marks c.args.cell) same_marks in
    record { mark = mark; none = unmarked c.args.cell c.copied.result mark }
