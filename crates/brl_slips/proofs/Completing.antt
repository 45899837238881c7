-- Rows of pieces that complete a text: by their first piece and the others.
use Rattle.std.proofs.Common.{◌≡◌, ◌≢◌, ◌≤◌, ◌<◌, ◌+◌, ℕ, Bool, true, false, cond, List, [], ◌∷◌, ◌++◌, All, Option, Some, None, refl, sym, ap, subst, ◌∙◌, arith, length, take, drop, get_or, length-append, length-drop, length-take, eq-eqb, append-nil, nat_eq, ◌⊎◌, inl, inr}
use Rattle.std.specs.List.{Contains, zip, count_by}
use Rattle.std.proofs.lemmas.List.{drop_at, take_at, get_or_default, take-append-drop, drop-drop, append_cancel_left, set_past, drop_all}
use Rattle.std.proofs.lemmas.Bool.{cases_eq, ne_eqb}
use Rattle.std.proofs.lemmas.Option.{slice_get-get_or}
use Rattle.std.specs.Option.{option_map_or}
use Rattle.std.proofs.lemmas.List.Elements.{All-nil, All-cons, All-head, All-tail}
use Rattle.std.proofs.lemmas.List.Sums.{sum_by-cons}
use Rattle.std.specs.Global.{Vec}
use Rattle.brl_slips.specs.Pieces.{IsPieceOf, cells_at, cells_of, chars_at, chars_of}
use Rattle.brl_slips.specs.Searching.{AreStarts, Completes, Fits, IsAfter, IsCompleted, IsDead, IsPieceAt, is_miss, misses_in, numbers_at}
use Rattle.brl_slips.specs.declared.lexicon.Piece.{Piece}
use Rattle.brl_slips.specs.declared.spelling.State.{State}

-- the misses of cells and of those that follow them
pub misses-append : (wanted : List (Option ℕ)) (cells rest : List ℕ) → length cells ≤ length wanted
    → misses_in wanted (cells ++ rest) ≡ misses_in wanted cells + misses_in (drop (length cells) wanted) rest
misses-append [] [] rest h = omega arith
misses-append (w ∷ ws) [] rest h = omega arith
misses-append [] (c ∷ cs) rest h = omega arith
misses-append (w ∷ ws) (c ∷ cs) rest h =
    let f : Option ℕ × ℕ → ℕ = λ pair. cond (is_miss pair.0 pair.1) 1 0 in
    omega (arith, sum_by-cons f (w, c) (zip ws (cs ++ rest)), sum_by-cons f (w, c) (zip ws cs), misses-append ws cs rest (omega arith))

-- a piece at a place ends within the text
pub at-within : (pieces : List Piece) (text : List ℕ) (place number : ℕ) → IsPieceAt pieces text place number
    → place + length (chars_at pieces number) ≤ length text
at-within pieces text place number at =
    let chars = chars_at pieces number in
    omega (arith, ap length at.stands, length-take (length chars) (drop place text), length-drop place text, at.piece.some)

-- the characters and the cells of a piece that was read
pub chars_there : (pieces : List Piece) (number : ℕ) (d : Piece) → number < length pieces → chars_at pieces number ≡ (get_or pieces number d).chars
chars_there pieces number d within = ap (λ found. option_map_or (λ (p : Piece). p.chars) found []) (slice_get-get_or pieces number d within)

pub cells_there : (pieces : List Piece) (number : ℕ) (d : Piece) → number < length pieces → cells_at pieces number ≡ (get_or pieces number d).cells
cells_there pieces number d within = ap (λ found. option_map_or (λ (p : Piece). p.cells) found []) (slice_get-get_or pieces number d within)

-- what is left of the characters after those of the first piece
pub rest_after : (chars rest : List ℕ) (place : ℕ) (text : List ℕ) → chars ++ rest ≡ drop place text → rest ≡ drop (place + length chars) text
rest_after chars rest place text same =
    sym (drop_at chars rest (length chars) refl) ∙ (ap (drop (length chars)) same ∙ drop-drop (length chars) place text)

-- a piece and what completes the text after it
pub completes-cons : (pieces : List Piece) (text : List ℕ) (wanted : List (Option ℕ)) (character cell misses left number : ℕ) (more : List ℕ)
    → IsPieceAt pieces text character number
    → length (cells_at pieces number) ≤ length (drop cell wanted)
    → misses_in (drop cell wanted) (cells_at pieces number) + left ≡ misses
    → Completes pieces text wanted (character + length (chars_at pieces number)) (cell + length (cells_at pieces number)) left more
    → Completes pieces text wanted character cell misses (number ∷ more)
completes-cons pieces text wanted character cell misses left number more at fits missed by =
    let cells = cells_at pieces number in
    let chars = chars_at pieces number in
    let others = cells_of pieces more in
    let same : drop (length cells) (drop cell wanted) ≡ drop (cell + length cells) wanted = drop-drop (length cells) cell wanted in
    let parts : take (length chars) (drop character text) ++ drop (length chars) (drop character text) ≡ drop character text = take-append-drop (length chars) (drop character text) in
    let rest : drop (length chars) (drop character text) ≡ drop (character + length chars) text = drop-drop (length chars) character text in
    record {
      each = All-cons (IsPieceOf pieces text) number more at.piece by.each;
      rest = ap (λ x. chars ++ x) (by.rest ∙ sym rest) ∙ (ap (λ x. x ++ drop (length chars) (drop character text)) (sym at.stands) ∙ parts);
      fit = record {
        as_many = omega (arith, length-append cells others, by.fit.as_many, length-drop cell wanted, length-drop (cell + length cells) wanted);
        few = omega (arith, misses-append (drop cell wanted) cells others fits, ap (λ w. misses_in w others) same, by.fit.few, missed);
      };
    }

-- what completes the text after the first piece
pub completes-tail : (pieces : List Piece) (text : List ℕ) (wanted : List (Option ℕ)) (character cell misses left number : ℕ) (more : List ℕ)
    → misses_in (drop cell wanted) (cells_at pieces number) + left ≡ misses
    → Completes pieces text wanted character cell misses (number ∷ more)
    → Completes pieces text wanted (character + length (chars_at pieces number)) (cell + length (cells_at pieces number)) left more
completes-tail pieces text wanted character cell misses left number more missed by =
    let cells = cells_at pieces number in
    let others = cells_of pieces more in
    let same : drop (length cells) (drop cell wanted) ≡ drop (cell + length cells) wanted = drop-drop (length cells) cell wanted in
    let fits : length cells ≤ length (drop cell wanted) = omega (arith, length-append cells others, by.fit.as_many) in
    record {
      each = All-tail (IsPieceOf pieces text) number more by.each;
      rest = rest_after (chars_at pieces number) (chars_of pieces more) character text by.rest;
      fit = record {
        as_many = omega (arith, length-append cells others, by.fit.as_many, length-drop cell wanted, length-drop (cell + length cells) wanted);
        few = omega (arith, misses-append (drop cell wanted) cells others fits, ap (λ w. misses_in w others) same, by.fit.few, missed);
      };
    }

-- the first piece is at the place
pub completes-at : (pieces : List Piece) (text : List ℕ) (wanted : List (Option ℕ)) (character cell misses number : ℕ) (more : List ℕ)
    → Completes pieces text wanted character cell misses (number ∷ more) → IsPieceAt pieces text character number
completes-at pieces text wanted character cell misses number more by =
    let chars = chars_at pieces number in
    record {
      piece = All-head (IsPieceOf pieces text) number more by.each;
      stands = ap (take (length chars)) (sym by.rest) ∙ take_at chars (chars_of pieces more) (length chars) refl;
    }

-- its cells are no more than are wanted, and miss no more than may be missed
pub completes-fits : (pieces : List Piece) (text : List ℕ) (wanted : List (Option ℕ)) (character cell misses number : ℕ) (more : List ℕ)
    → Completes pieces text wanted character cell misses (number ∷ more)
    → (length (cells_at pieces number) ≤ length (drop cell wanted)) × (misses_in (drop cell wanted) (cells_at pieces number) ≤ misses)
completes-fits pieces text wanted character cell misses number more by =
    let cells = cells_at pieces number in
    let others = cells_of pieces more in
    let fits : length cells ≤ length (drop cell wanted) = omega (arith, length-append cells others, by.fit.as_many) in
    (fits, omega (arith, misses-append (drop cell wanted) cells others fits, by.fit.few))

-- no piece is left at the end of the text
pub completes-end : (pieces : List Piece) (text : List ℕ) (wanted : List (Option ℕ)) (character cell misses : ℕ) (row : List ℕ)
    → length text ≤ character → Completes pieces text wanted character cell misses row → length wanted ≤ cell
completes-end pieces text wanted character cell misses [] end by = omega (arith, by.fit.as_many, length-drop cell wanted)
completes-end pieces text wanted character cell misses (number ∷ more) end by =
    let chars = chars_at pieces number in
    let first : IsPieceOf pieces text number = All-head (IsPieceOf pieces text) number more by.each in
    omega (arith, first.some, ap length by.rest, length-append chars (chars_of pieces more), length-drop character text)

-- at the end of both, no piece completes
pub completes-nil : (pieces : List Piece) (text : List ℕ) (wanted : List (Option ℕ)) (character cell misses : ℕ)
    → length text ≤ character → length wanted ≤ cell → Completes pieces text wanted character cell misses []
completes-nil pieces text wanted character cell misses end wanted_end =
    record {
      each = All-nil (IsPieceOf pieces text);
      rest = sym (drop_all character text end);
      fit = record {
        as_many = omega (arith, length-drop cell wanted);
        few = subst (λ w. misses_in w [] ≤ misses) (sym (drop_all cell wanted wanted_end)) (omega arith);
      };
    }

-- the cells of a piece with a state after it are no more than are wanted
pub after-fits : (pieces : List Piece) (wanted : List (Option ℕ)) (state : State) (number : ℕ) (next : State)
    → IsAfter pieces wanted state number next → length (cells_at pieces number) ≤ length (drop state.cell wanted)
after-fits pieces wanted state number next after = omega (arith, after.cell, after.within, length-drop state.cell wanted)

-- what completes the text after a piece does so from before it, with the piece
pub completes-after : (pieces : List Piece) (text : List ℕ) (wanted : List (Option ℕ)) (state : State) (number : ℕ) (next : State) (more : List ℕ)
    → IsPieceAt pieces text state.character number → IsAfter pieces wanted state number next
    → Completes pieces text wanted next.character next.cell next.misses more
    → Completes pieces text wanted state.character state.cell state.misses (number ∷ more)
completes-after pieces text wanted state number next more at after by =
    completes-cons pieces text wanted state.character state.cell state.misses next.misses number more at (after-fits pieces wanted state number next after) after.misses
    (subst (λ i. Completes pieces text wanted i (state.cell + length (cells_at pieces number)) next.misses more) after.character
    (subst (λ j. Completes pieces text wanted next.character j next.misses more) after.cell by))

-- where nothing completes the text after a piece, nothing does so with it
pub dead-after : (pieces : List Piece) (text : List ℕ) (wanted : List (Option ℕ)) (state : State) (number : ℕ) (next : State) (more : List ℕ)
    → IsAfter pieces wanted state number next → IsDead pieces text wanted next.character next.cell next.misses
    → Completes pieces text wanted state.character state.cell state.misses (number ∷ more) → ⊥
dead-after pieces text wanted state number next more after dead by =
    dead more
    (subst (λ i. Completes pieces text wanted i next.cell next.misses more) (sym after.character)
    (subst (λ j. Completes pieces text wanted (state.character + length (chars_at pieces number)) j next.misses more) (sym after.cell)
    (completes-tail pieces text wanted state.character state.cell state.misses next.misses number more after.misses by)))

-- at the end of the text a row is completed where the wanted cells end too
pub completed-end : (pieces : List Piece) (text : List ℕ) (wanted : List (Option ℕ)) (character cell misses : ℕ) (row : List ℕ)
    → length text ≤ character → cell ≤ length wanted → IsCompleted pieces text wanted character cell misses row row (nat_eq cell (length wanted))
completed-end pieces text wanted character cell misses row end within =
    elim (cases_eq cell (length wanted)) [
      | inl same ↦ subst (IsCompleted pieces text wanted character cell misses row row) (sym (eq-eqb cell (length wanted) same))
          ([], sym (append-nil row), completes-nil pieces text wanted character cell misses end (omega (arith, same)))
      | inr other ↦ subst (IsCompleted pieces text wanted character cell misses row row) (sym (ne_eqb cell (length wanted) other))
          (refl, λ others by. other (omega (arith, within, completes-end pieces text wanted character cell misses others end by)))
    ]

-- the numbers of a place
pub numbers_there : (starts : List (Vec ℕ)) (place : ℕ) (d : Vec ℕ) → place < length starts → numbers_at starts place ≡ (get_or starts place d).items
numbers_there starts place d within = ap (λ found. option_map_or (λ (v : Vec ℕ). v.items) found []) (slice_get-get_or starts place d within)

-- a number of a place is that of a piece there
pub piece_at : (pieces : List Piece) (text : List ℕ) (starts : List (Vec ℕ)) (place : ℕ) (d : Vec ℕ) (numbers : List ℕ) (k : ℕ)
    → AreStarts pieces text starts → place < length starts → numbers ≡ (get_or starts place d).items → k < length numbers → IsPieceAt pieces text place (get_or numbers k 0)
piece_at pieces text starts place d numbers k are within same lt =
    let all : numbers_at starts place ≡ numbers = numbers_there starts place d within ∙ sym same in
    subst (λ ns. IsPieceAt pieces text place (get_or ns k 0)) all (are.sound place k 0 (omega (arith, ap length all, lt)))

-- where each of the pieces at a place leads nowhere, no row completes the text from there
pub dead_end : (pieces : List Piece) (text : List ℕ) (wanted : List (Option ℕ)) (starts : List (Vec ℕ)) (character cell misses : ℕ)
    → AreStarts pieces text starts → character < length text
    → ((k : ℕ) → k < length (numbers_at starts character) → (more : List ℕ) → Completes pieces text wanted character cell misses (get_or (numbers_at starts character) k 0 ∷ more) → ⊥)
    → IsDead pieces text wanted character cell misses
dead_end pieces text wanted starts character cell misses are within none [] by =
    omega (arith, ap length by.rest, length-drop character text)
dead_end pieces text wanted starts character cell misses are within none (number ∷ more) by =
    let found = are.whole character number within (completes-at pieces text wanted character cell misses number more by) in
    none found.0 found.1 more (subst (λ n. Completes pieces text wanted character cell misses (n ∷ more)) (sym (get_or_default (numbers_at starts character) found.0 0 number found.1 ∙ found.2)) by)
