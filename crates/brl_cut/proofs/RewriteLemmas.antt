-- Facts of lines that are rewritten.
use Rattle.std.proofs.Common.{◌≡◌, ◌∙◌, ℕ, ◌+◌, ◌<◌, ◌≤◌, ◌&&◌, ◌==◌, List, [], ◌∷◌, ◌++◌, ap, arith, false, flat_map, get_or, length, map, not, refl, slice_get, sym, take}
use Rattle.std.specs.Option.{option_map_or}
use Rattle.std.proofs.lemmas.Grind.{flat_map-append}
use Rattle.std.proofs.lemmas.Option.{slice_get-get_or}
use Rattle.std.proofs.lemmas.List.{append-nil, length-map, take_more}
use Rattle.brl_acting.specs.Letters.{Letters}
use Rattle.brl_lines.specs.Tokens.{LineView}
use Rattle.brl_lines.specs.Views.{token_view}
use Rattle.brl_lines.specs.declared.line.Token.{Token}
use Rattle.brl_table.specs.Survey.{FindingsView, faulty_line_view, findings_view, survey_of}
use Rattle.brl_table.specs.declared.faulty.Findings.{Findings}
use Rattle.brl_cut.specs.Edits.{EditView}
use Rattle.brl_rules.specs.declared.rule.Info.{Info}
use Rattle.brl_cut.specs.Letsigns.{begins_alone}
use Rattle.brl_cut.specs.Putting.{is_definition}
use Rattle.brl_cut.specs.Rewriting.{edit_to_pair, edit_to_words}

-- by what a survey of one line found it is known whether it is a definition
pub definition-found : (found : Findings) (line : LineView) → findings_view found ≡ survey_of (line ∷ []) → (found.has_characters && (length found.faulty.items == 0)) ≡ is_definition line
definition-found found line told =
    ap (λ n. found.has_characters && (n == 0)) (sym (length-map found.faulty.items faulty_line_view)) ∙ ap (λ (f : FindingsView). f.has_characters && (length f.faulty == 0)) told

-- fewer than three words are no line, so they add no edit
pub few-words-add : (edits : List EditView) (line : LineView) (words : List Token) → length words < 3 → edits ≡ edits ++ edit_to_words line (map token_view words)
few-words-add edits line (a ∷ b ∷ c ∷ words) few = absurd (omega arith)
few-words-add edits line words few = sym (append-nil edits)

-- fewer than three operands are no capital with its small letter, so they add no edit
pub few-operands-add : (edits : List EditView) (characters : List (ℕ × Info)) (line : LineView) (operands : List Token) → length operands < 3
    → edits ≡ edits ++ edit_to_pair characters line (map token_view operands)
few-operands-add edits characters line (a ∷ b ∷ c ∷ operands) few = absurd (omega arith)
few-operands-add edits characters line operands few = sym (append-nil edits)

-- fewer than two characters are no letter and another one
pub few-chars : (letters : Letters) (chars : List ℕ) → length chars < 2 → begins_alone letters chars ≡ false
few-chars letters (c ∷ d ∷ others) few = absurd (omega arith)
few-chars letters chars few = refl

-- of more the first two decide
pub more-chars : (letters : Letters) (chars : List ℕ) (default other first second : ℕ) → 2 ≤ length chars → first ≡ get_or chars 0 default → second ≡ get_or chars 1 other
    → begins_alone letters chars ≡ (letters.takes_sign first && not (letters.is_letter second))
more-chars letters (c ∷ d ∷ others) default other first second many is also = λ j. letters.takes_sign (sym is j) && not (letters.is_letter (sym also j))
more-chars letters chars default other first second many is also = absurd (omega arith)

-- the lines of one item more
pub entries-more : {X : Type 0} (f : X → List ℕ) (xs : List X) (i : ℕ) → i < length xs → flat_map f (take i xs) ++ option_map_or f (slice_get xs i) [] ≡ flat_map f (take (i + 1) xs)
entries-more f [] i within = absurd (omega arith)
entries-more f (y ∷ ys) i within =
    let xs = y ∷ ys in
    let x = get_or xs i y in
    ap (λ found. flat_map f (take i xs) ++ option_map_or f found []) (slice_get-get_or xs i y within)
    ∙ ap (λ line. flat_map f (take i xs) ++ line) (sym (append-nil (f x)))
    ∙ sym (ap (flat_map f) (take_more xs i y within) ∙ flat_map-append f (take i xs) (x ∷ []))
