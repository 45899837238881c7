-- The pieces and the rules of lines, read one after the other.
use Rattle.std.proofs.Common.{◌≡◌, ◌∙◌, ◌+◌, ◌<◌, ◌≤◌, ◌++◌, ℕ, List, [], ◌∷◌, ap, append-nil, arith, flat_map, Option, Some, get_or, length, slice_get, sym, take, option_to_list}
use Rattle.std.specs.List.{enumerate_from}
use Rattle.std.proofs.lemmas.List.{append_assoc, take_all, take_more}
use Rattle.std.proofs.lemmas.List.Concat.{flat_map-append}
use Rattle.std.proofs.lemmas.List.FromFn.{get_or-enumerate_from, length-enumerate_from}
use Rattle.std.proofs.lemmas.Option.{get_or_from_slice_get, slice_get_within}
use Rattle.brl_lines.specs.Tokens.{LineView}
use Rattle.brl_rules.specs.declared.rule.Info.{Info}
use Rattle.brl_slips.specs.Lines.{own_pieces, piece_of_line, pieces_of, rule_at, rule_of_line, rules_of, small_piece}
use Rattle.brl_slips.specs.declared.alphabet.Characters.{Characters}
use Rattle.brl_slips.specs.declared.lexicon.Entry.{Entry}
use Rattle.brl_slips.specs.declared.lexicon.Piece.{Piece}

-- the piece of one more character
pub own_more : (alphabet : Characters) (place : ℕ) (entry : ℕ × Info) (old new : List Piece) → slice_get alphabet.infos.entries place ≡ Some entry
    → old ≡ flat_map (small_piece alphabet) (take place alphabet.infos.entries) → new ≡ old ++ small_piece alphabet entry
    → new ≡ flat_map (small_piece alphabet) (take (place + 1) alphabet.infos.entries)
own_more alphabet place entry old new there so_far added =
    let entries = alphabet.infos.entries in
    let gives = small_piece alphabet in
    let next : take (place + 1) entries ≡ take place entries ++ entry ∷ [] =
    take_more entries place entry (slice_get_within entries place entry there) ∙ ap (λ (e : ℕ × Info). take place entries ++ e ∷ []) (get_or_from_slice_get entries place entry entry there) in
    added ∙ ap (λ (ps : List Piece). ps ++ gives entry) so_far
    ∙ ap (λ (ps : List Piece). flat_map gives (take place entries) ++ ps) (sym (append-nil (gives entry)))
    ∙ sym (flat_map-append gives (take place entries) (entry ∷ [])) ∙ ap (flat_map gives) (sym next)

module _ (alphabet : Characters) (lines : List LineView) (place : ℕ) (line : LineView) (within : place < length lines) (is : get_or lines place line ≡ line) where
  -- one more line, which may give a piece
  pub pieces_more : (old new : List Piece) → old ≡ pieces_of alphabet (take place lines) → new ≡ old ++ option_to_list (piece_of_line alphabet line) → new ≡ pieces_of alphabet (take (place + 1) lines)
  pieces_more old new so_far added =
      let gives = λ (l : LineView). option_to_list (piece_of_line alphabet l) in
      let next : take (place + 1) lines ≡ take place lines ++ line ∷ [] = take_more lines place line within ∙ ap (λ (l : LineView). take place lines ++ l ∷ []) is in
      added ∙ ap (λ (ps : List Piece). ps ++ gives line) so_far
      ∙ append_assoc (own_pieces alphabet) (flat_map gives (take place lines)) (gives line)
      ∙ ap (λ (ps : List Piece). own_pieces alphabet ++ (flat_map gives (take place lines) ++ ps)) (sym (append-nil (gives line)))
      ∙ ap (λ (ps : List Piece). own_pieces alphabet ++ ps) (sym (flat_map-append gives (take place lines) (line ∷ [])))
      ∙ ap (pieces_of alphabet) (sym next)

  -- and be a rule
  pub rules_more : (pieces : List Piece) (old new : List Entry) → pieces ≡ pieces_of alphabet (take place lines)
      → old ≡ flat_map (λ at. option_to_list (rule_at alphabet lines at)) (take place (enumerate_from 0 lines))
      → new ≡ old ++ option_to_list (rule_of_line alphabet place (length pieces) line)
      → new ≡ flat_map (λ at. option_to_list (rule_at alphabet lines at)) (take (place + 1) (enumerate_from 0 lines))
  rules_more pieces old new are so_far added =
      let gives = λ (at : ℕ × LineView). option_to_list (rule_at alphabet lines at) in
      let numbered = enumerate_from 0 lines in
      let inside : place < length numbered = omega (arith, within, length-enumerate_from 0 lines) in
      let number : 0 + place ≡ place = omega arith in
      let entry : get_or numbered place (0, line) ≡ (place, line) = get_or-enumerate_from 0 lines place (0, line) within ∙ (λ j. (number j, is j)) in
      let next : take (place + 1) numbered ≡ take place numbered ++ (place, line) ∷ [] = take_more numbered place (0, line) inside ∙ ap (λ (e : ℕ × LineView). take place numbered ++ e ∷ []) entry in
      added ∙ (λ j. so_far j ++ option_to_list (rule_of_line alphabet place (length (are j)) line))
      ∙ ap (λ (es : List Entry). flat_map gives (take place numbered) ++ es) (sym (append-nil (gives (place, line))))
      ∙ sym (flat_map-append gives (take place numbered) ((place, line) ∷ [])) ∙ ap (flat_map gives) (sym next)

-- all lines
pub rules_all : (alphabet : Characters) (lines : List LineView) (place : ℕ) → length lines ≤ place
    → flat_map (λ at. option_to_list (rule_at alphabet lines at)) (take place (enumerate_from 0 lines)) ≡ rules_of alphabet lines
rules_all alphabet lines place past = ap (flat_map (λ (at : ℕ × LineView). option_to_list (rule_at alphabet lines at))) (take_all place (enumerate_from 0 lines) (omega (arith, past, length-enumerate_from 0 lines)))
