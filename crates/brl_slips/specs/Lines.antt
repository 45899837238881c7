-- What the lines of a table give: its characters, the pieces of texts, and the rules that may be
-- slips. The project's own.
use Rattle.std.specs.Prelude.{ℕ, ◌≡◌, ◌&&◌, ◌==◌, Bool, List, [], ◌∷◌, ◌++◌, codes, if◌then◌else◌, is_some, length, map, flat_map, nat_eq, nat_le, take, option_to_list, Option, Some, None, Result, Ok, Err}
use Rattle.std.specs.List.{enumerate_from, list_all}
use Rattle.std.specs.Option.{option_and_then, option_map, option_map_or, unwrap_or}
use Rattle.std.specs.Str.{bytes_eq}
use Rattle.indexmap.specs.IndexMap.{get, insert_all}
use Rattle.brl_cells.specs.Dots.{reading}
use Rattle.brl_lines.specs.Escapes.{characters_of}
use Rattle.brl_lines.specs.Tokens.{LineView}
use Rattle.brl_rules.specs.declared.rule.Info.{Info}
use Rattle.brl_table.specs.Survey.{good_characters}
use Rattle.brl_slips.specs.Twins.{own_cells}
use Rattle.brl_slips.specs.Words.{are_of_rule, capital_words, words_of, words_of_piece, after_prefixes}
use Rattle.brl_slips.specs.declared.alphabet.Characters.{Characters}
use Rattle.brl_slips.specs.declared.lexicon.Entry.{Entry}
use Rattle.brl_slips.specs.declared.lexicon.Lexicon.{Lexicon}
use Rattle.brl_slips.specs.declared.lexicon.Piece.{Piece}

-- what was read; nothing where there is a fault
abbrev pub read : {X F : Type 0} → Result X F → Option X
read (Ok x) = Some x
read (Err fault) = None

-- ---- Characters

-- the one character of a list that has just one
abbrev pub only : List ℕ → Option ℕ
only [] = None
only (c ∷ cs) = if length cs == 0 then Some c else None

-- the one character that a word spells
abbrev pub one_character : List ℕ → Option ℕ
one_character word = option_and_then only (read (characters_of word))

-- the small letter that a `base uppercase` line gives a capital
abbrev pub small_letter : LineView → List (ℕ × ℕ)
small_letter line = option_to_list (option_and_then
    (λ (pair : List ℕ × List ℕ). option_and_then (λ (upper : ℕ). option_map (λ (lower : ℕ). (upper, lower)) (one_character pair.1)) (one_character pair.0))
    (capital_words (words_of line)))

-- the small letters that `base uppercase` lines give capitals, the last of each capital
abbrev pub small_letters : List LineView → List (ℕ × ℕ)
small_letters lines = insert_all nat_eq [] (flat_map small_letter lines)

-- the small letter of a capital by its own definition, or by such a line; another character itself
abbrev pub small_of : Characters → ℕ → Option Info → ℕ
small_of alphabet c None = unwrap_or (get nat_eq alphabet.small c) c
small_of alphabet c (Some info) = if nat_eq info.fold c then unwrap_or (get nat_eq alphabet.small c) c else info.fold

abbrev pub fold_of : Characters → ℕ → ℕ
fold_of alphabet c = small_of alphabet c (get nat_eq alphabet.infos c)

-- whether a line defines a character
abbrev pub defines : Characters → ℕ → Bool
defines alphabet c = is_some (get nat_eq alphabet.infos c)

-- ---- Pieces

-- the piece of a character's own definition
abbrev pub own_piece : ℕ × Info → Piece
own_piece entry = record { chars = entry.0 ∷ []; cells = entry.1.cells }

-- none where it is a capital of another
abbrev pub small_piece : Characters → ℕ × Info → List Piece
small_piece alphabet entry = if nat_eq (fold_of alphabet entry.0) entry.0 then own_piece entry ∷ [] else []

-- the own pieces of all characters that are no capitals of others
abbrev pub own_pieces : Characters → List Piece
own_pieces alphabet = flat_map (small_piece alphabet) alphabet.infos.entries

-- characters as a piece has them: capitals are their small letters, and there are 1 to 32
abbrev pub folded : Characters → List ℕ → Option (List ℕ)
folded alphabet cs = if nat_le 1 (length cs) && nat_le (length cs) 32 then Some (map (fold_of alphabet) cs) else None

-- the cells of a piece with these characters by the word for its dots: `=` means the own cells of
-- the characters, and else there are at most 16
abbrev pub cells_by : Characters → List ℕ → List ℕ → Option (List ℕ)
cells_by alphabet cs word =
    if bytes_eq word (codes "=") then (if list_all (defines alphabet) cs then Some (flat_map (own_cells alphabet) cs) else None)
    else read (reading 16 word)

-- the piece by the words for its characters and its dots
abbrev pub piece_by : Characters → List ℕ × List ℕ → Option Piece
piece_by alphabet pair = option_and_then (λ (cs : List ℕ). option_map (λ cells. record { chars = cs; cells = cells }) (cells_by alphabet cs pair.1))
    (option_and_then (folded alphabet) (read (characters_of pair.0)))

-- the piece that a line gives, if it does
abbrev pub piece_of_line : Characters → LineView → Option Piece
piece_of_line alphabet line = option_and_then (piece_by alphabet) (words_of_piece (after_prefixes (words_of line)))

-- the pieces of characters' own definitions, and those of lines, in their order
abbrev pub pieces_of : Characters → List LineView → List Piece
pieces_of alphabet lines = own_pieces alphabet ++ flat_map (λ line. option_to_list (piece_of_line alphabet line)) lines

-- ---- Rules

-- the rule that a line at a place is, whose piece has this number: if it is one that is read and
-- used, of characters that are defined
abbrev pub rule_by : Characters → ℕ → ℕ → LineView → Piece → Option Entry
rule_by alphabet place number line piece =
    if are_of_rule (words_of line) && list_all (defines alphabet) piece.chars then Some (record { line = place; piece = number }) else None

abbrev pub rule_of_line : Characters → ℕ → ℕ → LineView → Option Entry
rule_of_line alphabet place number line = option_and_then (rule_by alphabet place number line) (piece_of_line alphabet line)

-- the rule of the line at a place: its piece comes after those of the lines before
abbrev pub rule_at : Characters → List LineView → ℕ × LineView → Option Entry
rule_at alphabet lines at = rule_of_line alphabet at.0 (length (pieces_of alphabet (take at.0 lines))) at.1

-- the rules of lines, in their order
abbrev pub rules_of : Characters → List LineView → List Entry
rules_of alphabet lines = flat_map (λ at. option_to_list (rule_at alphabet lines at)) (enumerate_from 0 lines)

-- ---- The whole

-- the characters that lines define, and the small letters of capitals
pub record IsAlphabet (lines : List LineView) (alphabet : Characters) : Type 0 where
  pub infos : alphabet.infos.entries ≡ good_characters lines
  pub small : alphabet.small.entries ≡ small_letters lines

-- this is what lines give
pub record IsLexicon (lines : List LineView) (lexicon : Lexicon) : Type 0 where
  pub alphabet : IsAlphabet lines lexicon.alphabet
  pub pieces : lexicon.pieces.items ≡ pieces_of lexicon.alphabet lines
  pub entries : lexicon.entries.items ≡ rules_of lexicon.alphabet lines
