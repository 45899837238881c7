-- The characters of a table, as slips see them. The project's own.
use Rattle.std.specs.Prelude.{ℕ, ◌≡◌, Bool, true, false, ◌&&◌, List, length, nat_eq, nat_le, not}
use Rattle.std.specs.List.{list_all}
use Rattle.std.specs.Option.{option_map_or}
use Rattle.std.specs.Int.RustNames.{bit_and}
use Rattle.indexmap.specs.IndexMap.{get}
use Rattle.brl_rules.specs.declared.rule.Info.{Info}
use Rattle.brl_slips.specs.declared.alphabet.Characters.{Characters}
use Rattle.brl_slips.specs.declared.lexicon.Piece.{Piece}

-- whether classes have that of letters
abbrev pub has_letter : Info → Bool
has_letter info = not (nat_eq (bit_and info.classes.0 8) 0)

-- whether a line makes a character a letter
abbrev pub is_letter : Characters → ℕ → Bool
is_letter alphabet c = option_map_or has_letter (get nat_eq alphabet.infos c) false

-- whether a piece may be a slip: it has four letters or more, and four cells or more
abbrev pub may_be_slip : Characters → Piece → Bool
may_be_slip alphabet piece =
    nat_le 4 (length piece.chars) && nat_le (length piece.chars) 32 && nat_le 4 (length piece.cells) && nat_le (length piece.cells) 16
    && list_all (is_letter alphabet) piece.chars
