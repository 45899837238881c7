-- The opcodes of the profile: a table of their words, what their lines do, and the classes or the
-- places that they give. The manual has them in sections "Character-Definition Opcodes",
-- "Translation Opcodes", "Braille Indicator Opcodes" and "Miscellaneous Opcodes". That `capsign` is
-- another name of `capsletter` is this project's own choice.
use Rattle.std.specs.Prelude.{ℕ, List, [], ◌∷◌, codes, Option, Some, None, if◌then◌else◌, bytes_eq}
use Rattle.std.specs.Option.{option_or}
use Rattle.brl_table.specs.declared.opcode.Opcode.{Opcode}
use Rattle.brl_table.specs.declared.opcode.Opcode.TheVariants.{Plain, Literary, Uplow, Placed, Noback, Nofor, Display, Indicator, NumericList, Include}
use Rattle.brl_table.specs.declared.item.NumericRole.TheVariants.{KeepsMode, NeedsNoContractSign}
use Rattle.brl_rules.specs.declared.place.Place.TheVariants.{Always, Word, Sufword, Prfword, Begword, Begmidword, Midword, Midendword, Endword, Partword, Begnum, Midnum, Endnum}
use Rattle.brl_rules.specs.declared.signs.Sign.TheVariants.{CapsLetter, NumSign, NoContractSign, BegCapsWord, EndCapsWord}
use Rattle.brl_rules.specs.Places.{space, punctuation, digit, letter, lowercase_letter, uppercase_letter, sign, math}

-- the opcodes whose lines define characters
abbrev pub character_opcodes : List (List ℕ × Opcode)
character_opcodes =
    (codes "space", Plain space)
    ∷ (codes "punctuation", Plain punctuation)
    ∷ (codes "digit", Plain digit)
    ∷ (codes "letter", Plain letter)
    ∷ (codes "lowercase", Plain lowercase_letter)
    ∷ (codes "uppercase", Plain uppercase_letter)
    ∷ (codes "sign", Plain sign)
    ∷ (codes "math", Plain math)
    ∷ (codes "litdigit", Literary)
    ∷ (codes "uplow", Uplow)
    ∷ []

-- the opcodes whose lines give a rule for a place
abbrev pub place_opcodes : List (List ℕ × Opcode)
place_opcodes =
    (codes "always", Placed Always)
    ∷ (codes "word", Placed Word)
    ∷ (codes "sufword", Placed Sufword)
    ∷ (codes "prfword", Placed Prfword)
    ∷ (codes "begword", Placed Begword)
    ∷ (codes "begmidword", Placed Begmidword)
    ∷ (codes "midword", Placed Midword)
    ∷ (codes "midendword", Placed Midendword)
    ∷ (codes "endword", Placed Endword)
    ∷ (codes "partword", Placed Partword)
    ∷ (codes "begnum", Placed Begnum)
    ∷ (codes "midnum", Placed Midnum)
    ∷ (codes "endnum", Placed Endnum)
    ∷ []

-- the other opcodes
abbrev pub other_opcodes : List (List ℕ × Opcode)
other_opcodes =
    (codes "noback", Noback)
    ∷ (codes "nofor", Nofor)
    ∷ (codes "display", Display)
    ∷ (codes "capsletter", Indicator CapsLetter)
    ∷ (codes "capsign", Indicator CapsLetter)
    ∷ (codes "numsign", Indicator NumSign)
    ∷ (codes "nocontractsign", Indicator NoContractSign)
    ∷ (codes "begcapsword", Indicator BegCapsWord)
    ∷ (codes "endcapsword", Indicator EndCapsWord)
    ∷ (codes "numericmodechars", NumericList KeepsMode)
    ∷ (codes "numericnocontchars", NumericList NeedsNoContractSign)
    ∷ (codes "include", Include)
    ∷ []

-- the opcode of a word in one of these tables
abbrev pub entry_of : List (List ℕ × Opcode) → List ℕ → Option Opcode
entry_of [] word = None
entry_of (entry ∷ others) word = if bytes_eq word entry.0 then Some entry.1 else entry_of others word

-- the opcode of a word, if it is one of the profile
abbrev pub opcode_of : List ℕ → Option Opcode
opcode_of word = option_or (entry_of character_opcodes word) (option_or (entry_of place_opcodes word) (entry_of other_opcodes word))
