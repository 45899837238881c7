-- What a line needs to act on a text, by its opcode: the opcodes of liblouis in groups of the same
-- form of needs. Which needs a form has is defined in `Acting`. The sections are those of "How to
-- Write Translation Tables" in the manual. That these needs are needed is the project's own claim
-- of liblouis, found by tests.
use Rattle.std.specs.Prelude.{ℕ, Bool, true, false, List, [], ◌∷◌, codes, if◌then◌else◌, Option, Some, None}
use Rattle.std.specs.Option.{option_or}
use Rattle.brl_acting.specs.Sets.{is_one_of}
use Rattle.brl_acting.specs.declared.form.Form.{Form}
use Rattle.brl_acting.specs.declared.form.Form.TheVariants.{Never, Defines, Base, Uplow, Grouping, Class, Rule, Block, Match, Text, Pass, Capitals, Digits, DigitList, Mode, Sequence, Letsign}

-- emphasis, which plain text doesn't have; lists that only other lines use; back-translation
abbrev pub never_acts : List (List ℕ)
never_acts =
    codes "emphclass" ∷ codes "begemph" ∷ codes "endemph" ∷ codes "noemphchars" ∷ codes "emphletter" ∷ codes "begemphword"
    ∷ codes "endemphword" ∷ codes "emphmodechars" ∷ codes "begemphphrase" ∷ codes "endemphphrase" ∷ codes "lenemphphrase"
    ∷ codes "begcomp" ∷ codes "endcomp" ∷ codes "comp6" ∷ codes "multind" ∷ codes "undefined" ∷ codes "display" ∷ codes "locale"
    ∷ codes "noletsign" ∷ codes "noletsignbefore" ∷ codes "noletsignafter" ∷ codes "swapcc" ∷ codes "swapcd" ∷ codes "swapdd"
    ∷ codes "backmatch" ∷ []

-- "Character-Definition Opcodes"
abbrev pub definitions : List (List ℕ)
definitions =
    codes "space" ∷ codes "punctuation" ∷ codes "digit" ∷ codes "letter" ∷ codes "lowercase" ∷ codes "uppercase" ∷ codes "sign"
    ∷ codes "math" ∷ codes "litdigit" ∷ []

-- the rules for a place
abbrev pub placed : List (List ℕ)
placed =
    codes "word" ∷ codes "sufword" ∷ codes "prfword" ∷ codes "begword" ∷ codes "begmidword" ∷ codes "midword" ∷ codes "midendword"
    ∷ codes "endword" ∷ codes "partword" ∷ codes "begnum" ∷ codes "midnum" ∷ codes "endnum" ∷ []

-- the other opcodes whose characters stand in the text where they act
abbrev pub other_rules : List (List ℕ)
other_rules =
    codes "always" ∷ codes "repeated" ∷ codes "replace" ∷ codes "joinnum" ∷ codes "joinword" ∷ codes "lowword" ∷ codes "largesign"
    ∷ codes "prepunc" ∷ codes "postpunc" ∷ codes "syllable" ∷ codes "repword" ∷ codes "rependword" ∷ codes "decpoint" ∷ codes "hyphen"
    ∷ codes "exactdots" ∷ codes "compdots" ∷ codes "contraction" ∷ []

-- "Braille Indicator Opcodes": of capitals, of numbers, and of modes of one's own
abbrev pub capital_opcodes : List (List ℕ)
capital_opcodes =
    codes "begcaps" ∷ codes "endcaps" ∷ codes "begcapsphrase" ∷ codes "endcapsphrase" ∷ codes "begcapsword" ∷ codes "endcapsword"
    ∷ codes "capsletter" ∷ codes "capsign" ∷ codes "capsmodechars" ∷ codes "capsnocont" ∷ codes "lencapsphrase" ∷ []

abbrev pub digit_opcodes : List (List ℕ)
digit_opcodes = codes "numsign" ∷ codes "nonumsign" ∷ codes "nocontractsign" ∷ []

abbrev pub digit_lists : List (List ℕ)
digit_lists = codes "numericmodechars" ∷ codes "numericnocontchars" ∷ codes "midendnumericmodechars" ∷ []

abbrev pub mode_opcodes : List (List ℕ)
mode_opcodes =
    codes "modeletter" ∷ codes "begmodeword" ∷ codes "endmodeword" ∷ codes "begmode" ∷ codes "endmode" ∷ codes "begmodephrase"
    ∷ codes "endmodephrase" ∷ codes "lenmodephrase" ∷ []

-- "Standing Alone Sequences"
abbrev pub sequence_opcodes : List (List ℕ)
sequence_opcodes =
    codes "seqdelimiter" ∷ codes "seqbeforechars" ∷ codes "seqafterchars" ∷ codes "seqafterpattern" ∷ codes "seqafterexpression" ∷ []

-- the forms of needs, with their opcodes
unfoldable pub is_definition : List ℕ → Bool
is_definition word = is_one_of definitions word

unfoldable pub is_placed : List ℕ → Bool
is_placed word = is_one_of placed word

unfoldable pub is_other_rule : List ℕ → Bool
is_other_rule word = is_one_of other_rules word

unfoldable pub is_never : List ℕ → Bool
is_never word = is_one_of never_acts word

abbrev pub line_form : List ℕ → Option Form
line_form word =
    if is_definition word then Some Defines
    else if is_placed word then Some Rule
    else if is_other_rule word then Some Rule
    else if is_never word then Some Never
    else None

abbrev pub indicator_forms : List (Form × List (List ℕ))
indicator_forms = (Capitals, capital_opcodes) ∷ (Digits, digit_opcodes) ∷ (DigitList, digit_lists) ∷ (Mode, mode_opcodes) ∷ (Sequence, sequence_opcodes) ∷ []

abbrev pub other_forms : List (Form × List (List ℕ))
other_forms =
    (Block, codes "compbrl" ∷ codes "literal" ∷ codes "nocont" ∷ [])
    ∷ (Class, codes "attribute" ∷ codes "class" ∷ [])
    ∷ (Text, codes "context" ∷ codes "correct" ∷ [])
    ∷ (Pass, codes "pass2" ∷ codes "pass3" ∷ codes "pass4" ∷ [])
    ∷ (Base, codes "base" ∷ [])
    ∷ (Uplow, codes "uplow" ∷ [])
    ∷ (Grouping, codes "grouping" ∷ [])
    ∷ (Match, codes "match" ∷ [])
    ∷ (Letsign, codes "letsign" ∷ [])
    ∷ []

-- the form of an opcode among these
abbrev pub form_in : List (Form × List (List ℕ)) → List ℕ → Option Form
form_in [] word = None
form_in (entry ∷ others) word = if is_one_of entry.1 word then Some entry.0 else form_in others word

-- the form of an opcode's needs; none for a word that is no opcode, and for one whose lines aren't
-- understood
unfoldable pub form_of : List ℕ → Option Form
form_of word = option_or (line_form word) (option_or (form_in indicator_forms word) (form_in other_forms word))

-- the form of definitions
abbrev pub defines : Option Form → Bool
defines (Some Defines) = true
defines other = false

-- the forms of lines that can give characters classes beside definitions, or list letters for
-- `letsign`
abbrev pub tells_of_characters : Option Form → Bool
tells_of_characters (Some Class) = true
tells_of_characters (Some Base) = true
tells_of_characters (Some Uplow) = true
tells_of_characters (Some Never) = true
tells_of_characters other = false
