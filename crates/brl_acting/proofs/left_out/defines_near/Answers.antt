use Rattle.std.proofs.Common.{◌≡◌, ◌∙◌, ℕ, List, None, Option, Some, Result, Ok, Err, ap, slice_get, sym, true}
use Rattle.std.specs.Option.{option_and_then, option_map_or}
use Rattle.brl_lines.specs.Escapes.{characters_of}
use Rattle.brl_lines.specs.declared.operand.CharsFault.{CharsFault}
use Rattle.brl_acting.specs.Acting.{is_definition_met}
use Rattle.brl_acting.specs.PartsViews.{parts_view}
use Rattle.brl_acting.specs.Readings.{known_view}
use Rattle.brl_acting.specs.Words.{all_chars_at, all_chars_if, all_chars_in, chars_if, chars_in}
use Rattle.brl_acting.proofs.left_out.defines_near.Goals as goal

-- characters of a word that are known must all be in a text
all_if : (word chars : List ℕ) (found : Result (List ℕ) CharsFault) → chars_if word found ≡ Some chars → all_chars_if word found ≡ Some chars
all_if word chars (Ok own) is = is
all_if word chars (Err fault) is = cc

all_of : (chars : List ℕ) (word : Option (List ℕ)) → option_and_then chars_in word ≡ Some chars → option_and_then all_chars_in word ≡ Some chars
all_of chars None is = is
all_of chars (Some word) is = all_if word chars (characters_of word) is

pub returns-in-Some : goal.returns-in-Some
returns-in-Some c =
    let words = (parts_view c.args.parts.now).words in
    let known = known_view c.args.known.now in
    let own = rw c.in-Some.is at c.args.parts.now.chars_are in
    let all : all_chars_at words 1 ≡ Some c.in-Some.chars.items = all_of c.in-Some.chars.items (slice_get words 1) (sym own) in
    c.is_definition_met.ensures ∙ ap (is_definition_met known) c.as_slice.ensures.value
    ∙ sym (ap (λ (found : Option (List ℕ)). option_map_or (is_definition_met known) found true) all)
