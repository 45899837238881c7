-- The tests of `context`, `correct` and `pass2` to `pass4` lines. The manual has their form in
-- section "The Context and Multipass Opcodes". A text is the list of its bytes.
use Rattle.std.specs.Prelude.{ℕ, zero, suc, ◌==◌, ◌+◌, ◌-◌, ◌&&◌, ◌||◌, Bool, true, false, not, List, [], ◌∷◌, codes, if◌then◌else◌, length, nat_le, position, slice_index, take, Option, Some, None, Result, Ok, Err}
use Rattle.std.specs.List.{list_all, list_any}
use Rattle.std.specs.Option.{option_map_or, unwrap_or}
use Rattle.std.specs.Str.{is_utf8}
use Rattle.brl_cells.specs.Dots.{reading}
use Rattle.brl_cells.specs.declared.fault.DotsFault.{DotsFault}
use Rattle.brl_acting.specs.Readings.{Known}
use Rattle.brl_acting.specs.Words.{all_chars_in}
use Rattle.brl_acting.specs.declared.items.Item.{Item}

-- an item of a test: its first mark, and what follows the mark in it
pub record ItemView : Type 0 where
  pub mark : ℕ
  pub text : List ℕ

abbrev pub item : ℕ → List ℕ → ItemView
item mark text = record { mark = mark; text = text }

-- an item, as the code has it
abbrev pub item_view : Item → ItemView
item_view entry = item entry.mark entry.text.now

-- a mark is one of these
abbrev pub is_among : List ℕ → ℕ → Bool
is_among marks mark = list_any (λ m. m == mark) marks

-- a `!` before one of these marks is one before the next item
abbrev pub keeps_not : ℕ → Bool
keeps_not mark = is_among (codes "![]`~/") mark

-- what ends the dots of cells, and what the name of a class with its counts
abbrev pub ends_dots : ℕ → Bool
ends_dots mark = not (is_among (codes "0123456789abcdefABCDEF-") mark)

abbrev pub is_letter : ℕ → Bool
is_letter mark = (nat_le 65 mark && nat_le mark 90) || (nat_le 97 mark && nat_le mark 122)

abbrev pub ends_name : ℕ → Bool
ends_name mark = not (is_letter mark || is_among (codes "0123456789.") mark)

-- how many marks a string has up to the quotation mark that closes it, and with it, where `before`
-- of them were counted already; 0 for a string that isn't closed
abbrev pub string_length : ℕ → Bool → List ℕ → ℕ
string_length before escaped [] = 0
string_length before escaped (mark ∷ marks) =
    if not escaped && (mark == 34) then before + 1 else string_length (before + 1) (not escaped && (mark == 92)) marks

-- how many marks belong to an item that begins with this one, of those that follow
abbrev pub taken : ℕ → List ℕ → ℕ
taken mark marks =
    if mark == 34 then string_length 0 false marks
    else if mark == 64 then unwrap_or (position ends_dots marks) (length marks)
    else if is_among (codes "$%") mark then unwrap_or (position ends_name marks) (length marks)
    else 0

-- the items of a test that no `!` takes away: some marks belong to the one before, and a `!` may
-- stand before
abbrev pub items_after : ℕ → Bool → List ℕ → List ItemView
items_after taken_before negated [] = []
items_after (suc taken_before) negated (mark ∷ marks) = items_after taken_before negated marks
items_after zero negated (mark ∷ marks) =
    if keeps_not mark then items_after zero (negated || (mark == 33)) marks
    else if negated then items_after (taken mark marks) false marks
    else item mark (take (taken mark marks) marks) ∷ items_after (taken mark marks) false marks

abbrev pub items : List ℕ → List ItemView
items test = items_after 0 false test

-- ---- What items need

-- the characters that bytes spell
abbrev pub chars_of_bytes : List ℕ → Option (List ℕ)
chars_of_bytes bytes = if is_utf8 bytes then all_chars_in bytes else None

-- a string, which ends with a quotation mark: each of its characters is in the alphabet, as it
-- is written
abbrev pub is_string_met : Known → List ℕ → Bool
is_string_met known text = option_map_or (list_all known.reach.alphabet) (chars_of_bytes (take (length text - 1) text)) true

-- a mark of a virtual dot
abbrev pub is_virtual : ℕ → Bool
is_virtual mark = is_among (codes "9abcdefABCDEF") mark

-- these cells, where they are spelled, are among the cells of the alphabet
abbrev pub are_cells_met : Known → Result (List ℕ) DotsFault → Bool
are_cells_met known (Ok cells) = list_all known.read.cells cells
are_cells_met known (Err fault) = true

abbrev pub are_dots_met : Known → List ℕ → Bool
are_dots_met known text = if is_utf8 text then are_cells_met known (reading 1024 text) else true

abbrev pub is_row_met : Known → List ℕ → Bool
is_row_met known text = not (list_any is_virtual text) && are_dots_met known text

-- a class has a member for which characters of the alphabet stand, or isn't known
abbrev pub is_class_met : Known → List ℕ → Bool
is_class_met known name = not (known.classes.names name) || known.classes.met name

-- the name of the class with this letter; the empty one for all classes of one's own
abbrev pub class_of_letter : ℕ → Option (List ℕ)
class_of_letter letter =
    if letter == 100 then Some (codes "digit")
    else if letter == 68 then Some (codes "litdigit")
    else if letter == 108 then Some (codes "letter")
    else if letter == 109 then Some (codes "math")
    else if letter == 112 then Some (codes "punctuation")
    else if letter == 83 then Some (codes "sign")
    else if letter == 115 then Some (codes "space")
    else if letter == 85 then Some (codes "uppercase")
    else if letter == 117 then Some (codes "lowercase")
    else if is_among (codes "wxyz") letter then Some []
    else None

abbrev pub is_letter_met : Known → ℕ → Bool
is_letter_met known letter = option_map_or (is_class_met known) (class_of_letter letter) true

-- the name of an item is its letters, and what follows is its counts
abbrev pub ends_letters : ℕ → Bool
ends_letters mark = not (is_letter mark)

abbrev pub name_length : List ℕ → ℕ
name_length text = unwrap_or (position ends_letters text) (length text)

-- the first count is 0, so that the item may be missing in a text
abbrev pub may_be_missing : List ℕ → Bool
may_be_missing text = slice_index text (name_length text) == 48

-- classes: one of them is met, or isn't known
abbrev pub are_classes_met : Known → List ℕ → Bool
are_classes_met known text = may_be_missing text || list_any (is_letter_met known) (take (name_length text) text)

-- a class by its name
abbrev pub is_name_met : Known → List ℕ → Bool
is_name_met known text = may_be_missing text || is_class_met known (take (name_length text) text)

-- an item of a `context` or a `correct` line
abbrev pub is_text_item_met : Known → ItemView → Bool
is_text_item_met known entry =
    if entry.mark == 34 then is_string_met known entry.text
    else if entry.mark == 36 then are_classes_met known entry.text
    else if entry.mark == 37 then is_name_met known entry.text
    else true

-- an item of a `pass2`, `pass3` or `pass4` line
abbrev pub is_pass_item_met : Known → ItemView → Bool
is_pass_item_met known entry = if entry.mark == 64 then is_row_met known entry.text else true

-- a string without an end: liblouis refuses the line
abbrev pub is_open : ItemView → Bool
is_open entry = (entry.mark == 34) && (length entry.text == 0)

-- a test can be met: each of its items is met, or a string in it isn't closed
abbrev pub is_test_met : (ItemView → Bool) → List ℕ → Bool
is_test_met is_met test = list_any is_open (items test) || list_all is_met (items test)
