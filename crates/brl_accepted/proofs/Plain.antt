-- What a rule says is three words, and has no control character in it; nor has the line of a set.
use Rattle.std.proofs.Common.{◌≡◌, ◌<◌, ◌++◌, ◌/◌, ◌%◌, ◌&&◌, ◌||◌, ℕ, zero, suc, All, Bool, true, false, cond, ltb, List, [], ◌∷◌, Option, None, Some, append-nil, arith, codes, encode_utf8, encode_utf8_all, find, flat_map, get_or, inl, inr, map, nat_eq, refl, subst, sym}
use Rattle.std.specs.Char.{digit_char}
use Rattle.std.specs.Prelude.{nat_le, nat_lt}
use Rattle.std.proofs.lemmas.Bool.{or_parts}
use Rattle.std.specs.List.{list_all}
use Rattle.std.specs.Prelude.{if◌then◌else◌}
use Rattle.std.proofs.lemmas.Bool.{cases_lt}
use Rattle.std.proofs.lemmas.Bool.Decides.{nat_tests}
use Rattle.std.proofs.lemmas.List.{get_or_default}
use Rattle.std.proofs.lemmas.List.Elements.{recursion_from_All}
use Rattle.std.proofs.lemmas.Str.{inside_one}
use Rattle.brl_cells.specs.Dots.{spelling}
use Rattle.brl_cert.proofs.FieldLaws.{IsAbove, above_append, above_joined, above_true, cells_above, lower}
use Rattle.brl_lines.specs.Spelling.{escape_marks, means}
use Rattle.brl_lines.specs.Visible.{by_mark, by_number, is_hidden, is_mark, is_unseen, is_unseen_category, number_prefix, two_digits, visible_character, visible_text}
use Rattle.ucd_category.specs.GeneralCategory.{general_category}
use Rattle.ucd_derived.specs.Binary.{is_default_ignorable_code_point}
use Rattle.brl_accepted.specs.Pairs.{said, wording}
use Rattle.brl_accepted.specs.Sets.{exchange, set_line}
use Rattle.brl_accepted.specs.Words.{IsThreeWords, IsWord}
use Rattle.brl_accepted.proofs.Said.{all_say, each_says, opcode_passes}
use Rattle.brl_lines.specs.Tokens.{LineView}
use Rattle.brl_report.specs.Place.{file_name}
use Rattle.brl_report.specs.Rules.{known_opcode, opcode_at, rule_numbers}
use Rattle.brl_rules.specs.TableView.{TableView}
use Rattle.brl_table.specs.Words.{opcode_words}

-- ---- Characters as they are spelled

-- the bytes of a character that is none
encoded : (c : ℕ) → 32 < c → IsAbove 32 (encode_utf8 c)
encoded c plain = recursion_from_All (λ b. 32 < b) (encode_utf8 c) each
  where
    each : All (λ b. 32 < b) (encode_utf8 c)
    each k d within =
        let bytes = encode_utf8 c in
        let same : get_or bytes k d ≡ get_or bytes k 0 = get_or_default bytes k d 0 within in
        subst (λ (b : ℕ). 32 < b) (sym same) (elim (cases_lt (get_or bytes k 0) 128) [
          | inl low ↦ (let is : c ≡ get_or bytes k 0 = inside_one c [] bytes k (sym (append-nil bytes)) within low in omega arith)
          | inr high ↦ omega arith
        ])

all_encoded : (cs : List ℕ) → IsAbove 32 cs → IsAbove 32 (encode_utf8_all cs)
all_encoded [] h = tt
all_encoded (c ∷ cs) h = above_append 32 (encode_utf8 c) (encode_utf8_all cs) (encoded c h.0) (all_encoded cs h.1)

found : (p : ℕ → Bool) (marks : List ℕ) (mark : ℕ) → IsAbove 32 marks → find p marks ≡ Some mark → 32 < mark
found p [] mark h e = absurd cc
found p (m ∷ marks) mark h e = cases (p m) (found p marks mark h.1) e
  where
    cases : (b : Bool) → (find p marks ≡ Some mark → 32 < mark) → cond b (Some m) (find p marks) ≡ Some mark → 32 < mark
    cases true later is = (let same : m ≡ mark = cc in subst (λ (n : ℕ). 32 < n) same h.0)
    cases false later is = later is

digit_above : (d : ℕ) → 32 < digit_char d
digit_above d = grind (arith, nat_tests)

two_above : (n : ℕ) → IsAbove 32 (two_digits n)
two_above n = (digit_above (n / 16), (digit_above (n % 16), tt))

prefix_above : (c : ℕ) (short middle : Bool)
    → IsAbove 32 (if short then codes "\\x" else if middle then codes "\\y" ++ (digit_char (c / 0x10000) ∷ []) else codes "\\z00" ++ two_digits (c / 0x10000))
prefix_above c true middle = above_true 32 (codes "\\x") refl
prefix_above c false true = above_append 32 (codes "\\y") (digit_char (c / 0x10000) ∷ []) (above_true 32 (codes "\\y") refl) (digit_above (c / 0x10000), tt)
prefix_above c false false = above_append 32 (codes "\\z00") (two_digits (c / 0x10000)) (above_true 32 (codes "\\z00") refl) (two_above (c / 0x10000))

number_above : (c : ℕ) → IsAbove 32 (by_number c)
number_above c =
    above_append 32 (number_prefix c) (two_digits (c / 256 % 256) ++ two_digits (c % 256)) (prefix_above c (nat_lt c 0x10000) (nat_lt c 0x100000))
    (above_append 32 (two_digits (c / 256 % 256)) (two_digits (c % 256)) (two_above (c / 256 % 256)) (two_above (c % 256)))

-- a character that can be seen is no blank and no control character
seen_above : (first : Bool) (c : ℕ) → is_hidden first c ≡ false → 32 < c
seen_above first c h = cases (nat_lt c 127) refl (or_parts (is_unseen c) (first && is_mark c) h).0
  where
    cases : (low : Bool) → nat_lt c 127 ≡ low
        → (if low then nat_le c 32 else is_unseen_category (general_category c) || is_default_ignorable_code_point c || nat_eq c 0x2800) ≡ false → 32 < c
    cases true is seen = grind (arith, nat_tests)
    cases false is seen = grind (arith, nat_tests)

unmarked : (first : Bool) (c : ℕ) (hidden : Bool) → is_hidden first c ≡ hidden → IsAbove 32 (if hidden then by_number c else c ∷ [])
unmarked first c true is = number_above c
unmarked first c false is = (seen_above first c is, tt)

marked : (first : Bool) (c : ℕ) (mark : Option ℕ) → find (means c) escape_marks ≡ mark → IsAbove 32 (by_mark mark first c)
marked first c None is = unmarked first c (is_hidden first c) refl
marked first c (Some mark) is = (omega arith, (found (means c) escape_marks mark (above_true 32 escape_marks refl) is, tt))

rest_above : (text : List ℕ) → IsAbove 32 (flat_map (visible_character false) text)
rest_above [] = tt
rest_above (c ∷ text) = above_append 32 (visible_character false c) (flat_map (visible_character false) text) (marked false c (find (means c) escape_marks) refl) (rest_above text)

spelled : (text : List ℕ) → IsAbove 32 (visible_text text)
spelled [] = tt
spelled (c ∷ text) = above_append 32 (visible_character true c) (flat_map (visible_character false) text) (marked true c (find (means c) escape_marks) refl) (rest_above text)

-- the line of a set
pub set_above : (set : List ℕ) → IsAbove 31 (set_line set)
set_above set = above_append 31 exchange (encode_utf8_all (visible_text set)) (above_true 31 exchange refl) (lower 31 32 (omega arith) _ (all_encoded (visible_text set) (spelled set)))

-- ---- Rules

opcode : (word : List ℕ) → IsAbove 32 (known_opcode word)
unfolding opcode_words
opcode word = above_true 32 (known_opcode word) (opcode_passes (λ (w : List ℕ). list_all (λ b. ltb 32 b) w) refl refl word)

characters_above : (cs : List ℕ) → IsAbove 32 (encode_utf8_all (visible_text cs))
characters_above cs = all_encoded (visible_text cs) (spelled cs)

cells_spelled : (cells : List ℕ) → IsAbove 32 (spelling cells)
cells_spelled cells = lower 32 44 (omega arith) (spelling cells) (above_joined 44 45 (omega arith) _ (cells_above cells))

words_above : (one two three : List ℕ) → IsAbove 32 one → IsAbove 32 two → IsAbove 32 three → IsAbove 31 (one ++ (32 ∷ (two ++ (32 ∷ three))))
words_above one two three h k l =
    let low = λ (bytes : List ℕ) (above : IsAbove 32 bytes). lower 31 32 (omega arith) bytes above in
    above_append 31 one (32 ∷ (two ++ (32 ∷ three))) (low one h) (omega arith, above_append 31 two (32 ∷ three) (low two k) (omega arith, low three l))

is_word : (bytes : List ℕ) → IsAbove 32 bytes → IsWord bytes
is_word [] h = tt
is_word (b ∷ bytes) h = ((λ e. omega (arith, h.0, e)), is_word bytes h.1)

-- what a rule says
pub wording_above : (t : TableView) (lines : List LineView) (number : ℕ) → IsAbove 31 (said (wording t lines) number)
wording_above t lines number =
    each_says (IsAbove 31) t lines tt
    (λ n x is. words_above (known_opcode (opcode_at (file_name t x.file) x.line lines)) (encode_utf8_all (visible_text x.characters)) (spelling x.cells) (opcode _) (characters_above x.characters) (cells_spelled x.cells)) number

-- each rule's number has three words
pub wording_words : (t : TableView) (lines : List LineView) → All (λ number. IsThreeWords (said (wording t lines) number)) (rule_numbers t)
wording_words t lines = all_say IsThreeWords t lines (λ x. record {
  one = known_opcode (opcode_at (file_name t x.file) x.line lines);
  two = encode_utf8_all (visible_text x.characters);
  three = spelling x.cells;
  is = refl;
  one_is = is_word _ (opcode _);
  two_is = is_word _ (characters_above x.characters);
  three_is = is_word _ (cells_spelled x.cells);
})
