-- Characters that are spelled where they can't be seen, and that they are read back.
use Rattle.std.proofs.Common.{◌≡◌, ◌∙◌, ◌+◌, ◌*◌, ◌<◌, ◌/◌, ◌%◌, ◌++◌, ℕ, Bool, true, false, if◌then◌else◌, List, [], ◌∷◌, Option, None, Some, Ok, ap, append-nil, append_assoc, arith, codes, find, flat_map, get_or, inl, inr, length, lit<, nat_eq, nat_lt, ok_or, option_map, refl, sym, take}
use Rattle.std.proofs.lemmas.Bool.{and_from, and_parts, ltb-true}
use Rattle.std.proofs.lemmas.List.{take_more}
use Rattle.std.proofs.lemmas.List.Concat.{flat_map-append}
use Rattle.std.proofs.lemmas.Str.{chars-encodes, encode_ascii, encodes-append}
use Rattle.std.specs.Char.{IsScalar, digit_char}
use Rattle.std.specs.Fmt.{digit_glyph}
use Rattle.std.specs.Str.{all_scalars, encode_utf8_all}
use lib.Utf8.{scalar, scalar_cases}
use Rattle.brl_lines.proofs.EscapeLemmas.{escape-numbered, spelled-escape, spelled-plain}
use Rattle.brl_lines.proofs.SpellingLemmas.{digit_scalar, digit_small, find_means, flat_back, flat_scalars, hexadecimal-more, last_digits, none_plain, scalars-append, two_scalars}
use Rattle.brl_lines.specs.Escapes.{characters_of, numbered, or_else, spelled}
use Rattle.brl_lines.specs.Spelling.{escape_marks, means}
use Rattle.brl_lines.specs.Tokens.{is_gap}
use Rattle.brl_lines.specs.Visible.{by_mark, by_number, is_hidden, line_character, line_from, number_prefix, two_digits, visible_character, visible_text}
use Rattle.brl_lines.specs.declared.operand.CharsFault.TheVariants.{BadEscape}

-- a digit is a mark of ASCII
pub digit_ascii : (d : ℕ) → d < 16 → encode_utf8_all (digit_char d ∷ []) ≡ digit_glyph false d ∷ []
digit_ascii d small =
    let low : digit_char d < 128 = digit_small d small in
    rw (encode_ascii (digit_char d) low) refl

-- ---- One character more

-- what the characters so far are written by, after a text, and what the next one is written by
pub one_more_written : (f : ℕ → List ℕ) (xs : List ℕ) (i x : ℕ) (front old new : List ℕ) → i < length xs → x ≡ get_or xs i x → old ≡ front ++ encode_utf8_all (flat_map f (take i xs))
    → new ≡ old ++ encode_utf8_all (f x) → new ≡ front ++ encode_utf8_all (flat_map f (take (i + 1) xs))
one_more_written f xs i x front old new within is so_far added =
    let so = flat_map f (take i xs) in
    let next : take (i + 1) xs ≡ take i xs ++ x ∷ [] = take_more xs i x within ∙ ap (λ (y : ℕ). take i xs ++ y ∷ []) (sym is) in
    let flat : flat_map f (take (i + 1) xs) ≡ so ++ f x = ap (flat_map f) next ∙ flat_map-append f (take i xs) (x ∷ []) ∙ ap (λ (rest : List ℕ). so ++ rest) (append-nil (f x)) in
    added ∙ ap (λ (bytes : List ℕ). bytes ++ encode_utf8_all (f x)) so_far ∙ append_assoc front (encode_utf8_all so) (encode_utf8_all (f x))
    ∙ ap (λ (bytes : List ℕ). front ++ bytes) (sym (encodes-append so (f x)) ∙ ap encode_utf8_all (sym flat))

-- the first character, and the others
pub text_written : (text rest : List ℕ) (first : ℕ) (front old : List ℕ) → text ≡ first ∷ rest → old ≡ front ++ encode_utf8_all (visible_character true first)
    → old ++ encode_utf8_all (flat_map (visible_character false) rest) ≡ front ++ encode_utf8_all (visible_text text)
text_written text rest first front old is first_is =
    let one = visible_character true first in
    let others = flat_map (visible_character false) rest in
    ap (λ (bytes : List ℕ). bytes ++ encode_utf8_all others) first_is ∙ append_assoc front (encode_utf8_all one) (encode_utf8_all others)
    ∙ ap (λ (bytes : List ℕ). front ++ bytes) (sym (encodes-append one others) ∙ ap (λ (t : List ℕ). encode_utf8_all (visible_text t)) (sym is))

-- ---- What is written is read back

pub scalar_small : (c : ℕ) → IsScalar c → c < 0x110000
scalar_small c s = elim (scalar_cases c s) [ inl low ↦ omega arith | inr high ↦ high.1 ]

-- what is after the escape of a character by its number
numbered_back : (c : ℕ) (rest : List ℕ) (short middle : Bool) → IsScalar c → nat_lt c 0x10000 ≡ short → nat_lt c 0x100000 ≡ middle
    → spelled 0 (((if short then codes "\\x" else if middle then codes "\\y" ++ (digit_char (c / 0x10000) ∷ []) else codes "\\z00" ++ two_digits (c / 0x10000))
    ++ (two_digits (c / 256 % 256) ++ two_digits (c % 256))) ++ rest) ≡ option_map (λ cs. c ∷ cs) (spelled 0 rest)
numbered_back c rest true middle s is of =
    let small : c < 0x10000 = ltb-true c 0x10000 is in
    let marks : List ℕ = two_digits (c / 256 % 256) ++ (two_digits (c % 256) ++ rest) in
    spelled-escape 92 (120 ∷ marks) c 5 refl (escape-numbered 120 4 c marks refl refl (last_digits c 0 rest (let none : c / 0x10000 ≡ 0 = omega arith in sym none)) s)
numbered_back c rest false true s is of =
    let small : c < 0x100000 = ltb-true c 0x100000 of in
    let p = c / 0x10000 in
    let four : List ℕ = two_digits (c / 256 % 256) ++ (two_digits (c % 256) ++ rest) in
    let value : 0 * 16 + p ≡ p = omega arith in
    spelled-escape 92 (121 ∷ digit_char p ∷ four) c 6 refl
    (escape-numbered 121 5 c (digit_char p ∷ four) refl refl (hexadecimal-more 4 0 p four (omega arith) ∙ last_digits c (0 * 16 + p) rest value) s)
numbered_back c rest false false s is of =
    let bound : c < 0x110000 = scalar_small c s in
    let p = c / 0x10000 in
    let four : List ℕ = two_digits (c / 256 % 256) ++ (two_digits (c % 256) ++ rest) in
    let marks : List ℕ = 48 ∷ 48 ∷ digit_char (p / 16) ∷ digit_char (p % 16) ∷ four in
    let v0 = 0 * 16 + 0 in
    let v1 = v0 * 16 + 0 in
    let v2 = v1 * 16 + p / 16 in
    let v3 = v2 * 16 + p % 16 in
    let value : v3 ≡ p = omega arith in
    spelled-escape 92 (122 ∷ marks) c 9 refl
    (escape-numbered 122 8 c marks refl refl
    (hexadecimal-more 7 0 0 (48 ∷ digit_char (p / 16) ∷ digit_char (p % 16) ∷ four) (lit< tt) ∙ hexadecimal-more 6 v0 0 (digit_char (p / 16) ∷ digit_char (p % 16) ∷ four) (lit< tt)
    ∙ hexadecimal-more 5 v1 (p / 16) (digit_char (p % 16) ∷ four) (omega arith) ∙ hexadecimal-more 4 v2 (p % 16) four (omega arith) ∙ last_digits c v3 rest value) s)

seen_back : (first : Bool) (c : ℕ) (rest : List ℕ) (hidden : Bool) → IsScalar c → nat_eq c 92 ≡ false
    → spelled 0 ((if hidden then by_number c else c ∷ []) ++ rest) ≡ option_map (λ cs. c ∷ cs) (spelled 0 rest)
seen_back first c rest true s plain = numbered_back c rest (nat_lt c 0x10000) (nat_lt c 0x100000) s refl refl
seen_back first c rest false s plain = spelled-plain c rest plain

visible_back : (first : Bool) (c : ℕ) (rest : List ℕ) (found : Option ℕ) → IsScalar c → find (means c) escape_marks ≡ found
    → spelled 0 (by_mark found first c ++ rest) ≡ option_map (λ cs. c ∷ cs) (spelled 0 rest)
visible_back first c rest None s e = seen_back first c rest (is_hidden first c) s (none_plain c e)
visible_back first c rest (Some mark) s e =
    let is = (find_means c escape_marks mark refl e).0 in
    spelled-escape 92 (mark ∷ rest) c 1 refl (ap (λ o. or_else o (numbered mark rest)) is)

text_back : (text : List ℕ) → all_scalars text ≡ true → spelled 0 (visible_text text) ≡ Some text
unfolding spelled
text_back [] s = refl
text_back (c ∷ text) s =
    let both = and_parts (scalar c) (all_scalars text) s in
    visible_back true c (flat_map (visible_character false) text) (find (means c) escape_marks) both.0 refl
    ∙ ap (option_map (λ cs. c ∷ cs)) (flat_back (visible_character false)
    (λ c rest s. visible_back false c rest (find (means c) escape_marks) s refl) text both.1)

-- ---- What is written is a text

prefix_scalars : (c : ℕ) (short middle : Bool) → IsScalar c → nat_lt c 0x10000 ≡ short → nat_lt c 0x100000 ≡ middle
    → all_scalars (if short then codes "\\x" else if middle then codes "\\y" ++ (digit_char (c / 0x10000) ∷ []) else codes "\\z00" ++ two_digits (c / 0x10000)) ≡ true
prefix_scalars c true middle s is of = refl
prefix_scalars c false true s is of =
    let small : c < 0x100000 = ltb-true c 0x100000 of in
    and_from (scalar (digit_char (c / 0x10000))) true (digit_scalar (c / 0x10000) (omega arith)) refl
prefix_scalars c false false s is of =
    let bound : c < 0x110000 = scalar_small c s in
    two_scalars (c / 0x10000) (omega arith)

number_scalars : (c : ℕ) → IsScalar c → all_scalars (by_number c) ≡ true
number_scalars c s =
    scalars-append (number_prefix c) (two_digits (c / 256 % 256) ++ two_digits (c % 256)) (prefix_scalars c (nat_lt c 0x10000) (nat_lt c 0x100000) s refl refl)
    (scalars-append (two_digits (c / 256 % 256)) (two_digits (c % 256)) (two_scalars (c / 256 % 256) (omega arith)) (two_scalars (c % 256) (omega arith)))

seen_scalars : (c : ℕ) (hidden : Bool) → IsScalar c → all_scalars (if hidden then by_number c else c ∷ []) ≡ true
seen_scalars c true s = number_scalars c s
seen_scalars c false s = and_from (scalar c) true s refl

visible_scalars : (first : Bool) (c : ℕ) (found : Option ℕ) → IsScalar c → find (means c) escape_marks ≡ found → all_scalars (by_mark found first c) ≡ true
visible_scalars first c None s e = seen_scalars c (is_hidden first c) s
visible_scalars first c (Some mark) s e = and_from (scalar mark) true (find_means c escape_marks mark refl e).1 refl

pub text_scalars : (text : List ℕ) → all_scalars text ≡ true → all_scalars (visible_text text) ≡ true
text_scalars [] s = refl
text_scalars (c ∷ text) s =
    let both = and_parts (scalar c) (all_scalars text) s in
    scalars-append (visible_character true c) (flat_map (visible_character false) text) (visible_scalars true c (find (means c) escape_marks) both.0 refl)
    (flat_scalars (visible_character false) (λ c s. visible_scalars false c (find (means c) escape_marks) s refl) text both.1)

-- the text that spells characters visibly is read back
pub visibly_back : (text bytes : List ℕ) → all_scalars text ≡ true → bytes ≡ encode_utf8_all (visible_text text) → characters_of bytes ≡ Ok text
visibly_back text bytes s e =
    ap characters_of e ∙ ap (λ o. ok_or o BadEscape) (ap (spelled 0) (chars-encodes (visible_text text) (text_scalars text s)) ∙ text_back text s)

-- ---- Lines

-- whether what follows some characters begins a word
abbrev pub first_after : Bool → List ℕ → Bool
first_after first [] = first
first_after first (c ∷ cs) = first_after (is_gap c) cs

-- one character more
line_more : (first : Bool) (cs : List ℕ) (c : ℕ) → line_from first (cs ++ c ∷ []) ≡ line_from first cs ++ line_character (first_after first cs) c
line_more first [] c = append-nil (line_character first c)
line_more first (x ∷ cs) c = ap (λ (rest : List ℕ). line_character first x ++ rest) (line_more (is_gap x) cs c) ∙ sym (append_assoc (line_character first x) (line_from (is_gap x) cs) (line_character (first_after (is_gap x) cs) c))

pub line_written : (cs : List ℕ) (c : ℕ) (first : Bool) (old new : List ℕ) → old ≡ encode_utf8_all (line_from true cs) → first ≡ first_after true cs
    → new ≡ old ++ encode_utf8_all (line_character first c) → new ≡ encode_utf8_all (line_from true (cs ++ c ∷ []))
line_written cs c first old new so_far first_is added =
    let before = line_from true cs in
    added ∙ (λ i. so_far i ++ encode_utf8_all (line_character (first_is i) c)) ∙ sym (encodes-append before (line_character (first_after true cs) c)) ∙ ap encode_utf8_all (sym (line_more true cs c))

pub first_more : (first : Bool) (cs : List ℕ) (c : ℕ) → first_after first (cs ++ c ∷ []) ≡ is_gap c
first_more first [] c = refl
first_more first (x ∷ cs) c = first_more (is_gap x) cs c
