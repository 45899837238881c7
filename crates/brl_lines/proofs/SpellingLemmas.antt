-- What characters are spelled by, and that it is read back.
use Rattle.std.proofs.Common.{◌≡◌, ℕ, suc, ◌+◌, ◌*◌, ◌/◌, ◌%◌, ◌<◌, ◌==◌, ◌⊎◌, true, false, cond, if◌then◌else◌, Bool, nat_eq, nat_lt, List, [], ◌∷◌, ◌++◌, refl, ap, sym, subst, ◌∙◌, arith, inl, inr, Option, Some, None, Ok, ok_or, option_map, codes, find, flat_map, length, take, get_or}
use Rattle.std.proofs.lemmas.Bool.{eqb-true, and_from, and_parts, lt-ltb}
use Rattle.std.proofs.lemmas.Bool.Decides.{nat_tests}
use Rattle.std.proofs.lemmas.List.{flat_map_more, take_more}
use Rattle.std.proofs.lemmas.Str.{chars-encodes, digit_value-digit_char, encode_ascii, encodes-append}
use Rattle.std.specs.Char.{IsScalar, digit_char, encode_utf8, is_ascii_control}
use Rattle.std.specs.Fmt.{digit_glyph}
use Rattle.std.specs.Option.{option_map_or}
use Rattle.std.specs.Str.{all_scalars, encode_utf8_all}
use lib.Utf8.{scalar, low_scalar}
use Rattle.brl_lines.proofs.EscapeLemmas.{escape-numbered, spelled-escape, spelled-plain}
use Rattle.brl_lines.proofs.RowLemmas.{not_equal}
use Rattle.brl_lines.specs.Escapes.{characters_of, hexadecimal, named, numbered, or_else, spelled}
use Rattle.brl_lines.specs.declared.operand.CharsFault.TheVariants.{BadEscape}
use Rattle.brl_lines.specs.Visible.{two_digits}
use Rattle.brl_lines.specs.Spelling.{character_spelling, escape_marks, means, spelled_by_mark, text_spelling}

-- a control character is below 128
pub control_small : (c : ℕ) → is_ascii_control c ≡ true → c < 128
control_small c control = grind (arith, nat_tests)

-- a digit is a mark of ASCII
pub digit_small : (d : ℕ) → d < 16 → digit_char d < 128
digit_small d small = grind (arith, nat_tests)

-- two digits are marks of ASCII
pub two_digits_ascii : (n : ℕ) → n < 256 → encode_utf8_all (two_digits n) ≡ digit_glyph false (n / 16) ∷ digit_glyph false (n % 16) ∷ []
two_digits_ascii n small =
    let high : digit_char (n / 16) < 128 = digit_small (n / 16) (omega arith) in
    let low : digit_char (n % 16) < 128 = digit_small (n % 16) (omega arith) in
    rw (encode_ascii (digit_char (n / 16)) high, encode_ascii (digit_char (n % 16)) low) refl

-- a control character that has no escape of one mark
pub spelled-control : (c : ℕ) → is_ascii_control c ≡ true → find (means c) escape_marks ≡ None
    → encode_utf8_all (character_spelling c) ≡ codes "\\x00" ++ digit_glyph false (c / 16) ∷ digit_glyph false (c % 16) ∷ []
unfolding encode_utf8
spelled-control c control none =
    let small = control_small c control in
    let digits = two_digits_ascii c (omega (arith, small)) in
    ap (λ m. encode_utf8_all (spelled_by_mark m c)) none ∙ rw control (ap (λ bytes. codes "\\x00" ++ bytes) digits)

-- ---- what is spelled is read back

-- an element that passes the test, or what is found after it
find_step : (b : Bool) (m mark : ℕ) (rest : Option ℕ) → cond b (Some m) rest ≡ Some mark → ((b ≡ true) × (m ≡ mark)) ⊎ (rest ≡ Some mark)
find_step true m mark rest e = inl (refl, cc)
find_step false m mark rest e = inr e

means_named : (c : ℕ) (meant : Option ℕ) → option_map_or (λ d. d == c) meant false ≡ true → meant ≡ Some c
means_named c None e = cc
means_named c (Some d) e = ap Some (eqb-true d c e)

-- the escape that is found means the character, and its mark is a character
pub find_means : (c : ℕ) (marks : List ℕ) (mark : ℕ) → all_scalars marks ≡ true → find (means c) marks ≡ Some mark → (named mark ≡ Some c) × (scalar mark ≡ true)
find_means c [] mark s e = cc
find_means c (m ∷ ms) mark s e =
    let both = and_parts (scalar m) (all_scalars ms) s in
    elim (find_step (means c m) m mark (find (means c) ms) e) [
      | inl h ↦ (subst (λ k. named k ≡ Some c) h.1 (means_named c (named m) h.0), subst (λ k. scalar k ≡ true) h.1 both.0)
      | inr h ↦ find_means c ms mark both.1 h
    ]

-- a backslash is written by its escape
pub none_plain : (c : ℕ) → find (means c) escape_marks ≡ None → nat_eq c 92 ≡ false
none_plain c none = not_equal c 92 (λ e. backslash (subst (λ k. find (means k) escape_marks ≡ None) e none))
  where
    backslash : find (means 92) escape_marks ≡ None → ⊥
    backslash e = cc

-- one hexadecimal digit more
pub hexadecimal-more : (count value d : ℕ) (rest : List ℕ) → d < 16 → hexadecimal (suc count) value (digit_char d ∷ rest) ≡ hexadecimal count (value * 16 + d) rest
unfolding hexadecimal
hexadecimal-more count value d rest small =
    let is : nat_lt d 16 ≡ true = lt-ltb d 16 small in
    rw (digit_value-digit_char d (omega (arith, small)), is) refl

-- four digits that follow some that write a value
pub last_digits : (c value : ℕ) (rest : List ℕ) → value ≡ c / 0x10000
    → hexadecimal 4 value (two_digits (c / 256 % 256) ++ (two_digits (c % 256) ++ rest)) ≡ Some c
unfolding hexadecimal
last_digits c value rest is =
    let a = c / 256 % 256 in
    let b = c % 256 in
    let v1 = value * 16 + a / 16 in
    let v2 = v1 * 16 + a % 16 in
    let v3 = v2 * 16 + b / 16 in
    let whole : v3 * 16 + b % 16 ≡ c = omega arith in
    hexadecimal-more 3 value (a / 16) (digit_char (a % 16) ∷ (two_digits b ++ rest)) (omega arith)
    ∙ hexadecimal-more 2 v1 (a % 16) (two_digits b ++ rest) (omega arith)
    ∙ hexadecimal-more 1 v2 (b / 16) (digit_char (b % 16) ∷ rest) (omega arith)
    ∙ hexadecimal-more 0 v3 (b % 16) rest (omega arith)
    ∙ ap Some whole

four_digits : (c : ℕ) (rest : List ℕ) → c < 128 → hexadecimal 4 0 (48 ∷ 48 ∷ digit_char (c / 16) ∷ digit_char (c % 16) ∷ rest) ≡ Some c
four_digits c rest small =
    let high : c / 256 % 256 ≡ 0 = omega arith in
    let low : c % 256 ≡ c = omega arith in
    rw (high, low) at (last_digits c 0 rest (omega arith))

-- the first character that a spelling spells
plain_back : (c : ℕ) (rest : List ℕ) (control : Bool) → IsScalar c → is_ascii_control c ≡ control → nat_eq c 92 ≡ false
    → spelled 0 ((if control then codes "\\x00" ++ digit_char (c / 16) ∷ digit_char (c % 16) ∷ [] else c ∷ []) ++ rest) ≡ option_map (λ cs. c ∷ cs) (spelled 0 rest)
plain_back c rest true s e plain =
    let marks : List ℕ = 48 ∷ 48 ∷ digit_char (c / 16) ∷ digit_char (c % 16) ∷ rest in
    spelled-escape 92 (120 ∷ marks) c 5 refl (escape-numbered 120 4 c marks refl refl (four_digits c rest (control_small c e)) s)
plain_back c rest false s e plain = spelled-plain c rest plain

character_back : (c : ℕ) (rest : List ℕ) (found : Option ℕ) → IsScalar c → find (means c) escape_marks ≡ found
    → spelled 0 (spelled_by_mark found c ++ rest) ≡ option_map (λ cs. c ∷ cs) (spelled 0 rest)
character_back c rest None s e = plain_back c rest (is_ascii_control c) s refl (none_plain c e)
character_back c rest (Some mark) s e =
    let is = (find_means c escape_marks mark refl e).0 in
    spelled-escape 92 (mark ∷ rest) c 1 refl (ap (λ o. or_else o (numbered mark rest)) is)

-- where each character can be read back from its spelling, so can a whole text
pub flat_back : (f : ℕ → List ℕ) → ((c : ℕ) (rest : List ℕ) → IsScalar c → spelled 0 (f c ++ rest) ≡ option_map (λ cs. c ∷ cs) (spelled 0 rest))
    → (text : List ℕ) → all_scalars text ≡ true → spelled 0 (flat_map f text) ≡ Some text
unfolding spelled
flat_back f back [] s = refl
flat_back f back (c ∷ text) s =
    let both = and_parts (scalar c) (all_scalars text) s in
    back c (flat_map f text) both.0 ∙ ap (option_map (λ cs. c ∷ cs)) (flat_back f back text both.1)

-- ---- a spelling is a text

pub scalars-append : (xs ys : List ℕ) → all_scalars xs ≡ true → all_scalars ys ≡ true → all_scalars (xs ++ ys) ≡ true
scalars-append [] ys s t = t
scalars-append (x ∷ xs) ys s t = let both = and_parts (scalar x) (all_scalars xs) s in and_from (scalar x) (all_scalars (xs ++ ys)) both.0 (scalars-append xs ys both.1 t)

pub digit_scalar : (d : ℕ) → d < 16 → scalar (digit_char d) ≡ true
digit_scalar d small = low_scalar (digit_char d) (let low = digit_small d small in omega (arith, low))

pub two_scalars : (n : ℕ) → n < 256 → all_scalars (two_digits n) ≡ true
two_scalars n small =
    and_from (scalar (digit_char (n / 16))) (all_scalars (digit_char (n % 16) ∷ [])) (digit_scalar (n / 16) (omega arith))
    (and_from (scalar (digit_char (n % 16))) true (digit_scalar (n % 16) (omega arith)) refl)

plain_scalars : (c : ℕ) (control : Bool) → IsScalar c → is_ascii_control c ≡ control
    → all_scalars (if control then codes "\\x00" ++ two_digits c else c ∷ []) ≡ true
plain_scalars c true s e = let small = control_small c e in two_scalars c (omega (arith, small))
plain_scalars c false s e = and_from (scalar c) true s refl

character_scalars : (c : ℕ) (found : Option ℕ) → IsScalar c → find (means c) escape_marks ≡ found → all_scalars (spelled_by_mark found c) ≡ true
character_scalars c None s e = plain_scalars c (is_ascii_control c) s refl
character_scalars c (Some mark) s e = and_from (scalar mark) true (find_means c escape_marks mark refl e).1 refl

pub flat_scalars : (f : ℕ → List ℕ) → ((c : ℕ) → IsScalar c → all_scalars (f c) ≡ true) → (text : List ℕ) → all_scalars text ≡ true
    → all_scalars (flat_map f text) ≡ true
flat_scalars f each [] s = refl
flat_scalars f each (c ∷ text) s =
    let both = and_parts (scalar c) (all_scalars text) s in scalars-append (f c) (flat_map f text) (each c both.0) (flat_scalars f each text both.1)

-- the text that spells characters is read back
pub spelling_back : (text bytes : List ℕ) → all_scalars text ≡ true → bytes ≡ encode_utf8_all (text_spelling text) → characters_of bytes ≡ Ok text
spelling_back text bytes s e =
    let scalars = flat_scalars character_spelling (λ c s. character_scalars c (find (means c) escape_marks) s refl) text s in
    let back = flat_back character_spelling (λ c rest s. character_back c rest (find (means c) escape_marks) s refl) text s in
    ap characters_of e ∙ ap (λ o. ok_or o BadEscape) (ap (spelled 0) (chars-encodes (text_spelling text) scalars) ∙ back)

-- ---- one character more

pub spelling_more : (text : List ℕ) (c : ℕ) (old new : List ℕ) → old ≡ encode_utf8_all (text_spelling text) → new ≡ old ++ encode_utf8_all (character_spelling c)
    → new ≡ encode_utf8_all (text_spelling (text ++ c ∷ []))
spelling_more text c old new e f = f ∙ ap (λ bytes. bytes ++ encode_utf8_all (character_spelling c)) e
    ∙ sym (encodes-append (text_spelling text) (character_spelling c)) ∙ ap encode_utf8_all (flat_map_more character_spelling [] text c)

-- so is the text up to a place with the character that is there
pub one_more : (text : List ℕ) (i c : ℕ) (old new : List ℕ) → i < length text → c ≡ get_or text i c → IsScalar c → all_scalars (take i text) ≡ true
    → old ≡ encode_utf8_all (text_spelling (take i text)) → new ≡ old ++ encode_utf8_all (character_spelling c)
    → (new ≡ encode_utf8_all (text_spelling (take (i + 1) text))) × (all_scalars (take (i + 1) text) ≡ true)
one_more text i c old new h is s front e f =
    let more : take (i + 1) text ≡ take i text ++ c ∷ [] = take_more text i c h ∙ ap (λ d. take i text ++ d ∷ []) (sym is) in (
      spelling_more (take i text) c old new e f ∙ ap (λ cs. encode_utf8_all (text_spelling cs)) (sym more),
      ap all_scalars more ∙ scalars-append (take i text) (c ∷ []) front (and_from (scalar c) true s refl),
    )
