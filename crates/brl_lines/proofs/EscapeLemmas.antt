-- The first character of a text, the digits of a number, and what an operand spells from a
-- character on.
use Rattle.std.proofs.Common.{◌≡◌, ◌≢◌, ℕ, zero, suc, ◌+◌, ◌-◌, ◌*◌, ◌^◌, ◌<◌, ◌≤◌, true, false, nat_eq, nat_lt, List, [], ◌∷◌, ◌++◌, length, drop, refl, ap, sym, ◌∙◌, arith, add-one, append-nil, length-append, Bor, MatchOption, IsUtf8, Option, Some, None, lit<}
use Rattle.std.proofs.Math.Nat.{pow-le-pow_right, pow-suc}
use Rattle.std.proofs.lemmas.Bool.Decides.{nat_tests}
use Rattle.std.proofs.lemmas.Bool.{eq-eqb, lt-ltb}
use Rattle.std.proofs.lemmas.List.{drop-drop}
use Rattle.std.proofs.lemmas.Str.{chars-nil, chars_past_char, length-encode, len_utf8_bounds}
use Rattle.std.specs.Char.{IsScalar, digit_value, is_digit, encode_utf8}
use Rattle.std.specs.Option.{option_map, option_and_then}
use Rattle.std.specs.Prelude.{Ok, ok_or}
use Rattle.std.specs.Str.{chars}
use Rattle.brl_lines.specs.declared.operand.CharsFault.TheVariants.{BadEscape}
use Rattle.brl_lines.proofs.RowLemmas.{not_equal}
use Rattle.brl_lines.specs.Escapes.{character, digits_after, escape, numbered, or_else, hexadecimal, named, spelled}

pub first_character : (text rest : List ℕ) (c : ℕ) → IsUtf8 text → text ≡ encode_utf8 c ++ rest → (chars text ≡ c ∷ chars rest) × (length rest < length text)
first_character text rest c u e =
    let more : length text ≡ length (encode_utf8 c) + length rest = ap length e ∙ length-append (encode_utf8 c) rest in
    (chars_past_char text rest c u e, omega (arith, more, length-encode c, len_utf8_bounds c))

-- ---- numbers

-- eight digits fit 32 bits
pub digits_fit : (count value digit : ℕ) → count < 8 → value < 16 ^ count → digit < 16 → value * 16 + digit < 2 ^ 32
digits_fit count value digit h v d =
    let most : 16 ^ count ≤ 16 ^ 7 = (let most_count : count ≤ 7 = omega arith in pow-le-pow_right (lit< tt) most_count) in
    omega arith

-- one digit more
pub digits_more : (count value digit : ℕ) → value < 16 ^ count → digit < 16 → value * 16 + digit < 16 ^ (count + 1)
digits_more count value digit v d = rw (add-one, pow-suc 16 count) (omega arith)

-- ---- what is spelled

-- marks that an escape has taken are skipped
pub spelled-drop : (taken : ℕ) (marks : List ℕ) → spelled taken marks ≡ spelled 0 (drop taken marks)
unfolding spelled
spelled-drop zero marks = refl
spelled-drop (suc taken) [] = refl
spelled-drop (suc taken) (mark ∷ marks) = spelled-drop taken marks

-- a mark that means itself
pub spelled-plain : (mark : ℕ) (marks : List ℕ) → nat_eq mark 92 ≡ false → spelled 0 (mark ∷ marks) ≡ option_map (λ cs. mark ∷ cs) (spelled 0 marks)
unfolding spelled
spelled-plain mark marks e = rw e refl

-- an escape
pub spelled-escape : (mark : ℕ) (marks : List ℕ) (c taken : ℕ) → nat_eq mark 92 ≡ true → escape marks ≡ Some (c, taken)
    → spelled 0 (mark ∷ marks) ≡ option_map (λ cs. c ∷ cs) (spelled 0 (drop taken marks))
unfolding spelled
spelled-escape mark marks c taken e f = rw (e, f, spelled-drop taken marks) refl

pub spelled-bad : (mark : ℕ) (marks : List ℕ) → nat_eq mark 92 ≡ true → escape marks ≡ None → spelled 0 (mark ∷ marks) ≡ None
unfolding spelled
spelled-bad mark marks e f = rw (e, f) refl

-- ---- how far a number is read

module _ (count read value : ℕ) (marks : List ℕ) where
  pub hexadecimal-whole : count ≤ read → hexadecimal (count - read) value marks ≡ Some value
  unfolding hexadecimal
  hexadecimal-whole h = let none : count - read ≡ zero = omega arith in rw none refl

  pub hexadecimal-short : read < count → marks ≡ [] → hexadecimal (count - read) value marks ≡ None
  unfolding hexadecimal
  hexadecimal-short h e = let some : count - read ≡ suc (count - (read + 1)) = omega arith in rw (some, e) refl

  pub hexadecimal-bad : (mark : ℕ) (rest : List ℕ) → read < count → marks ≡ mark ∷ rest → ¬ (digit_value mark < 16) → hexadecimal (count - read) value marks ≡ None
  unfolding hexadecimal
  hexadecimal-bad mark rest h e wrong =
      let some : count - read ≡ suc (count - (read + 1)) = omega arith in
      let bad : is_digit mark 16 ≡ false = not_below (digit_value mark) wrong in
      rw (some, e, bad) refl
    where
      not_below : (d : ℕ) → ¬ (d < 16) → nat_lt d 16 ≡ false
      not_below d h = let most : 16 ≤ d = omega arith in grind (arith, nat_tests)

  pub hexadecimal-digit : (mark digit : ℕ) (rest : List ℕ) → read < count → marks ≡ mark ∷ rest → digit_value mark < 16 → digit ≡ digit_value mark
      → hexadecimal (count - read) value marks ≡ hexadecimal (count - (read + 1)) (value * 16 + digit) rest
  unfolding hexadecimal
  hexadecimal-digit mark digit rest h e good d =
      let some : count - read ≡ suc (count - (read + 1)) = omega arith in
      let is : is_digit mark 16 ≡ true = lt-ltb (digit_value mark) 16 good in
      rw (some, e, is, d) refl

-- one character less is left
pub one_off : (read : ℕ) (marks left rest : List ℕ) (mark : ℕ) → left ≡ drop read marks → left ≡ mark ∷ rest → rest ≡ drop (read + 1) marks
one_off read marks left rest mark e f = sym (ap (drop 1) (sym e ∙ f)) ∙ drop-drop 1 read marks

-- ---- escapes

pub no_characters : (text : List ℕ) → length text ≡ 0 → chars text ≡ []
no_characters [] e = chars-nil
no_characters (b ∷ bs) e = absurd (omega arith)

-- an escape by number
pub escape-numbered : (mark count code : ℕ) (marks : List ℕ) → named mark ≡ None → digits_after mark ≡ Some count → hexadecimal count 0 marks ≡ Some code → IsScalar code
    → escape (mark ∷ marks) ≡ Some (code, count + 1)
escape-numbered mark count code marks n d h s =
    ap (λ o. or_else o (numbered mark marks)) n
    ∙ ap (option_and_then (λ k. option_map (λ c. (c, k + 1)) (option_and_then character (hexadecimal k 0 marks)))) d
    ∙ ap (λ o. option_map (λ c. (c, count + 1)) (option_and_then character o)) h
    ∙ rw s refl

-- what an escape gives is what is spelled
pub spelled-escaped : (all marks : List ℕ) (mark : ℕ) (most bound : ℕ) (found : Option (ℕ × Bor (List ℕ))) → all ≡ mark ∷ marks → mark ≡ 92 → most < bound
    → MatchOption found (escape marks ≡ None) (λ r. ((taken : ℕ) × (escape marks ≡ Some (r.0, taken)) × (chars r.1.now ≡ drop taken marks)) × (length r.1.now ≤ most))
    → MatchOption found (spelled 0 all ≡ None) (λ r. (spelled 0 all ≡ option_map (λ cs. r.0 ∷ cs) (spelled 0 (chars r.1.now))) × (length r.1.now < bound))
spelled-escaped all marks mark most bound None e backslash l h = ap (spelled 0) e ∙ spelled-bad mark marks (eq-eqb mark 92 backslash) h
spelled-escaped all marks mark most bound (Some r) e backslash l h = (
  ap (spelled 0) e ∙ spelled-escape mark marks r.0 h.0.0 (eq-eqb mark 92 backslash) h.0.1 ∙ ap (λ left. option_map (λ cs. r.0 ∷ cs) (spelled 0 left)) (sym h.0.2),
  omega (arith, h.1),
)

-- a mark that means itself is what is spelled
pub spelled-itself : (all marks : List ℕ) (mark : ℕ) → all ≡ mark ∷ marks → mark ≢ 92 → spelled 0 all ≡ option_map (λ cs. mark ∷ cs) (spelled 0 marks)
spelled-itself all marks mark e apart = ap (spelled 0) e ∙ spelled-plain mark marks (not_equal mark 92 apart)

-- the operand's end
pub spelled-end : (found : List ℕ) (whole : Option (List ℕ)) (rest : List ℕ) → whole ≡ option_map (λ cs. found ++ cs) (spelled 0 (chars rest)) → length rest ≡ 0 → ok_or whole BadEscape ≡ Ok found
unfolding spelled
spelled-end found whole rest e none = ap (λ o. ok_or o BadEscape) e ∙ rw (no_characters rest none, append-nil) refl
