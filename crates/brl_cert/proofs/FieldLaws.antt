-- What a field spells is read back from it, and its bytes are above the marks.
use Rattle.std.proofs.Common.{◌≡◌, ℕ, ◌^◌, ◌<◌, ◌≤◌, Bool, true, false, cond, eqb, ltb, List, [], ◌∷◌, ◌++◌, length, map, filter, All, Some, None, Ok, refl, sym, ap, ◌∙◌, arith, inl, inr}
use Rattle.std.specs.Prelude.{codes}
use Rattle.std.specs.Str.{bytes_eq}
use Rattle.std.specs.Str.Parse.{digits_value, IsNumeral, AllDigits}
use Rattle.std.specs.Char.{is_digit, digit_value}
use Rattle.std.specs.Fmt.{decimal, digits}
use Rattle.std.specs.List.{slice_split, join_with_byte, list_all, AllByRecursion}
use Rattle.std.specs.Cmp.{first_so, second_so}
use Rattle.std.proofs.lemmas.Bool.{cases_lt, le-leb}
use Rattle.std.proofs.lemmas.Bool.Decides.{Decides-eqb, Decides-ltb, nat_tests}
use Rattle.std.proofs.lemmas.Fmt.{digits_is_IsNumeral}
use Rattle.std.proofs.lemmas.List.Elements.{All-from_recursion, recursion_from_All}
use Rattle.std.proofs.lemmas.List.Splits.{slice_split_none, slice_split_at}
use Rattle.std.proofs.lemmas.Slice.Eq.{bytes_eq-Decides}
use Rattle.brl_cells.specs.Dots.{AreCells, dot_marks, has_dot, cell_spelling, spelling as dots_spelling, reading as dots_reading}
use Rattle.brl_lines.specs.Numbers.{lenient_number}
use Rattle.brl_cert.specs.Fields.{FieldFormat, number, flag, is_char, character, lenient_char, each, chars, lead}

-- each byte is above the given one
abbrev pub IsAbove : ℕ → List ℕ → Type 0
IsAbove low bytes = AllByRecursion (λ b. low < b) bytes

-- what is spelled is read back; it is not empty, and its bytes are above the given one
pub record Reads {A : Type 0} (form : FieldFormat A) (low : ℕ) (x : A) : Type 0 where
  pub again : form.lenient (form.spell x) ≡ Some x
  pub some : 0 < length (form.spell x)
  pub above : IsAbove low (form.spell x)

pub lower : (low high : ℕ) → low ≤ high → (bytes : List ℕ) → IsAbove high bytes → IsAbove low bytes
lower low high le [] h = tt
lower low high le (b ∷ bytes) h = (omega (arith, h.0), lower low high le bytes h.1)

pub above_append : (low : ℕ) (a b : List ℕ) → IsAbove low a → IsAbove low b → IsAbove low (a ++ b)
above_append low [] b h k = k
above_append low (x ∷ a) b h k = (h.0, above_append low a b h.1 k)

pub apart : (m : ℕ) (bytes : List ℕ) → IsAbove m bytes → All (λ b. eqb b m ≡ false) bytes
apart m bytes h = All-from_recursion (λ b. eqb b m ≡ false) bytes (by_cases bytes h)
  where
    by_cases : (xs : List ℕ) → IsAbove m xs → AllByRecursion (λ b. eqb b m ≡ false) xs
    by_cases [] h = tt
    by_cases (x ∷ xs) h = ((let lt : m < x = h.0 in grind (arith, nat_tests)), by_cases xs h.1)

-- parts that are joined by a mark are found again
pub split_joined : (m : ℕ) (part : List ℕ) (parts : List (List ℕ)) → AllByRecursion (IsAbove m) (part ∷ parts) → slice_split (λ b. eqb b m) (join_with_byte m (part ∷ parts)) ≡ part ∷ parts
split_joined m part [] h = slice_split_none (λ b. eqb b m) part (apart m part h.0)
split_joined m part (next ∷ parts) h =
    slice_split_at (λ b. eqb b m) part m (join_with_byte m (next ∷ parts)) (apart m part h.0) ((Decides-eqb m m).1 refl) ∙ ap (λ (ps : List (List ℕ)). part ∷ ps) (split_joined m next parts h.1)

pub above_joined : (low m : ℕ) → low < m → (parts : List (List ℕ)) → AllByRecursion (IsAbove low) parts → IsAbove low (join_with_byte m parts)
above_joined low m lt [] h = tt
above_joined low m lt (part ∷ []) h = h.0
above_joined low m lt (part ∷ next ∷ parts) h = above_append low part (m ∷ join_with_byte m (next ∷ parts)) h.0 (lt, above_joined low m lt (next ∷ parts) h.1)

-- ---- numbers

all_digits : (radix : ℕ) (ds : List ℕ) → AllDigits radix ds → list_all (λ c. is_digit c radix) ds ≡ true
all_digits radix [] h = refl
all_digits radix (c ∷ ds) h = rw ((Decides-ltb (digit_value c) radix).1 h.0) (all_digits radix ds h.1)

digit_above : (radix c : ℕ) → radix ≤ 16 → digit_value c < radix → 47 < c
digit_above radix c le h =
    elim (cases_lt c 48) [
      | inl lt ↦ absurd (let e : digit_value c ≡ 36 = rw ((Decides-ltb c 48).1 lt) refl in omega (arith, e))
      | inr ge ↦ omega arith
    ]

digits_above : (radix : ℕ) (ds : List ℕ) → radix ≤ 16 → AllDigits radix ds → IsAbove 47 ds
digits_above radix [] le h = tt
digits_above radix (c ∷ ds) le h = (digit_above radix c le h.0, digits_above radix ds le h.1)

number_from_digits : (radix greatest n : ℕ) (ds : List ℕ) → IsNumeral radix ds → digits_value radix ds ≡ n → n ≤ greatest → lenient_number radix greatest ds ≡ Some n
number_from_digits radix greatest n ds numeral value le =
    rw ((Decides-ltb 0 (length ds)).1 numeral.0, all_digits radix ds numeral.1, value, le-leb n greatest le) refl

pub number_reads : (greatest n : ℕ) → n ≤ greatest → n < 10 ^ 64 → Reads (number greatest) 47 n
number_reads greatest n le small =
    let d = digits_is_IsNumeral 10 false (omega arith) (omega arith) n small in
    record {
      again = number_from_digits 10 greatest n (decimal n) d.0 d.1 le;
      some = d.0.0;
      above = digits_above 10 (decimal n) (omega arith) d.0.1;
    }

pub flag_reads : (b : Bool) → Reads flag 47 b
flag_reads false = record { again = refl; some = omega arith; above = (omega arith, tt) }
flag_reads true = record { again = refl; some = omega arith; above = (omega arith, tt) }

-- ---- characters

pub char_reads : (c : ℕ) → is_char c ≡ true → Reads character 47 c
char_reads c is =
    let le : c ≤ 0x10FFFF = grind (arith, nat_tests) in
    let d = digits_is_IsNumeral 16 false (omega arith) (omega arith) c (omega arith) in
    record {
      again = rw (number_from_digits 16 0x10FFFF c (digits 16 false c) d.0 d.1 le) (ap (λ (b : Bool). cond b (Some c) None) is);
      some = d.0.0;
      above = digits_above 16 (digits 16 false c) (omega arith) d.0.1;
    }

pub above_true : (low : ℕ) (bytes : List ℕ) → list_all (λ b. ltb low b) bytes ≡ true → IsAbove low bytes
above_true low [] h = tt
above_true low (b ∷ bytes) h = ((Decides-ltb low b).0 (first_so _ _ h), above_true low bytes (second_so (ltb low b) _ h))

-- ---- Characters, one by one

pub each_again : (cs : List ℕ) → AllByRecursion (Reads character 47) cs → each lenient_char (map (digits 16 false) cs) ≡ Some cs
each_again [] h = refl
each_again (c ∷ cs) h = rw (h.0.again, each_again cs h.1) refl

pub all_above : (low : ℕ) → low ≤ 47 → (cs : List ℕ) → AllByRecursion (Reads character 47) cs → AllByRecursion (IsAbove low) (map (digits 16 false) cs)
all_above low le [] h = tt
all_above low le (c ∷ cs) h = (lower low 47 le (digits 16 false c) h.0.above, all_above low le cs h.1)

no_dash : (mark : ℕ) (part : List ℕ) (parts : List (List ℕ)) → 0 < length part → IsAbove 47 part → bytes_eq (join_with_byte mark (part ∷ parts)) (codes "-") ≡ false
no_dash mark [] parts some h = absurd (omega arith)
no_dash mark (b ∷ part) [] some h = (let e : eqb b 45 ≡ false = (let lt : 47 < b = h.0 in grind (arith, nat_tests)) in rw e refl)
no_dash mark (b ∷ part) (next ∷ parts) some h = (let e : eqb b 45 ≡ false = (let lt : 47 < b = h.0 in grind (arith, nat_tests)) in rw e refl)

longer : (mark : ℕ) (part : List ℕ) (parts : List (List ℕ)) → 0 < length part → 0 < length (join_with_byte mark (part ∷ parts))
longer mark part [] some = some
longer mark [] (next ∷ parts) some = absurd (omega arith)
longer mark (b ∷ part) (next ∷ parts) some = omega arith

joined_reads : (cs : List ℕ) → AllByRecursion (Reads character 47) cs → Reads chars 44 cs
joined_reads [] h = record { again = refl; some = omega arith; above = (omega arith, tt) }
joined_reads (c ∷ cs) h =
    let split : slice_split (λ b. eqb b 46) (join_with_byte 46 (map (digits 16 false) (c ∷ cs))) ≡ map (digits 16 false) (c ∷ cs) = split_joined 46 (digits 16 false c) (map (digits 16 false) cs) (all_above 46 (omega arith) (c ∷ cs) h) in
    record {
      again = rw (no_dash 46 (digits 16 false c) (map (digits 16 false) cs) h.0.some h.0.above, split) (each_again (c ∷ cs) h);
      some = longer 46 (digits 16 false c) (map (digits 16 false) cs) h.0.some;
      above = above_joined 44 46 (omega arith) (map (digits 16 false) (c ∷ cs)) (all_above 44 (omega arith) (c ∷ cs) h);
    }

pub each_char : (cs : List ℕ) → AllByRecursion (λ c. is_char c ≡ true) cs → AllByRecursion (Reads character 47) cs
each_char [] h = tt
each_char (c ∷ cs) h = (char_reads c h.0, each_char cs h.1)

pub chars_read : (cs : List ℕ) → All (λ c. is_char c ≡ true) cs → Reads chars 44 cs
chars_read cs h = joined_reads cs (each_char cs (recursion_from_All (λ c. is_char c ≡ true) cs h))

-- ---- Leads, by the law of cells

above_one : (low m : ℕ) (t : Bool) (ms : List ℕ) → low < m → IsAbove low ms → IsAbove low (cond t (m ∷ ms) ms)
above_one low m true ms lt h = (lt, h)
above_one low m false ms lt h = h

above_filter : (low : ℕ) (test : ℕ → Bool) (marks : List ℕ) → IsAbove low marks → IsAbove low (filter test marks)
above_filter low test [] h = tt
above_filter low test (m ∷ marks) h = above_one low m (test m) (filter test marks) h.0 (above_filter low test marks h.1)

cell_above : (cell : ℕ) → IsAbove 44 (cell_spelling cell)
cell_above cell = by_test (eqb cell 0)
  where
    by_test : (t : Bool) → IsAbove 44 (cond t (codes "0") (filter (has_dot cell) dot_marks))
    by_test true = above_true 44 (codes "0") refl
    by_test false = above_filter 44 (has_dot cell) dot_marks (above_true 44 dot_marks refl)

pub cells_above : (cells : List ℕ) → AllByRecursion (IsAbove 44) (map cell_spelling cells)
cells_above [] = tt
cells_above (cell ∷ cells) = (cell_above cell, cells_above cells)

-- the law of cells, as a lead needs it
abbrev pub ReadsCells : Type 0
ReadsCells = (most : ℕ) (cells : List ℕ) → AreCells cells → 1 ≤ length cells → length cells ≤ most → dots_reading most (dots_spelling cells) ≡ Ok cells

some_bytes : (bytes : List ℕ) (cells : List ℕ) → dots_reading 1024 bytes ≡ Ok cells → 0 < length bytes
some_bytes [] cells e = absurd cc
some_bytes (b ∷ bytes) cells e = omega arith

no_lead : (bytes : List ℕ) (cells : List ℕ) → dots_reading 1024 bytes ≡ Ok cells → bytes_eq bytes (codes "-") ≡ false
no_lead bytes cells e = by_test (bytes_eq bytes (codes "-")) refl
  where
    by_test : (t : Bool) → bytes_eq bytes (codes "-") ≡ t → bytes_eq bytes (codes "-") ≡ false
    by_test false is = is
    by_test true is = absurd (let same : bytes ≡ codes "-" = (bytes_eq-Decides bytes (codes "-")).0 is in let wrong : dots_reading 1024 (codes "-") ≡ Ok cells = ap (dots_reading 1024) (sym same) ∙ e in cc)

pub lead_reads : ReadsCells → (cells : List ℕ) → AreCells cells → length cells ≤ 1024 → Reads lead 44 cells
lead_reads law [] h le = record { again = refl; some = omega arith; above = (omega arith, tt) }
lead_reads law (cell ∷ cells) h le =
    let back : dots_reading 1024 (dots_spelling (cell ∷ cells)) ≡ Ok (cell ∷ cells) = law 1024 (cell ∷ cells) h (omega arith) le in
    record {
      again = rw (no_lead (dots_spelling (cell ∷ cells)) (cell ∷ cells) back) (rw back refl);
      some = some_bytes (dots_spelling (cell ∷ cells)) (cell ∷ cells) back;
      above = above_joined 44 45 (omega arith) (map cell_spelling (cell ∷ cells)) (cells_above (cell ∷ cells));
    }
