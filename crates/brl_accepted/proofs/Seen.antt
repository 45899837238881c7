-- What is written can be seen: a line of a rule or of a set is the same where what can't be seen is
-- spelled.
use Rattle.std.proofs.Common.{◌≡◌, ◌≢◌, ◌∙◌, ◌<◌, ◌++◌, ◌-◌, ◌/◌, ◌%◌, ◌&&◌, ◌||◌, ℕ, zero, suc, All, Bool, true, false, cond, List, [], ◌∷◌, Option, None, Some, ap, append_assoc, arith, codes, drop, encode_utf8_all, filter, find, flat_map, get_or, if◌then◌else◌, length, map, nat_eq, nat_lt, refl, subst, sym, take}
use Rattle.std.specs.List.{AllByRecursion, join_with_byte, list_all, list_any}
use Rattle.std.specs.Option.{option_and_then, option_map_or, option_or}
use Rattle.std.specs.Str.{all_scalars, bytes_eq, chars}
use Rattle.std.specs.Char.{digit_char}
use Rattle.std.proofs.lemmas.Bool.{and_from, and_parts, eqb-false, eqb-true, lt-ltb, ltb-true, ne_eqb, or_parts}
use Rattle.std.proofs.lemmas.Bool.Decides.{nat_tests}
use Rattle.std.specs.Prelude.{nat_le, option_map, slice_get}
use Rattle.std.proofs.lemmas.List.Elements.{recursion_from_All}
use Rattle.ucd_category.specs.GeneralCategory.{general_category}
use Rattle.ucd_derived.specs.Binary.{is_default_ignorable_code_point}
use Rattle.std.proofs.lemmas.Str.{chars-encodes, encode_ascii, encodes-append}
use lib.Utf8.{low_scalar, scalar}
use Rattle.brl_cells.specs.Dots.{cell_spelling, dot_marks, has_dot, spelling}
use Rattle.brl_lines.proofs.SpellingLemmas.{scalars-append}
use Rattle.brl_lines.proofs.VisibleLemmas.{scalar_small, text_scalars}
use Rattle.brl_lines.specs.Rows.{without_mark}
use Rattle.brl_lines.specs.Spelling.{escape_marks, means}
use Rattle.brl_lines.specs.Tokens.{LineView, is_gap}
use Rattle.brl_lines.specs.Visible.{by_mark, by_number, is_hidden, is_mark, is_mark_category, is_unseen, is_unseen_category, line_character, line_from, number_prefix, two_digits, visible_character, visible_line, visible_text}
use Rattle.brl_report.specs.Place.{file_name}
use Rattle.brl_report.specs.Rules.{ListedView, known_opcode, of_character, of_rule, opcode_at, own_definition, rule_with_number, said_rule}
use Rattle.brl_accepted.specs.Pairs.{said, wording}
use Rattle.brl_accepted.proofs.Said.{each_says, opcode_passes}
use Rattle.brl_rules.specs.TableView.{TableView, info_of}
use Rattle.brl_rules.specs.declared.rule.Info.{Info}
use Rattle.brl_rules.specs.declared.rule.Rule.{Rule}
use Rattle.brl_table.specs.Words.{opcode_words}

-- ---- Characters that stay

-- each of these characters stays as it is in a line, the first of them at the beginning of a word
-- or not
abbrev Stay : Bool → List ℕ → Type 0
Stay first [] = Unit {0}
Stay first (c ∷ cs) = (line_character first c ≡ c ∷ []) × Stay (is_gap c) cs

-- so they do wherever they begin
abbrev AlwaysStay : List ℕ → Type 0
AlwaysStay cs = (first : Bool) → Stay first cs

stay_same : (first : Bool) (cs : List ℕ) → Stay first cs → line_from first cs ≡ cs
stay_same first [] h = refl
stay_same first (c ∷ cs) h = λ i. h.0 i ++ stay_same (is_gap c) cs h.1 i

stay_append : (first : Bool) (xs ys : List ℕ) → Stay first xs → AlwaysStay ys → Stay first (xs ++ ys)
stay_append first [] ys h k = k first
stay_append first (x ∷ xs) ys h k = (h.0, stay_append (is_gap x) xs ys h.1 k)

-- ---- Marks of ASCII

-- a blank, or a mark of ASCII that can be seen
abbrev IsSeenMark : ℕ → Type 0
IsSeenMark b = (31 < b) × (b < 127)

module _ (b : ℕ) (low : 32 < b) (high : b < 127) (other : b ≢ 92) where
  no_escape : find (means b) escape_marks ≡ None
  no_escape =
      let e1 : nat_eq 92 b ≡ false = ne_eqb 92 b (λ e. other (sym e)) in
      let e2 : nat_eq 12 b ≡ false = ne_eqb 12 b (λ e. omega (arith, e)) in
      let e3 : nat_eq 10 b ≡ false = ne_eqb 10 b (λ e. omega (arith, e)) in
      let e4 : nat_eq 13 b ≡ false = ne_eqb 13 b (λ e. omega (arith, e)) in
      let e5 : nat_eq 32 b ≡ false = ne_eqb 32 b (λ e. omega (arith, e)) in
      let e6 : nat_eq 9 b ≡ false = ne_eqb 9 b (λ e. omega (arith, e)) in
      let e7 : nat_eq 11 b ≡ false = ne_eqb 11 b (λ e. omega (arith, e)) in
      let e8 : nat_eq 27 b ≡ false = ne_eqb 27 b (λ e. omega (arith, e)) in
      rw (e1, e2, e3, e4, e5, e6, e7, e8) refl

  not_hidden : (first : Bool) → is_hidden first b ≡ false
  not_hidden first = cases first
    where
      small : nat_lt b 127 ≡ true
      small = lt-ltb b 127 high

      past : nat_le b 32 ≡ false
      past = grind (arith, nat_tests)

      seen : is_unseen b ≡ false
      seen = ap (λ (low_one : Bool). if low_one then nat_le b 32 else is_unseen_category (general_category b) || is_default_ignorable_code_point b || nat_eq b 0x2800) small ∙ past

      unmarked : is_mark b ≡ false
      unmarked = ap (λ (low_one : Bool). if low_one then false else is_mark_category (general_category b)) small

      cases : (f : Bool) → (is_unseen b || (f && is_mark b)) ≡ false
      cases true = (λ i. seen i || unmarked i)
      cases false = ap (λ (one : Bool). one || false) seen

  mark_stays : (first : Bool) → visible_character first b ≡ b ∷ []
  mark_stays first = ap (λ (found : Option ℕ). by_mark found first b) no_escape ∙ ap (λ (hidden : Bool). if hidden then by_number b else b ∷ []) (not_hidden first)

seen_mark : (first : Bool) (b : ℕ) → IsSeenMark b → (stays : Bool) → (is_gap b || nat_eq b 92) ≡ stays → (if stays then b ∷ [] else visible_character first b) ≡ b ∷ []
seen_mark first b h true is = refl
seen_mark first b h false is =
    let (blank, back) = or_parts (is_gap b) (nat_eq b 92) is in
    let (space, tab) = or_parts (nat_eq b 32) (nat_eq b 9) blank in
    mark_stays b (let e : b ≢ 32 = eqb-false b 32 space in omega (arith, h.0, e)) h.1 (eqb-false b 92 back) first

-- marks of ASCII that can be seen
abbrev AreSeenMarks : List ℕ → Type 0
AreSeenMarks bytes = AllByRecursion IsSeenMark bytes

marks_stay : (bytes : List ℕ) → AreSeenMarks bytes → AlwaysStay bytes
marks_stay [] h first = tt
marks_stay (b ∷ bytes) h first = (seen_mark first b h.0 (is_gap b || nat_eq b 92) refl, marks_stay bytes h.1 (is_gap b))

marks_encoded : (bytes : List ℕ) → AreSeenMarks bytes → encode_utf8_all bytes ≡ bytes
marks_encoded [] h = refl
marks_encoded (b ∷ bytes) h = λ i. encode_ascii b (omega (arith, h.0.1)) i ++ marks_encoded bytes h.1 i

marks_scalars : (bytes : List ℕ) → AreSeenMarks bytes → all_scalars bytes ≡ true
marks_scalars [] h = refl
marks_scalars (b ∷ bytes) h = rw (low_scalar b (omega (arith, h.0.1))) (marks_scalars bytes h.1)

marks_append : (xs ys : List ℕ) → AreSeenMarks xs → AreSeenMarks ys → AreSeenMarks (xs ++ ys)
marks_append [] ys h k = k
marks_append (x ∷ xs) ys h k = (h.0, marks_append xs ys h.1 k)

marks_by_test : (bytes : List ℕ) → list_all (λ b. nat_lt 31 b && nat_lt b 127) bytes ≡ true → AreSeenMarks bytes
marks_by_test [] h = tt
marks_by_test (b ∷ bytes) h =
    let (first, rest) = and_parts (nat_lt 31 b && nat_lt b 127) (list_all (λ c. nat_lt 31 c && nat_lt c 127) bytes) h in
    let (low, high) = and_parts (nat_lt 31 b) (nat_lt b 127) first in
    ((ltb-true 31 b low, ltb-true b 127 high), marks_by_test bytes rest)

-- ---- Texts that can be seen

-- bytes are those of characters that stay as they are
pub record IsSeen (bytes : List ℕ) : Type 0 where
  pub cs : List ℕ
  pub is : bytes ≡ encode_utf8_all cs
  pub scalars : all_scalars cs ≡ true
  pub stay : AlwaysStay cs

pub seen_same : (line : List ℕ) → IsSeen line → visible_line line ≡ line
seen_same line h =
    ap visible_line h.is ∙ ap (λ (cs : List ℕ). encode_utf8_all (line_from true cs)) (chars-encodes h.cs h.scalars) ∙ ap encode_utf8_all (stay_same true h.cs (h.stay true)) ∙ sym h.is

pub seen_append : (xs ys : List ℕ) → IsSeen xs → IsSeen ys → IsSeen (xs ++ ys)
seen_append xs ys h k = record {
  cs = h.cs ++ k.cs;
  is = (λ i. h.is i ++ k.is i) ∙ sym (encodes-append h.cs k.cs);
  scalars = scalars-append h.cs k.cs h.scalars k.scalars;
  stay = λ first. stay_append first h.cs k.cs (h.stay first) k.stay;
}

seen_marks : (bytes : List ℕ) → AreSeenMarks bytes → IsSeen bytes
seen_marks bytes h = record { cs = bytes; is = sym (marks_encoded bytes h); scalars = marks_scalars bytes h; stay = marks_stay bytes h }

pub seen_codes : (bytes : List ℕ) → list_all (λ b. nat_lt 31 b && nat_lt b 127) bytes ≡ true → IsSeen bytes
seen_codes bytes h = seen_marks bytes (marks_by_test bytes h)

-- ---- Characters as they are spelled

-- marks of ASCII that can be seen, and no blanks
abbrev IsGraph : ℕ → Type 0
IsGraph b = (32 < b) × (b < 127)

abbrev AreGraph : List ℕ → Type 0
AreGraph bytes = AllByRecursion IsGraph bytes

graph_append : (xs ys : List ℕ) → AreGraph xs → AreGraph ys → AreGraph (xs ++ ys)
graph_append [] ys h k = k
graph_append (x ∷ xs) ys h k = (h.0, graph_append xs ys h.1 k)

graph_by_test : (bytes : List ℕ) → list_all (λ b. nat_lt 32 b && nat_lt b 127) bytes ≡ true → AreGraph bytes
graph_by_test [] h = tt
graph_by_test (b ∷ bytes) h =
    let (first, rest) = and_parts (nat_lt 32 b && nat_lt b 127) (list_all (λ c. nat_lt 32 c && nat_lt c 127) bytes) h in
    let (low, high) = and_parts (nat_lt 32 b) (nat_lt b 127) first in
    ((ltb-true 32 b low, ltb-true b 127 high), graph_by_test bytes rest)

no_blank : (b : ℕ) → 32 < b → is_gap b ≡ false
no_blank b low = λ i. ne_eqb b 32 (λ e. omega (arith, e)) i || ne_eqb b 9 (λ e. omega (arith, e)) i

-- some of them before what isn't at the beginning of a word
graph_before : (at : Bool) (xs ys : List ℕ) → AreGraph xs → (xs ≡ [] → ⊥) → Stay false ys → Stay at (xs ++ ys)
graph_before at [] ys h some k = absurd (some refl)
graph_before at (x ∷ []) ys h some k =
    (seen_mark at x (omega (arith, h.0.0), h.0.1) (is_gap x || nat_eq x 92) refl, subst (λ (g : Bool). Stay g ys) (sym (no_blank x h.0.0)) k)
graph_before at (x ∷ y ∷ xs) ys h some k = (
  seen_mark at x (omega (arith, h.0.0), h.0.1) (is_gap x || nat_eq x 92) refl,
  subst (λ (g : Bool). Stay g ((y ∷ xs) ++ ys)) (sym (no_blank x h.0.0)) (graph_before false (y ∷ xs) ys h.1 (λ e. cc) k),
)

digit_seen : (d : ℕ) → d < 16 → IsGraph (digit_char d)
digit_seen d small = grind (arith, nat_tests)

digits_seen : (n : ℕ) → n < 256 → AreGraph (two_digits n)
digits_seen n small = (digit_seen (n / 16) (omega arith), (digit_seen (n % 16) (omega arith), tt))

prefix_seen : (c : ℕ) (short middle : Bool) → nat_lt c 0x10000 ≡ short → nat_lt c 0x100000 ≡ middle → c < 0x110000
    → AreGraph (if short then codes "\\x" else if middle then codes "\\y" ++ (digit_char (c / 0x10000) ∷ []) else codes "\\z00" ++ two_digits (c / 0x10000))
prefix_seen c true middle is of bound = graph_by_test (codes "\\x") refl
prefix_seen c false true is of bound =
    let small : c < 0x100000 = ltb-true c 0x100000 of in
    graph_append (codes "\\y") (digit_char (c / 0x10000) ∷ []) (graph_by_test (codes "\\y") refl) (digit_seen (c / 0x10000) (omega arith), tt)
prefix_seen c false false is of bound = graph_append (codes "\\z00") (two_digits (c / 0x10000)) (graph_by_test (codes "\\z00") refl) (digits_seen (c / 0x10000) (omega arith))

some_prefix : (c : ℕ) (short middle : Bool) (rest : List ℕ)
    → ((if short then codes "\\x" else if middle then codes "\\y" ++ (digit_char (c / 0x10000) ∷ []) else codes "\\z00" ++ two_digits (c / 0x10000)) ++ rest) ≡ [] → ⊥
some_prefix c true middle rest e = cc
some_prefix c false true rest e = cc
some_prefix c false false rest e = cc

number_seen : (c : ℕ) → c < 0x110000 → AreGraph (by_number c)
number_seen c bound =
    graph_append (number_prefix c) (two_digits (c / 256 % 256) ++ two_digits (c % 256)) (prefix_seen c (nat_lt c 0x10000) (nat_lt c 0x100000) refl refl bound)
    (graph_append (two_digits (c / 256 % 256)) (two_digits (c % 256)) (digits_seen (c / 256 % 256) (omega arith)) (digits_seen (c % 256) (omega arith)))

found_graph : (p : ℕ → Bool) (marks : List ℕ) (mark : ℕ) → AreGraph marks → find p marks ≡ Some mark → IsGraph mark
found_graph p [] mark h e = absurd cc
found_graph p (m ∷ marks) mark h e = cases (p m) (found_graph p marks mark h.1) e
  where
    cases : (b : Bool) → (find p marks ≡ Some mark → IsGraph mark) → cond b (Some m) (find p marks) ≡ Some mark → IsGraph mark
    cases true later is = (let same : m ≡ mark = cc in subst IsGraph same h.0)
    cases false later is = later is

-- a character that no escape of one mark means is no blank, no tab and no backslash
no_gap : (c : ℕ) → find (means c) escape_marks ≡ None → (is_gap c || nat_eq c 92) ≡ false
no_gap c none = cases (nat_eq c 32) (nat_eq c 9) (nat_eq c 92) refl refl refl
  where
    apart : (n : ℕ) → (find (means n) escape_marks ≡ None → ⊥) → nat_eq c n ≡ true → ⊥
    apart n has e = has (subst (λ (k : ℕ). find (means k) escape_marks ≡ None) (eqb-true c n e) none)

    cases : (space tab back : Bool) → nat_eq c 32 ≡ space → nat_eq c 9 ≡ tab → nat_eq c 92 ≡ back → ((space || tab) || back) ≡ false
    cases true tab back e f g = absurd (apart 32 (λ h. cc) e)
    cases false true back e f g = absurd (apart 9 (λ h. cc) f)
    cases false false true e f g = absurd (apart 92 (λ h. cc) g)
    cases false false false e f g = refl

-- one that stays where it stood first or not, if it isn't spelled there
own_stays : (first at : Bool) (c : ℕ) → find (means c) escape_marks ≡ None → is_hidden first c ≡ false → (at ≡ true → first ≡ true) → line_character at c ≡ c ∷ []
own_stays first at c none seen earlier =
    ap (λ (stays : Bool). if stays then c ∷ [] else visible_character at c) (no_gap c none) ∙ ap (λ (found : Option ℕ). by_mark found at c) none
    ∙ ap (λ (hidden : Bool). if hidden then by_number c else c ∷ []) (hidden at first seen earlier)
  where
    hidden : (a f : Bool) → is_hidden f c ≡ false → (a ≡ true → f ≡ true) → is_hidden a c ≡ false
    hidden true true h of = h
    hidden true false h of = absurd (let e = of refl in cc)
    hidden false f h of = ap (λ (one : Bool). one || false) (or_parts (is_unseen c) (f && is_mark c) h).0

-- what a character is written by stays, at the beginning of a word where it began the text
written_stays : (first at : Bool) (c : ℕ) (hidden : Bool) (rest : List ℕ) → c < 0x110000 → (at ≡ true → first ≡ true) → find (means c) escape_marks ≡ None → is_hidden first c ≡ hidden → Stay false rest
    → Stay at ((if hidden then by_number c else c ∷ []) ++ rest)
written_stays first at c true rest bound earlier is of k = graph_before at (by_number c) rest (number_seen c bound) (some_prefix c (nat_lt c 0x10000) (nat_lt c 0x100000) (two_digits (c / 256 % 256) ++ two_digits (c % 256))) k
written_stays first at c false rest bound earlier is of k =
    (own_stays first at c is of earlier, subst (λ (g : Bool). Stay g rest) (sym (or_parts (is_gap c) (nat_eq c 92) (no_gap c is)).0) k)

character_stays : (first at : Bool) (c : ℕ) (rest : List ℕ) → scalar c ≡ true → (at ≡ true → first ≡ true) → Stay false rest → Stay at (visible_character first c ++ rest)
character_stays first at c rest s earlier k = cases (find (means c) escape_marks) refl
  where
    cases : (found : Option ℕ) → find (means c) escape_marks ≡ found → Stay at (by_mark found first c ++ rest)
    cases (Some mark) is =
        graph_before at (92 ∷ mark ∷ []) rest ((omega arith, omega arith), (found_graph (means c) escape_marks mark (graph_by_test escape_marks refl) is, tt)) (λ e. cc) k
    cases None is = written_stays first at c (is_hidden first c) rest (scalar_small c s) earlier is refl k

rest_stays : (text : List ℕ) → all_scalars text ≡ true → Stay false (flat_map (visible_character false) text)
rest_stays [] s = tt
rest_stays (c ∷ text) s =
    let both = and_parts (scalar c) (all_scalars text) s in
    character_stays false false c (flat_map (visible_character false) text) both.0 (λ e. cc) (rest_stays text both.1)

text_stays : (text : List ℕ) → all_scalars text ≡ true → AlwaysStay (visible_text text)
text_stays [] s at = tt
text_stays (c ∷ text) s at =
    let both = and_parts (scalar c) (all_scalars text) s in
    character_stays true at c (flat_map (visible_character false) text) both.0 (λ e. refl) (rest_stays text both.1)

pub seen_text : (text : List ℕ) → all_scalars text ≡ true → IsSeen (encode_utf8_all (visible_text text))
seen_text text s = record { cs = visible_text text; is = refl; scalars = text_scalars text s; stay = text_stays text s }

-- ---- Rules

opcode_seen : (word : List ℕ) → IsSeen (known_opcode word)
unfolding opcode_words
opcode_seen word = seen_codes (known_opcode word) (opcode_passes (λ (w : List ℕ). list_all (λ b. nat_lt 31 b && nat_lt b 127) w) refl refl word)

filtered : (p : ℕ → Bool) (marks : List ℕ) → AreSeenMarks marks → AreSeenMarks (filter p marks)
filtered p [] h = tt
filtered p (m ∷ marks) h = cases (p m) (filtered p marks h.1)
  where
    cases : (b : Bool) → AreSeenMarks (filter p marks) → AreSeenMarks (cond b (m ∷ filter p marks) (filter p marks))
    cases true rest = (h.0, rest)
    cases false rest = rest

cell_seen : (cell : ℕ) → AreSeenMarks (cell_spelling cell)
cell_seen cell = cases (nat_eq cell 0)
  where
    cases : (b : Bool) → AreSeenMarks (if b then codes "0" else filter (has_dot cell) dot_marks)
    cases true = marks_by_test (codes "0") refl
    cases false = filtered (has_dot cell) dot_marks (marks_by_test dot_marks refl)

cells_seen : (cells : List ℕ) → AreSeenMarks (spelling cells)
cells_seen [] = tt
cells_seen (cell ∷ []) = cell_seen cell
cells_seen (cell ∷ next ∷ cells) = marks_append (cell_spelling cell) (45 ∷ spelling (next ∷ cells)) (cell_seen cell) ((omega arith, omega arith), cells_seen (next ∷ cells))

-- an opcode, characters and cells
pub said_seen : (t : TableView) (lines : List LineView) (x : ListedView) → all_scalars x.characters ≡ true → IsSeen (said_rule t lines x)
said_seen t lines x s =
    let word = opcode_at (file_name t x.file) x.line lines in
    let blank : IsSeen (codes " ") = seen_codes (codes " ") refl in
    let last = seen_append (codes " ") (spelling x.cells) blank (seen_marks (spelling x.cells) (cells_seen x.cells)) in
    let end = seen_append (encode_utf8_all (visible_text x.characters)) (codes " " ++ spelling x.cells) (seen_text x.characters s) last in
    seen_append (known_opcode word) (codes " " ++ (encode_utf8_all (visible_text x.characters) ++ (codes " " ++ spelling x.cells))) (opcode_seen word)
    (seen_append (codes " ") (encode_utf8_all (visible_text x.characters) ++ (codes " " ++ spelling x.cells)) blank end)

-- ---- How a line begins

-- bytes begin with a mark of ASCII, or are none
abbrev pub StartsLow : List ℕ → Type 0
StartsLow [] = Unit {0}
StartsLow (b ∷ bytes) = b < 128

pub low_before : (xs ys : List ℕ) → StartsLow xs → StartsLow ys → StartsLow (xs ++ ys)
low_before [] ys h k = k
low_before (x ∷ xs) ys h k = h

starts_low : List ℕ → Bool
starts_low [] = true
starts_low (b ∷ bytes) = nat_lt b 128

low_one : (word : List ℕ) → starts_low word ≡ true → StartsLow word
unfolding starts_low
low_one [] e = tt
low_one (b ∷ bytes) e = ltb-true b 128 e

opcode_low : (word : List ℕ) → StartsLow (known_opcode word)
unfolding opcode_words starts_low
opcode_low word = low_one (known_opcode word) (opcode_passes starts_low refl refl word)

said_low : (t : TableView) (lines : List LineView) (x : ListedView) → StartsLow (said_rule t lines x)
said_low t lines x =
    low_before (known_opcode (opcode_at (file_name t x.file) x.line lines)) (codes " " ++ (encode_utf8_all (visible_text x.characters) ++ (codes " " ++ spelling x.cells)))
    (opcode_low (opcode_at (file_name t x.file) x.line lines)) (omega arith)

-- ---- What each rule of a table says

-- the characters of a table are scalar values
pub record HasScalars (t : TableView) : Type 0 where
  pub rules : All (λ rule. all_scalars rule.chars ≡ true) t.rules
  pub own : all_scalars (map (λ entry. entry.0) t.characters) ≡ true

element : {A : Type 0} (P : A → Type 0) (xs : List A) (k : ℕ) (x : A) → AllByRecursion P xs → slice_get xs k ≡ Some x → P x
element P [] k x h e = absurd cc
element P (y ∷ xs) zero x h e = let same : y ≡ x = cc in subst P same h.0
element P (y ∷ xs) (suc k) x h e = element P xs k x h.1 e

one_scalar : (cs : List ℕ) (k c : ℕ) → all_scalars cs ≡ true → slice_get cs k ≡ Some c → all_scalars (c ∷ []) ≡ true
one_scalar [] k c h e = absurd cc
one_scalar (d ∷ cs) zero c h e = let same : d ≡ c = cc in subst (λ (x : ℕ). all_scalars (x ∷ []) ≡ true) same (and_from (scalar d) true (and_parts (scalar d) (all_scalars cs) h).0 refl)
one_scalar (d ∷ cs) (suc k) c h e = one_scalar cs k c (and_parts (scalar d) (all_scalars cs) h).1 e

abbrev Scalars : ListedView → Type 0
Scalars x = all_scalars x.characters ≡ true

of_either : (rule : Option Rule) (own : Option ListedView) (x : ListedView) → ((r : Rule) → rule ≡ Some r → all_scalars r.chars ≡ true) → ((y : ListedView) → own ≡ Some y → Scalars y)
    → option_or (option_map of_rule rule) own ≡ Some x → Scalars x
of_either (Some r) own x h k e = let same : of_rule r ≡ x = cc in subst Scalars same (h r refl)
of_either None own x h k e = k x e

of_own : (t : TableView) (character : Option ℕ) (y : ListedView) → ((c : ℕ) → character ≡ Some c → all_scalars (c ∷ []) ≡ true)
    → option_and_then (λ c. option_map (of_character c) (info_of t c)) character ≡ Some y → Scalars y
of_own t None y h e = absurd cc
of_own t (Some c) y h e = cases (info_of t c) e
  where
    cases : (info : Option Info) → option_map (of_character c) info ≡ Some y → Scalars y
    cases None e = absurd cc
    cases (Some info) e = let same : of_character c info ≡ y = cc in subst Scalars same (h c refl)

numbered_scalars : (t : TableView) → HasScalars t → (number : ℕ) (x : ListedView) → rule_with_number t number ≡ Some x → Scalars x
numbered_scalars t has number x e =
    of_either (slice_get t.rules number) (own_definition t (number - length t.rules)) x
    (λ r there. element (λ (rule : Rule). all_scalars rule.chars ≡ true) t.rules number r (recursion_from_All (λ (rule : Rule). all_scalars rule.chars ≡ true) t.rules has.rules) there)
    (λ y is. of_own t (slice_get (map (λ entry. entry.0) t.characters) (number - length t.rules)) y (λ c there. one_scalar (map (λ entry. entry.0) t.characters) (number - length t.rules) c has.own there) is) e

pub wording_seen : (t : TableView) (lines : List LineView) → HasScalars t → (number : ℕ) → IsSeen (said (wording t lines) number)
wording_seen t lines has number = each_says IsSeen t lines (seen_codes [] refl) (λ n x is. said_seen t lines x (numbered_scalars t has n x is)) number

pub wording_low : (t : TableView) (lines : List LineView) (number : ℕ) → StartsLow (said (wording t lines) number)
wording_low t lines number = each_says StartsLow t lines tt (λ n x is. said_low t lines x) number
