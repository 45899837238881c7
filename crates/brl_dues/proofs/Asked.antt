-- The steps of a state are the same where the classes before are reduced to what is asked of them:
-- what places, indicators and runs of capitals ask is the same of both.
use Rattle.std.proofs.Common.{◌≡◌, ℕ, ◌+◌, ◌*◌, ◌/◌, ◌%◌, ◌^◌, ◌<◌, Bool, true, false, not, ◌&&◌, ◌||◌, List, [], ◌∷◌, Option, Some, None, length, refl, sym, ap, ◌∙◌, cond, nat_eq, arith}
use Rattle.std.specs.Prelude.{nat_lt}
use Rattle.std.specs.Int.RustNames.{bit_and}
use Rattle.std.proofs.lemmas.Bool.{eq-eqb, eqb-true, lt-ltb, ne_eqb}
use Rattle.std.proofs.lemmas.Nat.{and_block, and_le_r, shr_split}
use Rattle.std.specs.List.{flat_map}
use Rattle.std.specs.Option.{option_map_or}
use Rattle.brl_rules.specs.declared.class.Class.{Class}
use Rattle.brl_rules.specs.declared.context.Context.{Context}
use Rattle.brl_rules.specs.declared.place.Cond.TheVariants.{Any, Meets}
use Rattle.brl_rules.specs.declared.place.Place.{Place}
use Rattle.brl_rules.specs.declared.place.Place.TheVariants.{Always, Word, Sufword, Prfword, Begword, Begmidword, Midword, Midendword, Endword, Partword, Begnum, Midnum, Endnum}
use Rattle.brl_rules.specs.declared.rule.Info.{Info}
use Rattle.brl_rules.specs.declared.signs.Sign.{Sign}
use Rattle.brl_rules.specs.declared.signs.Sign.TheVariants.{CapsLetter, NumSign, NoContractSign, BegCapsWord, EndCapsWord}
use Rattle.brl_rules.specs.Indicators.{indicators_before, indicators_of, sign_order, used_cells}
use Rattle.brl_rules.specs.Infos.{first_info}
use Rattle.brl_rules.specs.Places.{after_of, before_of, digit, gap, gap_or_letter, holds, letter, share, uppercase}
use Rattle.brl_rules.specs.TableView.{TableView, indicator_cells}
use Rattle.brl_rules.specs.Text.{classes_of, context_after_all, has_word_capitals, is_capital, numeric_after}
use Rattle.brl_states.specs.declared.due.Due.{Due}
use Rattle.brl_states.specs.declared.dues_state.DuesState.{DuesState}
use Rattle.brl_dues.specs.Capitals.{any_if, further, further_by, is_upper}
use Rattle.brl_dues.specs.Parts.{asked, told}
use Rattle.brl_dues.proofs.Alike.{AreAlike}

-- ---- Classes

-- a sum of two numbers isn't 0 just where one of the two isn't
some-of : (m g l : ℕ) → m ≡ l + g → not (nat_eq m 0) ≡ (not (nat_eq g 0) || not (nat_eq l 0))
some-of m g l e = at (nat_eq g 0) (nat_eq l 0) refl refl
  where
    at : (a b : Bool) → nat_eq g 0 ≡ a → nat_eq l 0 ≡ b → not (nat_eq m 0) ≡ (not a || not b)
    at true true p q = (let u = eqb-true g 0 p in let v = eqb-true l 0 q in ap not (eq-eqb m 0 (omega (arith, e, u, v))))
    at true false p q = ap not (ne_eqb m 0 (λ z. let w = eq-eqb l 0 (omega (arith, e, z)) in let no : true ≡ false = sym w ∙ q in cc))
    at false b p q = ap not (ne_eqb m 0 (λ z. let w = eq-eqb g 0 (omega (arith, e, z)) in let no : true ≡ false = sym w ∙ p in cc))

-- classes share one with gap or letter where they share one with either
share-mixed : (c : Class) → share c gap_or_letter ≡ (share c gap || share c letter)
share-mixed c =
    let x = c.0 in
    let high = x / 2 ^ 3 in
    let low = x % 2 ^ 3 in
    let whole : high * 2 ^ 3 + low ≡ x = shr_split x 3 in
    let below : low < 2 ^ 3 = omega arith in
    let mixed : bit_and x 11 ≡ bit_and high 1 * 8 + bit_and low 3 = ap (λ n. bit_and n 11) (sym whole) ∙ and_block 3 high 1 low 3 below (omega arith) in
    let letters : bit_and x 8 ≡ bit_and high 1 * 8 + bit_and low 0 = ap (λ n. bit_and n 8) (sym whole) ∙ and_block 3 high 1 low 0 below (omega arith) in
    let gaps : bit_and x 3 ≡ bit_and high 0 * 8 + bit_and low 3 = ap (λ n. bit_and n 3) (sym whole) ∙ and_block 3 high 0 low 3 below (omega arith) in
    let a = and_le_r high 0 in
    let b = and_le_r low 0 in
    some-of (bit_and x 11) (bit_and x 3) (bit_and x 8) (omega (arith, mixed, letters, gaps, a, b))

-- which of four kinds of classes a character has: these four answers say it
record Tells (c : Class) (is_gap is_digit is_letter is_upper : Bool) : Type 0 where
  gap_is : share c gap ≡ is_gap
  digit_is : share c digit ≡ is_digit
  letter_is : share c letter ≡ is_letter
  mixed_is : share c gap_or_letter ≡ (is_gap || is_letter)
  upper_is : share c uppercase ≡ is_upper

tells : (g d l u : Bool) → Tells (told g d l u) g d l u
tells true true true true = record { gap_is = refl; digit_is = refl; letter_is = refl; mixed_is = refl; upper_is = refl }
tells true true true false = record { gap_is = refl; digit_is = refl; letter_is = refl; mixed_is = refl; upper_is = refl }
tells true true false true = record { gap_is = refl; digit_is = refl; letter_is = refl; mixed_is = refl; upper_is = refl }
tells true true false false = record { gap_is = refl; digit_is = refl; letter_is = refl; mixed_is = refl; upper_is = refl }
tells true false true true = record { gap_is = refl; digit_is = refl; letter_is = refl; mixed_is = refl; upper_is = refl }
tells true false true false = record { gap_is = refl; digit_is = refl; letter_is = refl; mixed_is = refl; upper_is = refl }
tells true false false true = record { gap_is = refl; digit_is = refl; letter_is = refl; mixed_is = refl; upper_is = refl }
tells true false false false = record { gap_is = refl; digit_is = refl; letter_is = refl; mixed_is = refl; upper_is = refl }
tells false true true true = record { gap_is = refl; digit_is = refl; letter_is = refl; mixed_is = refl; upper_is = refl }
tells false true true false = record { gap_is = refl; digit_is = refl; letter_is = refl; mixed_is = refl; upper_is = refl }
tells false true false true = record { gap_is = refl; digit_is = refl; letter_is = refl; mixed_is = refl; upper_is = refl }
tells false true false false = record { gap_is = refl; digit_is = refl; letter_is = refl; mixed_is = refl; upper_is = refl }
tells false false true true = record { gap_is = refl; digit_is = refl; letter_is = refl; mixed_is = refl; upper_is = refl }
tells false false true false = record { gap_is = refl; digit_is = refl; letter_is = refl; mixed_is = refl; upper_is = refl }
tells false false false true = record { gap_is = refl; digit_is = refl; letter_is = refl; mixed_is = refl; upper_is = refl }
tells false false false false = record { gap_is = refl; digit_is = refl; letter_is = refl; mixed_is = refl; upper_is = refl }

-- what the table asks is the same of both classes
pub record AreAskedAlike (t : TableView) (p q : Class) : Type 0 where
  pub same_gap : share p gap ≡ share q gap
  pub same_digit : share p digit ≡ share q digit
  pub same_letter : share p letter ≡ share q letter
  pub same_mixed : share p gap_or_letter ≡ share q gap_or_letter
  pub same_upper : (has_word_capitals t && is_capital p) ≡ (has_word_capitals t && is_capital q)

and-again : (w u : Bool) → (w && u) ≡ (w && (w && u))
and-again true u = refl
and-again false u = refl

pub asked-alike : (t : TableView) (p : Class) → AreAskedAlike t p (asked t p)
asked-alike t p =
    let told_are = tells (share p gap) (share p digit) (share p letter) (has_word_capitals t && is_capital p) in
    record {
      same_gap = sym told_are.gap_is;
      same_digit = sym told_are.digit_is;
      same_letter = sym told_are.letter_is;
      same_mixed = share-mixed p ∙ sym told_are.mixed_is;
      same_upper = and-again (has_word_capitals t) (is_capital p) ∙ ap (λ b. has_word_capitals t && b) (sym told_are.upper_is);
    }

-- ---- What is asked of them

by-caps : {X : Type 0} (w u a b : Bool) (x y z : X) → (w && a) ≡ (w && b) → cond (w && u) (cond a x y) z ≡ cond (w && u) (cond b x y) z
by-caps true u a b x y z e = ap (λ c. cond u (cond c x y) z) e
by-caps false u a b x y z e = refl

no-cells : (b : Bool) → cond b [] [] ≡ (let xs : List ℕ = [] in xs)
no-cells true = refl
no-cells false = refl

-- the sign before a run of capitals: a table without word capitals has no cells for it
begun : (x a b : Bool) (cells : List ℕ) → (nat_lt 0 (length cells) && a) ≡ (nat_lt 0 (length cells) && b) → cond (x && not a) cells [] ≡ cond (x && not b) cells []
begun x a b [] e = no-cells (x && not a) ∙ sym (no-cells (x && not b))
begun x a b (y ∷ ys) e =
    let some : nat_lt 0 (length (y ∷ ys)) ≡ true = lt-ltb 0 (length (y ∷ ys)) (omega arith) in
    ap (λ c. cond (x && not c) (y ∷ ys) []) (ap (λ w. w && a) (sym some) ∙ e ∙ ap (λ w. w && b) some)

module _ (t : TableView) (p q : Class) (same : AreAskedAlike t p q) where
  before-same : (place : Place) → holds (before_of place) p ≡ holds (before_of place) q
  before-same Always = refl
  before-same Word = same.same_gap
  before-same Sufword = same.same_gap
  before-same Prfword = same.same_mixed
  before-same Begword = same.same_gap
  before-same Begmidword = same.same_mixed
  before-same Midword = same.same_letter
  before-same Midendword = same.same_letter
  before-same Endword = same.same_letter
  before-same Partword = refl
  before-same Begnum = same.same_gap
  before-same Midnum = same.same_digit
  before-same Endnum = same.same_digit

  after-same : (place : Place) → after_of place p ≡ after_of place q
  after-same Always = refl
  after-same Word = refl
  after-same Sufword = refl
  after-same Prfword = refl
  after-same Begword = refl
  after-same Begmidword = refl
  after-same Midword = refl
  after-same Midendword = refl
  after-same Endword = refl
  after-same Partword = ap (λ b. cond b Any (Meets letter)) same.same_letter
  after-same Begnum = refl
  after-same Midnum = refl
  after-same Endnum = refl

  follows-same : (run : Bool) (chars : List ℕ) → further t p run chars ≡ further t q run chars
  follows-same run [] = refl
  follows-same run (c ∷ others) =
      by-caps (has_word_capitals t) (is_upper t c) (is_capital p) (is_capital q) (any_if run) (further_by t run others) (any_if (not run)) same.same_upper

  module _ (numeric in_run : Bool) where
    abbrev here : Class → Context
    here before = record { classes = before; numeric = numeric; run = in_run }

    used-same : (run : Bool) (info : Info) (sign : Sign) → used_cells t (here p) run info sign ≡ used_cells t (here q) run info sign
    used-same run info EndCapsWord = refl
    used-same run info NoContractSign = refl
    used-same run info NumSign = refl
    used-same run info BegCapsWord = begun (is_capital info.classes && run) (is_capital p) (is_capital q) (indicator_cells t BegCapsWord) same.same_upper
    used-same run info CapsLetter = refl

    signs-same : (run : Bool) (reads : List ℕ) → indicators_before t (here p) run reads ≡ indicators_before t (here q) run reads
    signs-same run reads = at (first_info t reads)
      where
        at : (o : Option Info) → option_map_or (indicators_of t (here p) run) o [] ≡ option_map_or (indicators_of t (here q) run) o []
        at None = refl
        at (Some info) = ap (λ (f : Sign → List ℕ). flat_map f sign_order) (λ i. λ sign. used-same run info sign i)

    behind-same : (c : ℕ) (others : List ℕ) → context_after_all t (here p) (c ∷ others) ≡ context_after_all t (here q) (c ∷ others)
    behind-same c others =
        ap (λ b. context_after_all t (record { classes = classes_of t c; numeric = numeric_after t c numeric; run = b && is_capital (classes_of t c) }) others) same.same_upper

-- a state is like the one whose classes before are reduced to what is asked of them
pub alike-asked : (t : TableView) (s : DuesState) (dues : List Due) → AreAlike t s (record s { before = asked t s.before; dues = dues })
alike-asked t s dues =
    let same = asked-alike t s.before in
    record {
      before = before-same t s.before (asked t s.before) same;
      after = after-same t s.before (asked t s.before) same;
      follows = follows-same t s.before (asked t s.before) same;
      signs = signs-same t s.before (asked t s.before) same s.numeric s.run;
      behind = behind-same t s.before (asked t s.before) same s.numeric s.run;
    }
