-- What the characters of a rule are compared with: in a run of capitals the folds of its capitals.
use Rattle.std.proofs.Common.{ℕ, zero, suc, ◌<◌, ◌≤◌, ◌≡◌, Bool, true, false, ◌&&◌, List, [], ◌∷◌, length, cond, nat_eq, get_or, refl, arith, sym, ◌∙◌, ap, Some, None}
use Rattle.std.specs.Prelude.{slice_get, slice_index}
use Rattle.std.specs.List.{starts_with}
use Rattle.std.specs.Cmp.{first_so, second_so}
use Rattle.std.proofs.lemmas.Bool.{eq-eqb}
use Rattle.brl_rules.specs.TableView.{TableView}
use Rattle.brl_rules.specs.Text.{classes_of, fold_of, is_capital}
use Rattle.brl_rules.specs.Choice.{compared, folds_of_capitals}
use Rattle.brl_rules.specs.Tree.{mark_of}
use Rattle.brl_rules.proofs.Facts.{and-true, same_number}

-- whether a character is a capital
abbrev pub is_cap : TableView → ℕ → Bool
is_cap t c = is_capital (classes_of t c)

folds-capital : (t : TableView) (c : ℕ) (rest : List ℕ) → is_cap t c ≡ true → folds_of_capitals t (c ∷ rest) ≡ fold_of t c ∷ folds_of_capitals t rest
folds-capital t c rest is = ap (λ b. cond b (fold_of t c ∷ folds_of_capitals t rest) []) is

folds-other : (t : TableView) (c : ℕ) (rest : List ℕ) → is_cap t c ≡ false → folds_of_capitals t (c ∷ rest) ≡ []
folds-other t c rest is = ap (λ b. cond b (fold_of t c ∷ folds_of_capitals t rest) []) is

-- ---- how many there are

folds-length : (t : TableView) (rest : List ℕ) → length (folds_of_capitals t rest) ≤ length rest
folds-length t [] = omega arith
folds-length t (c ∷ rest) = cases (is_cap t c) refl (folds-length t rest)
  where
    cases : (b : Bool) → is_cap t c ≡ b → length (folds_of_capitals t rest) ≤ length rest → length (folds_of_capitals t (c ∷ rest)) ≤ length (c ∷ rest)
    cases true is more = omega (arith, more, ap length (folds-capital t c rest is))
    cases false is more = omega (arith, ap length (folds-other t c rest is))

pub compared-length : (t : TableView) (run : Bool) (rest : List ℕ) → length (compared t run rest) ≤ length rest
compared-length t run [] = omega arith
compared-length t false (c ∷ rest) = omega arith
compared-length t true (c ∷ rest) = omega (arith, folds-length t rest)

-- ---- the walk by marks

-- after k capitals the next mark is the next fold
folds-mark : (t : TableView) (rest : List ℕ) (k d : ℕ) → k ≤ length (folds_of_capitals t rest) → k < length rest
    → mark_of t true (get_or rest k d) ≡ slice_get (folds_of_capitals t rest) k
folds-mark t [] k d inside within = absurd (omega (arith, within))
folds-mark t (c ∷ rest) zero d inside within = cases (is_cap t c) refl
  where
    cases : (b : Bool) → is_cap t c ≡ b → cond b (Some (fold_of t c)) None ≡ slice_get (folds_of_capitals t (c ∷ rest)) 0
    cases true is = ap (λ l. slice_get l 0) (sym (folds-capital t c rest is))
    cases false is = ap (λ l. slice_get l 0) (sym (folds-other t c rest is))
folds-mark t (c ∷ rest) (suc k) d inside within = cases (is_cap t c) refl (folds-mark t rest k d)
  where
    cases : (b : Bool) → is_cap t c ≡ b → (k ≤ length (folds_of_capitals t rest) → k < length rest → mark_of t true (get_or rest k d) ≡ slice_get (folds_of_capitals t rest) k)
        → mark_of t true (get_or rest k d) ≡ slice_get (folds_of_capitals t (c ∷ rest)) (suc k)
    cases true is more =
        more (omega (arith, inside, ap length (folds-capital t c rest is))) (omega (arith, within))
        ∙ ap (λ l. slice_get l (suc k)) (sym (folds-capital t c rest is))
    cases false is more = absurd (omega (arith, inside, ap length (folds-other t c rest is)))

-- what comes after the first character
abbrev pub behind_first : TableView → Bool → List ℕ → List ℕ
behind_first t run rest = cond run (folds_of_capitals t rest) rest

pub behind-mark : (t : TableView) (run : Bool) (rest : List ℕ) (k d : ℕ) → k ≤ length (behind_first t run rest) → k < length rest
    → mark_of t run (get_or rest k d) ≡ slice_get (behind_first t run rest) k
behind-mark t true rest k d inside within = folds-mark t rest k d inside within
behind-mark t false rest k d inside within = sym (there rest k within)
  where
    there : (l : List ℕ) (k : ℕ) → k < length l → slice_get l k ≡ Some (get_or l k d)
    there [] k within = absurd (omega (arith, within))
    there (x ∷ l) zero within = refl
    there (x ∷ l) (suc k) within = there l k (omega (arith, within))

pub behind-length : (t : TableView) (run : Bool) (rest : List ℕ) → length (behind_first t run rest) ≤ length rest
behind-length t true rest = folds-length t rest
behind-length t false rest = omega arith

-- ---- element by element

-- these are the folds of the rest's first characters, which are capitals
pub record AreCapitals (t : TableView) (rest chars : List ℕ) : Type 0 where
  pub room : length chars ≤ length rest
  pub capitals : (k : ℕ) → k < length chars → is_cap t (slice_index rest k) ≡ true
  pub folds : (k : ℕ) → k < length chars → fold_of t (slice_index rest k) ≡ slice_index chars k

pub capitals_from_starts : (t : TableView) (rest chars : List ℕ) → starts_with nat_eq (folds_of_capitals t rest) chars ≡ true → AreCapitals t rest chars
capitals_from_starts t rest [] h = record { room = omega arith; capitals = λ k within. absurd (omega (arith, within)); folds = λ k within. absurd (omega (arith, within)) }
capitals_from_starts t [] (x ∷ chars) h = cc
capitals_from_starts t (c ∷ rest) (x ∷ chars) h = cases (is_cap t c) refl (capitals_from_starts t rest chars)
  where
    cases : (b : Bool) → is_cap t c ≡ b → (starts_with nat_eq (folds_of_capitals t rest) chars ≡ true → AreCapitals t rest chars) → AreCapitals t (c ∷ rest) (x ∷ chars)
    cases false is more = absurd (let e : false ≡ true = ap (λ l. starts_with nat_eq l (x ∷ chars)) (sym (folds-other t c rest is)) ∙ h in cc)
    cases true is more =
        let both : nat_eq x (fold_of t c) && starts_with nat_eq (folds_of_capitals t rest) chars ≡ true =
        ap (λ l. starts_with nat_eq l (x ∷ chars)) (sym (folds-capital t c rest is)) ∙ h in
        let tail = more (second_so (nat_eq x (fold_of t c)) (starts_with nat_eq (folds_of_capitals t rest) chars) both) in
        let head : fold_of t c ≡ x = sym (same_number x (fold_of t c) (first_so (nat_eq x (fold_of t c)) (starts_with nat_eq (folds_of_capitals t rest) chars) both)) in
        record { room = omega (arith, tail.room); capitals = each is tail.capitals; folds = every head tail.folds }
      where
        each : is_cap t c ≡ true → ((k : ℕ) → k < length chars → is_cap t (slice_index rest k) ≡ true) → (k : ℕ) → k < length (x ∷ chars) → is_cap t (slice_index (c ∷ rest) k) ≡ true
        each is tail zero within = is
        each is tail (suc k) within = tail k (omega (arith, within))

        every : fold_of t c ≡ x → ((k : ℕ) → k < length chars → fold_of t (slice_index rest k) ≡ slice_index chars k) → (k : ℕ) → k < length (x ∷ chars)
            → fold_of t (slice_index (c ∷ rest) k) ≡ slice_index (x ∷ chars) k
        every is tail zero within = is
        every is tail (suc k) within = tail k (omega (arith, within))

pub starts_from_capitals : (t : TableView) (rest chars : List ℕ) → AreCapitals t rest chars → starts_with nat_eq (folds_of_capitals t rest) chars ≡ true
starts_from_capitals t rest [] h = refl
starts_from_capitals t [] (x ∷ chars) h = absurd (omega (arith, h.room))
starts_from_capitals t (c ∷ rest) (x ∷ chars) h =
    ap (λ l. starts_with nat_eq l (x ∷ chars)) (folds-capital t c rest (h.capitals 0 (omega arith)))
    ∙ and-true (nat_eq x (fold_of t c)) (starts_with nat_eq (folds_of_capitals t rest) chars) (eq-eqb x (fold_of t c) (sym (h.folds 0 (omega arith))))
    (starts_from_capitals t rest chars (record {
      room = omega (arith, h.room);
      capitals = λ k within. h.capitals (suc k) (omega (arith, within));
      folds = λ k within. h.folds (suc k) (omega (arith, within));
    }))

-- ---- the next mark

pub mark-there : (behind : List ℕ) (k mark : ℕ) → Some mark ≡ slice_get behind k → (k < length behind) × ((d : ℕ) → mark ≡ get_or behind k d)
mark-there [] k mark h = cc
mark-there (x ∷ behind) zero mark h = (omega arith, λ d. let e : mark ≡ x = cc in e)
mark-there (x ∷ behind) (suc k) mark h = let more = mark-there behind k mark h in (omega (arith, more.0), more.1)

pub mark-none : (behind : List ℕ) (k : ℕ) → None ≡ slice_get behind k → length behind ≤ k
mark-none [] k h = omega arith
mark-none (x ∷ behind) zero h = cc
mark-none (x ∷ behind) (suc k) h = omega (arith, mark-none behind k h)
