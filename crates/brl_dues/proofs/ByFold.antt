-- The places of the characters with a fold, and the steps of a rule, which begin with these alone.
use Rattle.std.proofs.Common.{◌≡◌, ◌≢◌, ℕ, zero, suc, ◌+◌, ◌-◌, ◌<◌, ◌≤◌, Bool, true, false, not, ◌&&◌, List, [], ◌∷◌, ◌++◌, length, map, filter, take, drop, get_or, refl, sym, ap, ap₂, ◌∙◌, cond, nat_eq, arith, leb, ltb, subst, append-nil, length-drop, drop_of_length-le, drop-cons}
use Rattle.std.proofs.lemmas.Bool.{eq-eqb, le-leb, lt-leb, leb-false, leb-true, ltb-true, ltb-false, ne_eqb}
use Rattle.std.specs.Cmp.{nat_cmp_is}
use Rattle.std.specs.List.{flat_map, AllWithin}
use Rattle.std.specs.List.Sorted.{IsNonDecreasingBy, IsPartitionPoint, IsStableByKey, ties}
use Rattle.std.specs.Ordering.{is_lt, nat_cmp}
use Rattle.std.specs.declared.cmp.Ordering.TheVariants.{Less, Equal, Greater}
use Rattle.std.proofs.lemmas.List.Elements.{filter_agree}
use Rattle.brl_rules.specs.declared.class.Class.{Class}
use Rattle.brl_rules.specs.declared.rule.Rule.{Rule}
use Rattle.brl_rules.specs.Places.{after_of}
use Rattle.brl_dues.specs.declared.folds.Place.{Place}
use Rattle.brl_dues.specs.ByFold.{has_fold, places_from, AreByFold}
use Rattle.brl_dues.specs.LetterView.{LetterView}
use Rattle.brl_dues.specs.Letters.{is_taken, with_rule}
use Rattle.brl_dues.proofs.Intervals.{filter-between}
use Rattle.brl_dues.proofs.Loops.{Updated}

-- ---- The places of one fold

early : (fold : ℕ) (place : Place) → ltb place.fold fold ≡ true → has_fold fold place ≡ false
early fold place h = ne_eqb place.fold fold (λ e. let lt = ltb-true place.fold fold h in omega (arith, lt, e))

within : (fold : ℕ) (place : Place) → ltb place.fold fold ≡ false → leb place.fold fold ≡ true → has_fold fold place ≡ true
within fold place h k = (let le = ltb-false place.fold fold h in let ge = leb-true place.fold fold k in eq-eqb place.fold fold (omega (arith, le, ge)))

behind : (fold : ℕ) (place : Place) → leb place.fold fold ≡ false → has_fold fold place ≡ false
behind fold place h = ne_eqb place.fold fold (λ e. let lt = leb-false place.fold fold h in omega (arith, lt, e))

pub places-between : (fold : ℕ) (places rest : List Place) (i j : ℕ) → rest ≡ take (length places - i) (drop i places) → j ≤ length rest
    → IsPartitionPoint (λ place. ltb place.fold fold ≡ true) (λ place. ltb place.fold fold ≡ false) places i
    → IsPartitionPoint (λ place. leb place.fold fold ≡ true) (λ place. leb place.fold fold ≡ false) rest j
    → take j rest ≡ filter (has_fold fold) places
places-between fold = filter-between (has_fold fold) (λ place. ltb place.fold fold) (λ place. leb place.fold fold) (early fold) (within fold) (behind fold)

-- from the places of the characters whose folds aren't below this one, those with this fold
pub last-place : (fold : ℕ) (rest : List Place) (j : ℕ) → IsNonDecreasingBy (λ (place : Place). place.fold) rest → AllWithin (λ (place : Place). ltb place.fold fold ≡ false) rest 0 (length rest)
    → AllWithin (λ (place : Place). place.fold ≡ fold) rest 0 j → ((d : Place) → j < length rest → (get_or rest j d).fold ≢ fold)
    → IsPartitionPoint (λ place. leb place.fold fold ≡ true) (λ place. leb place.fold fold ≡ false) rest j
last-place fold rest j rise above same other = (
  λ k d lo lt. (let e = same k d lo lt in le-leb (get_or rest k d).fold fold (omega (arith, e))),
  λ k d lo lt. (
      let after = rise j k d lo lt in
      let least = ltb-false (get_or rest j d).fold fold (above j d (omega arith) (omega (arith, lo, lt))) in
      let more = other d (omega (arith, lo, lt)) in
      lt-leb (get_or rest k d).fold fold (omega (arith, after, least, more))),
)

-- ---- Sorted by folds

tied : (a b : ℕ) → (not (is_lt (nat_cmp a b)) && not (is_lt (nat_cmp b a))) ≡ nat_eq b a
tied a b = at (leb a b) refl (leb b a) refl
  where
    at : (x : Bool) → leb a b ≡ x → (y : Bool) → leb b a ≡ y → (not (is_lt (nat_cmp a b)) && not (is_lt (nat_cmp b a))) ≡ nat_eq b a
    at true e true f =
        let le = leb-true a b e in
        let ge = leb-true b a f in
        ap₂ (λ o p. not (is_lt o) && not (is_lt p)) (sym (nat_cmp_is a b Equal (omega (arith, le, ge)))) (sym (nat_cmp_is b a Equal (omega (arith, le, ge)))) ∙ sym (eq-eqb b a (omega (arith, le, ge)))
    at true e false f =
        let lt = leb-false b a f in
        ap (λ o. not (is_lt o) && not (is_lt (nat_cmp b a))) (sym (nat_cmp_is a b Less lt)) ∙ sym (ne_eqb b a (λ same. omega (arith, lt, same)))
    at false e y f =
        let lt = leb-false a b e in
        ap₂ (λ o p. not (is_lt o) && not (is_lt p)) (sym (nat_cmp_is a b Greater lt)) (sym (nat_cmp_is b a Less lt)) ∙ sym (ne_eqb b a (λ same. omega (arith, lt, same)))

-- a stable sort by folds leaves the places of one fold as they are
pub one-fold : (places sorted : List Place) → IsStableByKey (λ (place : Place). place.fold) nat_cmp places sorted → (fold : ℕ) → filter (has_fold fold) sorted ≡ filter (has_fold fold) places
one-fold places sorted stable fold =
    let at : Place = record { fold = fold; number = 0 } in
    let test = ties (λ (x y : Place). is_lt (nat_cmp x.fold y.fold)) at in
    let same = filter_agree test (has_fold fold) (λ place. tied fold place.fold) in
    sym (same sorted) ∙ stable at ∙ same places

-- ---- One place after another

module _ {Y : Type 0} (f : LetterView → LetterView) (g : LetterView → List Y) (fold : ℕ) where
  -- the places from this one on
  abbrev from : ℕ → List LetterView → List Place
  from number ls = filter (has_fold fold) (places_from number ls)

  -- the first places are done, and what comes before some place of a character is as it is to be
  pub record Reached (places : List Place) (k : ℕ) (ls now : List LetterView) (old new : List Y) : Type 0 where
    pub number : ℕ
    pub rest : drop k places ≡ from number (drop number ls)
    pub updated : Updated f g ls number now old new

  pub reached-none : (places : List Place) (ls now : List LetterView) (old : List Y) → places ≡ from 0 ls → now ≡ ls → Reached places 0 ls now old old
  reached-none places ls now old is e = record { number = 0; rest = is; updated = record { updated = e; given = sym (append-nil old) } }

  -- the next character with this fold
  pub record Next (q : Place) (more : List Place) (ls now : List LetterView) (old new : List Y) : Type 0 where
    pub within : q.number < length ls
    pub updated : Updated f g ls q.number now old new
    pub rest : more ≡ from (q.number + 1) (drop (q.number + 1) ls)

-- a character with another fold is left as it is, and gives nothing
module _ {Y : Type 0} (f : LetterView → LetterView) (g : LetterView → List Y) (fold : ℕ)
    (same : (l : LetterView) → nat_eq l.fold fold ≡ false → f l ≡ l) (none : (l : LetterView) → nat_eq l.fold fold ≡ false → g l ≡ []) where
  skip-list : (ls : List LetterView) (n : ℕ) (l : LetterView) (rest : List LetterView) → drop n ls ≡ l ∷ rest → nat_eq l.fold fold ≡ false
      → (map f (take n ls) ++ drop n ls ≡ map f (take (n + 1) ls) ++ drop (n + 1) ls) × (flat_map g (take n ls) ≡ flat_map g (take (n + 1) ls))
  skip-list [] zero l rest e h = cc
  skip-list [] (suc n) l rest e h = cc
  skip-list (m ∷ ls) zero l rest e h =
      let is : m ≡ l = cc in
      let other : nat_eq m.fold fold ≡ false = ap (λ (x : LetterView). nat_eq x.fold fold) is ∙ h in
      (ap (λ x. x ∷ ls) (sym (same m other)), sym (ap (λ x. x ++ []) (none m other)))
  skip-list (m ∷ ls) (suc n) l rest e h =
      let more = skip-list ls n l rest e h in
      let one : suc n + 1 ≡ suc (n + 1) = omega arith in (
        ap (λ x. f m ∷ x) more.0 ∙ ap (λ k. map f (take k (m ∷ ls)) ++ drop k (m ∷ ls)) (sym one),
        ap (λ x. g m ++ x) more.1 ∙ ap (λ k. flat_map g (take k (m ∷ ls))) (sym one),
      )

  skip : (ls : List LetterView) (n : ℕ) (l : LetterView) (rest now : List LetterView) (old new : List Y) → drop n ls ≡ l ∷ rest → nat_eq l.fold fold ≡ false
      → Updated f g ls n now old new → Updated f g ls (n + 1) now old new
  skip ls n l rest now old new e h had =
      let both = skip-list ls n l rest e h in
      record { updated = had.updated ∙ both.0; given = had.given ∙ ap (λ x. old ++ x) both.1 }

  drop-next : (ls : List LetterView) (n : ℕ) (l : LetterView) (rest : List LetterView) → drop n ls ≡ l ∷ rest → (rest ≡ drop (n + 1) ls) × (n < length ls)
  drop-next [] zero l rest e = cc
  drop-next [] (suc n) l rest e = cc
  drop-next (m ∷ ls) zero l rest e = ((cc), omega arith)
  drop-next (m ∷ ls) (suc n) l rest e =
      let more = drop-next ls n l rest e in
      (more.0 ∙ ap (λ k. drop k (m ∷ ls)) (let one : suc (n + 1) ≡ suc n + 1 = omega arith in one), omega (arith, more.1))

  find-next : (q : Place) (more : List Place) (ls now : List LetterView) (old new : List Y) (n : ℕ) (left : List LetterView) → drop n ls ≡ left → q ∷ more ≡ from f g fold n left
      → Updated f g ls n now old new → Next f g fold q more ls now old new
  find-next q more ls now old new n [] e is had = cc
  find-next q more ls now old new n (l ∷ left) e is had =
      at (nat_eq l.fold fold) refl is (λ h j. find-next q more ls now old new (n + 1) left (sym (drop-next ls n l left e).0) j (skip ls n l left now old new e h had))
    where
      at : (b : Bool) → nat_eq l.fold fold ≡ b → q ∷ more ≡ cond b (record { fold = l.fold; number = n } ∷ from f g fold (n + 1) left) (from f g fold (n + 1) left)
          → (nat_eq l.fold fold ≡ false → q ∷ more ≡ from f g fold (n + 1) left → Next f g fold q more ls now old new) → Next f g fold q more ls now old new
      at true h j further =
          let here : n ≡ q.number = (let it : record { fold = l.fold; number = n } ≡ q = cc in ap (λ (x : Place). x.number) it) in
          let front = drop-next ls n l left e in
          let others : more ≡ from f g fold (n + 1) left = cc in
          record {
            within = omega (arith, here, front.1);
            updated = subst (λ k. Updated f g ls k now old new) here had;
            rest = others ∙ ap (from f g fold (n + 1)) front.0 ∙ ap (λ k. from f g fold (k + 1) (drop (k + 1) ls)) here;
          }
      at false h j further = further h j

  pub reached-next : (places : List Place) (k : ℕ) (q d : Place) (ls now : List LetterView) (old new : List Y) → k < length places → q ≡ get_or places k d → Reached f g fold places k ls now old new
      → Next f g fold q (drop (k + 1) places) ls now old new
  reached-next places k q d ls now old new h is had =
      let front : q ∷ drop (k + 1) places ≡ drop k places =
      ap₂ (λ x i. x ∷ drop i places) is (let one : k + 1 ≡ suc k = omega arith in one) ∙ sym (drop-cons places k d h) in
      find-next q (drop (k + 1) places) ls now old new had.number (drop had.number ls) refl (front ∙ had.rest) had.updated

  none-left : (ls now : List LetterView) (old new : List Y) (n : ℕ) (left : List LetterView) → drop n ls ≡ left → [] ≡ from f g fold n left → Updated f g ls n now old new
      → (m : ℕ) × (length ls ≤ m) × Updated f g ls m now old new
  none-left ls now old new n [] e is had =
      let size : length ls - n ≡ 0 = sym (length-drop n ls) ∙ ap length e in
      (n, omega (arith, size), had)
  none-left ls now old new n (l ∷ left) e is had =
      at (nat_eq l.fold fold) refl is (λ h j. none-left ls now old new (n + 1) left (sym (drop-next ls n l left e).0) j (skip ls n l left now old new e h had))
    where
      at : (b : Bool) → nat_eq l.fold fold ≡ b → [] ≡ cond b (record { fold = l.fold; number = n } ∷ from f g fold (n + 1) left) (from f g fold (n + 1) left)
          → (nat_eq l.fold fold ≡ false → [] ≡ from f g fold (n + 1) left → (m : ℕ) × (length ls ≤ m) × Updated f g ls m now old new)
          → (m : ℕ) × (length ls ≤ m) × Updated f g ls m now old new
      at true h j further = cc
      at false h j further = further h j

  pub reached-all : (places : List Place) (k : ℕ) (ls now : List LetterView) (old new : List Y) → length places ≤ k → Reached f g fold places k ls now old new
      → (m : ℕ) × (length ls ≤ m) × Updated f g ls m now old new
  reached-all places k ls now old new h had = none-left ls now old new had.number (drop had.number ls) refl (sym (drop_of_length-le places h) ∙ had.rest) had.updated

-- ---- A rule above changes no fold

fold-kept : (before : Class) (r : Rule) (l : LetterView) → (with_rule before r l).fold ≡ l.fold
fold-kept before r l = at (is_taken before r l)
  where
    at : (b : Bool) → (cond b (record l { above = l.above ++ (drop 1 r.chars, after_of r.place before) ∷ [] }) l).fold ≡ l.fold
    at true = refl
    at false = refl

folds-kept : (before : Class) (r : Rule) (number : ℕ) (ls : List LetterView) → places_from number (map (with_rule before r) ls) ≡ places_from number ls
folds-kept before r number [] = refl
folds-kept before r number (l ∷ ls) = ap₂ (λ fold rest. record { fold = fold; number = number } ∷ rest) (fold-kept before r l) (folds-kept before r (number + 1) ls)

pub by_fold-kept : (before : Class) (r : Rule) (places : List Place) (ls now : List LetterView) → AreByFold places ls → now ≡ map (with_rule before r) ls → AreByFold places now
by_fold-kept before r places ls now h e = record {
  rise = h.rise;
  each = λ fold. h.each fold ∙ ap (filter (has_fold fold)) (sym (ap (places_from 0) e ∙ folds-kept before r 0 ls));
}
