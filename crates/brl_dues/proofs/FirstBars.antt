-- Where the bars stand that begin with a character.
use Rattle.std.proofs.Common.{◌≡◌, ◌≢◌, ℕ, zero, suc, ◌+◌, ◌-◌, ◌<◌, ◌≤◌, Bool, true, false, List, [], ◌∷◌, Some, None, length, map, filter, take, drop, get_or, set, refl, sym, ap, ap₂, ◌∙◌, cond, nat_eq, arith, subst, drop-cons, drop_of_length-le, replicate, zero-add}
use Rattle.std.specs.Prelude.{slice_get}
use Rattle.std.specs.Map.{keys_of, lookup}
use Rattle.std.specs.List.{AllByRecursion, AllWithin}
use Rattle.std.proofs.lemmas.Bool.{eq-eqb, eqb-true, lt-leb, ne_eqb}
use Rattle.std.proofs.lemmas.List.{get_or-drop, length-drop, take_rest}
use Rattle.std.proofs.lemmas.Map.Entries.{place_from_lookup}
use Rattle.std.proofs.lemmas.Option.{slice_get_within}
use Rattle.brl_rules.specs.TableView.{TableView, info_of}
use Rattle.brl_rules.specs.declared.rule.Info.{Info}
use Rattle.brl_states.proofs.Kept.{AreDistinct, Keeps}
use Rattle.brl_states.proofs.Pairwise.{Pairwise-at}
use Rattle.brl_states.specs.Order.{AreDues}
use Rattle.brl_states.specs.declared.due.Due.{Due}
use Rattle.brl_states.specs.declared.due.Due.TheVariants.{Need, Bar}
use Rattle.brl_dues.specs.Capitals.{letters}
use Rattle.brl_dues.specs.Letters.{bars_from, first_of}
use Rattle.brl_dues.specs.Starts.{first_place, starts}
use Rattle.brl_dues.proofs.Bars.{above-last, rest-rise}
use Rattle.brl_dues.proofs.Intervals.{filter-from, filter-upto}
use Rattle.brl_dues.proofs.Once.{there-key}

-- ---- The place of one character

module _ (place : ℕ) (later : ℕ → ℕ) where
  -- this place for the characters that pass a test, and for each other one the place that it has
  abbrev put : (ℕ → Bool) → ℕ → ℕ
  put test c = cond (test c) place (later c)

  pub put-alike : (test other : ℕ → Bool) → ((c : ℕ) → test c ≡ other c) → (cs : List ℕ) → map (put test) cs ≡ map (put other) cs
  put-alike test other same cs = ap (λ (p : ℕ → Bool). map (put p) cs) (λ i. λ c. same c i)

  module _ (first : ℕ) where
    unchanged : (cs : List ℕ) → AllByRecursion (λ c. first ≢ c) cs → map later cs ≡ map (put (nat_eq first)) cs
    unchanged [] h = refl
    unchanged (c ∷ cs) h = ap₂ (λ x xs. x ∷ xs) (sym (ap (λ b. cond b place (later c)) (ne_eqb first c h.0))) (unchanged cs h.1)

    put-at : (cs : List ℕ) (i : ℕ) → AreDistinct cs → slice_get cs i ≡ Some first → set (map later cs) i place ≡ map (put (nat_eq first)) cs
    put-at [] i single h = cc
    put-at (c ∷ cs) zero single h =
        let same : c ≡ first = cc in
        ap₂ (λ x xs. x ∷ xs) (sym (ap (λ b. cond b place (later c)) (eq-eqb first c (sym same))))
        (unchanged cs (subst (λ x. AllByRecursion (λ y. x ≢ y) cs) same single.0))
    put-at (c ∷ cs) (suc i) single h =
        let other : c ≢ first = Pairwise-at (λ a b. a ≢ b) (c ∷ cs) single 0 (suc i) c first (omega arith) refl h in
        ap₂ (λ x xs. x ∷ xs) (sym (ap (λ b. cond b place (later c)) (ne_eqb first c (λ e. other (sym e))))) (put-at cs i single.1 h)

    undefined : (es : List (ℕ × Info)) → lookup (nat_eq first) es ≡ None → AllByRecursion (λ c. first ≢ c) (keys_of es)
    undefined [] h = tt
    undefined (e ∷ es) h = at (nat_eq first e.0) refl h (λ k. undefined es k)
      where
        at : (b : Bool) → nat_eq first e.0 ≡ b → cond b (Some e.1) (lookup (nat_eq first) es) ≡ None
            → (lookup (nat_eq first) es ≡ None → AllByRecursion (λ c. first ≢ c) (keys_of es)) → AllByRecursion (λ c. first ≢ c) (keys_of (e ∷ es))
        at true q k more = cc
        at false q k more = ((λ same. let no : true ≡ false = sym (eq-eqb first e.0 same) ∙ q in cc), more k)

    pub number-within : (t : TableView) → Keeps t → (info : Info) → info_of t first ≡ Some info → info.number < length t.characters
    number-within t keeps info h =
        let w = place_from_lookup (nat_eq first) t.characters info h in
        let number = keeps.numbered w.0 (w.1, info) w.2 in
        let within = slice_get_within t.characters w.0 (w.1, info) w.2 in
        omega (arith, number, within)

    pub put-defined : (t : TableView) → Keeps t → (info : Info) → info_of t first ≡ Some info → (old : List ℕ) → old ≡ map later (letters t)
        → set old info.number place ≡ map (put (nat_eq first)) (letters t)
    put-defined t keeps info h old is =
        let w = place_from_lookup (nat_eq first) t.characters info h in
        ap₂ (λ l n. set l n place) is (keeps.numbered w.0 (w.1, info) w.2)
        ∙ put-at (letters t) w.0 keeps.single (there-key t.characters w.0 (w.1, info) w.2 ∙ ap Some (sym (eqb-true first w.1 w.3)))

    pub put-undefined : (t : TableView) → info_of t first ≡ None → (old : List ℕ) → old ≡ map later (letters t) → old ≡ map (put (nat_eq first)) (letters t)
    put-undefined t h old is = is ∙ unchanged (letters t) (undefined t.characters h)

-- ---- From the last due to the first

-- the place of the first due from this place on that passes a test
abbrev pub place_from : (Due → Bool) → List Due → ℕ → ℕ
place_from test dues k = k + first_place test (drop k dues)

place-next : (test : Due → Bool) (dues : List Due) (k : ℕ) (due : Due) → k < length dues → due ≡ get_or dues k due → cond (test due) k (place_from test dues (k + 1)) ≡ place_from test dues k
place-next test dues k due h is = at (test due) ∙ ap (λ l. k + first_place test l) (sym front)
  where
    front : drop k dues ≡ due ∷ drop (k + 1) dues
    front = drop-cons dues k due h ∙ ap₂ (λ x n. x ∷ drop n dues) (sym is) (let e : suc k ≡ k + 1 = omega arith in e)

    at : (b : Bool) → cond b k (place_from test dues (k + 1)) ≡ k + cond b 0 (first_place test (drop (k + 1) dues) + 1)
    at true = omega arith
    at false = omega arith

pub places-none : (dues : List Due) (cs : List ℕ) (n : ℕ) → n ≡ length cs → replicate n (length dues) ≡ map (λ c. place_from (bars_from c) dues (length dues - 0)) cs
places-none dues cs n e =
    ap (λ k. replicate k (length dues)) e ∙ each cs
    ∙ ap (λ (f : ℕ → ℕ). map f cs) (λ i. λ c. (sym (past (bars_from c))) i)
  where
    past : (test : Due → Bool) → place_from test dues (length dues - 0) ≡ length dues
    past test = ap (λ l. length dues - 0 + first_place test l) (drop_of_length-le dues (let h : length dues ≤ length dues - 0 = omega arith in h)) ∙ (let z : length dues - 0 + 0 ≡ length dues = omega arith in z)

    each : (cs : List ℕ) → replicate (length cs) (length dues) ≡ map (λ c. length dues) cs
    each [] = refl
    each (c ∷ cs) = ap (λ l. length dues ∷ l) (each cs)

pub places-all : (t : TableView) (dues : List Due) (done : ℕ) (places : List ℕ) → length dues ≤ done → places ≡ map (λ c. place_from (bars_from c) dues (length dues - done)) (letters t) → places ≡ starts t dues
places-all t dues done places h had =
    had ∙ ap (λ n. map (λ c. place_from (bars_from c) dues n) (letters t)) (let e : length dues - done ≡ 0 = omega arith in e)
    ∙ ap (λ (f : ℕ → ℕ). map f (letters t)) (λ i. λ c. zero-add (first_place (bars_from c) dues) i)

pub places-next : (t : TableView) (dues : List Due) (done k : ℕ) (due : Due) (old new : List ℕ) → done < length dues → k ≡ length dues - 1 - done → due ≡ get_or dues k due
    → old ≡ map (λ c. place_from (bars_from c) dues (length dues - done)) (letters t)
    → ((later : ℕ → ℕ) → old ≡ map later (letters t) → new ≡ map (λ c. cond (bars_from c due) k (later c)) (letters t))
    → new ≡ map (λ c. place_from (bars_from c) dues (length dues - (done + 1))) (letters t)
places-next t dues done k due old new h e is had put =
    let here : k ≡ length dues - (done + 1) = omega arith in
    let next : length dues - done ≡ k + 1 = omega arith in
    put (λ c. place_from (bars_from c) dues (k + 1)) (had ∙ ap (λ n. map (λ c. place_from (bars_from c) dues n) (letters t)) next)
    ∙ ap (λ (f : ℕ → ℕ). map f (letters t)) (λ i. λ c. place-next (bars_from c) dues k due (omega arith) is i)
    ∙ ap (λ n. map (λ c. place_from (bars_from c) dues n) (letters t)) here

-- ---- From the first bar on

none-before : (test : Due → Bool) (dues : List Due) → AllWithin (λ y. test y ≡ false) dues 0 (first_place test dues)
none-before test [] = λ k d lo lt. absurd (omega (arith, lt))
none-before test (x ∷ dues) = at (test x) refl (none-before test dues)
  where
    at : (b : Bool) → test x ≡ b → AllWithin (λ y. test y ≡ false) dues 0 (first_place test dues) → AllWithin (λ y. test y ≡ false) (x ∷ dues) 0 (cond b 0 (first_place test dues + 1))
    at true q more k d lo lt = absurd (omega (arith, lt))
    at false q more zero d lo lt = q
    at false q more (suc k) d lo lt = more k d (omega arith) (omega (arith, lt))

pub place-within : (test : Due → Bool) (dues : List Due) → first_place test dues ≤ length dues
place-within test [] = omega arith
place-within test (x ∷ dues) = at (test x) (place-within test dues)
  where
    at : (b : Bool) → first_place test dues ≤ length dues → cond b 0 (first_place test dues + 1) ≤ suc (length dues)
    at true h = omega arith
    at false h = omega (arith, h)

passes-there : (test : Due → Bool) (dues : List Due) (d : Due) → first_place test dues < length dues → test (get_or dues (first_place test dues) d) ≡ true
passes-there test [] d = λ h. absurd (omega (arith, h))
passes-there test (x ∷ dues) d = at (test x) refl (passes-there test dues d)
  where
    at : (b : Bool) → test x ≡ b → (first_place test dues < length dues → test (get_or dues (first_place test dues) d) ≡ true) → cond b 0 (first_place test dues + 1) < length (x ∷ dues)
        → test (get_or (x ∷ dues) (cond b 0 (first_place test dues + 1)) d) ≡ true
    at true q more h = q
    at false q more h =
        ap (λ k. test (get_or (x ∷ dues) k d)) (let e : first_place test dues + 1 ≡ suc (first_place test dues) = omega arith in e) ∙ more (omega (arith, h))

from-first : (c : ℕ) (due : Due) → bars_from c due ≡ true → first_of due ≡ c + 1
from-first c (Need p) h = cc
from-first c (Bar [] p) h = cc
from-first c (Bar (a ∷ chars) p) h = ap (λ x. x + 1) (eqb-true a c h)

first-from : (c : ℕ) (due : Due) → first_of due ≡ c + 1 → bars_from c due ≡ true
first-from c (Need p) h = absurd (omega (arith, h))
first-from c (Bar [] p) h = absurd (omega (arith, h))
first-from c (Bar (a ∷ chars) p) h = eq-eqb a c (omega (arith, h))

-- those that begin with a character are the ones from the first of them on, before another due
pub bars-there : (c : ℕ) (dues rest : List Due) (i j : ℕ) → AreDues dues → i ≡ first_place (bars_from c) dues → rest ≡ take (length dues - i) (drop i dues) → j ≤ length rest
    → AllWithin (λ due. bars_from c due ≡ true) rest 0 j → ((d : Due) → j < length rest → bars_from c (get_or rest j d) ≡ false) → take j rest ≡ filter (bars_from c) dues
bars-there c dues rest i j ok is short within before other =
    sym
    (filter-from (bars_from c) dues i (subst (λ n. AllWithin (λ y. bars_from c y ≡ false) dues 0 n) (sym is) (none-before (bars_from c) dues))
    ∙ ap (filter (bars_from c)) (sym whole)
    ∙ filter-upto (bars_from c) rest j within before behind)
  where
    whole : rest ≡ drop i dues
    whole = short ∙ take_rest dues i

    rise : (k m : ℕ) (d : Due) → k ≤ m → m < length rest → first_of (get_or rest k d) ≤ first_of (get_or rest m d)
    rise = subst (λ (l : List Due). (k m : ℕ) (d : Due) → k ≤ m → m < length l → first_of (get_or l k d) ≤ first_of (get_or l m d)) (sym short) (rest-rise dues i ok)

    behind : AllWithin (λ due. bars_from c due ≡ false) rest j (length rest)
    behind k d lo lt =
        let size : length rest ≡ length dues - i = ap length whole ∙ length-drop i dues in
        let head : get_or rest 0 d ≡ get_or dues (first_place (bars_from c) dues) d =
        ap (λ l. get_or l 0 d) whole ∙ get_or-drop i dues 0 d ∙ ap (λ n. get_or dues n d) (let e : i + 0 ≡ first_place (bars_from c) dues = omega (arith, is) in e) in
        let least = from-first c (get_or rest 0 d) (ap (bars_from c) head ∙ passes-there (bars_from c) dues d (omega (arith, is, size, lt))) in
        let not_first : first_of (get_or rest j d) ≢ c + 1 = λ e. (let no : true ≡ false = sym (first-from c (get_or rest j d) e) ∙ other d (omega (arith, lo, lt)) in cc) in
        let low = rise 0 j d (omega arith) (omega (arith, lo, lt)) in
        let high = rise j k d lo lt in
        above-last c (get_or rest k d) (lt-leb (first_of (get_or rest k d)) (c + 1) (omega (arith, least, not_first, low, high)))
