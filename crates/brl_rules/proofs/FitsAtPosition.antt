-- A rule fits at the start of a rest exactly where it fits at that position of the whole text.
use Rattle.std.proofs.Common.{ℕ, zero, suc, ◌+◌, ◌<◌, ◌≤◌, ◌≡◌, ◌↔◌, Bool, true, false, ◌&&◌, IsTrue, List, [], ◌∷◌, length, drop, nat_eq, refl, arith, sym, ◌∙◌, ap, length-drop}
use Rattle.std.specs.Prelude.{slice_index, slice_get}
use Rattle.std.specs.List.{starts_with}
use Rattle.std.specs.Option.{option_map_or}
use Rattle.std.specs.Cmp.{first_so, second_so}
use Rattle.std.proofs.lemmas.List.{get_or-drop}
use Rattle.std.proofs.lemmas.Bool.{eq-eqb}
use Rattle.brl_rules.specs.declared.rule.Rule.{Rule}
use Rattle.brl_rules.specs.TableView.{TableView}
use Rattle.brl_rules.specs.Places.{space, holds, before_of, after_of}
use Rattle.brl_rules.specs.Text.{fold_of, classes_of, classes_at, classes_before}
use Rattle.brl_rules.specs.Choice.{matches, fits, folds_of_capitals}
use Rattle.brl_rules.specs.Position.{FitsAt, in_caps_run_at}
use Rattle.brl_rules.proofs.Compared.{is_cap, capitals_from_starts, starts_from_capitals}
use Rattle.brl_rules.proofs.Facts.{same_number, and-true}
use Rattle.brl_rules.proofs.TakenLengths.{matches-Takes}

-- a prefix has the elements of the list
starts_with-items : (ys xs : List ℕ) → starts_with nat_eq ys xs ≡ true → (k : ℕ) → k < length xs → slice_index ys k ≡ slice_index xs k
starts_with-items ys [] h k within = absurd (omega (arith, within))
starts_with-items [] (x ∷ xs) h k within = cc
starts_with-items (y ∷ ys) (x ∷ xs) h zero within = sym (same_number x y (first_so (nat_eq x y) (starts_with nat_eq ys xs) h))
starts_with-items (y ∷ ys) (x ∷ xs) h (suc k) within =
    starts_with-items ys xs (second_so (nat_eq x y) (starts_with nat_eq ys xs) h) k (omega (arith, within))

-- a list that has the elements of a shorter one begins with it
items-starts_with : (ys xs : List ℕ) → length xs ≤ length ys → ((k : ℕ) → k < length xs → slice_index ys k ≡ slice_index xs k) → starts_with nat_eq ys xs ≡ true
items-starts_with ys [] room h = refl
items-starts_with [] (x ∷ xs) room h = absurd (omega (arith, room))
items-starts_with (y ∷ ys) (x ∷ xs) room h =
    and-true (nat_eq x y) (starts_with nat_eq ys xs) (eq-eqb x y (sym (h 0 (omega arith))))
    (items-starts_with ys xs (omega (arith, room)) (λ k within. h (suc k) (omega (arith, within))))

-- the rest begins with the characters of a rule, element by element
record MatchesItems (t : TableView) (run : Bool) (rest chars : List ℕ) : Type 0 where
  some : 1 ≤ length chars
  room : length chars ≤ length rest
  first : fold_of t (slice_index rest 0) ≡ slice_index chars 0
  others : run ≡ false → (k : ℕ) → 1 ≤ k → k < length chars → slice_index rest k ≡ slice_index chars k
  capitals : run ≡ true → (k : ℕ) → 1 ≤ k → k < length chars → is_cap t (slice_index rest k) ≡ true
  folds : run ≡ true → (k : ℕ) → 1 ≤ k → k < length chars → fold_of t (slice_index rest k) ≡ slice_index chars k

-- a fact of the elements after the first
later : (P : ℕ → ℕ → Type 0) (c x : ℕ) (rest xs : List ℕ) → ((k : ℕ) → k < length xs → P (slice_index rest k) (slice_index xs k))
    → (k : ℕ) → 1 ≤ k → k < length (x ∷ xs) → P (slice_index (c ∷ rest) k) (slice_index (x ∷ xs) k)
later P c x rest xs tail zero some within = absurd (omega (arith, some))
later P c x rest xs tail (suc k) some within = tail k (omega (arith, within))

items_from_matches : (t : TableView) (run : Bool) (rest chars : List ℕ) → matches t run rest chars ≡ true → MatchesItems t run rest chars
items_from_matches t run rest [] h = cc
items_from_matches t run [] (x ∷ xs) h = cc
items_from_matches t false (c ∷ rest) (x ∷ xs) h =
    let takes = matches-Takes t false (c ∷ rest) (x ∷ xs) h in
    let tail = starts_with-items rest xs (second_so (nat_eq x (fold_of t c)) (starts_with nat_eq rest xs) h) in
    record {
      some = takes.some;
      room = takes.room;
      first = sym (same_number x (fold_of t c) (first_so (nat_eq x (fold_of t c)) (starts_with nat_eq rest xs) h));
      others = λ run. later (λ a b. a ≡ b) c x rest xs tail;
      capitals = λ run. absurd (let e : false ≡ true = run in cc);
      folds = λ run. absurd (let e : false ≡ true = run in cc);
    }
items_from_matches t true (c ∷ rest) (x ∷ xs) h =
    let takes = matches-Takes t true (c ∷ rest) (x ∷ xs) h in
    let tail = capitals_from_starts t rest xs (second_so (nat_eq x (fold_of t c)) (starts_with nat_eq (folds_of_capitals t rest) xs) h) in
    record {
      some = takes.some;
      room = takes.room;
      first = sym (same_number x (fold_of t c) (first_so (nat_eq x (fold_of t c)) (starts_with nat_eq (folds_of_capitals t rest) xs) h));
      others = λ run. absurd (let e : true ≡ false = run in cc);
      capitals = λ run. later (λ a b. is_cap t a ≡ true) c x rest xs tail.capitals;
      folds = λ run. later (λ a b. fold_of t a ≡ b) c x rest xs tail.folds;
    }

matches_from_items : (t : TableView) (run : Bool) (rest chars : List ℕ) → MatchesItems t run rest chars → matches t run rest chars ≡ true
matches_from_items t run rest [] h = absurd (omega (arith, h.some))
matches_from_items t run [] (x ∷ xs) h = absurd (omega (arith, h.room))
matches_from_items t false (c ∷ rest) (x ∷ xs) h =
    and-true (nat_eq x (fold_of t c)) (starts_with nat_eq rest xs) (eq-eqb x (fold_of t c) (sym h.first))
    (items-starts_with rest xs (omega (arith, h.room)) (λ k within. h.others refl (suc k) (omega arith) (omega (arith, within))))
matches_from_items t true (c ∷ rest) (x ∷ xs) h =
    and-true (nat_eq x (fold_of t c)) (starts_with nat_eq (folds_of_capitals t rest) xs) (eq-eqb x (fold_of t c) (sym h.first))
    (starts_from_capitals t rest xs (record {
      room = omega (arith, h.room);
      capitals = λ k within. h.capitals refl (suc k) (omega arith) (omega (arith, within));
      folds = λ k within. h.folds refl (suc k) (omega arith) (omega (arith, within));
    }))

-- an element after the first i ones
slice_get-drop : (i : ℕ) (text : List ℕ) (k : ℕ) → slice_get (drop i text) k ≡ slice_get text (i + k)
slice_get-drop zero text k = let e : k ≡ 0 + k = omega arith in ap (slice_get text) e
slice_get-drop (suc i) [] k = refl
slice_get-drop (suc i) (y ∷ ys) k = let e : suc (i + k) ≡ suc i + k = omega arith in slice_get-drop i ys k ∙ ap (slice_get (y ∷ ys)) e

classes_at-drop : (t : TableView) (i : ℕ) (text : List ℕ) (k : ℕ) → classes_at t (drop i text) k ≡ classes_at t text (i + k)
classes_at-drop t i text k = ap (λ o. option_map_or (classes_of t) o space) (slice_get-drop i text k)

fits_at : (t : TableView) (text : List ℕ) (i : ℕ) (r : Rule) → fits t (classes_before t text i) (drop i text) r ≡ true → FitsAt t text i r
fits_at t text i r h =
    let run = in_caps_run_at t text i in
    let m = matches t run (drop i text) r.chars in
    let b = holds (before_of r.place) (classes_before t text i) in
    let a = holds (after_of r.place (classes_before t text i)) (classes_at t (drop i text) (length r.chars)) in
    let items = items_from_matches t run (drop i text) r.chars (first_so m b (first_so (m && b) a h)) in
    record {
      some = items.some;
      room = omega (arith, items.room, items.some, length-drop i text);
      first = ap (fold_of t) (let e : i ≡ i + 0 = omega arith in ap (λ k. slice_index text k) e ∙ sym (get_or-drop i text 0 0)) ∙ items.first;
      others = λ out k some within. sym (get_or-drop i text k 0) ∙ items.others out k some within;
      capitals = λ in_caps_run k some within. ap (is_cap t) (sym (get_or-drop i text k 0)) ∙ items.capitals in_caps_run k some within;
      folds = λ in_caps_run k some within. ap (fold_of t) (sym (get_or-drop i text k 0)) ∙ items.folds in_caps_run k some within;
      before = second_so m b (first_so (m && b) a h);
      after = ap (holds (after_of r.place (classes_before t text i))) (sym (classes_at-drop t i text (length r.chars))) ∙ second_so (m && b) a h;
    }

at_fits : (t : TableView) (text : List ℕ) (i : ℕ) (r : Rule) → FitsAt t text i r → fits t (classes_before t text i) (drop i text) r ≡ true
at_fits t text i r h =
    let run = in_caps_run_at t text i in
    let m = matches t run (drop i text) r.chars in
    let b = holds (before_of r.place) (classes_before t text i) in
    let a = holds (after_of r.place (classes_before t text i)) (classes_at t (drop i text) (length r.chars)) in
    let e : i ≡ i + 0 = omega arith in
    let stand : m ≡ true = matches_from_items t run (drop i text) r.chars (record {
      some = h.some;
      room = omega (arith, h.room, h.some, length-drop i text);
      first = ap (fold_of t) (get_or-drop i text 0 0 ∙ sym (ap (λ k. slice_index text k) e)) ∙ h.first;
      others = λ out k some within. get_or-drop i text k 0 ∙ h.others out k some within;
      capitals = λ in_caps_run k some within. ap (is_cap t) (get_or-drop i text k 0) ∙ h.capitals in_caps_run k some within;
      folds = λ in_caps_run k some within. ap (fold_of t) (get_or-drop i text k 0) ∙ h.folds in_caps_run k some within;
    }) in
    and-true (m && b) a (and-true m b stand h.before)
    (ap (holds (after_of r.place (classes_before t text i))) (classes_at-drop t i text (length r.chars)) ∙ h.after)

pub fits-FitsAt : (t : TableView) (text : List ℕ) (i : ℕ) (r : Rule) → IsTrue (fits t (classes_before t text i) (drop i text) r) ↔ FitsAt t text i r
fits-FitsAt t text i r = (fits_at t text i r, at_fits t text i r)
