-- The rules above by their second characters: how their groups grow, and that rules with another
-- second character leave nothing.
use Rattle.std.proofs.Common.{◌≡◌, ℕ, zero, suc, ◌+◌, ◌<◌, Bool, true, false, not, ◌&&◌, List, [], ◌∷◌, ◌++◌, Option, Some, None, length, filter, get_or, slice_set, is_some, refl, sym, ap, ap₂, ◌∙◌, cond, nat_eq, nat_lt, arith, append-nil, subst}
use Rattle.std.proofs.lemmas.Bool.{ne_eqb}
use Rattle.std.proofs.lemmas.Bool.Decides.{nat_tests}
use Rattle.std.proofs.lemmas.Grind.{flat_map-append}
use Rattle.std.proofs.lemmas.List.Folds.{find_at, list_all-append}
use Rattle.std.proofs.lemmas.List.Quantifiers.{position-Some}
use Rattle.std.proofs.lemmas.Option.{slice_get-get_or, slice_get_past}
use Rattle.std.specs.Prelude.{slice_get}
use Rattle.std.specs.List.{find, flat_map, list_all, position, position_or_len}
use Rattle.std.specs.Option.{option_map_or}
use Rattle.brl_rules.specs.declared.class.Class.{Class}
use Rattle.brl_rules.specs.declared.place.Cond.{Cond}
use Rattle.brl_rules.specs.Places.{holds}
use Rattle.brl_rules.specs.TableView.{TableView}
use Rattle.brl_rules.specs.Text.{classes_of, fold_of}
use Rattle.brl_rules.proofs.Facts.{not_below, same_number}
use Rattle.brl_dues.specs.declared.carry.Carried.{Carried}
use Rattle.brl_dues.specs.declared.carry.Carried.TheVariants.{Settled}
use Rattle.brl_dues.specs.declared.rules_above.Group.{Group}
use Rattle.brl_states.specs.declared.due.Due.{Due}
use Rattle.brl_dues.specs.Adding.{Adds}
use Rattle.brl_dues.specs.Capitals.{further, is_upper}
use Rattle.brl_dues.specs.Carry.{bars_past, carry_bar, carry_capitals, is_whole, left_of, lefts, settled_if}
use Rattle.brl_dues.specs.Letters.{bars_of}
use Rattle.brl_dues.specs.SecondCharacter.{has_second, rules_with, second_of, AreSame, Grow}

-- ---- The first element that passes a test

not_found : {X : Type 0} (p : X → Bool) (b : Bool) (i : ℕ) → cond b (Some i) None ≡ None → b ≡ false
not_found p true i e = cc
not_found p false i e = refl

find-none : {X : Type 0} (p : X → Bool) (xs : List X) → position p xs ≡ None → find p xs ≡ None
find-none p xs h =
    let past = not_found p (nat_lt (position_or_len p xs) (length xs)) (position_or_len p xs) h in
    find_at p xs ∙ slice_get_past xs (position_or_len p xs) (not_below _ _ past)

at_found : {X : Type 0} (p : X → Bool) (b : Bool) (i k : ℕ) → cond b (Some i) None ≡ Some k → i ≡ k
at_found p true i k e = cc
at_found p false i k e = cc

find-at : {X : Type 0} (p : X → Bool) (xs : List X) (i : ℕ) → position p xs ≡ Some i → find p xs ≡ slice_get xs i
find-at p xs i h = find_at p xs ∙ ap (slice_get xs) (at_found p (nat_lt (position_or_len p xs) (length xs)) (position_or_len p xs) i h)

-- ---- Groups

other : (m x c : ℕ) → nat_eq m c ≡ true → nat_eq m x ≡ false → nat_eq x c ≡ false
other m x c h k = grind (arith, nat_tests)

-- the rules with the second character c, where those with x change by h: in the group that there
-- is, or in a new one
module _ (h : List (List ℕ × Cond) → List (List ℕ × Cond)) (x c : ℕ) where
  abbrev found : List Group → List (List ℕ × Cond)
  found groups = rules_with c groups

  abbrev changed : List (List ℕ × Cond) → List (List ℕ × Cond)
  changed rules = cond (nat_eq x c) (h rules) rules

  abbrev rules_or : Option Group → List (List ℕ × Cond)
  rules_or o = option_map_or (λ (g : Group). g.rules.items) o []

  at_first : (b : Bool) (y z : Group) (o : Option Group) → y.rules.items ≡ h z.rules.items
      → rules_or (cond b (Some y) o) ≡ cond b (h (rules_or (cond b (Some z) o))) (rules_or (cond b (Some z) o))
  at_first true y z o e = e
  at_first false y z o e = refl

  passed : (b : Bool) (z : Group) (o p : Option Group) → (b ≡ true → nat_eq x c ≡ false) → rules_or p ≡ changed (rules_or o)
      → rules_or (cond b (Some z) p) ≡ changed (rules_or (cond b (Some z) o))
  passed true z o p differ e = rw (differ refl) refl
  passed false z o p differ e = e

  -- the group at i, which is that of x, changes
  pub found-set : (groups : List Group) (i : ℕ) (y d : Group) → i < length groups → y.second ≡ x → (get_or groups i d).second ≡ x
      → ((k : ℕ) → k < i → nat_eq (get_or groups k d).second x ≡ false) → y.rules.items ≡ h (get_or groups i d).rules.items
      → found (slice_set groups i y) ≡ changed (found groups)
  found-set [] i y d within my mi before e = absurd (omega arith)
  found-set (z ∷ zs) zero y d within my mi before e =
      let more = find (λ (g : Group). nat_eq g.second c) zs in
      ap (λ m. rules_or (cond (nat_eq m c) (Some y) more)) my ∙ at_first (nat_eq x c) y z more e
      ∙ sym (ap (λ m. changed (rules_or (cond (nat_eq m c) (Some z) more))) mi)
  found-set (z ∷ zs) (suc i) y d within my mi before e =
      passed (nat_eq z.second c) z (find (λ (g : Group). nat_eq g.second c) zs) (find (λ (g : Group). nat_eq g.second c) (slice_set zs i y))
      (λ same. other z.second x c same (before 0 (omega arith)))
      (found-set zs i y d (omega arith) my mi (λ k below. before (suc k) (omega (arith, below))) e)

  not_first : (b : Bool) (z : Group) (o : Option Group) → cond b (Some z) o ≡ None → b ≡ false
  not_first true z o e = cc
  not_first false z o e = refl

  nor_behind : (b : Bool) (z : Group) (o : Option Group) → cond b (Some z) o ≡ None → o ≡ None
  nor_behind true z o e = cc
  nor_behind false z o e = e

  new_one : (b : Bool) (y : Group) → y.rules.items ≡ h [] → rules_or (cond b (Some y) None) ≡ cond b (h []) []
  new_one true y e = e
  new_one false y e = refl

  -- there was no group of x
  pub found-push : (groups : List Group) (y : Group) → y.second ≡ x → find (λ (g : Group). nat_eq g.second x) groups ≡ None → y.rules.items ≡ h []
      → found (groups ++ y ∷ []) ≡ changed (found groups)
  found-push [] y my none e = ap (λ m. rules_or (cond (nat_eq m c) (Some y) None)) my ∙ new_one (nat_eq x c) y e
  found-push (z ∷ zs) y my none e =
      passed (nat_eq z.second c) z (find (λ (g : Group). nat_eq g.second c) zs) (find (λ (g : Group). nat_eq g.second c) (zs ++ y ∷ []))
      (λ same. other z.second x c same (not_first (nat_eq z.second x) z (find (λ (g : Group). nat_eq g.second x) zs) none))
      (found-push zs y my (nor_behind (nat_eq z.second x) z (find (λ (g : Group). nat_eq g.second x) zs) none) e)

-- what the place of a group says of its rules; the groups are seen as a slice
pub rules-at : (second : ℕ) (groups seen : List Group) (i : ℕ) (d : Group) → seen ≡ groups → Some i ≡ position (λ (g : Group). nat_eq g.second second) seen
    → rules_with second groups ≡ (get_or groups i d).rules.items
rules-at second groups seen i d same e =
    let test : Group → Bool = λ g. nat_eq g.second second in
    let is : position test groups ≡ Some i = ap (position test) (sym same) ∙ sym e in
    let at = position-Some test groups i d is in
    ap (λ o. option_map_or (λ (g : Group). g.rules.items) o []) (find-at test groups i is ∙ slice_get-get_or groups i d at.0)

pub no-group : (second : ℕ) (groups seen : List Group) → seen ≡ groups → None ≡ position (λ (g : Group). nat_eq g.second second) seen
    → find (λ (g : Group). nat_eq g.second second) groups ≡ None
no-group second groups seen same e =
    let test : Group → Bool = λ g. nat_eq g.second second in
    find-none test groups (ap (position test) (sym same) ∙ sym e)

pub rules-none : (second : ℕ) (groups seen : List Group) → seen ≡ groups → None ≡ position (λ (g : Group). nat_eq g.second second) seen → rules_with second groups ≡ []
rules-none second groups seen same e = ap (λ o. option_map_or (λ (g : Group). g.rules.items) o []) (no-group second groups seen same e)

cond-same : {X : Type 0} (b : Bool) (x : X) → cond b x x ≡ x
cond-same true x = refl
cond-same false x = refl

-- one more rule in a group that there is
pub set-grows : (old seen : List Group) (i second : ℕ) (y d : Group) (a : List ℕ × Cond) → seen ≡ old → Some i ≡ position (λ (g : Group). nat_eq g.second second) seen
    → second ≡ second_of a.0 → d ≡ get_or old i d → y.second ≡ d.second → y.rules.items ≡ d.rules.items ++ a ∷ [] → Grow old (slice_set old i y) a
set-grows old seen i second y d a same e is there my more c =
    let test : Group → Bool = λ g. nat_eq g.second second in
    let at = position-Some test old i d (ap (position test) (sym same) ∙ sym e) in
    let mark : (get_or old i d).second ≡ second = same_number _ _ at.1 in
    found-set (λ rules. rules ++ a ∷ []) second c old i y d at.0 (my ∙ ap (λ (g : Group). g.second) there ∙ mark) mark at.2 (more ∙ ap (λ (g : Group). g.rules.items ++ a ∷ []) there)
    ∙ ap (λ x. cond (nat_eq x c) (rules_with c old ++ a ∷ []) (rules_with c old)) is

-- where no memory was left for it
pub set-same : (old seen : List Group) (i second : ℕ) (y d : Group) → seen ≡ old → Some i ≡ position (λ (g : Group). nat_eq g.second second) seen
    → d ≡ get_or old i d → y.second ≡ d.second → y.rules.items ≡ d.rules.items → AreSame old (slice_set old i y)
set-same old seen i second y d same e there my more c =
    let test : Group → Bool = λ g. nat_eq g.second second in
    let at = position-Some test old i d (ap (position test) (sym same) ∙ sym e) in
    let mark : (get_or old i d).second ≡ second = same_number _ _ at.1 in
    found-set (λ rules. rules) second c old i y d at.0 (my ∙ ap (λ (g : Group). g.second) there ∙ mark) mark at.2 (more ∙ ap (λ (g : Group). g.rules.items) there)
    ∙ cond-same (nat_eq second c) (rules_with c old)

-- and in a new one
pub push-grows : (old seen : List Group) (second : ℕ) (y : Group) (a : List ℕ × Cond) → seen ≡ old → None ≡ position (λ (g : Group). nat_eq g.second second) seen
    → second ≡ second_of a.0 → y.second ≡ second → y.rules.items ≡ a ∷ [] → Grow old (old ++ y ∷ []) a
push-grows old seen second y a same e is my more c =
    found-push (λ rules. rules ++ a ∷ []) second c old y my (no-group second old seen same e) more
    ∙ ap (λ x. cond (nat_eq x c) (rules_with c old ++ a ∷ []) (rules_with c old)) is

-- ---- Rules that leave nothing

-- elements of two kinds, of which only the second kind leaves anything, and others, which leave
-- nothing and are not broken
module _ {X : Type 0} (f : X → List Carried) (ends same : X → Bool) where
  abbrev whole-by : List X → Bool
  whole-by xs = list_all is_whole (flat_map f xs)

  abbrev left-by : List X → List Due
  left-by xs = lefts (flat_map f xs)

  pub record Kinds : Type 0 where
    pub apart : (x : X) → ends x ≡ true → same x ≡ false
    pub none_left : (x : X) → same x ≡ false → lefts (f x) ≡ []
    pub idle : (x : X) → ends x ≡ false → same x ≡ false → list_all is_whole (f x) ≡ true

  module _ (kinds : Kinds) where
    left-more : (x : X) (xs : List X) → left-by (x ∷ xs) ≡ lefts (f x) ++ left-by xs
    left-more x xs = flat_map-append left_of (f x) (flat_map f xs)

    whole-more : (x : X) (xs : List X) → whole-by (x ∷ xs) ≡ (list_all is_whole (f x) && whole-by xs)
    whole-more x xs = list_all-append is_whole (f x) (flat_map f xs)

    left-same : (xs : List X) → left-by (filter same xs) ≡ left-by xs
    left-same [] = refl
    left-same (x ∷ xs) = at (same x) refl (left-same xs)
      where
        at : (b : Bool) → same x ≡ b → left-by (filter same xs) ≡ left-by xs → left-by (cond (same x) (x ∷ filter same xs) (filter same xs)) ≡ left-by (x ∷ xs)
        at true e h =
            ap (λ b. left-by (cond b (x ∷ filter same xs) (filter same xs))) e ∙ left-more x (filter same xs) ∙ ap (λ l. lefts (f x) ++ l) h ∙ sym (left-more x xs)
        at false e h =
            ap (λ b. left-by (cond b (x ∷ filter same xs) (filter same xs))) e ∙ h ∙ ap (λ l. l ++ left-by xs) (sym (kinds.none_left x e)) ∙ sym (left-more x xs)

    left-ends : (xs : List X) → left-by (filter ends xs) ≡ []
    left-ends [] = refl
    left-ends (x ∷ xs) = at (ends x) refl (left-ends xs)
      where
        at : (b : Bool) → ends x ≡ b → left-by (filter ends xs) ≡ [] → left-by (cond (ends x) (x ∷ filter ends xs) (filter ends xs)) ≡ []
        at true e h =
            ap (λ b. left-by (cond b (x ∷ filter ends xs) (filter ends xs))) e ∙ left-more x (filter ends xs)
            ∙ ap₂ (λ (a b : List Due). a ++ b) (kinds.none_left x (kinds.apart x e)) h
        at false e h = ap (λ b. left-by (cond b (x ∷ filter ends xs) (filter ends xs))) e ∙ h

    one-first : (a b c : Bool) → (a && (b && c)) ≡ ((a && b) && c)
    one-first true b c = refl
    one-first false b c = refl

    one-behind : (a b c : Bool) → (a && (b && c)) ≡ (b && (a && c))
    one-behind true b c = refl
    one-behind false true c = refl
    one-behind false false c = refl

    whole-both : (xs : List X) → whole-by xs ≡ (whole-by (filter ends xs) && whole-by (filter same xs))
    whole-both [] = refl
    whole-both (x ∷ xs) = whole-more x xs ∙ ap (λ b. w && b) (whole-both xs) ∙ at (ends x) refl (same x) refl
      where
        w : Bool
        w = list_all is_whole (f x)

        es : List X
        es = filter ends xs

        ss : List X
        ss = filter same xs

        at : (a : Bool) → ends x ≡ a → (b : Bool) → same x ≡ b
            → (w && (whole-by es && whole-by ss)) ≡ (whole-by (cond (ends x) (x ∷ es) es) && whole-by (cond (same x) (x ∷ ss) ss))
        at true e b k =
            one-first w (whole-by es) (whole-by ss)
            ∙ ap₂ (λ p q. p && q) (sym (whole-more x es) ∙ ap (λ p. whole-by (cond p (x ∷ es) es)) (sym e)) (ap (λ q. whole-by (cond q (x ∷ ss) ss)) (sym (kinds.apart x e)))
        at false e true k =
            one-behind w (whole-by es) (whole-by ss)
            ∙ ap₂ (λ p q. p && q) (ap (λ p. whole-by (cond p (x ∷ es) es)) (sym e)) (sym (whole-more x ss) ∙ ap (λ q. whole-by (cond q (x ∷ ss) ss)) (sym k))
        at false e false k =
            ap (λ b. b && (whole-by es && whole-by ss)) (kinds.idle x e k)
            ∙ ap₂ (λ p q. p && q) (ap (λ p. whole-by (cond p (x ∷ es) es)) (sym e)) (ap (λ q. whole-by (cond q (x ∷ ss) ss)) (sym k))

    -- first the one kind, then the other, adds what all add
    pub adds-kinds : (xs : List X) (old mid new : List Due) (w : Bool) → Adds (flat_map f (filter ends xs)) old mid true → Adds (flat_map f (filter same xs)) mid new w
        → Adds (flat_map f xs) old new w
    adds-kinds xs old mid new w one two = record {
      whole_is = two.whole_is ∙ ap (λ b. b && whole-by (filter same xs)) one.whole_is ∙ sym (whole-both xs);
      found = λ e.
          two.found e ∙ ap₂ (λ (a b : List Due). a ++ b) (one.found refl ∙ ap (λ l. old ++ l) (left-ends xs) ∙ append-nil old) (left-same xs);
    }

    pub ends-broken : (xs : List X) (old mid new : List Due) → Adds (flat_map f (filter ends xs)) old mid false → Adds (flat_map f xs) old new false
    ends-broken xs old mid new one = record {
      whole_is = sym (whole-both xs ∙ ap (λ b. b && whole-by (filter same xs)) (sym one.whole_is));
      found = λ e. cc;
    }

-- ---- Rules above with another second character

-- the second character of the rules that go on with the step's
abbrev reads_as : TableView → ℕ → Bool → ℕ
reads_as t b run = cond run (fold_of t b) b

module _ (t : TableView) (before : Class) (c : ℕ) (b : ℕ) (past : List ℕ) where
  abbrev bars-at : Bool → List ℕ × Cond → List Carried
  bars-at run a = bars_past t before run c (b ∷ past) a.0 a.1

  settled-none : (k : Bool) → lefts (settled_if k ∷ []) ≡ []
  settled-none true = refl
  settled-none false = refl

  if-none : (k : Bool) (carried : List Carried) → lefts carried ≡ [] → lefts (cond k carried []) ≡ []
  if-none true carried h = h
  if-none false carried h = refl

  if-whole : (k : Bool) (carried : List Carried) → list_all is_whole carried ≡ true → list_all is_whole (cond k carried []) ≡ true
  if-whole true carried h = h
  if-whole false carried h = refl

  no-two : (k : Bool) (carried : List Carried) → cond (k && false) carried [] ≡ []
  no-two true carried = refl
  no-two false carried = refl

  -- a rule with another second character leaves nothing
  in-run : (x : ℕ) (chars : List ℕ) (d : Cond) → nat_eq x (fold_of t b) ≡ false → bars-at true (x ∷ chars, d) ≡ []
  in-run x chars d h =
      ap (λ k. cond (is_upper t b && k) (carry_capitals t past chars d) []) h ∙ no-two (is_upper t b) (carry_capitals t past chars d)

  out-of-run : (x : ℕ) (chars : List ℕ) (d : Cond) → nat_eq x b ≡ false
      → bars-at false (x ∷ chars, d) ≡ cond (is_some (further t before false (c ∷ x ∷ chars))) (Settled ∷ []) []
  out-of-run x chars d h =
      ap (λ k. cond (is_some (further t before false (c ∷ x ∷ chars))) (cond k (carry_bar t past chars d) Settled ∷ []) []) h

  second-eq : (x y : ℕ) → nat_eq (x + 1) (y + 1) ≡ nat_eq x y
  second-eq x y = grind (arith, nat_tests)

  none-left : (run : Bool) (a : List ℕ × Cond) → has_second (reads_as t b run + 1) a ≡ false → lefts (bars-at run a) ≡ []
  none-left true ([], d) h = settled-none (not (holds d (classes_of t b)))
  none-left false ([], d) h =
      if-none (is_some (further t before false (c ∷ []))) (settled_if (not (holds d (classes_of t b))) ∷ []) (settled-none (not (holds d (classes_of t b))))
  none-left true (x ∷ chars, d) h = ap lefts (in-run x chars d (sym (second-eq x (fold_of t b)) ∙ h))
  none-left false (x ∷ chars, d) h =
      ap lefts (out-of-run x chars d (sym (second-eq x b) ∙ h)) ∙ if-none (is_some (further t before false (c ∷ x ∷ chars))) (Settled ∷ []) refl

  idle : (run : Bool) (a : List ℕ × Cond) → has_second 0 a ≡ false → has_second (reads_as t b run + 1) a ≡ false → list_all is_whole (bars-at run a) ≡ true
  idle run ([], d) g h = cc
  idle true (x ∷ chars, d) g h = ap (list_all is_whole) (in-run x chars d (sym (second-eq x (fold_of t b)) ∙ h))
  idle false (x ∷ chars, d) g h =
      ap (list_all is_whole) (out-of-run x chars d (sym (second-eq x b) ∙ h)) ∙ if-whole (is_some (further t before false (c ∷ x ∷ chars))) (Settled ∷ []) refl

  apart : (second : ℕ) (a : List ℕ × Cond) → has_second 0 a ≡ true → has_second (second + 1) a ≡ false
  apart second ([], d) h = ne_eqb 0 (second + 1) (λ e. omega (arith, e))
  apart second (x ∷ chars, d) h = grind (arith, nat_tests)

  pub kinds : (run : Bool) → Kinds (bars-at run) (has_second 0) (has_second (reads_as t b run + 1))
  kinds run = record { apart = apart (reads_as t b run); none_left = none-left run; idle = idle run }

module _ (t : TableView) (before : Class) (run : Bool) (c b : ℕ) (others : List ℕ) (above short same : List (List ℕ × Cond)) (second : ℕ) where
  -- the rules that end after their first character, and those with the second character of the step
  pub record BySecond : Type 0 where
    pub there : slice_get others 0 ≡ Some b
    pub second_is : second ≡ cond run (fold_of t b) b + 1
    pub short_is : short ≡ filter (has_second 0) above
    pub same_is : same ≡ filter (has_second second) above

  module _ (old mid new : List Due) (w : Bool) (by : BySecond) where
    -- both leave what all leave
    pub adds-by_second : (v : Bool) → Adds (bars_of t before run c others short) old mid w → w ≡ true → Adds (bars_of t before run c others same) mid new v
        → Adds (bars_of t before run c others above) old new v
    adds-by_second v one whole two = at others by.there one two
      where
        at : (os : List ℕ) → slice_get os 0 ≡ Some b → Adds (bars_of t before run c os short) old mid w → Adds (bars_of t before run c os same) mid new v
            → Adds (bars_of t before run c os above) old new v
        at [] e g h = cc
        at (x ∷ past) e g h =
            let is : x ≡ b = cc in
            let key : second ≡ reads_as t x run + 1 = by.second_is ∙ ap (λ y. cond run (fold_of t y) y + 1) (sym is) in
            adds-kinds (bars-at t before c x past run) (has_second 0) (has_second (reads_as t x run + 1)) (kinds t before c x past run) above old mid new v
            (subst (λ l. Adds (bars_of t before run c (x ∷ past) l) old mid true) by.short_is (subst (Adds (bars_of t before run c (x ∷ past) short) old mid) whole g))
            (subst (λ k. Adds (bars_of t before run c (x ∷ past) (filter (has_second k) above)) mid new v) key (subst (λ l. Adds (bars_of t before run c (x ∷ past) l) mid new v) by.same_is h))

    pub broken-by_second : Adds (bars_of t before run c others short) old mid w → w ≡ false → Adds (bars_of t before run c others above) old new false
    broken-by_second one broken = at others by.there one
      where
        at : (os : List ℕ) → slice_get os 0 ≡ Some b → Adds (bars_of t before run c os short) old mid w → Adds (bars_of t before run c os above) old new false
        at [] e g = cc
        at (x ∷ past) e g =
            ends-broken (bars-at t before c x past run) (has_second 0) (has_second (reads_as t x run + 1)) (kinds t before c x past run) above old mid new
            (subst (λ l. Adds (bars_of t before run c (x ∷ past) l) old mid false) by.short_is (subst (Adds (bars_of t before run c (x ∷ past) short) old mid) broken g))
