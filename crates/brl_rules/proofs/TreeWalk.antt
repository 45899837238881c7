-- The walk down the tree finds the first rule in rank that fits.
use Rattle.std.proofs.Common.{ℕ, zero, suc, ◌+◌, ◌-◌, ◌<◌, ◌≤◌, ◌≡◌, Bool, true, false, cond, ◌&&◌, ◌⊎◌, inl, inr, List, [], ◌∷◌, ◌++◌, length, take, drop, nat_eq, get_or, refl, arith, sym, ◌∙◌, ap, Option, Some, None, append_assoc}
use Rattle.std.specs.Prelude.{nat_le, slice_get, is_some}
use Rattle.std.specs.List.{find, position_from, starts_with}
use Rattle.std.specs.Option.{option_map_or, option_or}
use Rattle.std.specs.Cmp.{first_so, second_so}
use Rattle.std.proofs.lemmas.Bool.{cases_order, and_right, eq-eqb, false_from_ne_true, le-leb, lt-leb, ne_eqb}
use Rattle.std.proofs.lemmas.Bool.Decides.{nat_tests}
use Rattle.std.proofs.lemmas.List.{take_more}
use Rattle.std.proofs.lemmas.Option.{get_or_from_slice_get, slice_get_within}
use Rattle.brl_rules.specs.declared.class.Class.{Class}
use Rattle.brl_rules.specs.declared.rule.Info.{Info}
use Rattle.brl_rules.specs.declared.rule.Rule.{Rule}
use Rattle.brl_rules.specs.TableView.{TableView, info_of}
use Rattle.brl_rules.specs.Places.{holds, before_of, after_of}
use Rattle.brl_rules.specs.Text.{classes_at, is_in_caps_run}
use Rattle.brl_rules.specs.Choice.{compared, matches, fits, place_allows, place_allows_number, by_rule, own, first_fitting, chosen, chosen_number}
use Rattle.brl_rules.specs.Rank.{IsInRank}
use Rattle.brl_rules.proofs.RankWeight.{level-length}
use Rattle.brl_rules.specs.Tree.{is_just, numbers, ends_of}
use Rattle.brl_rules.proofs.TakenLengths.{fits-Takes, starts_with-length}
use Rattle.brl_rules.proofs.Facts.{some_is, same_number, not_both, nat_eq-itself}
use Rattle.brl_rules.proofs.TreeContents.{just-itself}

-- ---- the first place at which a test holds

-- two tests that agree on these rules
abbrev Agree : (Rule → Bool) → (Rule → Bool) → List Rule → Type 0
Agree p q rules = (k : ℕ) (r : Rule) → slice_get rules k ≡ Some r → p r ≡ q r

pub position-agree : (p q : Rule → Bool) (n : ℕ) (rules : List Rule) → Agree p q rules → position_from p n rules ≡ position_from q n rules
position-agree p q n [] h = refl
position-agree p q n (r ∷ rules) h =
    ap (λ b. cond b (Some n) (position_from p (n + 1) rules)) (h 0 r refl)
    ∙ ap (λ o. cond (q r) (Some n) o) (position-agree p q (n + 1) rules (λ k s is. h (suc k) s is))

pub position-none : (p : Rule → Bool) (n : ℕ) (rules : List Rule) → Agree p (λ r. false) rules → position_from p n rules ≡ None
position-none p n [] h = refl
position-none p n (r ∷ rules) h =
    ap (λ b. cond b (Some n) (position_from p (n + 1) rules)) (h 0 r refl)
    ∙ position-none p (n + 1) rules (λ k s is. h (suc k) s is)

-- ---- the numbers of rules

pub find-numbers : (whole : List Rule) (just meets : Rule → Bool) (n : ℕ) (rules : List Rule) → ((k : ℕ) → slice_get whole (n + k) ≡ slice_get rules k)
    → find (λ number. option_map_or meets (slice_get whole number) false) (numbers just n rules) ≡ position_from (λ r. just r && meets r) n rules
find-numbers whole just meets n [] h = refl
find-numbers whole just meets n (r ∷ rules) h =
    let plus : n + 0 ≡ n = omega arith in
    let here : option_map_or meets (slice_get whole n) false ≡ meets r = ap (λ o. option_map_or meets o false) (ap (slice_get whole) (sym plus) ∙ h 0) in
    cases (just r) here (find-numbers whole just meets (n + 1) rules (λ k. let e : n + 1 + k ≡ n + suc k = omega arith in ap (slice_get whole) e ∙ h (suc k)))
  where
    cases : (b : Bool) → option_map_or meets (slice_get whole n) false ≡ meets r
        → find (λ number. option_map_or meets (slice_get whole number) false) (numbers just (n + 1) rules) ≡ position_from (λ r. just r && meets r) (n + 1) rules
        → find (λ number. option_map_or meets (slice_get whole number) false) (cond b (n ∷ numbers just (n + 1) rules) (numbers just (n + 1) rules))
        ≡ cond (b && meets r) (Some n) (position_from (λ r. just r && meets r) (n + 1) rules)
    cases true e more = rw e (ap (λ o. cond (meets r) (Some n) o) more)
    cases false e more = more

pub numbers-none : (test : Rule → Bool) (n : ℕ) (rules : List Rule) → numbers test n rules ≡ [] → Agree test (λ r. false) rules
numbers-none test n [] h k s is = cc
numbers-none test n (r ∷ rules) h zero s is = ap test (sym (some_is r s is)) ∙ cases (test r) (numbers test (n + 1) rules) h
  where
    cases : (b : Bool) (others : List ℕ) → cond b (n ∷ others) others ≡ [] → b ≡ false
    cases true others e = cc
    cases false others e = refl
numbers-none test n (r ∷ rules) h (suc k) s is = numbers-none test (n + 1) rules (cases (test r) (numbers test (n + 1) rules) h) k s is
  where
    cases : (b : Bool) (others : List ℕ) → cond b (n ∷ others) others ≡ [] → others ≡ []
    cases true others e = cc
    cases false others e = e

-- ---- rank: rules of one length come before all that are shorter

-- the number of a rule's characters
abbrev pub length_of : Rule → ℕ
length_of r = length r.chars

tail : (r : Rule) (rules : List Rule) → IsInRank (r ∷ rules) → IsInRank rules
tail r rules h i j d before within = h (suc i) (suc j) d (omega (arith, before)) (omega (arith, within))

-- no rule after the first in rank is longer
shorter : (r : Rule) (rules : List Rule) → IsInRank (r ∷ rules) → (k : ℕ) (s : Rule) → slice_get rules k ≡ Some s → length_of s ≤ length_of r
shorter r rules h k s is =
    let within : k < length rules = slice_get_within rules k s is in
    let e : get_or rules k s ≡ s = get_or_from_slice_get rules k s s is in
    let low : length_of (get_or rules k s) ≤ length_of r = level-length (get_or rules k s) r (h 0 (suc k) s (omega arith) (omega (arith, within))) in
    omega (arith, low, ap length_of e)

as_long : (b : Bool) (n : ℕ) (more same less : Option ℕ) → more ≡ option_or same less
    → cond (b && true) (Some n) more ≡ option_or (cond (b && true) (Some n) same) (cond (b && false) (Some n) less)
as_long true n more same less e = refl
as_long false n more same less e = e

as_short : (b : Bool) (n : ℕ) (more same less : Option ℕ) → same ≡ None → more ≡ option_or same less
    → cond (b && true) (Some n) more ≡ option_or (cond (b && false) (Some n) same) (cond (b && true) (Some n) less)
as_short true n more same less none e = rw none refl
as_short false n more same less none e = e

too_long : (b : Bool) (n : ℕ) (more same less : Option ℕ) → more ≡ option_or same less
    → cond (b && false) (Some n) more ≡ option_or (cond (b && false) (Some n) same) (cond (b && false) (Some n) less)
too_long true n more same less e = e
too_long false n more same less e = e

pub rank-step : (f : Rule → Bool) (k n : ℕ) (rules : List Rule) → IsInRank rules
    → position_from (λ r. f r && nat_le (length_of r) (k + 1)) n rules
    ≡ option_or (position_from (λ r. f r && nat_eq (length_of r) (k + 1)) n rules) (position_from (λ r. f r && nat_le (length_of r) k) n rules)
rank-step f k n [] h = refl
rank-step f k n (r ∷ rules) h = by_order (cases_order (length_of r) (k + 1)) (rank-step f k (n + 1) rules (tail r rules h))
  where
    by_order : (length_of r ≡ k + 1) ⊎ ((length_of r < k + 1) ⊎ (k + 1 < length_of r))
        → position_from (λ r. f r && nat_le (length_of r) (k + 1)) (n + 1) rules
        ≡ option_or (position_from (λ r. f r && nat_eq (length_of r) (k + 1)) (n + 1) rules) (position_from (λ r. f r && nat_le (length_of r) k) (n + 1) rules)
        → position_from (λ r. f r && nat_le (length_of r) (k + 1)) n (r ∷ rules)
        ≡ option_or (position_from (λ r. f r && nat_eq (length_of r) (k + 1)) n (r ∷ rules)) (position_from (λ r. f r && nat_le (length_of r) k) n (r ∷ rules))
    by_order (inl same) more =
        rw (le-leb (length_of r) (k + 1) (omega arith), eq-eqb (length_of r) (k + 1) same, lt-leb (length_of r) k (omega arith)) (as_long (f r) n _ _ _ more)
    by_order (inr (inl less)) more =
        let low : length_of r ≤ k = omega arith in
        let none = position-none (λ r. f r && nat_eq (length_of r) (k + 1)) (n + 1) rules
        (λ j s is. and_right (f s) (nat_eq (length_of s) (k + 1)) (ne_eqb (length_of s) (k + 1) (λ e. omega (arith, e, shorter r rules h j s is)))) in
        rw (le-leb (length_of r) (k + 1) (omega arith), ne_eqb (length_of r) (k + 1) (λ e. omega (arith, e, less)), le-leb (length_of r) k low) (as_short (f r) n _ _ _ none more)
    by_order (inr (inr above)) more =
        rw (lt-leb (length_of r) (k + 1) above, ne_eqb (length_of r) (k + 1) (λ e. omega (arith, e, above)), lt-leb (length_of r) k (omega arith)) (too_long (f r) n _ _ _ more)

-- ---- rules with just the first characters of a rest

and-nil : (b : Bool) → b && false ≡ false
and-nil true = refl
and-nil false = refl

suc-eq : (m n : ℕ) → nat_eq (suc m) (suc n) ≡ nat_eq m n
suc-eq m n = grind (arith, nat_tests)

zero-eq : (n : ℕ) → nat_eq 0 (suc n) ≡ false
zero-eq n = grind (arith, nat_tests)

eq-zero : (n : ℕ) → nat_eq (suc n) 0 ≡ false
eq-zero n = grind (arith, nat_tests)

and-assoc : (a b c : Bool) → a && (b && c) ≡ (a && b) && c
and-assoc true b c = refl
and-assoc false b c = refl

just-front : (others behind : List ℕ) (k : ℕ) → k ≤ length behind
    → is_just others (take k behind) ≡ starts_with nat_eq behind others && nat_eq (length others) k
just-front [] behind zero h = refl
just-front [] [] (suc k) h = absurd (omega arith)
just-front [] (b ∷ behind) (suc k) h = sym (zero-eq k)
just-front (o ∷ others) behind zero h = sym (rw (eq-zero (length others)) (and-nil (starts_with nat_eq behind (o ∷ others))))
just-front (o ∷ others) [] (suc k) h = absurd (omega arith)
just-front (o ∷ others) (b ∷ behind) (suc k) h =
    ap (λ e. nat_eq o b && e) (just-front others behind k (omega arith))
    ∙ and-assoc (nat_eq o b) (starts_with nat_eq behind others) (nat_eq (length others) k)
    ∙ ap (λ e. (nat_eq o b && starts_with nat_eq behind others) && e) (sym (suc-eq (length others) k))

four : (m e b a : Bool) → (m && e) && (b && a) ≡ ((m && b) && a) && e
four true true b a = sym (both (b && a))
  where
    both : (x : Bool) → x && true ≡ x
    both true = refl
    both false = refl
four true false b a = sym (and-nil (b && a))
four false e b a = refl

under-true : (b x : Bool) → (b ≡ true → x ≡ true) → b && x ≡ b
under-true true x h = h refl
under-true false x h = refl

not-zero : (w : ℕ) → 1 ≤ w → nat_le w 0 ≡ false
not-zero w h = grind (arith, nat_tests)

-- a start of the rest with more than k characters has its character k
longer-front : (k : ℕ) (behind others : List ℕ) (d : ℕ) → starts_with nat_eq behind others ≡ true → k < length others
    → is_just others (take k behind ++ get_or behind k d ∷ drop (suc k) others) ≡ true
longer-front k behind [] d h more = absurd (omega arith)
longer-front k [] (o ∷ others) d h more = cc
longer-front zero (b ∷ behind) (o ∷ others) d h more =
    ap (λ e. e && is_just others others) (first_so (nat_eq o b) (starts_with nat_eq behind others) h) ∙ just-itself others
longer-front (suc k) (b ∷ behind) (o ∷ others) d h more =
    ap (λ e. e && is_just others (take k behind ++ get_or behind k d ∷ drop (suc k) others)) (first_so (nat_eq o b) (starts_with nat_eq behind others) h)
    ∙ longer-front k behind others d (second_so (nat_eq o b) (starts_with nat_eq behind others) h) (omega arith)

-- the rest begins with these characters, as rules are compared with it
module _ (t : TableView) (before : Class) (rest : List ℕ) (first : ℕ) (behind : List ℕ) (is : compared t (is_in_caps_run t before rest) rest ≡ first ∷ behind) where
  -- a rule matches where those begin with its characters
  begins : (x : ℕ) (others : List ℕ) → matches t (is_in_caps_run t before rest) rest (x ∷ others) ≡ nat_eq x first && starts_with nat_eq behind others
  begins x others = ap (λ l. starts_with nat_eq l (x ∷ others)) is

  just-matches : (chars : List ℕ) (k : ℕ) → k ≤ length behind
      → is_just chars (first ∷ take k behind) ≡ matches t (is_in_caps_run t before rest) rest chars && nat_eq (length chars) (k + 1)
  just-matches [] k h = refl
  just-matches (x ∷ others) k h =
      let plus : k + 1 ≡ suc k = omega arith in
      ap (λ e. nat_eq x first && e) (just-front others behind k h)
      ∙ and-assoc (nat_eq x first) (starts_with nat_eq behind others) (nat_eq (length others) k)
      ∙ ap (λ e. e && nat_eq (length others) k) (sym (begins x others))
      ∙ ap (λ e. matches t (is_in_caps_run t before rest) rest (x ∷ others) && e) (sym (suc-eq (length others) k) ∙ ap (nat_eq (suc (length others))) (sym plus))

  just-fits : (k : ℕ) → k ≤ length behind → (r : Rule)
      → is_just r.chars (first ∷ take k behind) && place_allows t before rest r ≡ fits t before rest r && nat_eq (length_of r) (k + 1)
  just-fits k h r =
      ap (λ e. e && place_allows t before rest r) (just-matches r.chars k h)
      ∙ four (matches t (is_in_caps_run t before rest) rest r.chars) (nat_eq (length_of r) (k + 1)) (holds (before_of r.place) before)
      (holds (after_of r.place before) (classes_at t rest (length r.chars)))

  -- the first rule at a node whose place allows it is the first in rank of this length that fits
  at_node : (k : ℕ) → k ≤ length behind
      → find (place_allows_number t before rest) (numbers (λ r. is_just r.chars (first ∷ take k behind)) 0 t.rules)
      ≡ position_from (λ r. fits t before rest r && nat_eq (length_of r) (k + 1)) 0 t.rules
  at_node k h =
      find-numbers t.rules (λ r. is_just r.chars (first ∷ take k behind)) (place_allows t before rest) 0 t.rules (λ j. let e : 0 + j ≡ j = omega arith in ap (slice_get t.rules) e)
      ∙ position-agree (λ r. is_just r.chars (first ∷ take k behind) && place_allows t before rest r) (λ r. fits t before rest r && nat_eq (length_of r) (k + 1)) 0 t.rules
      (λ j r there. just-fits k h r)

  pub fits-matches : (r : Rule) → fits t before rest r ≡ true → matches t (is_in_caps_run t before rest) rest r.chars ≡ true
  fits-matches r h =
      first_so (matches t (is_in_caps_run t before rest) rest r.chars) (holds (before_of r.place) before)
      (first_so (matches t (is_in_caps_run t before rest) rest r.chars && holds (before_of r.place) before) (holds (after_of r.place before) (classes_at t rest (length r.chars))) h)

  -- the characters of a rule with which the rest begins
  pub front : (chars : List ℕ) → matches t (is_in_caps_run t before rest) rest chars ≡ true → (others : List ℕ) × (chars ≡ first ∷ others) × (starts_with nat_eq behind others ≡ true)
  front [] h = cc
  front (x ∷ others) h =
      let both : nat_eq x first && starts_with nat_eq behind others ≡ true = sym (begins x others) ∙ h in
      let x-is : x ≡ first = same_number x first (first_so (nat_eq x first) (starts_with nat_eq behind others) both) in
      (others, ap (λ y. y ∷ others) x-is, second_so (nat_eq x first) (starts_with nat_eq behind others) both)

  -- no rule that fits has no characters
  pub rest-start : None ≡ position_from (λ r. fits t before rest r && nat_le (length_of r) 0) 0 t.rules
  rest-start =
      sym (position-none (λ r. fits t before rest r && nat_le (length_of r) 0) 0 t.rules
      (λ j r there. false_from_ne_true (fits t before rest r && nat_le (length_of r) 0)
      (λ does.
      let some = (fits-Takes t before rest r (first_so (fits t before rest r) (nat_le (length_of r) 0) does)).some in
      not_both (nat_le (length_of r) 0) (second_so (fits t before rest r) (nat_le (length_of r) 0) does) (not-zero (length_of r) some))))

  -- where no rule that fits has more characters, the longest so far is the first in rank
  no_more : (k : ℕ) → ((j : ℕ) (r : Rule) → slice_get t.rules j ≡ Some r → fits t before rest r ≡ true → length_of r ≤ k)
      → position_from (λ r. fits t before rest r && nat_le (length_of r) k) 0 t.rules ≡ position_from (fits t before rest) 0 t.rules
  no_more k h =
      position-agree (λ r. fits t before rest r && nat_le (length_of r) k) (fits t before rest) 0 t.rules
      (λ j r there. under-true (fits t before rest r) (nat_le (length_of r) k) (λ does. le-leb (length_of r) k (h j r there does)))

  pub rest-next : (k : ℕ) (best : Option ℕ) → k ≤ length behind → IsInRank t.rules
      → best ≡ position_from (λ r. fits t before rest r && nat_le (length_of r) k) 0 t.rules
      → option_or (find (place_allows_number t before rest) (ends_of t.rules (first ∷ take k behind))) best
      ≡ position_from (λ r. fits t before rest r && nat_le (length_of r) (k + 1)) 0 t.rules
  rest-next k best within rank e =
      ap (option_or (find (place_allows_number t before rest) (ends_of t.rules (first ∷ take k behind)))) e
      ∙ ap (λ found. option_or found (position_from (λ r. fits t before rest r && nat_le (length_of r) k) 0 t.rules)) (at_node k within)
      ∙ sym (rank-step (fits t before rest) k 0 t.rules rank)

  -- the rest has no more characters that rules are compared with
  pub rest-end : (k : ℕ) → length behind < k
      → position_from (λ r. fits t before rest r && nat_le (length_of r) k) 0 t.rules ≡ position_from (fits t before rest) 0 t.rules
  rest-end k h = no_more k (λ j r there does. short r (front r.chars (fits-matches r does)))
    where
      short : (r : Rule) → (others : List ℕ) × (r.chars ≡ first ∷ others) × (starts_with nat_eq behind others ≡ true) → length_of r ≤ k
      short r f =
          let long : length_of r ≡ suc (length f.0) = ap length f.1 in
          omega (arith, long, starts_with-length behind f.0 f.2, h)

  -- where a character leads to no rules, no rule that fits has it
  pub rest-no_root : ((at : List ℕ) → [] ≡ ends_of t.rules (first ∷ at)) → position_from (fits t before rest) 0 t.rules ≡ None
  rest-no_root none =
      position-none (fits t before rest) 0 t.rules
      (λ j r there. false_from_ne_true (fits t before rest r)
      (λ does.
      let f = front r.chars (fits-matches r does) in
      let just : is_just r.chars (first ∷ f.0) ≡ true = ap (λ chars. is_just chars (first ∷ f.0)) f.1 ∙ just-itself (first ∷ f.0) in
      let not : is_just r.chars (first ∷ f.0) ≡ false = numbers-none (λ r. is_just r.chars (first ∷ f.0)) 0 t.rules (sym (none f.0)) j r there in
      not_both (is_just r.chars (first ∷ f.0)) just not))

  pub rest-no_branch : (k d : ℕ) → k < length behind → ((at : List ℕ) → [] ≡ ends_of t.rules (first ∷ (take k behind ++ get_or behind k d ∷ at)))
      → position_from (λ r. fits t before rest r && nat_le (length_of r) (k + 1)) 0 t.rules ≡ position_from (fits t before rest) 0 t.rules
  rest-no_branch k d within none = no_more (k + 1) (λ j r there does. short j r there (front r.chars (fits-matches r does)))
    where
      short : (j : ℕ) (r : Rule) → slice_get t.rules j ≡ Some r → (others : List ℕ) × (r.chars ≡ first ∷ others) × (starts_with nat_eq behind others ≡ true) → length_of r ≤ k + 1
      short j r there f = by_order (cases_order (length f.0) k)
        where
          count : length_of r ≡ suc (length f.0)
          count = ap length f.1

          by_order : (length f.0 ≡ k) ⊎ ((length f.0 < k) ⊎ (k < length f.0)) → length_of r ≤ k + 1
          by_order (inl same) = omega (arith, count)
          by_order (inr (inl less)) = omega (arith, count)
          by_order (inr (inr more)) =
              let at = take k behind ++ get_or behind k d ∷ drop (suc k) f.0 in
              let just : is_just r.chars (first ∷ at) ≡ true =
              ap (λ chars. is_just chars (first ∷ at)) f.1 ∙ ap (λ b. b && is_just f.0 at) (nat_eq-itself first) ∙ longer-front k behind f.0 d f.2 more in
              let not : is_just r.chars (first ∷ at) ≡ false =
              numbers-none (λ r. is_just r.chars (first ∷ at)) 0 t.rules (sym (none (drop (suc k) f.0))) j r there in
              absurd (not_both (is_just r.chars (first ∷ at)) just not)

no-match : (t : TableView) (run : Bool) (chars : List ℕ) → matches t run [] chars ≡ false
no-match t run [] = refl
no-match t run (x ∷ chars) = refl

pub rest-none : (t : TableView) (before : Class) (rest : List ℕ) → length rest ≡ 0 → position_from (fits t before rest) 0 t.rules ≡ None
rest-none t before [] h =
    position-none (fits t before []) 0 t.rules
    (λ j r is. ap (λ b. b && holds (before_of r.place) before && holds (after_of r.place before) (classes_at t [] (length r.chars))) (no-match t (is_in_caps_run t before []) r.chars))
rest-none t before (c ∷ rest) h = absurd (omega arith)

pub one_more : (k d : ℕ) (behind at : List ℕ) → k < length behind → take k behind ++ get_or behind k d ∷ at ≡ take (k + 1) behind ++ at
one_more k d behind at within = sym (ap (λ xs. xs ++ at) (take_more behind k d within) ∙ append_assoc (take k behind) (get_or behind k d ∷ []) at)

-- ---- the chosen rule

record Found (t : TableView) (before : Class) (rest : List ℕ) (n : ℕ) (rules : List Rule) (place : ℕ) : Type 0 where
  pub least : n ≤ place
  pub rule : Rule
  pub there : slice_get rules (place - n) ≡ Some rule
  pub chosen_is : first_fitting t before rest n rules ≡ by_rule place rule

module _ (t : TableView) (before : Class) (rest : List ℕ) where
  first-some : (n : ℕ) (rules : List Rule) (place : ℕ) → position_from (fits t before rest) n rules ≡ Some place → Found t before rest n rules place
  first-some n [] place h = cc
  first-some n (r ∷ rules) place h = cases (fits t before rest r) refl h (first-some (n + 1) rules place)
    where
      cases : (b : Bool) → fits t before rest r ≡ b → cond b (Some n) (position_from (fits t before rest) (n + 1) rules) ≡ Some place
          → (position_from (fits t before rest) (n + 1) rules ≡ Some place → Found t before rest (n + 1) rules place) → Found t before rest n (r ∷ rules) place
      cases true does e others =
          let place-is : n ≡ place = some_is n place e in
          let zero-is : place - n ≡ 0 = omega arith in
          record {
            least = omega arith;
            rule = r;
            there = ap (slice_get (r ∷ rules)) zero-is;
            chosen_is = ap (λ b. cond b (by_rule n r) (first_fitting t before rest (n + 1) rules)) does ∙ ap (λ k. by_rule k r) place-is;
          }
      cases false fails e others =
          let more = others e in
          let least = more.least in
          let suc-is : place - n ≡ suc (place - (n + 1)) = omega arith in
          record {
            least = omega (arith, least);
            rule = more.rule;
            there = ap (slice_get (r ∷ rules)) suc-is ∙ more.there;
            chosen_is = ap (λ b. cond b (by_rule n r) (first_fitting t before rest (n + 1) rules)) fails ∙ more.chosen_is;
          }

  first-none : (n : ℕ) (rules : List Rule) → position_from (fits t before rest) n rules ≡ None → first_fitting t before rest n rules ≡ own t rest
  first-none n [] h = refl
  first-none n (r ∷ rules) h = cases (fits t before rest r) h (first-none (n + 1) rules)
    where
      cases : (b : Bool) → cond b (Some n) (position_from (fits t before rest) (n + 1) rules) ≡ None
          → (position_from (fits t before rest) (n + 1) rules ≡ None → first_fitting t before rest (n + 1) rules ≡ own t rest)
          → cond b (by_rule n r) (first_fitting t before rest (n + 1) rules) ≡ own t rest
      cases true e more = cc
      cases false e more = more e

  pub chosen-none : position_from (fits t before rest) 0 t.rules ≡ None → chosen t before rest ≡ own t rest
  chosen-none h = first-none 0 t.rules h

  pub record IsFound (place : ℕ) : Type 0 where
    pub rule : Rule
    pub there : slice_get t.rules place ≡ Some rule
    pub within : place < length t.rules
    pub chosen_is : chosen t before rest ≡ by_rule place rule

  pub chosen-some : (place : ℕ) → position_from (fits t before rest) 0 t.rules ≡ Some place → IsFound place
  chosen-some place h =
      let found = first-some 0 t.rules place h in
      let e : place - 0 ≡ place = omega arith in
      let there : slice_get t.rules place ≡ Some found.rule = ap (slice_get t.rules) (sym e) ∙ found.there in
      record { rule = found.rule; there = there; within = slice_get_within t.rules place found.rule there; chosen_is = found.chosen_is }

  -- the rule at the place that is found is chosen
  pub chosen-at : (place : ℕ) → position_from (fits t before rest) 0 t.rules ≡ Some place → (all : List Rule) → all ≡ t.rules
      → (r : Rule) → r ≡ get_or all place r → chosen t before rest ≡ by_rule place r
  chosen-at place h all all-is r r-is =
      let found = chosen-some place h in
      let same : r ≡ found.rule = r-is ∙ ap (λ rules. get_or rules place r) all-is ∙ get_or_from_slice_get t.rules place found.rule r found.there in
      found.chosen_is ∙ ap (by_rule place) (sym same)

  pub place-within : (place : ℕ) → position_from (fits t before rest) 0 t.rules ≡ Some place → (all : List Rule) → all ≡ t.rules → place < length all
  place-within place h all all-is = let found = chosen-some place h in omega (arith, found.within, ap length all-is)

  -- the chosen number, where the table defines the first character
  pub number-known : (c : ℕ) (info : Info) → slice_get rest 0 ≡ Some c → info_of t c ≡ Some info → chosen_number t before rest ≡ Some (chosen t before rest).number
  number-known c info there known = of_rest rest there
    where
      of_rest : (rest : List ℕ) → slice_get rest 0 ≡ Some c → chosen_number t before rest ≡ Some (chosen t before rest).number
      of_rest [] there = cc
      of_rest (x ∷ rest) there =
          let x-is : x ≡ c = some_is x c there in
          ap (λ b. cond b (Some (chosen t before (x ∷ rest)).number) None) (ap (λ y. is_some (info_of t y)) x-is ∙ ap is_some known)
