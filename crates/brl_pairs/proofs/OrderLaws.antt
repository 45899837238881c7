-- Sequences in ascending order: those that begin a key are a chain, and those that begin with it an
-- interval.
use Rattle.std.proofs.Common.{◌≡◌, ◌++◌, ◌∷◌, ◌||◌, ℕ, zero, suc, ◌+◌, ◌-◌, ◌<◌, ◌≤◌, Bool, true, false, List, [], append-nil, filter, get_or, if◌then◌else◌, inl, inr, length, nat_eq, refl, sym, ◌∙◌, ap, subst, arith, true≢false}
use Rattle.std.specs.List.{range_with_len, starts_with}
use Rattle.std.specs.Prelude.{reverse}
use Rattle.std.specs.List.Sorted.{IsSortedBy}
use Rattle.std.proofs.lemmas.Bool.{cases_lt, false_from_ne_true}
use Rattle.std.proofs.lemmas.List.{get_or_append_left, length-append, length-map, reverse-append}
use Rattle.std.proofs.Math.Seq.{get_or-append_seam}
use Rattle.std.proofs.lemmas.List.Elements.{filter-append}
use Rattle.std.proofs.lemmas.List.Sorted.{sorted_far}
use Rattle.brl_pairs.specs.Order.{AreBeginnings, IsCutAt, IsLastBeginning, all_at, at, is_around, is_low, places_around}
use Rattle.brl_pairs.specs.Sorted.{is_before}
use Rattle.brl_pairs.proofs.CellOrder.{beginning_interval, beginning_not_before, begins_from_test, same_cells, test_from_begins, weak_order}
use Rattle.brl_pairs.proofs.Lists.{three_ways}
use Rattle.brl_pairs.proofs.SplitsLaws.{begins_through}

-- ---- Tests of places

range_split : (m a n : ℕ) → range_with_len a (m + n) ≡ range_with_len a m ++ range_with_len (a + m) n
range_split zero a n = ap (λ m. range_with_len a m) (let e : 0 + n ≡ n = omega arith in e) ∙ ap (λ b. range_with_len b n) (let e : a ≡ a + 0 = omega arith in e)
range_split (suc m) a n =
    ap (range_with_len a) (let e : suc m + n ≡ suc (m + n) = omega arith in e)
    ∙ ap (λ l. a ∷ l) (range_split m (a + 1) n ∙ ap (λ b. range_with_len (a + 1) m ++ range_with_len b n) (let e : a + 1 + m ≡ a + suc m = omega arith in e))

module _ (test : ℕ → Bool) where
  pub none_pass : (n a : ℕ) → ((k : ℕ) → a ≤ k → k < a + n → test k ≡ false) → filter test (range_with_len a n) ≡ []
  none_pass zero a none = refl
  none_pass (suc n) a none = rw (none a (omega arith) (omega arith)) (none_pass n (a + 1) (λ k from below. none k (omega (arith, from)) (omega (arith, below))))

  all_pass : (n a : ℕ) → ((k : ℕ) → a ≤ k → k < a + n → test k ≡ true) → filter test (range_with_len a n) ≡ range_with_len a n
  all_pass zero a all = refl
  all_pass (suc n) a all = rw (all a (omega arith) (omega arith)) (ap (λ l. a ∷ l) (all_pass n (a + 1) (λ k from below. all k (omega (arith, from)) (omega (arith, below)))))

  same_pass : (other : ℕ → Bool) (n a : ℕ) → ((k : ℕ) → a ≤ k → k < a + n → test k ≡ other k) → filter test (range_with_len a n) ≡ filter other (range_with_len a n)
  same_pass other zero a same = refl
  same_pass other (suc n) a same = rw (same a (omega arith) (omega arith)) (by (other a) (same_pass other n (a + 1) (λ k from below. same k (omega (arith, from)) (omega (arith, below)))))
    where
      by : (b : Bool) {xs ys : List ℕ} → xs ≡ ys → (if b then a ∷ xs else xs) ≡ (if b then a ∷ ys else ys)
      by true e = ap (λ l. a ∷ l) e
      by false e = e

-- the places from one up to another whose sequences begin the key
abbrev pub beginning_from : List (List ℕ) → List ℕ → ℕ → ℕ → List ℕ
beginning_from all key from end = filter (λ place. starts_with nat_eq key (at all place)) (range_with_len from (end - from))

-- the sequences have as many places as numbers
pub same_length : (kept : List (List ℕ)) (numbers : List ℕ) → length (all_at kept numbers) ≡ length numbers
same_length kept numbers = length-map numbers (at kept)

module _ (all : List (List ℕ)) (ascending : IsSortedBy is_before all) where
  pub later_not_before : (i j : ℕ) → i ≤ j → j < length all → is_before (at all j) (at all i) ≡ false
  later_not_before i j le within = sorted_far is_before weak_order all ascending i j [] le within

  -- what begins the key begins those between
  between : (key : List ℕ) (i j : ℕ) → i ≤ j → j < length all → is_before key (at all j) ≡ false → starts_with nat_eq key (at all i) ≡ true → starts_with nat_eq (at all j) (at all i) ≡ true
  between key i j le within after begins = beginning_interval (at all j) key (at all i) (later_not_before i j le within) after begins

  -- ---- Halving

  -- those before one that is low are low
  pub low_before : (begins : Bool) (key : List ℕ) (from : ℕ) → (begins ≡ true → (place : ℕ) → from ≤ place → place < length all → is_before (at all place) key ≡ false)
      → (i j : ℕ) → from ≤ i → i ≤ j → j < length all → is_low begins key (at all j) ≡ true → is_low begins key (at all i) ≡ true
  low_before true key from none i j high le within h = beginning_interval (at all i) (at all j) key (none refl i high (omega (arith, le, within))) (later_not_before i j le within) h
  low_before false key from none i j high le within h = by (is_before (at all i) key) refl
    where
      by : (b : Bool) → is_before (at all i) key ≡ b → is_before (at all i) key ≡ true
      by true e = e
      by false e = absurd (true≢false (sym h ∙ weak_order.chain (at all j) (at all i) key (later_not_before i j le within) e))

  -- ---- The chain of those that begin a key

  module _ (shorter : List ℕ) (known : AreBeginnings all shorter) (key : List ℕ) (end : ℕ) (within : end ≤ length all) (listed : end ≤ length shorter)
      (none_after : (place : ℕ) → place < end → is_before key (at all place) ≡ false) (last : ℕ) (some : 0 < last) (low : last ≤ end) where
    next : IsLastBeginning all (at all (last - 1)) (last - 1) (get_or shorter (last - 1) 0)
    next = known (last - 1) (omega (arith, some, low, listed))

    pub next_before : get_or shorter (last - 1) 0 ≤ last - 1
    next_before = next.before

    none_between : (place : ℕ) → get_or shorter (last - 1) 0 ≤ place → place < last - 1 → starts_with nat_eq key (at all place) ≡ false
    none_between place from less =
        false_from_ne_true (starts_with nat_eq key (at all place)) (λ b.
        true≢false (sym (between key place (last - 1) (omega (arith, less)) (omega (arith, some, low, within)) (none_after (last - 1) (omega (arith, some, low))) b) ∙ next.others place from less))

    -- none so far, and the one at hand doesn't begin the key
    pub pass_by : starts_with nat_eq key (at all (last - 1)) ≡ false → ((place : ℕ) → last ≤ place → place < end → starts_with nat_eq key (at all place) ≡ false)
        → (place : ℕ) → get_or shorter (last - 1) 0 ≤ place → place < end → starts_with nat_eq key (at all place) ≡ false
    pass_by other none place from less = elim (three_ways place (last - 1)) [
      | inl before ↦ none_between place from before
      | inr more ↦ elim more [
        | inl here ↦ ap (λ k. starts_with nat_eq key (at all k)) here ∙ other
        | inr after ↦ none place (omega (arith, after, some)) less
      ]
    ]

    -- what begins the one at hand begins the key, if that does
    pub begins_next : starts_with nat_eq key (at all (last - 1)) ≡ true → (place : ℕ) → get_or shorter (last - 1) 0 ≡ place + 1 → starts_with nat_eq key (at all place) ≡ true
    begins_next begins place is =
        test_from_begins key (at all place)
        (begins_through key (at all (last - 1)) (at all place) (begins_from_test key (at all (last - 1)) begins) (begins_from_test (at all (last - 1)) (at all place) (next.begins place is)))

    -- the one at hand is added to those that begin the key
    pub chain_step : starts_with nat_eq key (at all (last - 1)) ≡ true → (found more : List ℕ) → more ≡ found ++ (last - 1) ∷ []
        → beginning_from all key last end ≡ reverse found → beginning_from all key (get_or shorter (last - 1) 0) end ≡ reverse more
    chain_step begins found more is before =
        let n = get_or shorter (last - 1) 0 in
        let le : n ≤ last - 1 = next.before in
        let test : ℕ → Bool = λ place. starts_with nat_eq key (at all place) in
        let here : n + (last - 1 - n) ≡ last - 1 = omega (arith, le) in
        let rest : range_with_len (last - 1) (end - (last - 1)) ≡ (last - 1) ∷ range_with_len last (end - last) =
        ap (range_with_len (last - 1)) (let e : end - (last - 1) ≡ suc (end - last) = omega (arith, some, low) in e)
        ∙ ap (λ k. (last - 1) ∷ range_with_len k (end - last)) (let e : last - 1 + 1 ≡ last = omega (arith, some) in e) in
        let split : range_with_len n (end - n) ≡ range_with_len n (last - 1 - n) ++ ((last - 1) ∷ range_with_len last (end - last)) =
        ap (range_with_len n) (let e : end - n ≡ (last - 1 - n) + (end - (last - 1)) = omega (arith, le, some, low) in e)
        ∙ range_split (last - 1 - n) n (end - (last - 1))
        ∙ ap (λ k. range_with_len n (last - 1 - n) ++ range_with_len k (end - (last - 1))) here
        ∙ ap (λ l. range_with_len n (last - 1 - n) ++ l) rest in
        ap (filter test) split
        ∙ filter-append test (range_with_len n (last - 1 - n)) ((last - 1) ∷ range_with_len last (end - last))
        ∙ ap (λ l. l ++ filter test ((last - 1) ∷ range_with_len last (end - last))) (none_pass test (last - 1 - n) n (λ k from below. none_between k from (omega (arith, below, le))))
        ∙ ap (λ b. if b then (last - 1) ∷ filter test (range_with_len last (end - last)) else filter test (range_with_len last (end - last))) begins
        ∙ ap (λ l. (last - 1) ∷ l) before
        ∙ sym (reverse-append found ((last - 1) ∷ []))
        ∙ ap reverse (sym is)

  -- none is added yet
  pub chain_init : (key : List ℕ) (end last : ℕ) → IsLastBeginning all key end last → (found : List ℕ) → found ≡ [] → beginning_from all key last end ≡ reverse found
  chain_init key end last h found none =
      let le : last ≤ end = h.before in
      none_pass (λ place. starts_with nat_eq key (at all place)) (end - last) last (λ k from below. h.others k from (omega (arith, below, le))) ∙ ap reverse (sym none)

  -- ---- All around a key

  module _ (key : List ℕ) (from end : ℕ) (first : IsCutAt (λ place. is_low false key (at all place)) 0 (length all) from) (last : IsCutAt (λ place. is_low true key (at all place)) from (length all) end) where
    -- before the key those around it begin it
    begins_it : (k : ℕ) → k < from → is_around key (at all k) ≡ starts_with nat_eq key (at all k)
    begins_it k below =
        ap (λ b. b || starts_with nat_eq key (at all k))
        (false_from_ne_true (starts_with nat_eq (at all k) key) (λ b. true≢false (sym (first.low k (omega arith) below) ∙ beginning_not_before (at all k) key b)))

    -- those that begin with it are around it
    begins_with_it : (k : ℕ) → from ≤ k → k < end → is_around key (at all k) ≡ true
    begins_with_it k high below = ap (λ b. b || starts_with nat_eq key (at all k)) (last.low k high below)

    -- and no others
    apart : (k : ℕ) → end ≤ k → k < length all → is_around key (at all k) ≡ false
    apart k high below =
        let up : from ≤ end = last.after in
        let unlike : starts_with nat_eq (at all k) key ≡ false = last.high k high below in
        ap (λ b. b || starts_with nat_eq key (at all k)) unlike
        ∙ false_from_ne_true (starts_with nat_eq key (at all k)) (λ b. true≢false (
        let same : at all k ≡ key = same_cells (at all k) key (first.high k (omega (arith, up, high)) below) (beginning_not_before key (at all k) b) in
        sym (test_from_begins (at all k) key ([], same ∙ sym (append-nil key))) ∙ unlike))

    pub around_split : (shorter : List ℕ) (count : ℕ) → count ≡ end - from → shorter ≡ filter (λ place. starts_with nat_eq key (at all place)) (range_with_len 0 from) → shorter ++ range_with_len from count ≡ places_around all key
    around_split shorter count is chain =
        let n = length all in
        let test : ℕ → Bool = λ place. is_around key (at all place) in
        let up : from ≤ end = last.after in
        let within : end ≤ n = last.within in
        let split : range_with_len 0 n ≡ range_with_len 0 from ++ (range_with_len from (end - from) ++ range_with_len end (n - end)) =
        ap (range_with_len 0) (let e : n ≡ from + ((end - from) + (n - end)) = omega (arith, up, within) in e)
        ∙ range_split from 0 ((end - from) + (n - end))
        ∙ ap (λ k. range_with_len 0 from ++ range_with_len k ((end - from) + (n - end))) (let e : 0 + from ≡ from = omega arith in e)
        ∙ ap (λ l. range_with_len 0 from ++ l) (range_split (end - from) from (n - end) ∙ ap (λ k. range_with_len from (end - from) ++ range_with_len k (n - end)) (let e : from + (end - from) ≡ end = omega (arith, up) in e)) in
        let whole : places_around all key ≡ filter (λ place. starts_with nat_eq key (at all place)) (range_with_len 0 from) ++ (range_with_len from (end - from) ++ []) =
        ap (filter test) split
        ∙ filter-append test (range_with_len 0 from) (range_with_len from (end - from) ++ range_with_len end (n - end))
        ∙ ap (λ l. l ++ filter test (range_with_len from (end - from) ++ range_with_len end (n - end))) (same_pass test (λ place. starts_with nat_eq key (at all place)) from 0 (λ k _ below. begins_it k (omega (arith, below))))
        ∙ ap (λ l. filter (λ place. starts_with nat_eq key (at all place)) (range_with_len 0 from) ++ l)
        (filter-append test (range_with_len from (end - from)) (range_with_len end (n - end))
        ∙ ap (λ l. l ++ filter test (range_with_len end (n - end))) (all_pass test (end - from) from (λ k high below. begins_with_it k high (omega (arith, below, up))))
        ∙ ap (λ l. range_with_len from (end - from) ++ l) (none_pass test (n - end) end (λ k high below. apart k high (omega (arith, below, within))))) in
        ap (λ k. shorter ++ range_with_len from k) is
        ∙ ap (λ l. l ++ range_with_len from (end - from)) chain
        ∙ ap (λ l. filter (λ place. starts_with nat_eq key (at all place)) (range_with_len 0 from) ++ l) (sym (append-nil (range_with_len from (end - from))))
        ∙ sym whole

-- what comes before a key isn't after it
pub before_not_after : (own key : List ℕ) → is_before own key ≡ true → is_before key own ≡ false
before_not_after own key h = weak_order.one_way own key h

-- one place more whose last beginning is known
pub one_more_beginning : (all : List (List ℕ)) (old new : List ℕ) (place n : ℕ) → length old ≡ place → new ≡ old ++ n ∷ [] → AreBeginnings all old → IsLastBeginning all (at all place) place n → AreBeginnings all new
one_more_beginning all old new place n many is each own k below = elim (cases_lt k (length old)) [
  | inl early ↦ subst (IsLastBeginning all (at all k) k) (sym (ap (λ (l : List ℕ). get_or l k 0) is ∙ get_or_append_left old (n ∷ []) 0 k early)) (each k early)
  | inr late ↦
      let size = ap length is in
      let sum = length-append old (n ∷ []) in
      let here : k ≡ length old = omega (arith, late, below, size, sum) in
      let value : get_or new k 0 ≡ n = ap (λ (l : List ℕ). get_or l k 0) is ∙ ap (λ (j : ℕ). get_or (old ++ n ∷ []) j 0) here ∙ get_or-append_seam old n [] 0 in
      subst (IsLastBeginning all (at all k) k) (sym value) (subst (λ (j : ℕ). IsLastBeginning all (at all j) j n) (sym (here ∙ many)) own)
]
