-- One more use of a character that the table doesn't define, and the uses of one more line.
use Rattle.std.proofs.Common.{◌≡◌, ℕ, zero, suc, ◌+◌, ◌-◌, ◌*◌, ◌&&◌, ◌<◌, ◌≤◌, Bool, true, false, not, ◌||◌, cond, nat_eq, List, [], ◌∷◌, ◌++◌, length, take, get_or, map, filter, refl, ap, sym, ◌∙◌, arith, Option, None, Some, append_assoc, append-nil, flat_map}
use Rattle.std.specs.List.{list_any}
use Rattle.std.specs.Str.{chars, chars_after, continuation_len, lead_bits}
use Rattle.std.specs.BTreeMap.{BTreeMap, get_by, is_at}
use Rattle.std.specs.Map.{lookup}
use Rattle.std.specs.Option.{option_map_or}
use Rattle.std.specs.Ordering.{nat_cmp}
use Rattle.brl_lines.proofs.Ordered.{is_eq-nat_eq}
use Rattle.std.proofs.lemmas.Bool.{eqb-true}
use Rattle.std.proofs.lemmas.List.{map-append, take_more}
use Rattle.std.proofs.lemmas.List.Concat.{flat_map-append}
use Rattle.std.proofs.lemmas.Str.{chars-nil}
use Rattle.std.proofs.lemmas.List.Elements.{filter-append}
use Rattle.std.proofs.lemmas.List.Sums.{count_by-le-length, sum_by-cons, sum_by_push}
use Rattle.brl_rules.specs.TableView.{TableView}
use Rattle.brl_rules.specs.Text.{is_defined, is_text}
use Rattle.brl_rules.proofs.Facts.{nat_eq-itself, nat_eq-sym}
use Rattle.brl_stream.specs.Lacking.{Use, are_of_one, count_of, first_uses, lacking_of, summary, uses_from, uses_in}
use Rattle.brl_stream.specs.Noting.{IsNoted, entries_of, entry_of}
use Rattle.brl_stream.specs.declared.lacking.Uses.{Uses}
use Rattle.brl_stream.specs.declared.lacking.Lacking.{Lacking}
use Rattle.brl_stream.specs.declared.lacking.Noted.{Noted}

-- ---- Uses of one character

same-as : (a b c : ℕ) → nat_eq a b ≡ true → nat_eq a c ≡ nat_eq b c
same-as a b c h = ap (λ n. nat_eq n c) (eqb-true a b h)

-- the use is added, unless one of its character is there
abbrev add_use : List Use → Use → List Use
add_use uses one = cond (list_any (are_of_one one) uses) uses (uses ++ one ∷ [])

abbrev is_other : Use → Use → Bool
is_other one other = not (are_of_one one other)

-- one that passes the filter is of another character
any-others : (v u : Use) (xs : List Use) → are_of_one v u ≡ true → list_any (are_of_one v) (filter (is_other u) xs) ≡ false
any-others v u [] h = refl
any-others v u (x ∷ xs) h = cases (are_of_one u x) refl (any-others v u xs h)
  where
    cases : (b : Bool) → are_of_one u x ≡ b → list_any (are_of_one v) (filter (is_other u) xs) ≡ false
        → list_any (are_of_one v) (cond (not b) (x ∷ filter (is_other u) xs) (filter (is_other u) xs)) ≡ false
    cases true e more = more
    cases false e more = rw (same-as v.0 u.0 x.0 h, e) more

-- a filter of others keeps those of a third character
any-kept : (v u : Use) (xs : List Use) → are_of_one v u ≡ false → list_any (are_of_one v) (filter (is_other u) xs) ≡ list_any (are_of_one v) xs
any-kept v u [] h = refl
any-kept v u (x ∷ xs) h = cases (are_of_one u x) refl (any-kept v u xs h)
  where
    cases : (b : Bool) → are_of_one u x ≡ b → list_any (are_of_one v) (filter (is_other u) xs) ≡ list_any (are_of_one v) xs
        → list_any (are_of_one v) (cond (not b) (x ∷ filter (is_other u) xs) (filter (is_other u) xs)) ≡ are_of_one v x || list_any (are_of_one v) xs
    cases false e more = ap (λ b. are_of_one v x || b) more
    cases true e more =
        let apart : are_of_one v x ≡ false = ap (λ n. nat_eq v.0 n) (sym (eqb-true u.0 x.0 e)) ∙ h in
        more ∙ sym (ap (λ b. b || list_any (are_of_one v) xs) apart)

-- fewer uses are of no more characters
any-fewer : (p q : Use → Bool) (xs : List Use) → list_any q xs ≡ false → list_any q (filter p xs) ≡ false
any-fewer p q [] h = refl
any-fewer p q (x ∷ xs) h = cases (p x) (q x) refl h (any-fewer p q xs)
  where
    cases : (b c : Bool) → q x ≡ c → c || list_any q xs ≡ false → (list_any q xs ≡ false → list_any q (filter p xs) ≡ false) → list_any q (cond b (x ∷ filter p xs) (filter p xs)) ≡ false
    cases b true e k more = cc
    cases true false e k more = ap (λ c. c || list_any q (filter p xs)) e ∙ more k
    cases false false e k more = more k

filter-one : (p : Use → Bool) (v : Use) (b : Bool) → p v ≡ b → filter p (v ∷ []) ≡ cond b (v ∷ []) []
filter-one p v b h = ap (λ c. cond c (v ∷ []) []) h

others-same : (v u : Use) (fs : List Use) → are_of_one v u ≡ true → filter (is_other u) (add_use fs v) ≡ filter (is_other u) fs
others-same v u fs h = cases (list_any (are_of_one v) fs)
  where
    cases : (b : Bool) → filter (is_other u) (cond b fs (fs ++ v ∷ [])) ≡ filter (is_other u) fs
    cases true = refl
    cases false =
        filter-append (is_other u) fs (v ∷ []) ∙ ap (λ xs. filter (is_other u) fs ++ xs) (filter-one (is_other u) v false (ap not (nat_eq-sym u.0 v.0 ∙ h)))
        ∙ append-nil (filter (is_other u) fs)

others-more : (v u : Use) (fs : List Use) → are_of_one v u ≡ false → filter (is_other u) (add_use fs v) ≡ add_use (filter (is_other u) fs) v
others-more v u fs h = cases (list_any (are_of_one v) fs) (any-kept v u fs h)
  where
    cases : (b : Bool) → list_any (are_of_one v) (filter (is_other u) fs) ≡ b → filter (is_other u) (cond b fs (fs ++ v ∷ [])) ≡ add_use (filter (is_other u) fs) v
    cases true e = sym (ap (λ b. cond b (filter (is_other u) fs) (filter (is_other u) fs ++ v ∷ [])) e)
    cases false e =
        filter-append (is_other u) fs (v ∷ []) ∙ ap (λ xs. filter (is_other u) fs ++ xs) (filter-one (is_other u) v true (ap not (nat_eq-sym u.0 v.0 ∙ h)))
        ∙ sym (ap (λ b. cond b (filter (is_other u) fs) (filter (is_other u) fs ++ v ∷ [])) e)

-- one more use
first_uses-more : (us : List Use) (v : Use) → first_uses (us ++ v ∷ []) ≡ add_use (first_uses us) v
first_uses-more [] v = refl
first_uses-more (u ∷ us) v = ap (λ fs. u ∷ filter (is_other u) fs) (first_uses-more us v) ∙ cases (are_of_one v u) refl
  where
    fs : List Use
    fs = first_uses us

    behind : (b : Bool) (xs : List Use) → u ∷ cond b xs (xs ++ v ∷ []) ≡ cond b (u ∷ xs) (u ∷ (xs ++ v ∷ []))
    behind true xs = refl
    behind false xs = refl

    cases : (b : Bool) → are_of_one v u ≡ b
        → u ∷ filter (is_other u) (add_use fs v) ≡ cond (b || list_any (are_of_one v) (filter (is_other u) fs)) (u ∷ filter (is_other u) fs) (u ∷ (filter (is_other u) fs ++ v ∷ []))
    cases true e = ap (λ xs. u ∷ xs) (others-same v u fs e)
    cases false e = ap (λ xs. u ∷ xs) (others-more v u fs e) ∙ behind (list_any (are_of_one v) (filter (is_other u) fs)) (filter (is_other u) fs)

abbrev one_if : Bool → ℕ
one_if b = cond b 1 0

-- ---- Uses of different characters

abbrev AreApart : List Use → Type 0
AreApart [] = Unit {0}
AreApart (u ∷ us) = (list_any (are_of_one u) us ≡ false) × AreApart us

apart-fewer : (p : Use → Bool) (xs : List Use) → AreApart xs → AreApart (filter p xs)
apart-fewer p [] h = tt
apart-fewer p (x ∷ xs) h = cases (p x) (apart-fewer p xs h.1)
  where
    cases : (b : Bool) → AreApart (filter p xs) → AreApart (cond b (x ∷ filter p xs) (filter p xs))
    cases true more = (any-fewer p (are_of_one x) xs h.0, more)
    cases false more = more

first-apart : (us : List Use) → AreApart (first_uses us)
first-apart [] = tt
first-apart (u ∷ us) = (any-others u u (first_uses us) (nat_eq-itself u.0), apart-fewer (is_other u) (first_uses us) (first-apart us))

-- ---- Entries

-- the entries in which that of a character is set: in its place, or last
abbrev set_entry : List (ℕ × Uses) → ℕ → Uses → List (ℕ × Uses)
set_entry [] c x = (c, x) ∷ []
set_entry (e ∷ es) c x = cond (nat_eq c e.0) ((e.0, x) ∷ es) (e ∷ set_entry es c x)

lookup-set : (es : List (ℕ × Uses)) (c q : ℕ) (x : Uses) → lookup (nat_eq q) (set_entry es c x) ≡ cond (nat_eq c q) (Some x) (lookup (nat_eq q) es)
lookup-set [] c q x = ap (λ b. cond b (Some x) None) (nat_eq-sym q c)
lookup-set (e ∷ es) c q x = cases (nat_eq c e.0) refl (nat_eq q e.0) refl (lookup-set es c q x)
  where
    rest : Option Uses
    rest = lookup (nat_eq q) es

    twice : (d : Bool) → cond d (Some x) rest ≡ cond d (Some x) (cond d (Some e.1) rest)
    twice true = refl
    twice false = refl

    cases : (b : Bool) → nat_eq c e.0 ≡ b → (d : Bool) → nat_eq q e.0 ≡ d → lookup (nat_eq q) (set_entry es c x) ≡ cond (nat_eq c q) (Some x) rest
        → lookup (nat_eq q) (cond b ((e.0, x) ∷ es) (e ∷ set_entry es c x)) ≡ cond (nat_eq c q) (Some x) (cond d (Some e.1) rest)
    cases true same d is more =
        let there : nat_eq c q ≡ d = ap (λ n. nat_eq n q) (eqb-true c e.0 same) ∙ nat_eq-sym e.0 q ∙ is in
        ap (λ y. cond y (Some x) rest) is ∙ twice d ∙ sym (ap (λ y. cond y (Some x) (cond d (Some e.1) rest)) there)
    cases false other true is more =
        ap (λ y. cond y (Some e.1) (lookup (nat_eq q) (set_entry es c x))) is
        ∙ sym (ap (λ y. cond y (Some x) (Some e.1)) (ap (nat_eq c) (eqb-true q e.0 is) ∙ other))
    cases false other false is more = ap (λ y. cond y (Some e.1) (lookup (nat_eq q) (set_entry es c x))) is ∙ more

abbrev character_of : Use → ℕ
character_of one = one.0

-- the characters of uses, in the order of their first uses
abbrev characters_of : List Use → List ℕ
characters_of uses = map character_of (first_uses uses)

-- ---- What was noted

-- a character that no use is of is used nowhere
none-counted : (us : List Use) (v : Use) → list_any (are_of_one v) (first_uses us) ≡ false → count_of us v ≡ 0
none-counted [] v h = refl
none-counted (u ∷ us) v h = sum_by-cons (λ w. cond (are_of_one v w) 1 0) u us ∙ cases (are_of_one v u) refl h (none-counted us v)
  where
    cases : (b : Bool) → are_of_one v u ≡ b → b || list_any (are_of_one v) (filter (is_other u) (first_uses us)) ≡ false → (list_any (are_of_one v) (first_uses us) ≡ false → count_of us v ≡ 0)
        → cond b 1 0 + count_of us v ≡ 0
    cases true e k more = cc
    cases false e k more = let none = more (sym (any-kept v u (first_uses us) e) ∙ k) in omega (arith, none)

module _ (all : List Use) (v : Use) where
  count-more : (w : Use) → count_of (all ++ v ∷ []) w ≡ count_of all w + cond (are_of_one w v) 1 0
  count-more w = sum_by_push (λ u. cond (are_of_one w u) 1 0) all v

  -- the entries of other characters stay
  entries-stay : (fs : List Use) → list_any (are_of_one v) fs ≡ false → map (entry_of all) fs ≡ map (entry_of (all ++ v ∷ [])) fs
  entries-stay [] h = refl
  entries-stay (w ∷ ws) h = cases (are_of_one v w) refl h (entries-stay ws)
    where
      cases : (b : Bool) → are_of_one v w ≡ b → b || list_any (are_of_one v) ws ≡ false → (list_any (are_of_one v) ws ≡ false → map (entry_of all) ws ≡ map (entry_of (all ++ v ∷ [])) ws)
          → map (entry_of all) (w ∷ ws) ≡ map (entry_of (all ++ v ∷ [])) (w ∷ ws)
      cases true e k stay = cc
      cases false e k stay =
          let apart : are_of_one w v ≡ false = nat_eq-sym w.0 v.0 ∙ e in
          let count : count_of all w ≡ count_of (all ++ v ∷ []) w = omega (arith, count-more w, ap one_if apart) in
          let more = stay k in
          λ j. (w.0, record { count = count j; line = w.1 }) ∷ more j

  new-entry : (fs : List Use) (x : Uses) → lookup (nat_eq v.0) (map (entry_of all) fs) ≡ None
      → (set_entry (map (entry_of all) fs) v.0 x ≡ map (entry_of all) fs ++ (v.0, x) ∷ []) × (list_any (are_of_one v) fs ≡ false)
  new-entry [] x h = (refl, refl)
  new-entry (w ∷ ws) x h = cases (are_of_one v w) h (new-entry ws x)
    where
      cases : (b : Bool) → cond b (Some (entry_of all w).1) (lookup (nat_eq v.0) (map (entry_of all) ws)) ≡ None
          → (lookup (nat_eq v.0) (map (entry_of all) ws) ≡ None → (set_entry (map (entry_of all) ws) v.0 x ≡ map (entry_of all) ws ++ (v.0, x) ∷ []) × (list_any (are_of_one v) ws ≡ false))
          → (cond b ((w.0, x) ∷ map (entry_of all) ws) (entry_of all w ∷ set_entry (map (entry_of all) ws) v.0 x) ≡ entry_of all w ∷ (map (entry_of all) ws ++ (v.0, x) ∷ [])) × (b || list_any (are_of_one v) ws ≡ false)
      cases true k more = absurd (some_is k)
        where
          some_is : Some (entry_of all w).1 ≡ None → ⊥
          some_is e = cc
      cases false k more = let m = more k in (ap (λ es. entry_of all w ∷ es) m.0, m.1)

  known-entry : (fs : List Use) (found : Uses) → AreApart fs → lookup (nat_eq v.0) (map (entry_of all) fs) ≡ Some found
      → (set_entry (map (entry_of all) fs) v.0 (record { count = found.count + 1; line = found.line }) ≡ map (entry_of (all ++ v ∷ [])) fs) × (list_any (are_of_one v) fs ≡ true)
  known-entry [] found apart h = cc
  known-entry (w ∷ ws) found apart h = cases (are_of_one v w) refl h (known-entry ws found apart.1)
    where
      x : Uses
      x = record { count = found.count + 1; line = found.line }

      cases : (b : Bool) → are_of_one v w ≡ b → cond b (Some (entry_of all w).1) (lookup (nat_eq v.0) (map (entry_of all) ws)) ≡ Some found
          → (lookup (nat_eq v.0) (map (entry_of all) ws) ≡ Some found → (set_entry (map (entry_of all) ws) v.0 x ≡ map (entry_of (all ++ v ∷ [])) ws) × (list_any (are_of_one v) ws ≡ true))
          → (cond b ((w.0, x) ∷ map (entry_of all) ws) (entry_of all w ∷ set_entry (map (entry_of all) ws) v.0 x) ≡ map (entry_of (all ++ v ∷ [])) (w ∷ ws)) × (b || list_any (are_of_one v) ws ≡ true)
      cases true e k more =
          let is : (entry_of all w).1 ≡ found = cc in
          let others = entries-stay ws (any-same e apart.0) in
          let counted : count_of all w ≡ found.count = ap (λ f. f.count) is in
          let same : found.count + 1 ≡ count_of (all ++ v ∷ []) w = omega (arith, counted, count-more w, ap one_if (nat_eq-sym w.0 v.0 ∙ e)) in
          let line : found.line ≡ w.1 = ap (λ f. f.line) (sym is) in
          (λ j. (w.0, record { count = same j; line = line j }) ∷ others j, refl)
        where
          any-same : are_of_one v w ≡ true → list_any (are_of_one w) ws ≡ false → list_any (are_of_one v) ws ≡ false
          any-same e none = ap (λ c. list_any (λ u. nat_eq c u.0) ws) (eqb-true v.0 w.0 e) ∙ none
      cases false e k more =
          let m = more k in
          let count : count_of all w ≡ count_of (all ++ v ∷ []) w = omega (arith, count-more w, ap one_if (nat_eq-sym w.0 v.0 ∙ e)) in
          (λ j. (w.0, record { count = count j; line = w.1 }) ∷ m.0 j, m.1)

  -- a new character is noted last
  entries-new : lookup (nat_eq v.0) (entries_of all) ≡ None
      → (set_entry (entries_of all) v.0 (record { count = 1; line = v.1 }) ≡ entries_of (all ++ v ∷ [])) × (characters_of (all ++ v ∷ []) ≡ characters_of all ++ v.0 ∷ [])
  entries-new h =
      let x : Uses = record { count = 1; line = v.1 } in
      let fs = first_uses all in
      let new = new-entry fs x h in
      let zero_before = none-counted all v new.1 in
      let count : 1 ≡ count_of (all ++ v ∷ []) v = omega (arith, zero_before, count-more v, ap one_if (nat_eq-itself v.0)) in
      let entry : (v.0, x) ≡ entry_of (all ++ v ∷ []) v = λ j. (v.0, record { count = count j; line = v.1 }) in
      let more : first_uses (all ++ v ∷ []) ≡ fs ++ v ∷ [] = first_uses-more all v ∙ ap (λ b. cond b fs (fs ++ v ∷ [])) new.1 in (
        new.0 ∙ ap (λ es. es ++ (v.0, x) ∷ []) (entries-stay fs new.1)
            ∙ ap (λ e. map (entry_of (all ++ v ∷ [])) fs ++ e ∷ []) entry ∙ sym (map-append (entry_of (all ++ v ∷ [])) fs (v ∷ []))
            ∙ ap (map (entry_of (all ++ v ∷ []))) (sym more),
        ap (map character_of) more ∙ map-append character_of fs (v ∷ []),
      )

  -- a character is noted again where it was
  entries-again : (found : Uses) → lookup (nat_eq v.0) (entries_of all) ≡ Some found
      → (set_entry (entries_of all) v.0 (record { count = found.count + 1; line = found.line }) ≡ entries_of (all ++ v ∷ [])) × (characters_of (all ++ v ∷ []) ≡ characters_of all)
  entries-again found h =
      let fs = first_uses all in
      let known = known-entry fs found (first-apart all) h in
      let more : first_uses (all ++ v ∷ []) ≡ fs = first_uses-more all v ∙ ap (λ b. cond b fs (fs ++ v ∷ [])) known.1 in
      (known.0 ∙ ap (map (entry_of (all ++ v ∷ []))) (sym more), ap (map character_of) more)

  -- what is found of each character, after this of one of them
  found-set : (x : Uses) (m n : BTreeMap ℕ Uses) → ((q : ℕ) → get_by (nat_cmp q) m ≡ lookup (nat_eq q) (entries_of all))
      → ((q : ℕ) → get_by (nat_cmp q) n ≡ cond (is_at (nat_cmp v.0) q) (Some x) (get_by (nat_cmp q) m)) → set_entry (entries_of all) v.0 x ≡ entries_of (all ++ v ∷ [])
      → (q : ℕ) → get_by (nat_cmp q) n ≡ lookup (nat_eq q) (entries_of (all ++ v ∷ []))
  found-set x m n before updates same q =
      updates q ∙ ap (λ b. cond b (Some x) (get_by (nat_cmp q) m)) (is_eq-nat_eq v.0 q) ∙ ap (cond (nat_eq v.0 q) (Some x)) (before q) ∙ sym (lookup-set (entries_of all) v.0 q x)
      ∙ ap (lookup (nat_eq q)) same

  -- a new character was noted
  pub noted-new : (old new : Noted) → IsNoted all old → get_by (nat_cmp v.0) old.found ≡ None → new.order.items ≡ old.order.items ++ v.0 ∷ []
      → ((q : ℕ) → get_by (nat_cmp q) new.found ≡ cond (is_at (nat_cmp v.0) q) (Some (record { count = 1; line = v.1 })) (get_by (nat_cmp q) old.found)) → IsNoted (all ++ v ∷ []) new
  noted-new old new noted none order updates =
      let is = entries-new (sym (noted.each v.0) ∙ none) in
      record {
        order = order ∙ ap (λ cs. cs ++ v.0 ∷ []) noted.order ∙ sym is.1;
        each = found-set (record { count = 1; line = v.1 }) old.found new.found noted.each updates is.0;
      }

  -- a character was noted again
  pub noted-again : (old new : Noted) (found : Uses) → IsNoted all old → get_by (nat_cmp v.0) old.found ≡ Some found → new.order.items ≡ old.order.items
      → ((q : ℕ) → get_by (nat_cmp q) new.found ≡ cond (is_at (nat_cmp v.0) q) (Some (record { count = found.count + 1; line = found.line })) (get_by (nat_cmp q) old.found)) → IsNoted (all ++ v ∷ []) new
  noted-again old new found noted there order updates =
      let is = entries-again found (sym (noted.each v.0) ∙ there) in
      record {
        order = order ∙ noted.order ∙ sym is.1;
        each = found-set (record { count = found.count + 1; line = found.line }) old.found new.found noted.each updates is.0;
      }

-- a count is at most the number of uses
pub few-found : (all : List Use) (c : ℕ) (noted : Noted) (found : Uses) → IsNoted all noted → get_by (nat_cmp c) noted.found ≡ Some found → found.count ≤ length all
few-found all c noted found is there = among (first_uses all) (sym (is.each c) ∙ there)
  where
    among : (fs : List Use) → lookup (nat_eq c) (map (entry_of all) fs) ≡ Some found → found.count ≤ length all
    among [] k = cc
    among (w ∷ ws) k = cases (nat_eq c w.0) k (among ws)
      where
        cases : (b : Bool) → cond b (Some (entry_of all w).1) (lookup (nat_eq c) (map (entry_of all) ws)) ≡ Some found → (lookup (nat_eq c) (map (entry_of all) ws) ≡ Some found → found.count ≤ length all) → found.count ≤ length all
        cases true k more =
            let is : (entry_of all w).1 ≡ found = cc in
            let counted : count_of all w ≡ found.count = ap (λ f. f.count) is in
            let few = count_by-le-length (are_of_one w) all in
            omega (arith, counted, few)
        cases false k more = more k

-- ---- The list

-- a character in the list, where something was found of it
abbrev pub listed : ℕ → Option Uses → List Lacking
listed c found = option_map_or (λ (f : Uses). record { character = c; count = f.count; line = f.line } ∷ []) found []

abbrev lacking_use : List Use → Use → Lacking
lacking_use all one = record { character = one.0; count = count_of all one; line = one.1 }

module _ (all : List Use) where
  -- another entry first changes nothing for others
  listed-behind : (e : ℕ × Uses) (es : List (ℕ × Uses)) (w : Use) (xs : List Use) → e.0 ≡ w.0 → list_any (are_of_one w) xs ≡ false
      → flat_map (λ c. listed c (lookup (nat_eq c) (e ∷ es))) (map character_of xs) ≡ flat_map (λ c. listed c (lookup (nat_eq c) es)) (map character_of xs)
  listed-behind e es w [] is h = refl
  listed-behind e es w (x ∷ xs) is h = cases (are_of_one w x) refl h (listed-behind e es w xs is)
    where
      cases : (b : Bool) → are_of_one w x ≡ b → b || list_any (are_of_one w) xs ≡ false
          → (list_any (are_of_one w) xs ≡ false → flat_map (λ c. listed c (lookup (nat_eq c) (e ∷ es))) (map character_of xs) ≡ flat_map (λ c. listed c (lookup (nat_eq c) es)) (map character_of xs))
          → listed x.0 (cond (nat_eq x.0 e.0) (Some e.1) (lookup (nat_eq x.0) es)) ++ flat_map (λ c. listed c (lookup (nat_eq c) (e ∷ es))) (map character_of xs)
          ≡ listed x.0 (lookup (nat_eq x.0) es) ++ flat_map (λ c. listed c (lookup (nat_eq c) es)) (map character_of xs)
      cases true apart k more = cc
      cases false apart k more =
          let other : nat_eq x.0 e.0 ≡ false = ap (nat_eq x.0) is ∙ nat_eq-sym x.0 w.0 ∙ apart in
          ap (λ b. listed x.0 (cond b (Some e.1) (lookup (nat_eq x.0) es)) ++ flat_map (λ c. listed c (lookup (nat_eq c) (e ∷ es))) (map character_of xs)) other
          ∙ ap (λ rest. listed x.0 (lookup (nat_eq x.0) es) ++ rest) (more k)

  -- of each character there is its entry
  listed-all : (fs : List Use) → AreApart fs → flat_map (λ c. listed c (lookup (nat_eq c) (map (entry_of all) fs))) (map character_of fs) ≡ map (lacking_use all) fs
  listed-all [] apart = refl
  listed-all (w ∷ ws) apart =
      ap (λ b. listed w.0 (cond b (Some (entry_of all w).1) (lookup (nat_eq w.0) (map (entry_of all) ws))) ++ flat_map (λ c. listed c (lookup (nat_eq c) (entry_of all w ∷ map (entry_of all) ws))) (map character_of ws)) (nat_eq-itself w.0)
      ∙ ap (λ rest. lacking_use all w ∷ rest) (listed-behind (entry_of all w) (map (entry_of all) ws) w ws refl apart.0 ∙ listed-all ws apart.1)

  listed-same : (found : BTreeMap ℕ Uses) (es : List (ℕ × Uses)) → ((c : ℕ) → get_by (nat_cmp c) found ≡ lookup (nat_eq c) es) → (cs : List ℕ)
      → flat_map (λ c. listed c (get_by (nat_cmp c) found)) cs ≡ flat_map (λ c. listed c (lookup (nat_eq c) es)) cs
  listed-same found es same [] = refl
  listed-same found es same (c ∷ cs) = ap (λ f. listed c f ++ flat_map (λ c. listed c (get_by (nat_cmp c) found)) cs) (same c) ∙ ap (λ rest. listed c (lookup (nat_eq c) es) ++ rest) (listed-same found es same cs)

  pub noted-listed : (noted : Noted) → IsNoted all noted → flat_map (λ c. listed c (get_by (nat_cmp c) noted.found)) noted.order.items ≡ summary all
  noted-listed noted is =
      ap (flat_map (λ c. listed c (get_by (nat_cmp c) noted.found))) is.order ∙ listed-same noted.found (entries_of all) is.each (characters_of all)
      ∙ listed-all (first_uses all) (first-apart all)

-- one character more of the list
pub listed-more : (found : BTreeMap ℕ Uses) (cs : List ℕ) (i c : ℕ) → i < length cs → c ≡ get_or cs i c
    → flat_map (λ c. listed c (get_by (nat_cmp c) found)) (take (i + 1) cs) ≡ flat_map (λ c. listed c (get_by (nat_cmp c) found)) (take i cs) ++ listed c (get_by (nat_cmp c) found)
listed-more found cs i c within is =
    ap (flat_map (λ c. listed c (get_by (nat_cmp c) found))) (take_more cs i c within ∙ ap (λ x. take i cs ++ x ∷ []) (sym is))
    ∙ flat_map-append (λ c. listed c (get_by (nat_cmp c) found)) (take i cs) (c ∷ []) ∙ ap (λ rest. flat_map (λ c. listed c (get_by (nat_cmp c) found)) (take i cs) ++ rest) (append-nil (listed c (get_by (nat_cmp c) found)))

pub lacking_of-is : (t : TableView) (lines : List (List ℕ)) → lacking_of t lines ≡ summary (uses_from t 1 lines)
unfolding lacking_of
lacking_of-is t lines = refl

-- ---- The uses of one more line

abbrev in_line : ℕ → ℕ → Use
in_line number c = (c, number)

pub uses_in-few : (t : TableView) (number : ℕ) (text : List ℕ) → length (uses_in t number text) ≤ length text
uses_in-few t number [] = omega arith
uses_in-few t number (c ∷ cs) = cases (is_defined t c) (uses_in-few t number cs)
  where
    cases : (b : Bool) → length (uses_in t number cs) ≤ length cs → length (map (in_line number) (cond (not b) (c ∷ filter (λ c. not (is_defined t c)) cs) (filter (λ c. not (is_defined t c)) cs))) ≤ length (c ∷ cs)
    cases true more = omega (arith, more)
    cases false more = omega (arith, more)

-- a text whose characters are all defined has no such uses
pub uses_in-text : (t : TableView) (number : ℕ) (text : List ℕ) → is_text t text ≡ true → uses_in t number text ≡ []
uses_in-text t number [] h = refl
uses_in-text t number (c ∷ cs) h = cases (is_defined t c) h (uses_in-text t number cs)
  where
    cases : (b : Bool) → b && is_text t cs ≡ true → (is_text t cs ≡ true → uses_in t number cs ≡ []) → map (in_line number) (cond (not b) (c ∷ filter (λ c. not (is_defined t c)) cs) (filter (λ c. not (is_defined t c)) cs)) ≡ []
    cases true k more = more k
    cases false k more = cc

pub uses_from-more : (t : TableView) (number : ℕ) (lines : List (List ℕ)) (line : List ℕ) → uses_from t number (lines ++ line ∷ []) ≡ uses_from t number lines ++ uses_in t (number + length lines) (chars line)
uses_from-more t number [] line = append-nil (uses_in t number (chars line)) ∙ ap (λ n. uses_in t n (chars line)) (omega arith)
uses_from-more t number (l ∷ ls) line =
    ap (λ us. uses_in t number (chars l) ++ us) (uses_from-more t (number + 1) ls line) ∙ sym (append_assoc (uses_in t number (chars l)) (uses_from t (number + 1) ls) (uses_in t ((number + 1) + length ls) (chars line)))
    ∙ ap (λ n. (uses_in t number (chars l) ++ uses_from t (number + 1) ls) ++ uses_in t n (chars line)) (omega arith)

-- ---- A text has at most as many characters as bytes

chars_after-few : (n c : ℕ) (bs : List ℕ) → length (chars_after n c bs) ≤ length bs + 1
chars_after-few zero c [] = omega arith
chars_after-few zero c (b ∷ bs) = let more = chars_after-few (continuation_len b) (lead_bits b) bs in omega (arith, more)
chars_after-few (suc n) c [] = omega arith
chars_after-few (suc n) c (b ∷ bs) = let more = chars_after-few n (c * 64 + (b - 128)) bs in omega (arith, more)

chars-first : (b : ℕ) (bs : List ℕ) → chars (b ∷ bs) ≡ chars_after (continuation_len b) (lead_bits b) bs
unfolding chars
chars-first b bs = refl

pub chars-few : (bs : List ℕ) → length (chars bs) ≤ length bs
chars-few [] = let none = ap length chars-nil in omega (arith, none)
chars-few (b ∷ bs) = let count = ap length (chars-first b bs) in let few = chars_after-few (continuation_len b) (lead_bits b) bs in omega (arith, count, few)
