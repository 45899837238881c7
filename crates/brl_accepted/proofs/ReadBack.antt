-- What is written for pairs of rules and sets of characters is read back.
use Rattle.std.proofs.Common.{◌≡◌, ◌∙◌, ◌<◌, ◌+◌, ◌-◌, ◌++◌, ◌&&◌, ◌||◌, ◌==◌, ℕ, zero, suc, All, Bool, true, false, cond, List, [], ◌∷◌, Option, None, Some, ap, append_assoc, arith, codes, encode_utf8_all, filter, flat_map, get_or, is_some, if◌then◌else◌, length, map, nat_eq, nat_lt, not, refl, sym}
use Rattle.std.specs.List.{count_by, list_any, slice_split}
use Rattle.std.specs.Str.{all_scalars, bytes_eq}
use Rattle.std.specs.Str.Lines.{lines, lines_of_parts, strip_carriage_return}
use Rattle.std.proofs.lemmas.Bool.{and_from, ne_eqb, not_from_false, or_left, or_right}
use Rattle.std.proofs.lemmas.Bool.Decides.{nat_tests}
use Rattle.std.proofs.lemmas.Bool.Decides.{Decides-eqb}
use Rattle.std.proofs.lemmas.List.{map-append, map-id}
use Rattle.std.proofs.lemmas.Simd.{map-map}
use Rattle.std.proofs.lemmas.List.FromFn.{get_or-range_with_len, length-range_with_len}
use Rattle.std.proofs.lemmas.List.Concat.{flat_map-append}
use Rattle.std.proofs.lemmas.List.Elements.{All-append, All-filter, All-from_recursion, All-map, filter_passes, recursion_from_All}
use Rattle.std.proofs.lemmas.List.Folds.{list_any-append, list_any_at}
use Rattle.std.proofs.lemmas.List.Splits.{slice_split_at}
use Rattle.std.proofs.lemmas.List.Sums.{sum_by-cons}
use Rattle.std.proofs.lemmas.Slice.Eq.{bytes_eq-Decides}
use Rattle.brl_accepted.specs.Pairs.{between, pair_line, pairs_of_line, pairs_text, pairs_with, said}
use Rattle.brl_accepted.specs.Reading.{AreOfTable, IsReadBack, Named, Names, excused_by, fault_of_pairs, if_whole, is_excused, is_note, named, named_by, named_by_pairs, named_by_seen, named_by_set, named_sets, nothing_named, rows, unless}
use Rattle.brl_accepted.specs.Sets.{are_in_one_set, exchange, is_exchange, is_within, named_set, pairs_of_sets, set_line, set_pairs}
use Rattle.brl_accepted.specs.Writing.{accepted_text, is_listed_set, listed_sets, pairs_beside, sets_text, whole_set_line}
use Rattle.brl_accepted.specs.declared.fault.ExcuseFaultKind.TheVariants.{NoSuchSet, NotListed}
use Rattle.brl_accepted.proofs.Plain.{set_above}
use Rattle.brl_accepted.proofs.Seen.{IsSeen, StartsLow, low_before, seen_append, seen_codes, seen_same, seen_text}
use Rattle.brl_accepted.proofs.SetLemmas.{of_two, set_back, within_itself}
use Rattle.brl_cert.proofs.Again.{first_part}
use Rattle.brl_cert.proofs.FieldLaws.{IsAbove, above_append, above_true, apart, lower}
use Rattle.brl_lines.specs.Rows.{without_mark}
use Rattle.brl_lines.specs.Visible.{visible_line, visible_text}
use Rattle.brl_pairs.specs.Divergence.{are_rules, has_rules}
use Rattle.brl_report.proofs.Mapped.{any_of_map}
use Rattle.brl_pairs.specs.declared.excused.Excused.{Excused}
use Rattle.brl_report.specs.Rules.{rule_count, rule_numbers}
use Rattle.brl_rules.specs.TableView.{TableView}

-- a filter keeps what passes
kept : {A : Type 0} (p : A → Bool) (xs : List A) → All (λ x. p x ≡ true) xs → filter p xs ≡ xs
kept p [] all = refl
kept p (x ∷ xs) all = rw (all 0 x (omega arith)) (ap (λ rest. x ∷ rest) (kept p xs (λ k d within. all (suc k) d (omega (arith, within)))))

-- where no element passes, none is counted
none_counted : {A : Type 0} (p : A → Bool) (xs : List A) → All (λ x. p x ≡ false) xs → count_by p xs ≡ 0
none_counted p [] all = refl
none_counted {A} p (x ∷ xs) all =
    sum_by-cons (λ (y : A). cond (p y) 1 0) x xs ∙ rw (all 0 x (omega arith), none_counted p xs (λ k d within. all (suc k) d (omega (arith, within)))) refl

-- what passes two tests is among what passes the first
any_kept : {A : Type 0} (p q : A → Bool) (xs : List A) (k : ℕ) (d : A) → k < length xs → p (get_or xs k d) ≡ true → q (get_or xs k d) ≡ true → list_any q (filter p xs) ≡ true
any_kept p q [] k d within one other = absurd (omega (arith, within))
any_kept p q (x ∷ xs) zero d within one other = rw one (or_left (q x) (list_any q (filter p xs)) other)
any_kept p q (x ∷ xs) (suc k) d within one other = cases (p x) (any_kept p q xs k d (omega (arith, within)) one other)
  where
    cases : (b : Bool) → list_any q (filter p xs) ≡ true → list_any q (cond b (x ∷ filter p xs) (filter p xs)) ≡ true
    cases true found = or_right (q x) (list_any q (filter p xs)) found
    cases false found = found

-- a test of lists that are joined
any_of_flat_map : {A B : Type 0} (q : B → Bool) (f : A → List B) (xs : List A) → list_any q (flat_map f xs) ≡ list_any (λ x. list_any q (f x)) xs
any_of_flat_map q f [] = refl
any_of_flat_map q f (x ∷ xs) = list_any-append q (f x) (flat_map f xs) ∙ ap (λ rest. list_any q (f x) || rest) (any_of_flat_map q f xs)

-- two maps that agree
same_mapped : {A B : Type 0} (f g : A → B) (xs : List A) → All (λ x. f x ≡ g x) xs → map f xs ≡ map g xs
same_mapped f g [] all = refl
same_mapped f g (x ∷ xs) all = λ i. all 0 x (omega arith) i ∷ same_mapped f g xs (λ k d within. all (suc k) d (omega (arith, within))) i

-- ---- Lines

-- a line of bytes that are no control characters ends with no carriage return
ends_plain : (line : List ℕ) → IsAbove 31 line → strip_carriage_return line ≡ line
ends_plain [] plain = refl
ends_plain (b ∷ line) plain =
    let bytes = b ∷ line in
    let last : 31 < get_or bytes (length bytes - 1) 0 = All-from_recursion (λ c. 31 < c) bytes plain (length bytes - 1) 0 (omega arith) in
    let other : nat_eq (get_or bytes (length bytes - 1) 0) 13 ≡ false = grind (arith, nat_tests) in
    rw other refl

-- a line before others
line_before : (line rest : List ℕ) → IsAbove 31 line → lines ((line ++ codes "\n") ++ rest) ≡ line ∷ lines rest
line_before line rest plain =
    let (part, parts, is) = first_part 10 rest in
    let split : slice_split (λ b. b == 10) ((line ++ codes "\n") ++ rest) ≡ line ∷ slice_split (λ b. b == 10) rest =
    ap (slice_split (λ b. b == 10)) (append_assoc line (codes "\n") rest) ∙ slice_split_at (λ b. b == 10) line 10 rest (apart 10 line (lower 10 31 (omega arith) line plain)) refl in
    ap lines_of_parts (split ∙ ap (λ (ps : List (List ℕ)). line ∷ ps) is) ∙ (λ i. ends_plain line plain i ∷ lines_of_parts (part ∷ parts)) ∙ ap (λ (ps : List (List ℕ)). line ∷ lines_of_parts ps) (sym is)

-- the lines of sets before others
sets_before : (sets : List (List ℕ)) (rest : List ℕ) → lines (sets_text sets ++ rest) ≡ map set_line sets ++ lines rest
sets_before [] rest = refl
sets_before (set ∷ sets) rest =
    ap lines (append_assoc (whole_set_line set) (sets_text sets) rest)
    ∙ line_before (set_line set) (sets_text sets ++ rest) (set_above set)
    ∙ ap (λ (ls : List (List ℕ)). set_line set ∷ ls) (sets_before sets rest)

-- a text that begins with a mark of ASCII, or is empty, begins with no byte order mark
unmarked : (text : List ℕ) → StartsLow text → without_mark text ≡ text
unmarked [] low = refl
unmarked (b ∷ text) low =
    let other : nat_eq b 239 ≡ false = ne_eqb b 239 (λ e. omega (arith, low, e)) in
    rw other refl

module _ (words : List (List ℕ)) (plain : (number : ℕ) → IsAbove 31 (said words number)) (said_seen : (number : ℕ) → IsSeen (said words number)) (low : (number : ℕ) → StartsLow (said words number)) where
  pair_plain : (pair : ℕ × ℕ) → IsAbove 31 (pair_line words pair)
  pair_plain pair = above_append 31 (said words pair.0) (between ++ said words pair.1) (plain pair.0) (above_append 31 between (said words pair.1) (above_true 31 between refl) (plain pair.1))

  pair_seen : (pair : ℕ × ℕ) → IsSeen (pair_line words pair)
  pair_seen pair = seen_append (said words pair.0) (between ++ said words pair.1) (said_seen pair.0) (seen_append between (said words pair.1) (seen_codes between refl) (said_seen pair.1))

  -- the lines of what is written for pairs are the lines of the pairs
  written : (pairs : List (ℕ × ℕ)) → lines (pairs_text words pairs) ≡ map (pair_line words) pairs
  written [] = refl
  written (pair ∷ pairs) = line_before (pair_line words pair) (pairs_text words pairs) (pair_plain pair) ∙ ap (λ (ls : List (List ℕ)). pair_line words pair ∷ ls) (written pairs)

  module _ (t : TableView) (sets : List (List ℕ)) (listed : List (ℕ × ℕ)) (whole : Bool)
      (stand_apart : (pair : ℕ × ℕ) → (is_exchange (pair_line words pair) ≡ false) × (is_note (pair_line words pair) ≡ false))
      (scalars : All (λ set. all_scalars set ≡ true) sets) (of_table : All (AreOfTable t) listed) where
    abbrev shown : List (List ℕ)
    shown = listed_sets t sets listed

    abbrev beside : List (ℕ × ℕ)
    beside = pairs_beside t shown listed

    abbrev names : Names
    names = record { table = t; words = words; sets = sets }

    abbrev written_text : List ℕ
    written_text = accepted_text t words sets listed

    -- the lines of what is written are those of the sets and of the pairs beside them
    begins_low : StartsLow written_text
    begins_low = low_text shown beside
      where
        low_text : (some : List (List ℕ)) (pairs : List (ℕ × ℕ)) → StartsLow (sets_text some ++ pairs_text words pairs)
        low_text [] [] = tt
        low_text [] (pair ∷ pairs) =
            low_before (pair_line words pair ++ codes "\n") (pairs_text words pairs) (low_before (pair_line words pair) (codes "\n") (low_before (said words pair.0) (between ++ said words pair.1) (low pair.0) (omega arith)) (omega arith)) (low_text [] pairs)
        low_text (set ∷ some) pairs = omega arith

    lines_are : rows written_text ≡ map set_line shown ++ map (pair_line words) beside
    lines_are =
        ap lines (unmarked written_text begins_low)
        ∙ sets_before shown (pairs_text words beside) ∙ ap (λ (ls : List (List ℕ)). map set_line shown ++ ls) (written beside)

    -- ---- What they name

    abbrev list : Option (List (ℕ × ℕ))
    list = if_whole whole listed

    -- the line of a set names the set
    abbrev set_of : List ℕ → Named
    set_of set = record { pairs = []; set = set; fault = None }

    set_named : (set : List ℕ) → all_scalars set ≡ true → are_in_one_set sets set ≡ true → named_by names list (set_line set) ≡ set_of set
    set_named set s is =
        ap (named_by_seen names list) (seen_same (set_line set) (seen_append exchange (encode_utf8_all (visible_text set)) (seen_codes exchange refl) (seen_text set s)))
        ∙ ap (named_by_set sets) (set_back set s) ∙ ap (λ (one : Bool). unless (if one then None else Some NoSuchSet) (set_of set)) is

    -- it has two characters or more
    set_there : (k : ℕ) (d : List ℕ) → k < length shown → are_in_one_set sets (get_or shown k d) ≡ true
    set_there k d within =
        let set = get_or shown k d in
        let there : All (λ one. list_any (λ other. is_within other one) sets ≡ true) sets =
        (λ j e inside. list_any_at (λ other. is_within other (get_or sets j e)) sets j e inside (within_itself (get_or sets j e))) in
        and_from (nat_lt 1 (length set)) (list_any (λ one. is_within one set) sets)
        (of_two t set (λ pair. has_rules listed pair.0 pair.1) (filter_passes (is_listed_set t listed) sets k d within))
        (All-filter (is_listed_set t listed) (λ one. list_any (λ other. is_within other one) sets ≡ true) sets there k d within)

    shown_scalars : All (λ set. all_scalars set ≡ true) shown
    shown_scalars = All-filter (is_listed_set t listed) (λ set. all_scalars set ≡ true) sets scalars

    -- the line of a pair is the line of this pair
    line_has : (q : ℕ × ℕ → Bool) (pair : ℕ × ℕ) → AreOfTable t pair → q pair ≡ true → list_any q (pairs_of_line words (rule_numbers t) (pair_line words pair)) ≡ true
    line_has q pair of_both is =
        let numbers = rule_numbers t in
        let line = pair_line words pair in
        let at = λ (n : ℕ) (small : n < rule_count t). get_or-range_with_len 0 (rule_count t) n 0 small ∙ (let e : 0 + n ≡ n = omega arith in e) in
        let inside = λ (n : ℕ) (small : n < rule_count t). (let e : n < length numbers = omega (arith, small, length-range_with_len 0 (rule_count t)) in e) in
        let first : get_or numbers pair.0 0 ≡ pair.0 = at pair.0 of_both.0 in
        let second : get_or numbers pair.1 0 ≡ pair.1 = at pair.1 of_both.1 in
        let with_first : list_any q (pairs_with words numbers line pair.0) ≡ true =
        any_of_map q (λ (s : ℕ). (pair.0, s)) (filter (λ s. bytes_eq line (pair_line words (pair.0, s))) numbers)
        ∙ any_kept (λ (s : ℕ). bytes_eq line (pair_line words (pair.0, s))) (λ (s : ℕ). q (pair.0, s)) numbers pair.1 0 (inside pair.1 of_both.1)
        (ap (λ s. bytes_eq line (pair_line words (pair.0, s))) second ∙ (bytes_eq-Decides line line).1 refl) (ap (λ s. q (pair.0, s)) second ∙ is) in
        any_of_flat_map q (pairs_with words numbers line) numbers
        ∙ list_any_at (λ (r : ℕ). list_any q (pairs_with words numbers line r)) numbers pair.0 0 (inside pair.0 of_both.0) (ap (λ r. list_any q (pairs_with words numbers line r)) first ∙ with_first)

    same_rules : (pair : ℕ × ℕ) → are_rules pair.0 pair.1 pair ≡ true
    same_rules pair = rw ((Decides-eqb pair.0 pair.0).1 refl, (Decides-eqb pair.1 pair.1).1 refl) refl

    abbrev pairs_of : ℕ × ℕ → Named
    pairs_of pair = record { pairs = pairs_of_line words (rule_numbers t) (pair_line words pair); set = []; fault = None }

    no_fault : (pairs : List (ℕ × ℕ)) → list_any (λ pair. has_rules listed pair.0 pair.1) pairs ≡ true → fault_of_pairs list pairs ≡ None
    no_fault [] some = absurd cc
    no_fault (pair ∷ pairs) some = cases whole
      where
        cases : (b : Bool) → fault_of_pairs (if_whole b listed) (pair ∷ pairs) ≡ None
        cases true = ap (λ (one : Bool). if not one then Some NotListed else None) some
        cases false = refl

    pair_named : (pair : ℕ × ℕ) → AreOfTable t pair → has_rules listed pair.0 pair.1 ≡ true → named_by names list (pair_line words pair) ≡ pairs_of pair
    pair_named pair of_both there =
        let line = pair_line words pair in
        ap (λ (note : Bool). if note then nothing_named else named_by_seen names list (visible_line line)) (stand_apart pair).1
        ∙ ap (named_by_seen names list) (seen_same line (pair_seen pair))
        ∙ ap (λ (set : Bool). if set then named_by_set sets (named_set line) else named_by_pairs list (pairs_of_line words (rule_numbers t) line)) (stand_apart pair).0
        ∙ ap (λ fault. unless fault (pairs_of pair)) (no_fault (pairs_of pair).pairs (line_has (λ one. has_rules listed one.0 one.1) pair of_both there))

    listed_there : (k : ℕ) (d : ℕ × ℕ) → k < length listed → has_rules listed (get_or listed k d).0 (get_or listed k d).1 ≡ true
    listed_there k d within = list_any_at (are_rules (get_or listed k d).0 (get_or listed k d).1) listed k d within (same_rules (get_or listed k d))

    abbrev results : List Named
    results = map set_of shown ++ map pairs_of beside

    named_are : named names list written_text ≡ results
    named_are =
        let by = named_by names list in
        ap (map by) lines_are ∙ map-append by (map set_line shown) (map (pair_line words) beside)
        ∙ (λ i. (map-map by set_line shown ∙ same_mapped (λ set. by (set_line set)) set_of shown (λ k d within. set_named (get_or shown k d) (shown_scalars k d within) (set_there k d within))) i
        ++ (map-map by (pair_line words) beside ∙ same_mapped (λ pair. by (pair_line words pair)) pairs_of beside (All-filter _ (λ pair. by (pair_line words pair) ≡ pairs_of pair) listed
        (λ k d within. pair_named (get_or listed k d) (of_table k d within) (listed_there k d within)))) i)

    -- ---- Each listed pair is excused

    abbrev of_sets : List (ℕ × ℕ)
    of_sets = pairs_of_sets t shown

    abbrev excused : Excused
    excused = excused_by names list written_text

    -- a pair of a set by the line of the set
    by_set : (pair : ℕ × ℕ) → has_rules of_sets pair.0 pair.1 ≡ true → has_rules excused.exchanged pair.0 pair.1 ≡ true
    by_set pair of_set =
        let set = λ (line : Named). line.set in
        let rest = map set (map pairs_of beside) in
        let sets_are : named_sets names list written_text ≡ shown ++ rest = ap (map set) named_are ∙ map-append set (map set_of shown) (map pairs_of beside) ∙ ap (λ ls. ls ++ rest) (map-map set set_of shown ∙ map-id shown) in
        ap (λ ls. has_rules (pairs_of_sets t ls) pair.0 pair.1) sets_are
        ∙ ap (λ pairs. has_rules pairs pair.0 pair.1) (flat_map-append (set_pairs t) shown rest)
        ∙ list_any-append (are_rules pair.0 pair.1) of_sets (pairs_of_sets t rest)
        ∙ or_left (has_rules of_sets pair.0 pair.1) (has_rules (pairs_of_sets t rest) pair.0 pair.1) of_set

    -- another by its own
    by_line : (k : ℕ) (d : ℕ × ℕ) → k < length listed → has_rules of_sets (get_or listed k d).0 (get_or listed k d).1 ≡ false → has_rules excused.accepted (get_or listed k d).0 (get_or listed k d).1 ≡ true
    by_line k d within none =
        let pair = get_or listed k d in
        let q = are_rules pair.0 pair.1 in
        let by = λ (line : Named). list_any q line.pairs in
        let found : list_any by (map pairs_of beside) ≡ true =
        any_of_map by pairs_of beside
        ∙ any_kept (λ (other : ℕ × ℕ). not (has_rules of_sets other.0 other.1)) (λ (other : ℕ × ℕ). by (pairs_of other)) listed k d within
        (not_from_false (has_rules of_sets pair.0 pair.1) none) (line_has q pair (of_table k d within) (same_rules pair)) in
        any_of_flat_map q (λ (line : Named). line.pairs) (named names list written_text)
        ∙ ap (list_any by) named_are ∙ list_any-append by (map set_of shown) (map pairs_of beside)
        ∙ or_right (list_any by (map set_of shown)) (list_any by (map pairs_of beside)) found

    each_excused : All (λ pair. is_excused excused pair ≡ true) listed
    each_excused k d within =
        let pair = get_or listed k d in
        cases pair (has_rules of_sets pair.0 pair.1) refl (by_line k d within)
      where
        cases : (one : ℕ × ℕ) (b : Bool) → has_rules of_sets one.0 one.1 ≡ b → (has_rules of_sets one.0 one.1 ≡ false → has_rules excused.accepted one.0 one.1 ≡ true) → is_excused excused one ≡ true
        cases one true of_set own = or_right (has_rules excused.accepted one.0 one.1) (has_rules excused.exchanged one.0 one.1) (by_set one of_set)
        cases one false none own = or_left (has_rules excused.accepted one.0 one.1) (has_rules excused.exchanged one.0 one.1) (own none)

    pub read_back : IsReadBack names listed whole written_text
    read_back = record {
      none_stale = ap (count_by (λ (line : Named). is_some line.fault)) named_are
          ∙ none_counted (λ (line : Named). is_some line.fault) results
          (All-append (λ (line : Named). is_some line.fault ≡ false) (map set_of shown) (map pairs_of beside) (All-map (λ (line : Named). is_some line.fault ≡ false) set_of shown (λ k d within. refl))
          (All-map (λ (line : Named). is_some line.fault ≡ false) pairs_of beside (λ k d within. refl)));
      all = kept (is_excused excused) listed each_excused;
    }
