-- Lines are good exactly where two passes over them find no fault.
use Rattle.std.proofs.Common.{ℕ, zero, suc, ◌≤◌, ◌≡◌, Bool, true, false, ◌&&◌, not, cond, List, [], ◌∷◌, ◌++◌, length, map, filter, fold, take, drop, flat_map, slice_get, nat_eq, nat_lt, refl, arith, sym, ap, ◌∙◌, subst, Some, None, Result, Ok, Err, All, append-nil, append_assoc, length-append, eq-eqb}
use Rattle.std.specs.List.{list_all, list_any}
use Rattle.std.specs.Result.{is_ok}
use Rattle.std.proofs.lemmas.Bool.{and_from, and_parts, not-false, not-true, not_from_false, or_from, or_parts}
use Rattle.std.proofs.lemmas.Grind.{flat_map-append}
use Rattle.std.proofs.lemmas.List.{length-map, map-append, nil_from_length, take-append-drop, take_all}
use Rattle.std.proofs.lemmas.List.Elements.{filter-append}
use Rattle.std.proofs.lemmas.List.Folds.{list_all-append, list_any-append}
use Rattle.std.proofs.lemmas.List.Sums.{fold-append}
use Rattle.std.proofs.lemmas.Option.{slice_get_within}
use Rattle.brl_lines.specs.Tokens.{LineView}
use Rattle.brl_rules.specs.Rank.{in_rank, outranks, put_in_rank}
use Rattle.brl_rules.specs.Signs.{is_same_sign, sign_number}
use Rattle.brl_rules.specs.TableView.{TableView}
use Rattle.brl_rules.specs.Text.{is_defined, is_literary, is_text}
use Rattle.brl_rules.specs.declared.rule.Rule.{Rule}
use Rattle.brl_rules.specs.declared.signs.Sign.{Sign}
use Rattle.brl_rules.proofs.Facts.{not_above, not_below}
use Rattle.brl_table.specs.Faults.{PassesAll, PassesFirst, are_too_many, fault_after, has_two_roles, reference_fault, reference_fault_of, repeats_indicator}
use Rattle.brl_table.specs.Items.{Fault}
use Rattle.brl_table.specs.Reading.{AreGood, cells_indicated, characters_table, chars_as, defined_characters, definition_in, definitions, files_of, indicates, insert_new, item_in, items_in, items_of, listed_characters, listed_in, named_in, ok_of, rule_of, table_of, used_in, used_rules}
use Rattle.brl_table.specs.declared.item.Item.{Item}
use Rattle.brl_table.specs.declared.item.Item.TheVariants.{Rules, Indicates, Lists}
use Rattle.brl_table.specs.declared.item.NumericRole.{NumericRole}
use Rattle.brl_table.specs.declared.item.NumericRole.TheVariants.{KeepsMode, NeedsNoContractSign}
use Rattle.brl_table.proofs.CharacterCounts.{length-insert_new}
use Rattle.brl_table.proofs.DefinitionSteps.{count-entries}
use Rattle.brl_table.proofs.IndicatorCells.{HasCells, all-cells, none-give, none-given}
use Rattle.brl_table.proofs.ItemSteps.{AreSame, no_cells-yet}
use Rattle.brl_table.proofs.Places.{at, drop-at, take-at}
use Rattle.brl_table.proofs.SecondPass.{passed_text}
use Rattle.brl_table.proofs.SurveyLaws.{items-more}

-- ---- One more item, and fewer

once-more : AreSame → (items : List Item) (item : Item) → All HasCells items → ((sign : Sign) → length (filter (indicates sign) items) ≤ 1) → repeats_indicator items item ≡ false
    → (sign : Sign) → length (filter (indicates sign) (items ++ item ∷ [])) ≤ 1
once-more same items item some once new sign = rw (filter-append (indicates sign) items (item ∷ [])) (by_item item new)
  where
    as_before : length (filter (indicates sign) items ++ []) ≤ 1
    as_before = rw (append-nil (filter (indicates sign) items)) (once sign)

    by_item : (item : Item) → repeats_indicator items item ≡ false → length (filter (indicates sign) items ++ filter (indicates sign) (item ∷ [])) ≤ 1
    by_item (Indicates other cells) new = by_test (is_same_sign sign other) (same sign other)
      where
        by_test : (b : Bool) → (b ≡ true → sign ≡ other) → length (filter (indicates sign) items ++ cond b (Indicates other cells ∷ []) []) ≤ 1
        by_test true is = rw (none-give sign items some (ap (cells_indicated items) (is refl) ∙ no_cells-yet items other cells new)) (omega arith)
        by_test false is = as_before
    by_item other new = as_before

never-again : (items rest : List Item) (item : Item) → ((sign : Sign) → length (filter (indicates sign) (items ++ item ∷ rest)) ≤ 1) → repeats_indicator items item ≡ false
never-again items rest (Indicates sign cells) once =
    let itself : is_same_sign sign sign ≡ true = eq-eqb (sign_number sign) (sign_number sign) refl in
    let front = filter (indicates sign) items in
    let back = filter (indicates sign) rest in
    let cut : filter (indicates sign) (items ++ Indicates sign cells ∷ rest) ≡ front ++ Indicates sign cells ∷ back =
    filter-append (indicates sign) items (Indicates sign cells ∷ rest) ∙ ap (λ b. front ++ cond b (Indicates sign cells ∷ back) back) itself in
    let none : front ≡ [] = nil_from_length front (omega (arith, once sign, ap length cut, length-append front (Indicates sign cells ∷ back))) in
    ap (λ given. nat_lt 0 (length given)) (none-given sign items none)
never-again items rest other once = refl

grown : (xs ys : List ℕ) → length xs ≤ length (fold (insert_new nat_eq) xs ys)
grown xs [] = omega arith
grown xs (y ∷ ys) = omega (arith, grown (insert_new nat_eq xs y) ys, length-insert_new xs y)

fewer : (items rest : List Item) → are_too_many (items ++ rest) ≡ false → are_too_many items ≡ false
fewer items rest few =
    let count = length (defined_characters (definitions (items ++ rest))) in
    let used = length (used_rules (items ++ rest)) in
    let tests = or_parts (nat_lt 1024 count) (nat_lt 4096 used) few in
    let first = defined_characters (definitions items) in
    let all : defined_characters (definitions (items ++ rest)) ≡ fold (insert_new nat_eq) first (map (λ d. d.character) (definitions rest)) =
    ap defined_characters (flat_map-append definition_in items rest)
    ∙ ap (fold (insert_new nat_eq) []) (map-append (λ d. d.character) (definitions items) (definitions rest))
    ∙ fold-append (insert_new nat_eq) [] (map (λ d. d.character) (definitions items)) (map (λ d. d.character) (definitions rest)) in
    let characters : length first ≤ 1024 = omega (arith, not_below 1024 count tests.0, ap length all, grown first (map (λ d. d.character) (definitions rest))) in
    let rules : length (used_rules items) ≤ 4096 = omega (arith, not_below 4096 used tests.1, ap length (flat_map-append used_in items rest), length-append (used_rules items) (used_rules rest)) in
    or_from (nat_lt 1024 (length first)) (nat_lt 4096 (length (used_rules items))) (not_above 1024 (length first) characters) (not_above 4096 (length (used_rules items)) rules)

-- ---- The first pass

abbrev is-read : List (List ℕ) → LineView → Bool
is-read files line = is_ok (item_in files line)

-- some of the lines of these files are good together
record AreGoodIn (files : List (List ℕ)) (lines : List LineView) : Type 0 where
  each : list_all (is-read files) lines ≡ true
  once : (sign : Sign) → length (filter (indicates sign) (items_of files lines)) ≤ 1
  few : are_too_many (items_of files lines) ≡ false

-- what follows where neither of two tests finds a fault
neither : (first second : Bool) (one other : Fault) → cond first (Some one) (cond second (Some other) None) ≡ None → (first ≡ false) × (second ≡ false)
neither true second one other none = absurd cc
neither false true one other none = absurd cc
neither false false one other none = (refl, refl)

module _ (files : List (List ℕ)) where
  good-more : AreSame → (lines : List LineView) (line : LineView) → AreGoodIn files lines → fault_after (items_of files lines) line (item_in files line) ≡ None → AreGoodIn files (lines ++ line ∷ [])
  good-more same lines line good none = by_read (item_in files line) refl none
    where
      by_read : (read : Result Item Fault) → item_in files line ≡ read → fault_after (items_of files lines) line read ≡ None → AreGoodIn files (lines ++ line ∷ [])
      by_read (Err wrong) is none = absurd cc
      by_read (Ok item) is none =
          let before = items_of files lines in
          let tests = neither (repeats_indicator before item) (are_too_many (before ++ item ∷ [])) _ _ none in
          let more : items_of files (lines ++ line ∷ []) ≡ before ++ item ∷ [] = items-more files lines line ∙ ap (λ read. before ++ ok_of read) is in
          record {
            each = list_all-append (is-read files) lines (line ∷ []) ∙ and_from _ _ good.each (ap (λ (read : Result Item Fault). is_ok read && true) is);
            once = λ sign. subst (λ items. length (filter (indicates sign) items) ≤ 1) (sym more) (once-more same before item (all-cells files lines) good.once tests.0 sign);
            few = ap are_too_many more ∙ tests.1;
          }

  no-fault : (lines : List LineView) (line : LineView) (rest : List LineView) → AreGoodIn files (lines ++ line ∷ rest) → fault_after (items_of files lines) line (item_in files line) ≡ None
  no-fault lines line rest good = by_read (item_in files line) refl
    where
      by_read : (read : Result Item Fault) → item_in files line ≡ read → fault_after (items_of files lines) line read ≡ None
      by_read (Err wrong) is =
          let all = and_parts (list_all (is-read files) lines) (list_all (is-read files) (line ∷ rest)) (sym (list_all-append (is-read files) lines (line ∷ rest)) ∙ good.each) in
          let own = (and_parts (is-read files line) (list_all (is-read files) rest) all.1).0 in
          let no : true ≡ false = sym own ∙ ap is_ok is in absurd cc
      by_read (Ok item) is =
          let before = items_of files lines in
          let later = items_of files rest in
          let all : items_of files (lines ++ line ∷ rest) ≡ before ++ item ∷ later =
          flat_map-append (λ l. ok_of (item_in files l)) lines (line ∷ rest) ∙ ap (λ read. before ++ (ok_of read ++ later)) is in
          let once = never-again before later item (λ sign. subst (λ items. length (filter (indicates sign) items) ≤ 1) all (good.once sign)) in
          let few = fewer (before ++ item ∷ []) later (ap are_too_many (append_assoc before (item ∷ []) later ∙ sym all) ∙ good.few) in
          rw (once, few) refl

-- ---- The second pass

module _ (t : TableView) (files : List (List ℕ)) where
  -- items refer to defined characters alone, and give none of them two roles
  record Refer (items : List Item) : Type 0 where
    known : is_text t (flat_map named_in items) ≡ true
    apart : list_any (is_literary t) (flat_map (listed_in NeedsNoContractSign) items) ≡ false

  roles-are : (role : NumericRole) (chars : List ℕ) → list_any (is_literary t) (chars_as NeedsNoContractSign role chars) ≡ has_two_roles t role chars
  roles-are KeepsMode chars = refl
  roles-are NeedsNoContractSign chars = refl

  one-refers : (line : LineView) (item : Item) → reference_fault t line item ≡ None
      → (is_text t (named_in item) ≡ true) × (list_any (is_literary t) (listed_in NeedsNoContractSign item) ≡ false)
  one-refers line (Rules r) none = (passed_text (is_text t r.chars) _ none, refl)
  one-refers line (Lists l) none =
      let tests = neither (not (is_text t l.chars)) (has_two_roles t l.role l.chars) _ _ none in
      (not-false (is_text t l.chars) tests.0, roles-are l.role l.chars ∙ tests.1)
  one-refers line other none = (refl, refl)

  none-refers : (line : LineView) (item : Item) → is_text t (named_in item) ≡ true → list_any (is_literary t) (listed_in NeedsNoContractSign item) ≡ false → reference_fault t line item ≡ None
  none-refers line (Rules r) known apart = rw known refl
  none-refers line (Lists l) known apart = let two : has_two_roles t l.role l.chars ≡ false = sym (roles-are l.role l.chars) ∙ apart in rw (known, two) refl
  none-refers line other known apart = refl

  abbrev Finds : List LineView → Type 0
  Finds lines = (place : ℕ) (line : LineView) → slice_get lines place ≡ Some line → reference_fault_of t line (item_in files line) ≡ None

  refer-all : (lines : List LineView) → Finds lines → Refer (items_of files lines)
  refer-all [] none = record { known = refl; apart = refl }
  refer-all (line ∷ lines) none = by_read (item_in files line) (none 0 line refl) (refer-all lines (λ place l there. none (suc place) l there))
    where
      by_read : (read : Result Item Fault) → reference_fault_of t line read ≡ None → Refer (items_of files lines) → Refer (ok_of read ++ items_of files lines)
      by_read (Err wrong) none more = more
      by_read (Ok item) none more =
          let own = one-refers line item none in
          record {
            known = list_all-append (is_defined t) (named_in item) (flat_map named_in (items_of files lines)) ∙ and_from _ _ own.0 more.known;
            apart = list_any-append (is_literary t) (listed_in NeedsNoContractSign item) (flat_map (listed_in NeedsNoContractSign) (items_of files lines)) ∙ or_from _ _ own.1 more.apart;
          }

  find-none : (lines : List LineView) → Refer (items_of files lines) → Finds lines
  find-none [] refer place line there = absurd cc
  find-none (first ∷ lines) refer place line there = by_read (item_in files first) refl refer (λ rest k. find-none lines rest k line) place there
    where
      here : first ≡ line → (read : Result Item Fault) → item_in files first ≡ read → reference_fault_of t first read ≡ None → reference_fault_of t line (item_in files line) ≡ None
      here same read is none = ap (λ l. reference_fault_of t l (item_in files l)) (sym same) ∙ ap (reference_fault_of t first) is ∙ none

      by_read : (read : Result Item Fault) → item_in files first ≡ read → Refer (ok_of read ++ items_of files lines)
          → (Refer (items_of files lines) → (k : ℕ) → slice_get lines k ≡ Some line → reference_fault_of t line (item_in files line) ≡ None)
          → (k : ℕ) → slice_get (first ∷ lines) k ≡ Some line → reference_fault_of t line (item_in files line) ≡ None
      by_read (Err wrong) is refer later zero there = here (cc) (Err wrong) is refl
      by_read (Err wrong) is refer later (suc k) there = later refer k there
      by_read (Ok item) is refer later k there = by_place k there
        where
          texts : (is_text t (named_in item) ≡ true) × (is_text t (flat_map named_in (items_of files lines)) ≡ true)
          texts = and_parts (is_text t (named_in item)) (is_text t (flat_map named_in (items_of files lines)))
              (sym (list_all-append (is_defined t) (named_in item) (flat_map named_in (items_of files lines))) ∙ refer.known)

          roles : (list_any (is_literary t) (listed_in NeedsNoContractSign item) ≡ false) × (list_any (is_literary t) (flat_map (listed_in NeedsNoContractSign) (items_of files lines)) ≡ false)
          roles = or_parts (list_any (is_literary t) (listed_in NeedsNoContractSign item)) (list_any (is_literary t) (flat_map (listed_in NeedsNoContractSign) (items_of files lines)))
              (sym (list_any-append (is_literary t) (listed_in NeedsNoContractSign item) (flat_map (listed_in NeedsNoContractSign) (items_of files lines))) ∙ refer.apart)

          by_place : (k : ℕ) → slice_get (first ∷ lines) k ≡ Some line → reference_fault_of t line (item_in files line) ≡ None
          by_place zero there = here (cc) (Ok item) is (none-refers first item texts.0 roles.0)
          by_place (suc k) there = later (record { known = texts.1; apart = roles.1 }) k there

-- ---- Both passes

length-put : (r : Rule) (rules : List Rule) → length (put_in_rank r rules) ≡ suc (length rules)
length-put r [] = refl
length-put r (s ∷ rules) = by_rank (outranks s r) (length-put r rules)
  where
    by_rank : (higher : Bool) → length (put_in_rank r rules) ≡ suc (length rules) → length (cond higher (s ∷ put_in_rank r rules) (r ∷ s ∷ rules)) ≡ suc (suc (length rules))
    by_rank true more = ap (λ n. suc n) more
    by_rank false more = refl

length-in_rank : (rules : List Rule) → length (in_rank rules) ≡ length rules
length-in_rank [] = refl
length-in_rank (r ∷ rules) = length-put r (in_rank rules) ∙ ap (λ n. suc n) (length-in_rank rules)

module _ (same : AreSame) (lines : List LineView) where
  abbrev files : List (List ℕ)
  files = files_of lines

  abbrev items : List Item
  items = items_in lines

  abbrev characters : TableView
  characters = characters_table files items

  count-characters : length (table_of lines).characters ≡ length (defined_characters (definitions items))
  count-characters = count-entries (definitions items) (listed_characters items)

  count-rules : length (table_of lines).rules ≡ length (used_rules items)
  count-rules = length-in_rank (map (rule_of characters) (used_rules items)) ∙ length-map (used_rules items) (rule_of characters)

  good-to : PassesFirst lines → (place : ℕ) → place ≤ length lines → AreGoodIn files (take place lines)
  good-to passes zero within = record { each = refl; once = λ sign. omega arith; few = refl }
  good-to passes (suc place) within =
      let (line, there) = at lines place (omega arith) in
      let before = good-to passes place (omega arith) in
      subst (AreGoodIn files) (sym (take-at lines place line there)) (good-more files same (take place lines) line before (passes place line (omega arith) there))

  good-where_passed : PassesAll lines → AreGood lines
  good-where_passed passes =
      let first = subst (AreGoodIn files) (take_all (length lines) lines (omega arith)) (good-to passes.first (length lines) (omega arith)) in
      let refer = refer-all characters files lines (λ place line there. passes.second place line (slice_get_within lines place line there) there) in
      let few = or_parts (nat_lt 1024 (length (defined_characters (definitions items)))) (nat_lt 4096 (length (used_rules items))) first.few in
      record {
        each = first.each;
        once = first.once;
        few_characters = omega (arith, count-characters, not_below 1024 (length (defined_characters (definitions items))) few.0);
        few_rules = omega (arith, count-rules, not_below 4096 (length (used_rules items)) few.1);
        known = refer.known;
        apart = not_from_false _ refer.apart;
      }

  passed-where_good : AreGood lines → PassesAll lines
  passed-where_good good =
      let few_characters : length (defined_characters (definitions items)) ≤ 1024 = omega (arith, count-characters, good.few_characters) in
      let few_rules : length (used_rules items) ≤ 4096 = omega (arith, count-rules, good.few_rules) in
      let all : AreGoodIn files lines = record { each = good.each; once = good.once; few = or_from (nat_lt 1024 (length (defined_characters (definitions items)))) (nat_lt 4096 (length (used_rules items))) (not_above 1024 (length (defined_characters (definitions items))) few_characters) (not_above 4096 (length (used_rules items)) few_rules) } in
      let refer : Refer characters files items = record { known = good.known; apart = not-true _ good.apart } in
      record {
        first = λ place line within there.
            let cut : lines ≡ take place lines ++ line ∷ drop (suc place) lines = sym (take-append-drop place lines) ∙ ap (λ rest. take place lines ++ rest) (drop-at lines place line there) in
            no-fault files (take place lines) line (drop (suc place) lines) (subst (AreGoodIn files) cut all);
        second = λ place line within there. find-none characters files lines refer place line there;
      }

  pub good-lines : (PassesAll lines → AreGood lines) × (AreGood lines → PassesAll lines)
  good-lines = (good-where_passed, passed-where_good)
