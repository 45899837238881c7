-- One more item of the first pass: what represents the items, and whether they are too many.
use Rattle.std.proofs.Common.{ℕ, ◌<◌, ◌≤◌, ◌≡◌, Bool, true, false, ◌||◌, ◌==◌, not, cond, List, [], ◌∷◌, ◌++◌, length, nat_lt, refl, arith, sym, ◌∙◌, ap, subst, Some, None, Result, Ok, Err, append-nil, lt-ltb}
use Rattle.std.proofs.lemmas.Bool.Decides.{nat_tests}
use Rattle.std.proofs.lemmas.Grind.{flat_map-append}
use Rattle.brl_lines.specs.Tokens.{LineView}
use Rattle.brl_table.specs.declared.characters.Characters.{Characters}
use Rattle.brl_table.specs.declared.item.Item.{Item}
use Rattle.brl_table.specs.declared.item.Item.TheVariants.{Defines, DefinesBoth, Rules, Indicates, Lists, Nothing}
use Rattle.brl_rules.specs.declared.signs.Sign.{Sign}
use Rattle.brl_rules.specs.Signs.{by_sign, cells_at, is_same_sign, with_cells}
use Rattle.brl_table.specs.declared.table_fault.TableFaultKind.TheVariants.{TooMany}
use Rattle.brl_table.specs.ItemLimits.{IsItemWithinLimits}
use Rattle.brl_failure.specs.Failure.{Gives}
use Rattle.brl_failure.specs.declared.failure.Failure.{Failure}
use Rattle.brl_failure.specs.declared.failure.Failure.TheVariants as failures
use Rattle.brl_table.specs.Items.{Fault, fault}
use Rattle.brl_table.specs.Faults.{are_too_many, fault_after, repeats_indicator, opcode_in}
use Rattle.brl_table.specs.Reading.{defined_characters, definition_in, definitions, indicated_in, cells_indicated, used_in, used_rules}
use Rattle.brl_table.specs.Building.{Adds, none_listed, SignsRepresent, Represents, CharactersRepresent}
use Rattle.brl_table.proofs.DefinitionSteps.{count-entries}
use Rattle.std.proofs.lemmas.Bool.{or_parts}
use Rattle.brl_rules.proofs.Facts.{not_below, not_above}

-- a list of the cells of each indicator gives each its own
abbrev pub GivesOwn : Type 0
GivesOwn = (cells : Sign → List ℕ) (sign : Sign) → cells_at (by_sign cells) sign ≡ cells sign

-- indicators with the same number are the same
abbrev pub AreSame : Type 0
AreSame = (sign other : Sign) → is_same_sign sign other ≡ true → sign ≡ other

module _ (items : List Item) where
  definitions-more : (item : Item) → definitions (items ++ item ∷ []) ≡ definitions items ++ definition_in item
  definitions-more item = flat_map-append definition_in items (item ∷ []) ∙ ap (λ ds. definitions items ++ ds) (append-nil (definition_in item))

  -- whether the items are too many with one more, by the numbers of characters and of used rules
  module _ (item : Item) (count used : ℕ) (counted : count ≡ length (defined_characters (definitions items ++ definition_in item))) (rules : used ≡ length (used_rules (items ++ item ∷ []))) where
    by-numbers : nat_lt 1024 count || nat_lt 4096 used ≡ are_too_many (items ++ item ∷ [])
    by-numbers = ap (λ n. nat_lt 1024 n || nat_lt 4096 used) (counted ∙ ap (λ ds. length (defined_characters ds)) (sym (definitions-more item)))
        ∙ ap (λ n. nat_lt 1024 (length (defined_characters (definitions (items ++ item ∷ [])))) || nat_lt 4096 n) rules

    pub too_many-characters : 1024 < count → nat_lt 1024 count ≡ are_too_many (items ++ item ∷ [])
    too_many-characters more = lt-ltb 1024 count more ∙ sym (ap (λ b. b || nat_lt 4096 used) (lt-ltb 1024 count more)) ∙ by-numbers

    pub too_many-rules : count ≤ 1024 → nat_lt 4096 used ≡ are_too_many (items ++ item ∷ [])
    too_many-rules few = sym (ap (λ b. b || nat_lt 4096 used) (not_above 1024 count few)) ∙ by-numbers

  sign-more : (item : Item) (sign : Sign) → cells_indicated (items ++ item ∷ []) sign ≡ cells_indicated items sign ++ indicated_in sign item
  sign-more item sign = flat_map-append (indicated_in sign) items (item ∷ []) ∙ ap (λ cells. cells_indicated items sign ++ cells) (append-nil (indicated_in sign item))

  pub used-more : (item : Item) → used_rules (items ++ item ∷ []) ≡ used_rules items ++ used_in item
  used-more item = flat_map-append used_in items (item ∷ []) ∙ ap (λ rs. used_rules items ++ rs) (append-nil (used_in item))

  module _ (characters : Characters) (signs : List (List ℕ)) (used : ℕ) (represents : Represents items characters signs used) where
    -- an indicator that has no cells yet
    pub represents-indicates : GivesOwn → AreSame → (sign : Sign) (cells : List ℕ) (later : List (List ℕ)) → cells_indicated items sign ≡ [] → later ≡ with_cells signs sign cells
        → Represents (items ++ Indicates sign cells ∷ []) characters later used
    represents-indicates own same sign cells later none set = record {
      defined = subst (λ ds. CharactersRepresent ds characters) (sym (definitions-more (Indicates sign cells) ∙ append-nil (definitions items))) represents.defined;
      indicated = set ∙ (λ i. by_sign (λ other. each other i));
      counted = represents.counted ∙ ap length (sym (used-more (Indicates sign cells) ∙ append-nil (used_rules items)));
    }
      where
        kept : (other : Sign) → cells_at signs other ≡ cells_indicated items other ++ []
        kept other = ap (λ s. cells_at s other) represents.indicated ∙ own (cells_indicated items) other ∙ sym (append-nil (cells_indicated items other))

        by_test : (other : Sign) (b : Bool) → (b ≡ true → other ≡ sign) → cond b cells (cells_at signs other) ≡ cells_indicated items other ++ cond b cells []
        by_test other true is = ap (λ front. front ++ cells) (sym (ap (cells_indicated items) (is refl) ∙ none))
        by_test other false is = kept other

        each : (other : Sign) → cond (is_same_sign other sign) cells (cells_at signs other) ≡ cells_indicated (items ++ Indicates sign cells ∷ []) other
        each other = by_test other (is_same_sign other sign) (same other sign) ∙ sym (sign-more (Indicates sign cells) other)

-- ---- indicators

empty_of : (cells : List ℕ) → nat_lt 0 (length cells) ≡ false → cells ≡ []
empty_of [] h = refl
empty_of (x ∷ cells) h = let more : nat_lt 0 (length (x ∷ cells)) ≡ true = lt-ltb 0 (length (x ∷ cells)) (omega arith) in cc (more, h)

some_cells : (n : ℕ) → not (n == 0) ≡ nat_lt 0 n
some_cells n = grind (arith, nat_tests)

-- whether an indicator has cells
pub twice-is : GivesOwn → (items : List Item) (signs : List (List ℕ)) (sign : Sign) (given cells : List ℕ) (item : Item) (b : Bool) → SignsRepresent items signs → cells ≡ cells_at signs sign
    → b ≡ (length cells == 0) → item ≡ Indicates sign given → not b ≡ repeats_indicator items item
twice-is own items signs sign given cells item b represents lent empty is =
    ap not empty ∙ some_cells (length cells) ∙ ap (λ xs. nat_lt 0 (length xs)) (lent ∙ ap (λ s. cells_at s sign) represents ∙ own (cells_indicated items) sign) ∙ ap (repeats_indicator items) (sym is)

module _ (items : List Item) where
  pub no_cells-yet : (sign : Sign) (cells : List ℕ) → repeats_indicator items (Indicates sign cells) ≡ false → cells_indicated items sign ≡ []
  no_cells-yet sign cells h = empty_of (cells_indicated items sign) h

  -- no indicator has too many cells after the item
  few-signs : AreSame → (files : ℕ) (item : Item) → repeats_indicator items item ≡ false → IsItemWithinLimits files item → ((sign : Sign) → length (cells_indicated items sign) ≤ 16)
      → (sign : Sign) → length (cells_indicated items sign ++ indicated_in sign item) ≤ 16
  few-signs same files (Defines d) once limits few sign = rw (append-nil (cells_indicated items sign)) (few sign)
  few-signs same files (DefinesBoth upper lower) once limits few sign = rw (append-nil (cells_indicated items sign)) (few sign)
  few-signs same files (Rules r) once limits few sign = rw (append-nil (cells_indicated items sign)) (few sign)
  few-signs same files (Lists l) once limits few sign = rw (append-nil (cells_indicated items sign)) (few sign)
  few-signs same files Nothing once limits few sign = rw (append-nil (cells_indicated items sign)) (few sign)
  few-signs same files (Indicates sign cells) once limits few other = by_test (is_same_sign other sign) (same other sign)
    where
      by_test : (b : Bool) → (b ≡ true → other ≡ sign) → length (cells_indicated items other ++ cond b cells []) ≤ 16
      by_test true is = rw (ap (cells_indicated items) (is refl) ∙ no_cells-yet sign cells once) limits.few_cells
      by_test false is = rw (append-nil (cells_indicated items other)) (few other)

-- the same of the lists of cells before and after the item
pub signs-within : GivesOwn → AreSame → (items : List Item) (files : ℕ) (item : Item) (old new : List (List ℕ)) → repeats_indicator items item ≡ false → IsItemWithinLimits files item → SignsRepresent items old → SignsRepresent (items ++ item ∷ []) new
    → ((sign : Sign) → length (cells_at old sign) ≤ 16) → (sign : Sign) → length (cells_at new sign) ≤ 16
signs-within own same items files item old new once limits before after few sign =
    let P : List ℕ → Type 0 = λ cells. length cells ≤ 16 in
    subst P (sym (ap (λ s. cells_at s sign) after ∙ own (cells_indicated (items ++ item ∷ [])) sign ∙ sign-more items item sign))
    (few-signs items same files item once limits (λ other. subst P (ap (λ s. cells_at s other) before ∙ own (cells_indicated items) other) (few other)) sign)

module _ (items : List Item) (line : LineView) (item : Item) where
  -- a line whose item makes the items too many
  pub fault-too_many : repeats_indicator items item ≡ false → are_too_many (items ++ item ∷ []) ≡ true → fault_after items line (Ok item) ≡ Some (fault TooMany (opcode_in line item))
  fault-too_many once many = rw (once, many) refl

  module _ (once : repeats_indicator items item ≡ false) (characters : Characters) (signs : List (List ℕ)) (used : ℕ) (represents : Represents (items ++ item ∷ []) characters signs used) where
    count : length characters.infos.entries ≡ length (defined_characters (definitions (items ++ item ∷ [])))
    count = ap length represents.defined.entries_are ∙ count-entries (definitions (items ++ item ∷ [])) none_listed

    -- items that aren't too many are within the limits
    pub within-limits : are_too_many (items ++ item ∷ []) ≡ false → (length characters.infos.entries ≤ 1024) × (used ≤ 4096)
    within-limits few =
        let characters_now = length (defined_characters (definitions (items ++ item ∷ []))) in
        let rules_now = length (used_rules (items ++ item ∷ [])) in
        let tests : (nat_lt 1024 characters_now ≡ false) × (nat_lt 4096 rules_now ≡ false) = or_parts (nat_lt 1024 characters_now) (nat_lt 4096 rules_now) few in
        let characters_few : characters_now ≤ 1024 = not_below 1024 characters_now tests.0 in
        let rules_few : rules_now ≤ 4096 = not_below 4096 rules_now tests.1 in
        let n = count in
        let e = represents.counted in
        (omega arith, omega arith)

    pub fault-none : length characters.infos.entries ≤ 1024 → used ≤ 4096 → fault_after items line (Ok item) ≡ None
    fault-none few_characters few_rules =
        let n = count in
        let e = represents.counted in
        let few : length (defined_characters (definitions (items ++ item ∷ []))) ≤ 1024 = omega arith in
        let rules : length (used_rules (items ++ item ∷ [])) ≤ 4096 = omega arith in
        rw (once, not_above 1024 (length (defined_characters (definitions (items ++ item ∷ [])))) few, not_above 4096 (length (used_rules (items ++ item ∷ []))) rules) refl

-- a line that is refused for its fault
pub refused-adds : (old : List Item) (line : LineView) (file : ℕ) (want : Result Item Fault) (new : List Item) (characters : Characters) (signs : List (List ℕ)) (used : ℕ) (wrong : Fault) (result : Result (Unit {0}) (Failure Fault))
    → Gives (Err wrong) result → fault_after old line want ≡ Some wrong → Adds old line file want new characters signs used result
refused-adds old line file want new characters signs used wrong (Ok done) h e = absurd cc
refused-adds old line file want new characters signs used wrong (Err (failures.Fault found)) h e = let same : wrong ≡ found = cc in e ∙ ap Some same
refused-adds old line file want new characters signs used wrong (Err failures.Memory) h e = tt
