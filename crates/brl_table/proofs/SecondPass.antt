-- The second pass, where all lines passed the first: its faults, and the rules and the table
-- without one.
use Rattle.std.proofs.Common.{ℕ, zero, suc, ◌<◌, ◌≤◌, ◌≡◌, Bool, true, false, cond, inr, List, [], ◌∷◌, length, map, take, refl, arith, sym, ◌∙◌, ap, subst, Some, None, Result, Ok, All, not, option_map, slice_get, if◌then◌else◌}
use Rattle.std.proofs.lemmas.List.{length-map, map-append, take_all}
use Rattle.std.proofs.lemmas.List.Elements.{All-nil, All-cons, All-head, All-tail, All-append}
use Rattle.std.proofs.lemmas.Option.{slice_get-map, slice_get-get_or, slice_get_within}
use Rattle.brl_lines.specs.Tokens.{LineView}
use Rattle.brl_table.specs.declared.item.Item.{Item}
use Rattle.brl_table.specs.declared.item.Item.TheVariants.{Defines, DefinesBoth, Rules, Indicates, Lists, Nothing}
use Rattle.brl_table.specs.declared.item.NumericRole.{NumericRole}
use Rattle.brl_table.specs.declared.item.NumericRole.TheVariants.{KeepsMode, NeedsNoContractSign}
use Rattle.brl_rules.specs.declared.rule.Info.{Info}
use Rattle.brl_rules.specs.declared.rule.Notice.{Notice}
use Rattle.brl_rules.specs.declared.rule.Rule.{Rule}
use Rattle.brl_table.specs.declared.table_fault.TableFault.{TableFault}
use Rattle.brl_table.specs.declared.table_fault.TableFaultKind.TheVariants.{TwoRoles, UndefinedInList, UndefinedInRule}
use Rattle.brl_table.specs.Items.{Fault, fault}
use Rattle.brl_table.specs.ItemLimits.{IsItemWithinLimits}
use Rattle.brl_rules.specs.Limits.{IsEntry, IsRule}
use Rattle.brl_rules.specs.Rank.{in_rank}
use Rattle.brl_table.specs.Faults.{characters_in, operand_of, has_two_roles, reference_fault, second_pass_fault, reference_fault_of, IsFirstFaultOf, PassesBefore, PassesFirst}
use Rattle.brl_table.specs.Reading.{characters_alone, characters_table, definitions, defined_entries, listed_characters, cells_indicated, files_of, item_in, items_of, notices_after, rule_of, table_of, used_in, used_rules}
use Rattle.brl_table.specs.Building.{over, IsReferenceFault, Resolves}
use Rattle.brl_rules.specs.Signs.{by_sign}
use Rattle.brl_rules.specs.TableView.{TableView}
use Rattle.brl_rules.specs.Text.{is_text}
use Rattle.brl_table.proofs.LimitLemmas.{rule-within}
use Rattle.brl_table.proofs.FirstPass.{aligned-items}
use Rattle.brl_rules.proofs.Facts.{some_is}

-- an element at a place within the list
pub at : {X : Type 0} (xs : List X) (i : ℕ) → i < length xs → (x : X) × (slice_get xs i ≡ Some x)
at [] i h = absurd (omega arith)
at (x ∷ xs) zero h = (x, refl)
at (x ∷ xs) (suc i) h = at xs i (omega (arith, h))

-- the second pass depends on no file names and notices
same-references : (characters : List (ℕ × Info)) (files : List (List ℕ)) (notices : List Notice) (line : LineView) (item : Item)
    → reference_fault (characters_alone characters files notices) line item ≡ reference_fault (over characters) line item
same-references characters files notices line (Defines d) = refl
same-references characters files notices line (DefinesBoth upper lower) = refl
same-references characters files notices line (Rules r) = refl
same-references characters files notices line (Indicates sign cells) = refl
same-references characters files notices line (Lists l) = by_role l.role
  where
    by_role : (role : NumericRole)
        → (let t = characters_alone characters files notices in
        if not (is_text t l.chars) then Some (fault UndefinedInList (operand_of line 0)) else if has_two_roles t role l.chars then Some (fault TwoRoles (operand_of line 0)) else None)
        ≡ (let t = over characters in
        if not (is_text t l.chars) then Some (fault UndefinedInList (operand_of line 0)) else if has_two_roles t role l.chars then Some (fault TwoRoles (operand_of line 0)) else None)
    by_role KeepsMode = refl
    by_role NeedsNoContractSign = refl
same-references characters files notices line Nothing = refl

-- two tables with equal fields are equal
made : List (ℕ × Info) → List Rule → List (List ℕ) → List (List ℕ) → List Notice → TableView
made characters rules signs files notices = record {
  characters = characters;
  rules = rules;
  signs = signs;
  files = files;
  notices = notices;
}

made-fields : (t : TableView) → t ≡ made t.characters t.rules t.signs t.files t.notices
unfolding made
made-fields t = refl

fields_of : (t u : TableView) → t.characters ≡ u.characters → t.rules ≡ u.rules → t.signs ≡ u.signs → t.files ≡ u.files → t.notices ≡ u.notices → t ≡ u
fields_of t u a b c d e =
    let same : made t.characters t.rules t.signs t.files t.notices ≡ made u.characters u.rules u.signs u.files u.notices = cc in
    made-fields t ∙ same ∙ sym (made-fields u)

module _ (lines : List LineView) (items : List Item) (aligned : map Ok items ≡ map (item_in (files_of lines)) lines) (characters : List (ℕ × Info)) (entries : characters ≡ defined_entries (definitions items) (listed_characters items)) where
  pub same-length : length lines ≡ length items
  same-length =
      let ok : Item → Result Item Fault = λ item. Ok item in
      omega (arith, length-map items ok, length-map lines (item_in (files_of lines)), ap length aligned)

  says : (place : ℕ) (line : LineView) (item : Item) → slice_get lines place ≡ Some line → slice_get items place ≡ Some item → item_in (files_of lines) line ≡ Ok item
  says place line item there at =
      some_is (item_in (files_of lines) line) (Ok item)
      (ap (option_map (item_in (files_of lines))) (sym there) ∙ sym (slice_get-map (item_in (files_of lines)) lines place)
      ∙ ap (λ xs. slice_get xs place) (sym aligned) ∙ slice_get-map Ok items place ∙ ap (option_map Ok) at)

  -- the fault that the second pass finds in a line, by the line's item
  pub second-is : (place : ℕ) (line : LineView) (item : Item) → slice_get lines place ≡ Some line → slice_get items place ≡ Some item
      → second_pass_fault lines place line ≡ reference_fault (over characters) line item
  second-is place line item there at =
      let F = files_of lines in
      ap (reference_fault_of (characters_table F (items_of F lines)) line) (says place line item there at)
      ∙ ap (λ xs. reference_fault (characters_table F xs) line item) (aligned-items F lines items aligned)
      ∙ same-references (defined_entries (definitions items) (listed_characters items)) F (notices_after [] (definitions items)) line item
      ∙ ap (λ es. reference_fault (over es) line item) (sym entries)

  pub passes-second : (end : ℕ) → Resolves characters lines items end → PassesBefore (second_pass_fault lines) lines end
  passes-second end passed place line within there =
      let item = at items place (omega (arith, same-length, slice_get_within lines place line there)) in
      second-is place line item.0 there item.1 ∙ passed place line item.0 within there item.1

  pub second-fault : (reported : TableFault) → PassesFirst lines → IsReferenceFault characters lines items reported → IsFirstFaultOf lines reported
  second-fault reported first (place, line, item, found, file_is, number_is) = (
    place,
    line,
    inr (
      first,
      record {
        there = found.there;
        faulty = second-is place line item found.there found.item_there ∙ found.faulty;
        passed = passes-second place found.passed;
      },
    ),
    file_is,
    number_is,
  )

  -- the table of these lines
  pub table-is : (notices : List Notice) → notices ≡ notices_after [] (definitions items) → (rules : List Rule) → rules ≡ map (rule_of (over characters)) (used_rules items)
      → (t : TableView) → t.characters ≡ characters → t.rules ≡ in_rank rules
      → t.signs ≡ by_sign (cells_indicated items) → t.files ≡ files_of lines → t.notices ≡ notices → t ≡ table_of lines
  table-is notices noticed rules ruled t its_characters its_rules its_signs its_files its_notices =
      let F = files_of lines in
      let of_items : List Item → TableView = λ xs.
      record (characters_table F xs) {
        rules = in_rank (map (rule_of (characters_table F xs)) (used_rules xs));
        signs = by_sign (cells_indicated xs);
      } in
      let these : t.rules ≡ in_rank (map (rule_of (over (defined_entries (definitions items) (listed_characters items)))) (used_rules items)) =
      its_rules ∙ ap in_rank (ruled ∙ ap (λ es. map (rule_of (over es)) (used_rules items)) entries) in
      let same : t ≡ of_items items =
      fields_of t (of_items items) (its_characters ∙ entries) these its_signs its_files (its_notices ∙ noticed) in
      same ∙ ap of_items (sym (aligned-items F lines items aligned))

-- a loop that went over all lines
pub whole : (lines : List LineView) (items : List Item) (i : ℕ) → length lines ≤ i → map Ok items ≡ map (item_in (files_of lines)) (take i lines)
    → map Ok items ≡ map (item_in (files_of lines)) lines
whole lines items i past aligned = aligned ∙ ap (map (item_in (files_of lines))) (take_all i lines past)

-- ---- the rules

pub passed_text : (b : Bool) (wrong : Fault) → cond b None (Some wrong) ≡ None → b ≡ true
passed_text true wrong h = refl
passed_text false wrong h = cc

module _ (characters : List (ℕ × Info)) (files : ℕ) (entries : All (λ entry. IsEntry characters files entry.1) characters) where
  abbrev Passed : Item → Type 0
  Passed item = (line : LineView) × (reference_fault (over characters) line item ≡ None)

  one-within : (item : Item) → IsItemWithinLimits files item → Passed item → All (IsRule characters files) (map (rule_of (over characters)) (used_in item))
  one-within (Defines d) limits passed = All-nil (IsRule characters files)
  one-within (DefinesBoth upper lower) limits passed = All-nil (IsRule characters files)
  one-within (Indicates sign cells) limits passed = All-nil (IsRule characters files)
  one-within (Lists l) limits passed = All-nil (IsRule characters files)
  one-within Nothing limits passed = All-nil (IsRule characters files)
  one-within (Rules r) limits passed = cases r.head.used
    where
      text : is_text (over characters) r.chars ≡ true
      text = passed_text (is_text (over characters) r.chars) (fault UndefinedInRule (characters_in passed.0 r)) passed.1

      cases : (b : Bool) → All (IsRule characters files) (map (rule_of (over characters)) (cond b (r ∷ []) []))
      cases true = All-cons (IsRule characters files) (rule_of (over characters) r) [] (rule-within characters files entries r limits text) (All-nil (IsRule characters files))
      cases false = All-nil (IsRule characters files)

  all-valid : (items : List Item) → All (IsItemWithinLimits files) items → All Passed items → All (IsRule characters files) (map (rule_of (over characters)) (used_rules items))
  all-valid [] limits passed = All-nil (IsRule characters files)
  all-valid (item ∷ items) limits passed =
      let P : List Rule → Type 0 = λ rules. All (IsRule characters files) rules in
      subst P (sym (map-append (rule_of (over characters)) (used_in item) (used_rules items)))
      (All-append (IsRule characters files) (map (rule_of (over characters)) (used_in item)) (map (rule_of (over characters)) (used_rules items))
      (one-within item (All-head (IsItemWithinLimits files) item items limits) (All-head Passed item items passed))
      (all-valid items (All-tail (IsItemWithinLimits files) item items limits) (All-tail Passed item items passed)))

  pub rules-valid : (lines : List LineView) (items : List Item) → length lines ≡ length items → All (IsItemWithinLimits files) items → Resolves characters lines items (length lines)
      → All (IsRule characters files) (map (rule_of (over characters)) (used_rules items))
  rules-valid lines items same limits passed =
      all-valid items limits (λ k d within.
      let line = at lines k (omega (arith, within, same)) in
      (line.0, passed k line.0 _ (omega (arith, within, same)) line.1 (slice_get-get_or items k d within)))
