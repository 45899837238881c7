-- A survey against the first pass.
use Rattle.std.proofs.Common.{ℕ, zero, suc, ◌<◌, ◌≤◌, ◌≡◌, ◌⊎◌, inl, inr, List, [], ◌∷◌, ◌++◌, length, map, take, refl, arith, sym, ap, ◌∙◌, Option, None, Some, Result, cond, append-nil, slice_get, is_some, string_bytes}
use Rattle.std.proofs.lemmas.Bool.{cases_order}
use Rattle.std.proofs.lemmas.Grind.{flat_map-append}
use Rattle.std.proofs.lemmas.List.Sums.{fold-append}
use Rattle.std.proofs.lemmas.Option.{slice_get_within}
use Rattle.brl_lines.specs.Tokens.{LineView}
use Rattle.brl_table.specs.FaultText.{located_fault}
use Rattle.brl_table.specs.Items.{Fault, fault}
use Rattle.brl_table.specs.Faults.{IsFirstFaultOf, IsFirstFound, PassesBefore, PassesFirst, fault_after, first_pass_fault}
use Rattle.brl_table.specs.Reading.{files_of, item_in, items_of, ok_of}
use Rattle.brl_table.specs.Survey.{faulty_line, faulty_line_if, faulty_lines, good_items, line_fault, with_line}
use Rattle.brl_table.specs.declared.item.Item.{Item}
use Rattle.brl_table.specs.declared.table_fault.TableFault.{TableFault}
use Rattle.brl_table.proofs.Places.{at, each-none, joined-first, joined-none, take-at}

-- ---- One more line

pub good-more : (files : List (List ℕ)) (lines : List LineView) (line : LineView) → good_items files (lines ++ line ∷ []) ≡ with_line files (good_items files lines) line
good-more files lines line = fold-append (with_line files) [] lines (line ∷ [])

pub items-more : (files : List (List ℕ)) (lines : List LineView) (line : LineView) → items_of files (lines ++ line ∷ []) ≡ items_of files lines ++ ok_of (item_in files line)
items-more files lines line =
    flat_map-append (λ l. ok_of (item_in files l)) lines (line ∷ []) ∙ ap (λ items. items_of files lines ++ items) (append-nil (ok_of (item_in files line)))

-- a line without a fault is good, and another defines nothing
pub good-line : (good : List Item) (found : Option Fault) (read : Result Item Fault) → found ≡ None → cond (is_some found) good (good ++ ok_of read) ≡ good ++ ok_of read
good-line good None read h = refl
good-line good (Some wrong) read h = cc

pub faulty-adds_none : (good : List Item) (found : Option Fault) (read : Result Item Fault) (wrong : Fault) → found ≡ Some wrong → cond (is_some found) good (good ++ ok_of read) ≡ good
faulty-adds_none good None read wrong h = cc
faulty-adds_none good (Some other) read wrong h = refl

pub none-faulty : (line : LineView) (found : Option Fault) → faulty_line_if line found ≡ [] → found ≡ None
none-faulty line None h = refl
none-faulty line (Some wrong) h = cc

-- ---- Before the first fault all lines are good

module _ (lines : List LineView) where
  abbrev Passes : ℕ → Type 0
  Passes place = PassesBefore (first_pass_fault lines) lines place

  pub good-items : (place : ℕ) → place ≤ length lines → Passes place → good_items (files_of lines) (take place lines) ≡ items_of (files_of lines) (take place lines)
  good-items zero within passes = refl
  good-items (suc place) within passes =
      let files = files_of lines in
      let (line, there) = at lines place (omega arith) in
      let before = good-items place (omega arith) (λ other l less is. passes other l (omega (arith, less)) is) in
      let taken = take-at lines place line there in
      let none = ap (λ good. fault_after good line (item_in files line)) before ∙ passes place line (omega arith) there in
      ap (good_items files) taken ∙ good-more files (take place lines) line
      ∙ good-line (good_items files (take place lines)) _ (item_in files line) none
      ∙ ap (λ good. good ++ ok_of (item_in files line)) before
      ∙ sym (ap (items_of files) taken ∙ items-more files (take place lines) line)

  same-fault : (place : ℕ) (line : LineView) → place ≤ length lines → Passes place → line_fault lines place line ≡ first_pass_fault lines place line
  same-fault place line within passes = ap (λ good. fault_after good line (item_in (files_of lines) line)) (good-items place within passes)

  none-found : PassesFirst lines → faulty_lines lines ≡ []
  none-found passes = joined-none _ 0 lines (λ place k line e there.
      let here : place ≡ k = omega (arith, e) in
      let within : k < length lines = slice_get_within lines k line there in
      ap (λ p. faulty_line_if line (line_fault lines p line)) here
      ∙ ap (faulty_line_if line) (same-fault k line (omega (arith, within)) (λ other l less is. passes other l (omega (arith, less, within)) is) ∙ passes k line within there))

  passes-so_far : faulty_lines lines ≡ [] → (end : ℕ) → end ≤ length lines → Passes end
  passes-so_far none zero within place line less there = absurd (omega (arith, less))
  passes-so_far none (suc end) within place line less there = by_place (passes-so_far none end (omega arith)) (cases_order place end)
    where
      by_place : Passes end → (place ≡ end) ⊎ ((place < end) ⊎ (end < place)) → first_pass_fault lines place line ≡ None
      by_place before (inl e) =
          let own = none-faulty line (line_fault lines place line) (each-none _ 0 lines none place place line (omega arith) there) in
          sym (same-fault place line (omega (arith, e, within)) (λ other l lower is. before other l (omega (arith, lower, e)) is)) ∙ own
      by_place before (inr (inl lower)) = before place line lower there
      by_place before (inr (inr more)) = absurd (omega (arith, more, less))

  pub finds-none : (faulty_lines lines ≡ [] → PassesFirst lines) × (PassesFirst lines → faulty_lines lines ≡ [])
  finds-none = ((λ none. passes-so_far none (length lines) (omega arith)), none-found)

  first-found : (place : ℕ) (line : LineView) (wrong : Fault) → IsFirstFound (first_pass_fault lines) lines place line wrong
      → (rest : _) × (faulty_lines lines ≡ faulty_line line wrong ∷ rest)
  first-found place line wrong found =
      let within : place < length lines = slice_get_within lines place line found.there in
      let before : (other : ℕ) (l : LineView) → other < place → slice_get lines other ≡ Some l → line_fault lines other l ≡ None =
      λ other l less there.
      same-fault other l (omega (arith, less, within)) (λ p k lower is. found.passed p k (omega (arith, lower, less)) is) ∙ found.passed other l less there in
      joined-first _ 0 lines place line (faulty_line line wrong) found.there
      (λ p k l less e there.
      let here : p ≡ k = omega (arith, e) in
      ap (λ q. faulty_line_if l (line_fault lines q l)) here ∙ ap (faulty_line_if l) (before k l less there))
      (λ p e.
      let here : p ≡ place = omega (arith, e) in
      ap (λ q. faulty_line_if line (line_fault lines q line)) here
      ∙ ap (faulty_line_if line) (same-fault place line (omega (arith, within)) found.passed ∙ found.faulty))

  pub finds-first : (found : TableFault) → IsFirstFaultOf lines found → (PassesFirst lines → ⊥) → slice_get (map (λ faulty. faulty.fault) (faulty_lines lines)) 0 ≡ Some (located_fault found)
  finds-first found (place, line, inl first, file, number) fails =
      let (rest, is) = first-found place line (fault found.kind (string_bytes found.subject)) first in
      ap (λ faulty. slice_get (map (λ f. f.fault) faulty) 0) is ∙ cc
  finds-first found (place, line, inr (passes, second), file, number) fails = absurd (fails passes)
