-- One more line of the second pass.
use Rattle.std.proofs.Common.{ℕ, ◌+◌, ◌<◌, ◌≡◌, ◌⊎◌, inl, inr, List, [], ◌∷◌, ◌++◌, length, map, take, arith, sym, ◌∙◌, ap, subst, Some, None, get_or, refl, slice_get, option_map}
use Rattle.std.proofs.lemmas.Bool.{cases_order}
use Rattle.std.proofs.lemmas.List.{map-append, take_more}
use Rattle.std.proofs.lemmas.Option.{slice_get-map, slice_get_read}
use Rattle.brl_lines.specs.Tokens.{LineView}
use Rattle.brl_lines.specs.Views.{line_view}
use Rattle.brl_lines.specs.declared.line.Line.{Line}
use Rattle.brl_table.specs.declared.item.Item.{Item}
use Rattle.brl_failure.specs.Failure.{IfFault}
use Rattle.brl_failure.specs.declared.failure.Failure.{Failure}
use Rattle.brl_failure.specs.declared.failure.Failure.TheVariants as failures
use Rattle.brl_rules.specs.declared.rule.Info.{Info}
use Rattle.brl_rules.specs.declared.rule.Rule.{Rule}
use Rattle.brl_table.specs.declared.table_fault.TableFault.{TableFault}
use Rattle.brl_table.specs.Items.{Fault}
use Rattle.brl_table.specs.Faults.{reference_fault, IsAt}
use Rattle.brl_table.specs.Reading.{rule_of, used_in, used_rules}
use Rattle.brl_table.specs.Building.{over, IsReferenceFault, IsFirstUnresolved, Resolves}
use Rattle.brl_table.proofs.ItemSteps.{used-more}
use Rattle.brl_rules.proofs.Facts.{some_is}

pub line_there : (lines : List Line) (i : ℕ) (line : Line) → i < length lines → line ≡ get_or lines i line → slice_get (map line_view lines) i ≡ Some (line_view line)
line_there lines i line within is = slice_get-map line_view lines i ∙ ap (option_map line_view) (slice_get_read lines (length lines) i line refl within is)

module _ (characters : List (ℕ × Info)) (lines : List Line) (items : List Item) (same : length lines ≡ length items) (i : ℕ) (line : Line) (within : i < length lines) (is : line ≡ get_or lines i line) (item : Item) (at : item ≡ get_or items i item) where
  here : (other : LineView) (thing : Item) → slice_get (map line_view lines) i ≡ Some other → slice_get items i ≡ Some thing
      → reference_fault (over characters) (line_view line) item ≡ None → reference_fault (over characters) other thing ≡ None
  here other thing there says none =
      let inside : i < length items = omega arith in
      let e : other ≡ line_view line = some_is other (line_view line) (sym there ∙ line_there lines i line within is) in
      let f : thing ≡ item = some_is thing item (sym says ∙ slice_get_read items (length items) i item refl inside at) in
      ap (λ l. reference_fault (over characters) l thing) e ∙ ap (reference_fault (over characters) (line_view line)) f ∙ none

  pub resolves-next : reference_fault (over characters) (line_view line) item ≡ None → Resolves characters (map line_view lines) items i
      → Resolves characters (map line_view lines) items (i + 1)
  resolves-next none before place other thing lower there says = by_place (cases_order place i)
    where
      by_place : (place ≡ i) ⊎ ((place < i) ⊎ (i < place)) → reference_fault (over characters) other thing ≡ None
      by_place (inl e) =
          let P : ℕ → Type 0 = λ k. slice_get (map line_view lines) k ≡ Some other in
          let Q : ℕ → Type 0 = λ k. slice_get items k ≡ Some thing in
          here other thing (subst P e there) (subst Q e says) none
      by_place (inr (inl less)) = before place other thing less there says
      by_place (inr (inr more)) = absurd (omega (arith, more, lower))

  pub rules-next : (old new : List Rule) → new ≡ old ++ map (rule_of (over characters)) (used_in item) → old ≡ map (rule_of (over characters)) (used_rules (take i items))
      → new ≡ map (rule_of (over characters)) (used_rules (take (i + 1) items))
  rules-next old new more before =
      let t = over characters in
      let inside : i < length items = omega arith in
      let next : take (i + 1) items ≡ take i items ++ item ∷ [] = take_more items i item inside ∙ ap (λ x. take i items ++ x ∷ []) (sym at) in
      more ∙ ap (λ rs. rs ++ map (rule_of t) (used_in item)) before
      ∙ sym (map-append (rule_of t) (used_rules (take i items)) (used_in item))
      ∙ ap (map (rule_of t)) (sym (used-more (take i items) item) ∙ ap used_rules (sym next))

  pub first-unresolved : (wrong : Fault) → reference_fault (over characters) (line_view line) item ≡ Some wrong → Resolves characters (map line_view lines) items i
      → IsFirstUnresolved characters (map line_view lines) items i (line_view line) item wrong
  first-unresolved wrong faulty passed =
      let inside : i < length items = omega arith in
      record { there = line_there lines i line within is; item_there = slice_get_read items (length items) i item refl inside at; faulty = faulty; passed = passed }

-- the first fault of the second pass, with the file and number of its line
pub reference-refusal : (characters : List (ℕ × Info)) (lines : List LineView) (items : List Item) (place : ℕ) (view : LineView) (item : Item) (failure : Failure Fault) (reported : Failure TableFault)
    → IfFault (IsFirstUnresolved characters lines items place view item) failure → IsAt view failure reported → IfFault (IsReferenceFault characters lines items) reported
reference-refusal characters lines items place view item failure failures.Memory first at = tt
reference-refusal characters lines items place view item failures.Memory (failures.Fault found) first at = absurd at
reference-refusal characters lines items place view item (failures.Fault wrong) (failures.Fault found) first at =
    (place, view, item, subst (IsFirstUnresolved characters lines items place view item) (sym at.0) first, at.1, at.2)
