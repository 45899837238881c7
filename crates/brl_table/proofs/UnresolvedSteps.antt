-- The second pass of a survey: the items of lines of which none has a fault by itself, and one more
-- line.
use Rattle.std.proofs.Common.{ℕ, suc, ◌≡◌, true, eqb, List, [], ◌∷◌, ◌++◌, length, map, take, refl, arith, sym, ap, ◌∙◌, None, Some, Result, Ok, Err, slice_get, eqb-true}
use Rattle.std.proofs.lemmas.List.{length-map, take_all, nil_from_length}
use Rattle.std.proofs.lemmas.Option.{slice_get_within}
use Rattle.brl_failure.specs.declared.failure.Failure.{Failure}
use Rattle.brl_lines.specs.Tokens.{LineView}
use Rattle.brl_rules.specs.declared.rule.Info.{Info}
use Rattle.brl_rules.specs.declared.rule.Rule.{Rule}
use Rattle.brl_table.specs.Building.{FindsReference, ResolvesLine}
use Rattle.brl_table.specs.Items.{Fault}
use Rattle.brl_table.specs.Faults.{PassesFirst, fault_after}
use Rattle.brl_table.specs.Reading.{files_of, item_in, items_of, ok_of}
use Rattle.brl_table.specs.Survey.{faulty_line_view, faulty_lines, good_items, passes_first}
use Rattle.brl_table.specs.declared.faulty.FaultyLine.{FaultyLine}
use Rattle.brl_table.specs.declared.item.Item.{Item}
use Rattle.brl_table.proofs.SurveyLaws.{finds-none, good-items}

ok-item : (earlier : List Item) (line : LineView) (read : Result Item Fault) → fault_after earlier line read ≡ None → (item : Item) × (read ≡ Ok item)
ok-item earlier line (Ok item) h = (item, refl)
ok-item earlier line (Err wrong) h = absurd (cc)

module _ (lines : List LineView) (passed : PassesFirst lines) where
  abbrev files : List (List ℕ)
  files = files_of lines

  aligned-from : (rest : List LineView) → ((k : ℕ) (line : LineView) → slice_get rest k ≡ Some line → (item : Item) × (item_in files line ≡ Ok item)) → map Ok (items_of files rest) ≡ map (item_in files) rest
  aligned-from [] each = refl
  aligned-from (line ∷ rest) each =
      let (item, is) = each 0 line refl in
      let more = aligned-from rest (λ k l there. each (suc k) l there) in
      ap (λ read. map Ok (ok_of read ++ items_of files rest)) is ∙ ap (λ reads. Ok item ∷ reads) more ∙ ap (λ read. read ∷ map (item_in files) rest) (sym is)

  pub aligned : map Ok (items_of files lines) ≡ map (item_in files) lines
  aligned = aligned-from lines (λ k line there. ok-item (items_of files (take k lines)) line (item_in files line) (passed k line (slice_get_within lines k line there) there))

  -- all items are those of good lines
  pub all-good : good_items files lines ≡ items_of files lines
  all-good =
      let whole = take_all (length lines) lines (omega arith) in
      sym (ap (good_items files) whole) ∙ good-items lines (length lines) (omega arith) passed ∙ ap (items_of files) whole

-- a line whose rule is kept, and the same line if it isn't
pub without-rule : (characters : List (ℕ × Info)) (line : LineView) (item : Item) (old new : List Rule) (result : Result (Unit {0}) (Failure Fault)) → ResolvesLine characters line item old new result
    → FindsReference characters line item result
without-rule characters line item old new (Ok done) h = h.0
without-rule characters line item old new (Err failure) h = h

-- ---- Whether no line has a fault by itself

module _ (lines : List LineView) (own : List FaultyLine) (found : map faulty_line_view own ≡ faulty_lines lines) (count : ℕ) (is_length : count ≡ length own) where
  pub passes-is : passes_first lines ≡ eqb count 0
  passes-is = ap (λ n. eqb n 0) (sym (ap length found) ∙ length-map own faulty_line_view ∙ sym is_length)

  pub passes : eqb count 0 ≡ true → PassesFirst lines
  passes none = (finds-none lines).0 (nil_from_length (faulty_lines lines) (eqb-true (length (faulty_lines lines)) 0 (passes-is ∙ none)))
