-- One more line of a survey, in each of its passes.
use Rattle.std.proofs.Common.{ℕ, ◌+◌, ◌≡◌, ◌≢◌, List, [], ◌∷◌, ◌++◌, map, take, drop, refl, sym, ap, ◌∙◌, Option, None, Some, Ok, append_assoc, add-one, flat_map, slice_get}
use Rattle.std.specs.List.{enumerate_from}
use Rattle.std.proofs.lemmas.List.{map-append}
use Rattle.brl_failure.specs.declared.failure.Failure.{Failure}
use Rattle.brl_failure.specs.declared.failure.Failure.TheVariants as failures
use Rattle.brl_failure.specs.Failure.{IfFault}
use Rattle.brl_lines.specs.Tokens.{LineView}
use Rattle.brl_table.specs.Items.{Fault}
use Rattle.brl_table.specs.Faults.{fault_after}
use Rattle.brl_table.specs.Reading.{files_of, item_in, ok_of}
use Rattle.brl_table.specs.Survey.{FaultyLineView, IsFaultyAs, faulty_line, faulty_line_if, faulty_line_view, good_items, line_fault, lines_with}
use Rattle.brl_table.specs.declared.item.Item.{Item}
use Rattle.brl_table.specs.declared.faulty.FaultyLine.{FaultyLine}
use Rattle.brl_table.proofs.Places.{drop-at, take-at}
use Rattle.brl_table.proofs.SurveyLaws.{faulty-adds_none, good-line, good-more}

-- ---- The lines that are found by one pass

module _ (fault_at : ℕ → LineView → Option Fault) (lines : List LineView) where
  -- the faulty lines from a place on
  abbrev pub lines_from : ℕ → List FaultyLineView
  lines_from place = flat_map (λ entry. faulty_line_if entry.1 (fault_at entry.0 entry.1)) (enumerate_from place (drop place lines))

  -- the faulty lines before a place were found
  abbrev pub AreFound : ℕ → List FaultyLine → Type 0
  AreFound place found = lines_with fault_at lines ≡ map faulty_line_view found ++ lines_from place

  module _ (place : ℕ) (line : LineView) (there : slice_get lines place ≡ Some line) (found : List FaultyLine) (so_far : AreFound place found) where
    one-more : lines_from place ≡ faulty_line_if line (fault_at place line) ++ lines_from (place + 1)
    one-more =
        ap (λ ls. flat_map (λ entry. faulty_line_if entry.1 (fault_at entry.0 entry.1)) (enumerate_from place ls)) (drop-at lines place line there)
        ∙ ap (λ n. faulty_line_if line (fault_at place line) ++ flat_map (λ entry. faulty_line_if entry.1 (fault_at entry.0 entry.1)) (enumerate_from (place + 1) (drop n lines))) (sym (add-one place))

    pub found-none : fault_at place line ≡ None → AreFound (place + 1) found
    found-none none = so_far ∙ ap (λ more. map faulty_line_view found ++ more) (one-more ∙ ap (λ f. faulty_line_if line f ++ lines_from (place + 1)) none)

    pub found-one : (wrong : Fault) (one : FaultyLine) (more : List FaultyLine) → fault_at place line ≡ Some wrong → faulty_line_view one ≡ faulty_line line wrong → more ≡ found ++ one ∷ [] → AreFound (place + 1) more
    found-one wrong one more some is added =
        so_far
        ∙ ap (λ rest. map faulty_line_view found ++ rest) (one-more ∙ ap (λ f. faulty_line_if line f ++ lines_from (place + 1)) some ∙ ap (λ f. f ∷ lines_from (place + 1)) (sym is))
        ∙ sym (append_assoc (map faulty_line_view found) (faulty_line_view one ∷ []) (lines_from (place + 1)))
        ∙ ap (λ front. front ++ lines_from (place + 1)) (sym (map-append faulty_line_view found (one ∷ [])) ∙ ap (map faulty_line_view) (sym added))

    pub found-failure : (failure : Failure Fault) (one : FaultyLine) (more : List FaultyLine) → IfFault (λ wrong. fault_at place line ≡ Some wrong) failure → IsFaultyAs line failure one
        → more ≡ found ++ one ∷ [] → AreFound (place + 1) more
    found-failure (failures.Fault wrong) one more some is added = found-one wrong one more some is.0 added
    found-failure failures.Memory one more some is added = absurd (is.1 refl)

-- ---- The lines that have a fault by themselves

-- so far these lines were found, and these items are those of the good lines
pub record IsSurveyed (lines : List LineView) (place : ℕ) (good : List Item) (found : List FaultyLine) : Type 0 where
  pub items : good ≡ good_items (files_of lines) (take place lines)
  pub faulty : AreFound (line_fault lines) lines place found

module _ (lines : List LineView) (place : ℕ) (line : LineView) (there : slice_get lines place ≡ Some line) (good : List Item) (found : List FaultyLine) (so_far : IsSurveyed lines place good found) where
  abbrev files : List (List ℕ)
  files = files_of lines

  own-fault : line_fault lines place line ≡ fault_after good line (item_in files line)
  own-fault = ap (λ items. fault_after items line (item_in files line)) (sym so_far.items)

  good-step : good_items files (take (place + 1) lines) ≡ good_items files (take place lines ++ line ∷ [])
  good-step = ap (λ n. good_items files (take n lines)) (add-one place) ∙ ap (good_items files) (take-at lines place line there)

  pub surveyed-good : (item : Item) (after : List Item) → fault_after good line (item_in files line) ≡ None → item_in files line ≡ Ok item → after ≡ good ++ item ∷ [] → IsSurveyed lines (place + 1) after found
  surveyed-good item after none read is = record {
    items = is ∙ ap (λ items. items ++ item ∷ []) so_far.items
        ∙ sym (good-step ∙ good-more files (take place lines) line
        ∙ good-line (good_items files (take place lines)) _ (item_in files line) (own-fault ∙ none)
        ∙ ap (λ r. good_items files (take place lines) ++ ok_of r) read);
    faulty = found-none (line_fault lines) lines place line there found so_far.faulty (own-fault ∙ none);
  }

  surveyed-fault : (wrong : Fault) (one : FaultyLine) (after : List Item) (more : List FaultyLine) → fault_after good line (item_in files line) ≡ Some wrong → faulty_line_view one ≡ faulty_line line wrong
      → after ≡ good → more ≡ found ++ one ∷ [] → IsSurveyed lines (place + 1) after more
  surveyed-fault wrong one after more some is same added = record {
    items = same ∙ so_far.items
        ∙ sym (good-step ∙ good-more files (take place lines) line
        ∙ faulty-adds_none (good_items files (take place lines)) _ (item_in files line) wrong (own-fault ∙ some));
    faulty = found-one (line_fault lines) lines place line there found so_far.faulty wrong one more (own-fault ∙ some) is added;
  }

  pub surveyed-faulty : (failure : Failure Fault) (one : FaultyLine) (after : List Item) (more : List FaultyLine) → IfFault (λ wrong. fault_after good line (item_in files line) ≡ Some wrong) failure
      → IsFaultyAs line failure one → IfFault (λ wrong. after ≡ good) failure → more ≡ found ++ one ∷ [] → IsSurveyed lines (place + 1) after more
  surveyed-faulty (failures.Fault wrong) one after more some is same added = surveyed-fault wrong one after more some is.0 same added
  surveyed-faulty failures.Memory one after more some is same added = absurd (is.1 refl)

-- what holds unless memory ran out
pub if_fault-holds : {P : Type 0} (failure : Failure Fault) → IfFault (λ wrong. P) failure → (failure ≢ failures.Memory) → P
if_fault-holds (failures.Fault wrong) h fault = h
if_fault-holds failures.Memory h fault = absurd (fault refl)
