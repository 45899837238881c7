-- A survey finds nothing exactly where both passes find nothing.
use Rattle.std.proofs.Common.{◌≡◌, Bool, true, false, cond, eqb, List, [], length, refl, arith, sym, ap, ◌∙◌}
use Rattle.std.proofs.lemmas.Bool.{eqb-true, false≢true}
use Rattle.std.proofs.lemmas.Option.{slice_get_within}
use Rattle.std.proofs.lemmas.List.{nil_from_length}
use Rattle.brl_lines.specs.Tokens.{LineView}
use Rattle.brl_table.specs.Faults.{PassesAll, PassesBefore, second_pass_fault}
use Rattle.brl_table.specs.Survey.{FaultyLineView, faulty_line_if, faulty_lines, survey_of, unresolved_lines}
use Rattle.brl_table.proofs.Places.{each-none, joined-none}
use Rattle.brl_table.proofs.SurveyLaws.{finds-none, none-faulty}

module _ (lines : List LineView) where
  abbrev PassesSecond : Type 0
  PassesSecond = PassesBefore (second_pass_fault lines) lines (length lines)

  none-unresolved : PassesSecond → unresolved_lines lines ≡ []
  none-unresolved passes = joined-none _ 0 lines (λ place k line e there.
      ap (faulty_line_if line) (passes k line (slice_get_within lines k line there) there))

  passes-second : unresolved_lines lines ≡ [] → PassesSecond
  passes-second none place line less there = none-faulty line (second_pass_fault lines place line) (each-none _ 0 lines none place place line (omega arith) there)

  -- the first pass finds none, and then the second
  by-pass : (own more : List FaultyLineView) → cond (eqb (length own) 0) more own ≡ [] → (own ≡ []) × (more ≡ [])
  by-pass own more h = cases (eqb (length own) 0) refl h
    where
      cases : (none : Bool) → eqb (length own) 0 ≡ none → cond none more own ≡ [] → (own ≡ []) × (more ≡ [])
      cases true e left = (nil_from_length own (eqb-true (length own) 0 e), left)
      cases false e left = absurd (false≢true (sym e ∙ ap (λ found. eqb (length found) 0) left))

  pub finds-nothing : ((survey_of lines).faulty ≡ [] → PassesAll lines) × (PassesAll lines → (survey_of lines).faulty ≡ [])
  finds-nothing = (
    (λ none.
        let (own, more) = by-pass (faulty_lines lines) (unresolved_lines lines) none in
        record { first = (finds-none lines).0 own; second = passes-second more }),
    (λ passes.
        let own = (finds-none lines).1 passes.first in
        ap (λ found. cond (eqb (length found) 0) (unresolved_lines lines) found) own ∙ none-unresolved passes.second),
  )
