-- With one answer for each path there is at most one table at a path, and no fault where there is
-- one.
use Rattle.std.proofs.Common.{◌≡◌, ℕ, inl, inr, List, Option, length, sym, ◌∙◌, ap, subst}
use Rattle.std.proofs.lemmas.Option.{slice_get_within}
use Rattle.brl_failure.specs.declared.failure.Failure.{Failure}
use Rattle.brl_failure.specs.declared.failure.Failure.TheVariants.{Fault, Memory}
use Rattle.brl_lines.specs.Answer.{FileAnswers}
use Rattle.brl_lines.specs.Outcome.{AreLinesOf, IsLoadFault}
use Rattle.brl_lines.specs.Tokens.{LineView}
use Rattle.brl_lines.specs.declared.fault.LoadFault.{LoadFault}
use Rattle.brl_table.specs.Faults.{IsFaultAt, IsFirstFaultOf, IsFirstFound, PassesAll, PassesBefore}
use Rattle.brl_table.specs.Files.{IsTableOf}
use Rattle.brl_table.specs.Items.{Fault as WordFault}
use Rattle.brl_table.specs.Reading.{AreGood, table_of}
use Rattle.brl_table.specs.declared.no_table.NoTable.{NoTable}
use Rattle.brl_table.specs.declared.no_table.NoTable.TheVariants.{Load, Table}
use Rattle.brl_table.specs.declared.table_fault.TableFault.{TableFault}
use Rattle.brl_rules.specs.TableView.{TableView}

-- a pass that all lines pass finds no fault
none_found : (look : ℕ → LineView → Option WordFault) (lines : List LineView) (place : ℕ) (line : LineView) (wrong : WordFault) → PassesBefore look lines (length lines) → IsFirstFound look lines place line wrong → ⊥
none_found look lines place line wrong passes found =
    let none = passes place line (slice_get_within lines place line found.there) found.there in
    (let e = sym none ∙ found.faulty in cc)

passes_or_faulty : (lines : List LineView) (fault : TableFault) → IsFirstFaultOf lines fault → PassesAll lines → ⊥
passes_or_faulty lines fault h passes =
    elim h.2 [
      | inl first ↦ none_found _ lines h.0 h.1 _ passes.first first
      | inr second ↦ none_found _ lines h.0 h.1 _ passes.second second.1
    ]

module _ (gives : FileAnswers) (root : List ℕ) (one_list : (left right : List LineView) → AreLinesOf gives root left → AreLinesOf gives root right → left ≡ right) where
  pub one_table : (one other : TableView) → IsTableOf gives root one → IsTableOf gives root other → one ≡ other
  one_table one other h k = h.3 ∙ ap table_of (one_list h.0 k.0 h.1 k.1) ∙ sym k.3

  pub no_fault : ((lines : List LineView) → AreGood lines → PassesAll lines) → (t : TableView) → IsTableOf gives root t
      → ((lines : List LineView) → AreLinesOf gives root lines → (failure : Failure LoadFault) → IsLoadFault gives root failure → failure ≡ Memory)
      → (fault : NoTable) → IsFaultAt gives root fault → ⊥
  no_fault passes t is none (Load fault) h = let no = none is.0 is.1 (Fault fault) h in cc
  no_fault passes t is none (Table fault) h =
      passes_or_faulty is.0 fault (subst (λ (lines : List LineView). IsFirstFaultOf lines fault) (one_list h.0 is.0 h.1 is.1) h.2) (passes is.0 is.2)
