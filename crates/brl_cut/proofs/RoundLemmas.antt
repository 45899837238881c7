-- The lines of files in memory, and rounds.
use Rattle.std.proofs.Common.{◌≡◌, ◌∙◌, ℕ, List, IfErr, IfOk, ap, map, suc, sym, Some, Result, Ok, Err}
use Rattle.brl_failure.specs.Failure.{GivesAs}
use Rattle.brl_failure.specs.declared.failure.Failure.{Failure}
use Rattle.brl_failure.specs.declared.failure.Failure.TheVariants as failures
use Rattle.brl_lines.specs.Answer.{FileAnswers, answer_of, same_answer}
use Rattle.brl_lines.specs.InMemory.{answer_in, folders_of, given_in}
use Rattle.brl_lines.specs.Lines.{lines_over}
use Rattle.brl_lines.specs.Loaded.{LoadedView}
use Rattle.brl_lines.specs.Outcome.{AreLinesOf, AreLinesOfFiles, IsLoadFault}
use Rattle.brl_lines.specs.Views.{load_fault_view}
use Rattle.brl_lines.specs.declared.fault.LoadFault.{LoadFault}
use Rattle.brl_lines.specs.Tokens.{LineView}
use Rattle.brl_lines.specs.declared.map_source.MapSource.{MapSource}
use Rattle.brl_table.specs.Survey.{FaultyLineView, survey_of}
use Rattle.brl_cut.specs.Cuts.{only}
use Rattle.brl_cut.specs.Edits.{EditView, Texts, edited_files}
use Rattle.brl_cut.specs.Files.{HoldsFiles}
use Rattle.brl_cut.specs.Settling.{after_rounds, fault_edit, faulty_among, faulty_in, lines_among}

-- a source that has just these files gives the table these lines
pub lines-held : (folders : List (List ℕ)) (files : Texts) (source : MapSource) (root : List ℕ) → HoldsFiles folders files source
    → lines_among folders files root ≡ lines_over (folders_of source.folders) (λ path. Some (answer_in source path)) root
lines-held folders files source root held = sym (λ j. lines_over (held.1 j) (λ path. Some (answer_of (held.0 path j))) root)

-- a load over it gives the lines of the files
pub gives-loaded : (folders : List (List ℕ)) (files : Texts) (source : MapSource) (root : List ℕ) (gives : FileAnswers) → HoldsFiles folders files source
    → ((outcome : Result (List LineView) (Failure LoadFault)) → IfOk outcome (AreLinesOf gives root) → IfErr outcome (IsLoadFault gives root)
    → GivesAs (λ lines. lines) load_fault_view (lines_over (folders_of source.folders) (λ path. Some (answer_in source path)) root) outcome)
    → (result : Result LoadedView (Failure LoadFault)) → IfOk result (λ loaded. AreLinesOfFiles gives root loaded.paths loaded.lines) → IfErr result (IsLoadFault gives root)
    → GivesAs (λ loaded. loaded.lines) load_fault_view (lines_among folders files root) result
gives-loaded folders files source root gives held told (Ok loaded) are why = lines-held folders files source root held ∙ told (Ok loaded.lines) (are.0, are.1, are.3) tt
gives-loaded folders files source root gives held told (Err (failures.Fault fault)) none why = lines-held folders files source root held ∙ told (Err (failures.Fault fault)) tt why
gives-loaded folders files source root gives held told (Err failures.Memory) none why = tt

-- what a survey of the lines finds is what is faulty in the files
pub faulty-found : (folders : List (List ℕ)) (root : List ℕ) (files : Texts) (lines : List LineView) → lines_among folders files root ≡ Ok lines → faulty_in folders root files ≡ (survey_of lines).faulty
faulty-found folders root files lines e = ap faulty_among e

-- it answers what these files do, where there are no others
pub only-held : (folders : List (List ℕ)) (files : Texts) (source : MapSource) → HoldsFiles folders files source → given_in source ≡ only folders files
only-held folders files source held = λ j. record { folders = held.1 j; may = λ path answer. same_answer answer (answer_of (held.0 path j)) }

module _ (folders : List (List ℕ)) (root : List ℕ) (start files : Texts) (rounds : ℕ) (now : files ≡ after_rounds rounds folders root start) (faulty : List FaultyLineView) (lines : List LineView)
    (lines_are : lines_among folders files root ≡ Ok lines) (faulty_are : faulty ≡ (survey_of lines).faulty) where
  -- the faulty lines of the files after some rounds
  pub faulty-after : faulty ≡ faulty_in folders root (after_rounds rounds folders root start)
  faulty-after = faulty_are ∙ sym (faulty-found folders root files lines lines_are) ∙ ap (faulty_in folders root) now

  -- and the files after one round more
  pub files-after : (edits : List EditView) (new : Texts) → edits ≡ map fault_edit faulty → new ≡ edited_files edits files → new ≡ after_rounds (suc rounds) folders root start
  files-after edits new edits_are e = e ∙ (λ j. edited_files ((edits_are ∙ ap (map fault_edit) faulty-after) j) (now j))
