use Rattle.std.proofs.Common.{Ok, Err, Result, List, IfOk, IfErr, ℕ}
use Rattle.brl_failure.specs.Failure.{GivesAs}
use Rattle.brl_failure.specs.declared.failure.Failure.{Failure}
use Rattle.brl_lines.specs.Answer.{FileAnswers}
use Rattle.brl_lines.specs.Lines.{Refusal}
use Rattle.brl_lines.specs.Loaded.{LoadedView}
use Rattle.brl_lines.specs.Outcome.{AreLinesOf, AreLinesOfFiles, IsLoadFault}
use Rattle.brl_lines.specs.Tokens.{LineView}
use Rattle.brl_lines.specs.Views.{load_fault_view}
use Rattle.brl_lines.specs.declared.fault.LoadFault.{LoadFault}
use Rattle.brl_examples.proofs.files.load_in_memory.Goals as goal

-- where a loading of lines gives an answer, so does one that gives its paths too
gives_lines_of_loaded : (gives : FileAnswers) (root : List ℕ) (want : Result (List LineView) Refusal)
    → ((outcome : Result (List LineView) (Failure LoadFault)) → IfOk outcome (AreLinesOf gives root) → IfErr outcome (IsLoadFault gives root)
    → GivesAs (λ lines. lines) load_fault_view want outcome)
    → (outcome : Result LoadedView (Failure LoadFault))
    → IfOk outcome (λ loaded. AreLinesOfFiles gives root loaded.paths loaded.lines) → IfErr outcome (IsLoadFault gives root)
    → GivesAs (λ loaded. loaded.lines) load_fault_view want outcome
gives_lines_of_loaded gives root want told (Ok loaded) found fault = told (Ok loaded.lines) (found.0, found.1, found.3) tt
gives_lines_of_loaded gives root want told (Err failure) found fault = told (Err failure) tt fault

pub returns : goal.returns
returns c = gives_lines_of_loaded _ _ _ (c.files_in_memory_law.ensures.told c.args.root.now) c.load.result c.load.ensures.lines c.load.ensures.fault
