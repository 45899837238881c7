use Rattle.std.proofs.Common.{◌≡◌, ℕ, List, Result, Ok, Err, IfOk, inl, sym, subst}
use Rattle.brl_failure.specs.Failure.{IsRaised}
use Rattle.brl_failure.specs.Raised.{if_err-raised, if_ok-both, if_ok-raised, raised_is}
use Rattle.brl_failure.specs.declared.failure.Failure.{Failure}
use Rattle.brl_failure.specs.declared.failure.Failure.TheVariants as failures
use Rattle.brl_lines.specs.Answer.{FileAnswers}
use Rattle.brl_lines.specs.Loaded.{LoadedView}
use Rattle.brl_lines.specs.Outcome.{AreLinesOf, AreLinesOfFiles, CountsFailure}
use Rattle.brl_lines.specs.declared.fault.LoadFault.{LoadFault}
use Rattle.brl_table.specs.Faults.{IsFaultAt, IsFirstFaultOf, load_outcome}
use Rattle.brl_table.specs.Files.{IsTableOf}
use Rattle.brl_table.specs.Reading.{AreGood, table_of}
use Rattle.brl_table.specs.declared.no_table.NoTable.{NoTable}
use Rattle.brl_table.specs.declared.no_table.NoTable.TheVariants.{Table}
use Rattle.brl_table.specs.declared.table_fault.TableFault.{TableFault}
use Rattle.brl_rules.specs.TableView.{TableView}
use Rattle.brl_table.proofs.files.load_table.Goals as goal

-- where the files were loaded, their lines are those of the table
lines_given : (gives : FileAnswers) (root : List ℕ) (step : Result LoadedView (Failure LoadFault)) (loaded : LoadedView) → step ≡ Ok loaded
    → IfOk step (λ found. AreLinesOfFiles gives root found.paths found.lines) → AreLinesOf gives root loaded.lines
lines_given gives root step loaded e h =
    let are = subst (λ (r : Result LoadedView (Failure LoadFault)). IfOk r (λ found. AreLinesOfFiles gives root found.paths found.lines)) e h in
    (are.0, are.1, are.3)

-- and no read failed
no_failure : (before now : ℕ) (step : Result TableView (Failure TableFault)) (raised : Result TableView (Failure NoTable)) → now ≡ before → IsRaised (λ one other. other ≡ Table one) step raised → CountsFailure before now (load_outcome raised)
no_failure before now step (Ok t) same is = same
no_failure before now (Err failure) (Err failures.Memory) same is = inl same
no_failure before now (Err (failures.Fault one)) (Err (failures.Fault other)) same is =
    subst (λ (fault : NoTable). CountsFailure before now (load_outcome {T = TableView} (Err (failures.Fault fault)))) (sym is) same
no_failure before now (Err failures.Memory) (Err (failures.Fault other)) same is = absurd is
no_failure before now (Ok t) (Err failure) same is = absurd cc

pub returns-clause-table : goal.returns-clause-table
returns-clause-table g c =
    let gives = g.S.Source.gives c.args.source.now in
    let loaded = c.in_ok-loaded.loaded in
    let is = raised_is _ c.load.result c.raise.result loaded c.raise.ensures c.in_ok-loaded.was in
    if_ok-raised _ (λ t. AreGood loaded.lines × (t ≡ table_of loaded.lines)) (IsTableOf gives c.args.root.now) c.table_of_loaded.result c.raise-2.result c.raise-2.ensures
    (if_ok-both _ _ c.table_of_loaded.result c.table_of_loaded.ensures.good c.table_of_loaded.ensures.table)
    (λ t h. (loaded.lines, lines_given gives c.args.root.now c.load.result loaded is c.load.ensures.lines, h.0, h.1))

pub returns-clause-fault : goal.returns-clause-fault
returns-clause-fault g c =
    let gives = g.S.Source.gives c.args.source.now in
    let loaded = c.in_ok-loaded.loaded in
    let is = raised_is _ c.load.result c.raise.result loaded c.raise.ensures c.in_ok-loaded.was in
    if_err-raised _ (IsFirstFaultOf loaded.lines) (IsFaultAt gives c.args.root.now) c.table_of_loaded.result c.raise-2.result c.raise-2.ensures c.table_of_loaded.ensures.fault
    (λ one other same h. subst (IsFaultAt gives c.args.root.now) (sym same)
    (loaded.lines, lines_given gives c.args.root.now c.load.result loaded is c.load.ensures.lines, h))

pub returns-clause-count : goal.returns-clause-count
returns-clause-count g c =
    let is = raised_is _ c.load.result c.raise.result c.in_ok-loaded.loaded c.raise.ensures c.in_ok-loaded.was in
    no_failure _ _ c.table_of_loaded.result c.raise-2.result
    (subst (λ (r : Result LoadedView (Failure LoadFault)). CountsFailure (g.S.Source.faults c.args.source.now) (g.S.Source.faults c.load.new.source) r) is c.load.ensures.count)
    c.raise-2.ensures
