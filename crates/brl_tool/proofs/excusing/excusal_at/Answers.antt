use Rattle.std.proofs.Common.{◌≡◌, ◌∙◌, [], ap, Err, IfErr, IfOk, List, None, Ok, Result, ℕ, map, subst, sym}
use Rattle.std.proofs.lemmas.Result.{IfErr-weaker}
use Rattle.brl_accepted.specs.Reading.{excused_by, sets_named}
use Rattle.brl_accepted.specs.declared.reading.Excusal.{Excusal}
use Rattle.brl_answers.specs.declared.run_fault.RunFault.{RunFault}
use Rattle.brl_answers.specs.declared.run_fault.RunFault.TheVariants.{Accept, Memory}
use Rattle.brl_lines.specs.Answer.{FileAnswers, Holds, MayAnswer}
use Rattle.brl_lines.specs.Tokens.{LineView}
use Rattle.brl_lines.specs.Views.{line_view}
use Rattle.brl_rules.specs.TableView.{TableView}
use Rattle.brl_tool.specs.Baselines.{names_of_table}
use Rattle.brl_tool.specs.Excusing.{IsExcusedAt, IsFaultOfExcusal, IsFaultOfLines, stale_of}
use Rattle.brl_tool.proofs.excusing.excusal_at.Goals as goal

module _ (gives : FileAnswers) (path text : List ℕ) (t : TableView) (there : MayAnswer gives path (Holds text)) where
  -- what a text excuses, by the file that has it
  by_text : (lines : List LineView) (result : Result Excusal RunFault) → IfOk result (λ _. stale_of t lines path text ≡ []) → IfOk result (λ excusal. excusal.excused ≡ excused_by (names_of_table t lines) None text)
      → IfOk result (λ excusal. excusal.sets ≡ sets_named (names_of_table t lines) None text) → IfOk result (λ excusal. IsExcusedAt gives path t lines excusal.excused excusal.sets)
  by_text lines (Ok excusal) good excuses sets = record { text = text; there = there; good = good; excuses = excuses; count = sets }
  by_text lines (Err fault) good excuses sets = tt

  -- why a text excuses nothing, by the file that has it
  fault_of : (lines : List LineView) (fault : RunFault) → IsFaultOfLines t lines path text fault → IsFaultOfExcusal gives path t lines fault
  fault_of lines (Accept stale) h = (text, there, h)
  fault_of lines Memory h = tt
  fault_of lines fault h = absurd h

pub returns-clause-excuses : goal.returns-clause-excuses
returns-clause-excuses g c =
    let gives = g.S.Source.gives c.args.source.now in
    let path = c.args.path.now in
    let t = c.args.loaded.now.table in
    let text = c.as_str.result.now in
    let there : MayAnswer gives path (Holds text) = subst (λ (bytes : List ℕ). MayAnswer gives path (Holds bytes)) (sym c.as_str.ensures.value) c.in_ok-text.ensures.text in
    let told = c.excusal_of.ensures in
    subst (λ (lines : List LineView). IfOk c.excusal_of.result (λ excusal. IsExcusedAt gives path t lines excusal.excused excusal.sets)) (ap (map line_view) c.as_slice.ensures.value ∙ c.in_ok-lines.ensures.lines)
    (by_text gives path text t there (map line_view c.as_slice.result.now) c.excusal_of.result told.good told.excuses told.sets)

pub returns-clause-fault : goal.returns-clause-fault
returns-clause-fault g c =
    let gives = g.S.Source.gives c.args.source.now in
    let path = c.args.path.now in
    let t = c.args.loaded.now.table in
    let text = c.as_str.result.now in
    let there : MayAnswer gives path (Holds text) = subst (λ (bytes : List ℕ). MayAnswer gives path (Holds bytes)) (sym c.as_str.ensures.value) c.in_ok-text.ensures.text in
    subst (λ (lines : List LineView). IfErr c.excusal_of.result (IsFaultOfExcusal gives path t lines)) (ap (map line_view) c.as_slice.ensures.value ∙ c.in_ok-lines.ensures.lines)
    (IfErr-weaker c.excusal_of.result _ _ (fault_of gives path text t there (map line_view c.as_slice.result.now)) c.excusal_of.ensures.fault)
