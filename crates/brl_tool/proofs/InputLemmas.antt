-- What a read counts, as the commands that go on after it say it.
use Rattle.std.proofs.Common.{◌≡◌, ◌∙◌, ℕ, Result, Ok, Err, IsErrAnd, ap, inl, subst, sym}
use Rattle.std.proofs.lemmas.Result.{err_from_is_err_and}
use Rattle.brl_answers.specs.Answers.{load_outcome}
use Rattle.brl_answers.specs.Delivery.{World}
use Rattle.brl_answers.specs.declared.answer.Answer.{Answer}
use Rattle.brl_answers.specs.declared.run_fault.RunFault.{RunFault}
use Rattle.brl_answers.specs.declared.run_fault.RunFault.TheVariants.{Load, Memory, OutputFailed}
use Rattle.brl_clashes.specs.declared.list_form.ListForm.{ListForm}
use Rattle.brl_cli.specs.declared.command.PairFiles.{PairFiles}
use Rattle.brl_lines.specs.Outcome.{CountsFailure}
use Rattle.brl_tool.specs.Diagnosing.{Lists}
use Rattle.brl_tool.specs.declared.clashes.ListInput.{ListInput}

-- the fault of a step is counted, whatever the step gives
module _ (first now : ℕ) where
  same_count : (A B : Type 0) (fault : RunFault) → CountsFailure first now (load_outcome {T = A} (Err fault)) → CountsFailure first now (load_outcome {T = B} (Err fault))
  same_count A B (Load fault) counts = counts
  same_count A B Memory counts = counts
  same_count A B fault counts = counts

-- the fault of a step that counted since `before` is counted since `first`
pub counts_since : (A B : Type 0) (first before now : ℕ) (result : Result B RunFault) (fault : RunFault) → IsErrAnd result (λ e. e ≡ fault) → before ≡ first → CountsFailure before now (load_outcome {T = A} (Err fault))
    → CountsFailure first now (load_outcome result)
counts_since A B first before now result fault is stays count =
    let p = err_from_is_err_and result is in
    subst (λ (r : Result B RunFault). CountsFailure first now (load_outcome r)) (sym (p.1 ∙ ap Err p.2)) (same_count first now A B fault (subst (λ (n : ℕ). CountsFailure n now (load_outcome {T = A} (Err fault))) stays count))

-- a list reads no files
pub counts_list : (limit : ℕ) (form : ListForm) (pairs : PairFiles) (before after : World) (input : ListInput) (result : Result Answer RunFault) → Lists limit form pairs before after input result → (first now : ℕ) → now ≡ first
    → CountsFailure first now (load_outcome result)
counts_list limit form pairs before after input (Ok answer) lists first now stays = stays
counts_list limit form pairs before after input (Err OutputFailed) lists first now stays = stays
counts_list limit form pairs before after input (Err Memory) lists first now stays = inl stays
counts_list limit form pairs before after input (Err fault) (end, front) first now stays = absurd end
