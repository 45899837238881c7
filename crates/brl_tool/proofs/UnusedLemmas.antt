-- A list of unused rules counts no failure of a file.
use Rattle.std.proofs.Common.{◌≡◌, ◌∙◌, ℕ, inl, inr, Result, Ok, Err, ap, subst, sym}
use Rattle.brl_answers.specs.Answers.{EndsAs, UnlessMemory, load_outcome}
use Rattle.brl_answers.specs.declared.answer.Answer.{Answer}
use Rattle.brl_answers.specs.declared.run_fault.RunFault.{RunFault}
use Rattle.brl_answers.specs.declared.run_fault.RunFault.TheVariants.{Memory, NotDefined}
use Rattle.brl_lines.specs.Outcome.{CountsFailure}
use Rattle.brl_rules.specs.TableView.{TableView}
use Rattle.brl_tool.specs.Alphabets.{IfAllThere}
use Rattle.brl_without.specs.Alphabet.{AlphabetView, IsLacking}

module _ (before now : ℕ) (same : now ≡ before) where
  -- nor where the table lacks characters
  lacking_count : (t : TableView) (alphabet : AlphabetView) (fault : RunFault) → EndsAs NotDefined (IsLacking t alphabet) fault → CountsFailure before now (load_outcome {T = Answer} (Err fault))
  lacking_count t alphabet Memory ends = inl same
  lacking_count t alphabet fault (own, is, same_fault) = subst (λ (f : RunFault). CountsFailure before now (load_outcome {T = Answer} (Err f))) (sym same_fault) same

  unless_count : (is : Answer → Type 0) (result : Result Answer RunFault) → UnlessMemory is result → CountsFailure before now (load_outcome result)
  unless_count is (Ok answer) h = same
  unless_count is (Err Memory) h = inl same
  unless_count is (Err fault) h = absurd h

  pub listed_count : (t : TableView) (alphabet : AlphabetView) (is : Answer → Type 0) (result : Result Answer RunFault) → IfAllThere t alphabet (UnlessMemory is) result → CountsFailure before now (load_outcome result)
  listed_count t alphabet is result h = elim h [
    | inl (all, then) ↦ unless_count is result then
    | inr (fault, e, ends) ↦ subst (λ (r : Result Answer RunFault). CountsFailure before now (load_outcome r)) (sym e) (lacking_count t alphabet fault ends)
  ]
