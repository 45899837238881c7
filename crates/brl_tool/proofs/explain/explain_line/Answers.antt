use Rattle.std.proofs.Common.{◌≡◌, ◌∙◌, ◌++◌, ℕ, inl, inr, List, None, Option, Some, String, ap, option_map, refl, string_bytes, sym}
use Rattle.std.specs.Global.{Global}
use Rattle.brl_answers.specs.declared.run_fault.RunFault.TheVariants.{NoSuchFault}
use Rattle.brl_explain.specs.Details.{explanation_of}
use Rattle.brl_tool.proofs.explain.explain_line.Goals as goal

not_some : (o : Option (String Global)) → ((text : String Global) → o ≡ Some text → ⊥) → o ≡ None
not_some None none = refl
not_some (Some text) none = absurd (none text refl)

pub returns-clause-explains : goal.returns-clause-explains
returns-clause-explains g c =
    let text = string_bytes c.in-Some.text in
    let notes = string_bytes c.in_ok-file_notes.field-0 in
    let explained : explanation_of c.args.line.now ≡ Some text = sym c.in_ok-text.ensures ∙ ap (option_map (λ (t : String Global). string_bytes t)) c.in-Some.is in
    let seen = rw c.read_plain_files.ensures.same at c.in_ok-file_notes.ensures.notes in
    let whole : string_bytes c.new.result.text ≡ text ++ notes = c.new.ensures.1 ∙ c.in_ok-push_str.ensures.bytes ∙ ap (λ (n : List ℕ). text ++ n) c.as_str.ensures.value in
    inl (text, explained, (notes, seen, (c.new.ensures.0, whole, c.new.ensures.2)))

pub returns-in_default-clause-explains : goal.returns-in_default-clause-explains
returns-in_default-clause-explains g c =
    let none = sym c.in_ok-text.ensures ∙ ap (option_map (λ (t : String Global). string_bytes t)) (not_some c.in_ok-text.field-0 c.in_default.not-Some) in
    inr (NoSuchFault c.in_ok-from_str.field-0, refl, (c.in_ok-from_str.field-0, (none, c.in_ok-from_str.ensures.ok), refl))
