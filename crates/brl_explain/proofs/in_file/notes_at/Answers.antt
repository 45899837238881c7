use Rattle.std.proofs.Common.{◌≡◌, ℕ, List, [], Some, Result, Ok, Err, IfOk, String, string_bytes, inr, refl, Global}
use Rattle.brl_lines.specs.Answer.{FileAnswers}
use Rattle.brl_lines.specs.Lines.{LocationView, Refusal}
use Rattle.brl_lines.specs.Outcome.{IsRefusedAs}
use Rattle.brl_lines.specs.Views.{load_fault_view}
use Rattle.brl_explain.specs.InFile.{AreNotesAt, line_notes, place_view}
use Rattle.brl_explain.proofs.in_file.notes_at.Goals as goal

-- where the files can't be loaded, no line is seen
unread : {E : Type 0} (gives : FileAnswers) (fault : List ℕ) (place : LocationView) (why : Refusal) → IsRefusedAs gives place.file why
    → (r : Result (String Global) E) → IfOk r (λ notes. string_bytes notes ≡ line_notes fault place []) → IfOk r (λ notes. AreNotesAt gives fault (Some place) (string_bytes notes))
unread gives fault place why refused (Ok notes) same = ([], inr (refl, (why, refused)), same)
unread gives fault place why refused (Err e) same = tt

pub returns-in-Err-Fault-clause-notes : goal.returns-in-Err-Fault-clause-notes
returns-in-Err-Fault-clause-notes g c =
    let refused = rw c.in-Err-Fault.field-0-is at c.in-Err-Fault.ensures.fault in
    rw c.in-Some.is (unread (g.S.Source.gives c.args.source.now) c.args.fault.now (place_view c.in-Some.place) (load_fault_view c.in-Err-Fault.field-0-0)
    refused.0 c.line_notes-in-Err-Fault.result c.line_notes-in-Err-Fault.ensures)
