-- The output of a line, or its fault.
use Rattle.std.proofs.Common.{◌≡◌, ℕ, ◌+◌, ◌<◌, ◌≤◌, Bool, true, false, not, ◌&&◌, cond, nat_lt, List, [], ◌∷◌, ◌++◌, length, drop, get_or, refl, ap, sym, subst, ◌∙◌, Option, None, Some, Result, Ok, Err, append_assoc, add-one}
use Rattle.std.proofs.Math.Seq.{drop-cons}
use Rattle.std.proofs.lemmas.Str.{is_utf8-from_IsUtf8, IsUtf8-from_is_utf8}
use Rattle.std.proofs.lemmas.Iterator.Adapters.{position_from-zero}
use Rattle.std.specs.Prelude.{option_map, position, IsErrAnd}
use Rattle.std.specs.List.{position_from}
use Rattle.std.specs.Fmt.{option_append}
use Rattle.std.specs.Str.{chars, is_utf8, IsUtf8}
use Rattle.brl_rules.specs.TableView.{TableView}
use Rattle.brl_rules.specs.Text.{is_text, is_defined}
use Rattle.brl_rules.specs.Translation.{translation}
use Rattle.brl_forward.specs.Faults.{first_unknown, IsFaultOf}
use Rattle.brl_forward.specs.declared.fault.ForwardFault.{ForwardFault}
use Rattle.brl_forward.specs.declared.fault.ForwardFault.TheVariants as forward
use Rattle.brl_forward.proofs.UnknownChars.{first_unknown-of_text}
use Rattle.brl_stream.specs.Output.{LineResult, at_line, mark_of, marks_of, with_feed, unless_unknown, output_by, output_of, passing_over}
use Rattle.brl_stream.specs.Writing.{IsMade, IsPassedOver, Pushes, WritesOutput, WritesBefore, line_fault_of}
use Rattle.brl_stream.specs.declared.fault.LineFault.TheVariants as faults
use Rattle.brl_stream.specs.declared.fault.LineFault.{LineFault}
use Rattle.brl_stream.specs.declared.fault.StreamFault.{StreamFault}
use Rattle.brl_failure.specs.Failure.{IfFault, IsRaised}
use Rattle.brl_failure.specs.Raised.{if_err-raised}
use Rattle.std.specs.Prelude.{IfErr, IfOk}
use Rattle.std.proofs.lemmas.Bool.{le-ltb, lt-ltb}
use Rattle.brl_failure.specs.declared.failure.Failure.{Failure}
use Rattle.brl_failure.specs.declared.failure.Failure.TheVariants as failures
use Rattle.brl_cells.specs.declared.form.Form.{Form}
use Rattle.brl_stream.proofs.KnownBytes.{Appends-nil}
use Rattle.brl_stream.proofs.VerdictLemmas.{RefusesLong}

-- ---- marks

drop-at : (xs : List ℕ) (i x : ℕ) → i < length xs → x ≡ get_or xs i x → drop i xs ≡ x ∷ drop (i + 1) xs
drop-at xs i x h e = drop-cons xs i x h ∙ ap (λ n. get_or xs i x ∷ drop n xs) (sym (add-one i)) ∙ ap (λ b. b ∷ drop (i + 1) xs) (sym e)

more_marks : (now later : List ℕ) (mark others : Option (List ℕ)) → option_map (λ more. now ++ more) mark ≡ Some later
    → option_map (λ more. now ++ more) (option_append mark others) ≡ option_map (λ more. later ++ more) others
more_marks now later None others h = absurd (no_mark h)
  where
    no_mark : None ≡ Some later → ⊥
    no_mark e = cc
more_marks now later (Some mark) None h = refl
more_marks now later (Some mark) (Some others) h =
    let same : now ++ mark ≡ later = cc in
    ap Some (sym (append_assoc now mark others) ∙ ap (λ l. l ++ others) same)

-- the mark of one more cell was added
pub marks_of-more : (form : Form) (cells : List ℕ) (i cell : ℕ) (now later : List ℕ) → i < length cells → cell ≡ get_or cells i cell → option_map (λ more. now ++ more) (mark_of form cell) ≡ Some later
    → option_map (λ more. now ++ more) (marks_of form (drop i cells)) ≡ option_map (λ more. later ++ more) (marks_of form (drop (i + 1) cells))
marks_of-more form cells i cell now later h e m =
    ap (λ cs. option_map (λ more. now ++ more) (marks_of form cs)) (drop-at cells i cell h e)
    ∙ more_marks now later (mark_of form cell) (marks_of form (drop (i + 1) cells)) m

-- ---- the output of a line

pub output_of-long : (t : TableView) (form : Form) → RefusesLong (output_of t form)
unfolding output_of
output_of-long t form line h = let test = lt-ltb 65536 (length line) h in rw test refl

pub output_of-text : (t : TableView) (form : Form) (line : List ℕ) → length line ≤ 65536 → IsUtf8 line
    → output_of t form line ≡ unless_unknown (first_unknown t (chars line)) (with_feed (marks_of form (translation t (chars line))))
unfolding output_of
output_of-text t form line short utf8 =
    let test = le-ltb 65536 (length line) short in
    let text = is_utf8-from_IsUtf8 line utf8 in
    rw (test, text) refl

pub output_of-not_utf8 : (t : TableView) (form : Form) (line : List ℕ) → length line ≤ 65536 → (IsUtf8 line → ⊥) → output_of t form line ≡ Err faults.InputNotUtf8
unfolding output_of
output_of-not_utf8 t form line short not_text =
    let test = le-ltb 65536 (length line) short in
    rw test (by_test (is_utf8 line) (λ e. not_text (IsUtf8-from_is_utf8 line e)))
  where
    by_test : (b : Bool) → (b ≡ true → ⊥) → cond b (unless_unknown (first_unknown t (chars line)) (with_feed (marks_of form (translation t (chars line))))) (Err faults.InputNotUtf8) ≡ Err faults.InputNotUtf8
    by_test true never = absurd (never refl)
    by_test false never = refl

-- the output of a line is no fault of the reader or the writer
own : (long text : Bool) (unknown : Option ℕ) (marks : Option (List ℕ))
    → ((cond long (Err faults.InputLineTooLong) (cond text (unless_unknown unknown (with_feed marks)) (Err faults.InputNotUtf8)) ≡ Err faults.InputFailed → ⊥)
    × (cond long (Err faults.InputLineTooLong) (cond text (unless_unknown unknown (with_feed marks)) (Err faults.InputNotUtf8)) ≡ Err faults.OutputFailed → ⊥))
own true text unknown marks = (λ e. cc, λ e. cc)
own false false unknown marks = (λ e. cc, λ e. cc)
own false true (Some position) marks = (λ e. cc, λ e. cc)
own false true None None = (λ e. cc, λ e. cc)
own false true None (Some marks) = (λ e. cc, λ e. cc)

output_of-own : (t : TableView) (form : Form) (line : List ℕ) → (output_of t form line ≡ Err faults.InputFailed → ⊥) × (output_of t form line ≡ Err faults.OutputFailed → ⊥)
unfolding output_of
output_of-own t form line = own (nat_lt 65536 (length line)) (is_utf8 line) (first_unknown t (chars line)) (marks_of form (translation t (chars line)))

module _ (t : TableView) (form : Form) (line buffer : List ℕ) (number : ℕ) where
  -- a fault that isn't passed over is that of the line
  told_is : (passes : Bool) (fault : LineFault) (found : StreamFault) → IsPassedOver passes number (failures.Fault fault) (Err (failures.Fault found)) → output_of t form line ≡ Err fault
      → (found ≡ at_line number fault) × (output_by passes t form line ≡ Err fault)
  told_is true (faults.UnknownChar position) found h made = absurd h
  told_is true faults.NoAscii found h made = (h, ap passing_over made)
  told_is true faults.InputNotUtf8 found h made = (h, ap passing_over made)
  told_is true faults.InputFailed found h made = (h, ap passing_over made)
  told_is true faults.OutputFailed found h made = (h, ap passing_over made)
  told_is true faults.InputLineTooLong found h made = (h, ap passing_over made)
  told_is true faults.InputTooLong found h made = (h, ap passing_over made)
  told_is false (faults.UnknownChar position) found h made = (h, made)
  told_is false faults.NoAscii found h made = (h, made)
  told_is false faults.InputNotUtf8 found h made = (h, made)
  told_is false faults.InputFailed found h made = (h, made)
  told_is false faults.OutputFailed found h made = (h, made)
  told_is false faults.InputLineTooLong found h made = (h, made)
  told_is false faults.InputTooLong found h made = (h, made)

  -- a line that is passed over has an unknown character
  passed_is : (passes : Bool) (fault : LineFault) (done : Unit {0}) → IsPassedOver passes number (failures.Fault fault) (Ok done) → output_of t form line ≡ Err fault
      → (output_by passes t form line ≡ Ok []) × ((position : ℕ) × (fault ≡ faults.UnknownChar position))
  passed_is true (faults.UnknownChar position) done h made = (ap passing_over made, (position, refl))
  passed_is false (faults.UnknownChar position) done h made = cc
  passed_is passes faults.NoAscii done h made = absurd h
  passed_is passes faults.InputNotUtf8 done h made = absurd h
  passed_is passes faults.InputFailed done h made = absurd h
  passed_is passes faults.OutputFailed done h made = absurd h
  passed_is passes faults.InputLineTooLong done h made = absurd h
  passed_is passes faults.InputTooLong done h made = absurd h

  -- nothing is written of a line that is passed over, or whose fault is the answer
  pub passed_over : (passes : Bool) (contents : Option (List ℕ)) (failure : Failure LineFault) (r : Result (Unit {0}) (Failure StreamFault)) → IsMade (output_of t form line) buffer (Err failure)
      → IsPassedOver passes number failure r → WritesOutput (output_by passes t form line) number contents contents r
  passed_over passes contents failure (Err failures.Memory) made h = Appends-nil contents
  passed_over passes contents failures.Memory (Ok done) made h = absurd h
  passed_over passes contents failures.Memory (Err (failures.Fault found)) made h = absurd h
  passed_over passes contents (failures.Fault fault) (Ok done) made h = let passed = passed_is passes fault done h made in ([], passed.0, Appends-nil contents)
  passed_over passes contents (failures.Fault fault) (Err (failures.Fault found)) made h =
      let told = told_is passes fault found h made in
      subst (λ (f : StreamFault). WritesOutput (output_by passes t form line) number contents contents (Err (failures.Fault f))) (sym told.0) (refl, nothing_written fault told.1 made)
    where
      nothing_written : (fault : LineFault) → output_by passes t form line ≡ Err fault → output_of t form line ≡ Err fault → WritesBefore (output_by passes t form line) contents contents fault
      nothing_written faults.InputFailed same made = absurd ((output_of-own t form line).0 made)
      nothing_written faults.OutputFailed same made = absurd ((output_of-own t form line).1 made)
      nothing_written (faults.UnknownChar position) same made = (same, Appends-nil contents)
      nothing_written faults.NoAscii same made = (same, Appends-nil contents)
      nothing_written faults.InputNotUtf8 same made = (same, Appends-nil contents)
      nothing_written faults.InputLineTooLong same made = (same, Appends-nil contents)
      nothing_written faults.InputTooLong same made = (same, Appends-nil contents)

  -- a line without output is no failed write
  pub not_written : (passes : Bool) (failure : Failure LineFault) (r : Result (Unit {0}) (Failure StreamFault)) → IsMade (output_of t form line) buffer (Err failure) → IsPassedOver passes number failure r
      → r ≡ Err (failures.Fault (at_line number faults.OutputFailed)) → ⊥
  not_written passes failure (Ok done) made h same = cc
  not_written passes failure (Err failures.Memory) made h same = cc
  not_written passes failures.Memory (Err (failures.Fault found)) made h same = absurd h
  not_written passes (failures.Fault fault) (Err (failures.Fault found)) made h same =
      let told = told_is passes fault found h made in
      let one : found ≡ at_line number faults.OutputFailed = cc in
      (output_of-own t form line).1 (made ∙ ap Err (ap (λ f. f.fault) (sym told.0 ∙ one)))

pub output_by-long : (passes : Bool) (t : TableView) (form : Form) → RefusesLong (output_by passes t form)
output_by-long true t form line h = ap passing_over (output_of-long t form line h)
output_by-long false t form line h = output_of-long t form line h

-- the characters of a line that has an output are defined
pub made_text : (t : TableView) (form : Form) (line bytes : List ℕ) → output_of t form line ≡ Ok bytes → is_text t (chars line) ≡ true
unfolding output_of
made_text t form line bytes made = by_tests (nat_lt 65536 (length line)) (is_utf8 line) (first_unknown t (chars line)) refl made
  where
    all_known : (xs : List ℕ) (n : ℕ) → position_from (λ c. not (is_defined t c)) n xs ≡ None → is_text t xs ≡ true
    all_known [] n h = refl
    all_known (x ∷ xs) n h = first (is_defined t x) h (all_known xs (n + 1))
      where
        first : (b : Bool) → cond (not b) (Some n) (position_from (λ c. not (is_defined t c)) (n + 1) xs) ≡ None
            → (position_from (λ c. not (is_defined t c)) (n + 1) xs ≡ None → is_text t xs ≡ true) → b && is_text t xs ≡ true
        first true e more = more e
        first false e more = absurd (some_is e)
          where
            some_is : Some n ≡ None → ⊥
            some_is e = cc

    by_tests : (long text : Bool) (unknown : Option ℕ) → first_unknown t (chars line) ≡ unknown
        → cond long (Err faults.InputLineTooLong) (cond text (unless_unknown unknown (with_feed (marks_of form (translation t (chars line))))) (Err faults.InputNotUtf8)) ≡ Ok bytes → is_text t (chars line) ≡ true
    by_tests true text unknown e h = cc
    by_tests false false unknown e h = cc
    by_tests false true (Some position) e h = cc
    by_tests false true None e h = all_known (chars line) 0 (sym (position_from-zero (λ c. not (is_defined t c)) (chars line)) ∙ e)

-- a fact of the value of a success
pub value_has : {T E : Type 0} (P : T → Type 0) (step : Result T E) (x : T) → step ≡ Ok x → IfOk step P → P x
value_has P step x e h = subst (λ (r : Result _ _). IfOk r P) e h

-- a fault that is handed on
pub gone_up : (output : LineResult) (buffer : List ℕ) (P : Failure LineFault → Type 0) (r : Result (Unit {0}) (Failure LineFault)) → IsErrAnd r P → ((failure : Failure LineFault) → P failure → IsMade output buffer (Err failure)) → IsMade output buffer r
gone_up output buffer P (Ok done) h f = absurd h
gone_up output buffer P (Err failure) h f = f failure h

-- ---- the parts of a line's output

module _ (t : TableView) (form : Form) (line text : List ℕ) (short : length line ≤ 65536) (utf8 : IsUtf8 line) (is : text ≡ chars line) where
  pub unknown_made : (position : ℕ) → first_unknown t text ≡ Some position → output_of t form line ≡ Err (faults.UnknownChar position)
  unknown_made position h = output_of-text t form line short utf8 ∙ rw (← is, h) refl

  pub unknown_fault : (fault : ForwardFault) → IsFaultOf t text fault → output_of t form line ≡ Err (line_fault_of fault)
  unknown_fault (forward.UnknownChar position) h = unknown_made position h

  -- a translation that failed leaves the line without output
  pub translate_stops : {T : Type 0} (step : Result T (Failure ForwardFault)) (raised : Result T (Failure LineFault)) (failure : Failure LineFault)
      → IsRaised (λ one other. other ≡ line_fault_of one) step raised → raised ≡ Err failure → IfErr step (IfFault (IsFaultOf t text)) → (buffer : List ℕ) → IsMade (output_of t form line) buffer (Err failure)
  translate_stops step raised failure is e h buffer =
      subst (λ (r : Result _ (Failure LineFault)). IfErr r (IfFault (λ fault. output_of t form line ≡ Err fault))) e
      (if_err-raised _ (IsFaultOf t text) (λ fault. output_of t form line ≡ Err fault) step raised is h (λ one other same fault. unknown_fault one fault ∙ ap Err (sym same)))

  module _ (cells : List ℕ) (defined : is_text t text ≡ true) (translated : cells ≡ translation t text) where
    marks_made : output_of t form line ≡ with_feed (marks_of form cells)
    marks_made =
        let none = first_unknown-of_text t text defined in
        output_of-text t form line short utf8 ∙ rw (← is, ← translated, none) refl

    pub marks_stop : (old new buffer : List ℕ) (failure : Failure LineFault) → Pushes (marks_of form cells) old new (Err failure) → IsMade (output_of t form line) buffer (Err failure)
    marks_stop old new buffer failures.Memory h = tt
    marks_stop old new buffer (failures.Fault fault) h = marks_made ∙ rw (h.0, h.1) refl

    pub output_made : (old new buffer : List ℕ) → old ≡ [] → option_map (λ more. old ++ more) (marks_of form cells) ≡ Some new → buffer ≡ new ++ 10 ∷ [] → output_of t form line ≡ Ok buffer
    output_made old new buffer empty marks whole = marks_made ∙ by_marks (marks_of form cells) marks
      where
        by_marks : (m : Option (List ℕ)) → option_map (λ more. old ++ more) m ≡ Some new → with_feed m ≡ Ok buffer
        by_marks None h = absurd (no_marks h)
          where
            no_marks : None ≡ Some new → ⊥
            no_marks e = cc
        by_marks (Some m) h =
            let same : old ++ m ≡ new = cc in
            let here : m ≡ new = ap (λ l. l ++ m) (sym empty) ∙ same in
            ap Ok (ap (λ l. l ++ 10 ∷ []) here ∙ sym whole)
