-- The progress of a stream: the lines that were taken, those that follow, and what was written.
use Rattle.std.proofs.Common.{◌≡◌, ℕ, ◌+◌, ◌-◌, ◌<◌, ◌≤◌, Bool, true, false, List, [], ◌∷◌, ◌++◌, length, take, drop, refl, ap, sym, ◌∙◌, subst, arith, Option, None, Some, Result, Ok, Err, length-append, append_assoc, append-nil, inl, inr}
use Rattle.std.proofs.lemmas.List.{map-append, length-map}
use Rattle.std.proofs.lemmas.List.Folds.{concat-append}
use Rattle.std.proofs.Math.Seq.{drop-append_seam, take-length}
use Rattle.std.specs.Prelude.{map, IsErrAnd}
use Rattle.std.specs.List.{concat}
use Rattle.std.specs.Io.KnownBytes.{Appends, Consumes, IsAtEnd}
use Rattle.brl_rules.specs.TableView.{TableView}
use Rattle.brl_stream.specs.InputLines.{lines_of, without_return}
use Rattle.brl_stream.specs.Output.{LineResult, at_line, decided, verdict_within, verdict, verdict_of_defined, outcome_of, output_by, output_of, HasWritten, HasWrittenBefore, ReadsFew, DecidesBefore}
use Rattle.brl_stream.specs.InputBuffer.{BufferView, IsRest, IsReadOn, IsWithin, HasNoFeed, HasLine, HasLongLine, IsOpen, IsTail, ReadsNext}
use Rattle.brl_stream.specs.Writing.{WritesOutput, WritesBefore}
use Rattle.brl_stream.specs.declared.fault.LineFault.{LineFault}
use Rattle.brl_stream.specs.declared.fault.LineFault.TheVariants as faults
use Rattle.brl_stream.specs.declared.fault.StreamFault.{StreamFault}
use Rattle.brl_failure.specs.declared.failure.Failure.{Failure}
use Rattle.brl_failure.specs.declared.failure.Failure.TheVariants as failures
use Rattle.brl_cells.specs.declared.form.Form.{Form}
use Rattle.brl_stream.proofs.KnownBytes.{Appends-trans, Appends-nil}
use Rattle.brl_stream.proofs.LineLemmas.{lines_of-line, lines_of-plain}
use Rattle.brl_stream.proofs.VerdictLemmas.{RefusesLong, decided-line, decided-short, verdict-line, verdict-last, verdict-nil, verdict-too_long, verdict-long}

-- these whole lines, with these outputs
pub record IsGone (output : List ℕ → LineResult) (gone : List ℕ) (outputs lines : List (List ℕ)) : Type 0 where
  pub verdict : (most : ℕ) (more : List ℕ) → length gone ≤ most → verdict_within output most (gone ++ more) ≡ map Ok outputs ++ verdict_within output (most - length gone) more
  pub decided : (more : List ℕ) → decided output (gone ++ more) ≡ map Ok outputs ++ decided output more
  pub taken : (more : List ℕ) → lines_of (gone ++ more) ≡ lines ++ lines_of more

pub gone_none : (output : List ℕ → LineResult) → IsGone output [] [] []
gone_none output = record { verdict = λ most more h. ap (λ n. verdict_within output n more) (omega arith); decided = λ more. refl; taken = λ more. refl }

-- one more line was taken
pub gone_more : (output : List ℕ → LineResult) (gone row : List ℕ) (outputs lines : List (List ℕ)) (bytes : List ℕ) → IsGone output gone outputs lines → HasNoFeed row → output (without_return row) ≡ Ok bytes
    → IsGone output (gone ++ (row ++ 10 ∷ [])) (outputs ++ bytes ∷ []) (lines ++ without_return row ∷ [])
gone_more output gone row outputs lines bytes is plain made =
    record {
      verdict = λ most more h.
          let room : length gone ≤ most = omega (arith, h, whole) in
          let row_room : length row + 1 ≤ most - length gone = omega (arith, h, whole, line) in
          let fewer : (most - length gone) - (length row + 1) ≡ most - length (gone ++ (row ++ 10 ∷ [])) = omega (arith, whole, line) in
          ap (verdict_within output most) (again more) ∙ is.verdict most (row ++ 10 ∷ more) room
          ∙ ap (λ ls. map Ok outputs ++ ls) (verdict-line output (most - length gone) row more plain row_room)
          ∙ one (verdict_within output ((most - length gone) - (length row + 1)) more)
          ∙ ap (λ n. map Ok (outputs ++ bytes ∷ []) ++ verdict_within output n more) fewer;
      decided = λ more.
          ap (decided output) (again more) ∙ is.decided (row ++ 10 ∷ more) ∙ ap (λ ls. map Ok outputs ++ ls) (decided-line output row more plain)
          ∙ one (decided output more);
      taken = λ more.
          ap lines_of (again more) ∙ is.taken (row ++ 10 ∷ more) ∙ ap (λ ls. lines ++ ls) (lines_of-line row more plain)
          ∙ sym (append_assoc lines (without_return row ∷ []) (lines_of more));
    }
  where
    whole : length (gone ++ (row ++ 10 ∷ [])) ≡ length gone + length (row ++ 10 ∷ [])
    whole = length-append gone (row ++ 10 ∷ [])

    line : length (row ++ 10 ∷ []) ≡ length row + 1
    line = length-append row (10 ∷ [])

    again : (more : List ℕ) → (gone ++ (row ++ 10 ∷ [])) ++ more ≡ gone ++ (row ++ 10 ∷ more)
    again more = append_assoc gone (row ++ 10 ∷ []) more ∙ ap (λ l. gone ++ l) (append_assoc row (10 ∷ []) more)

    one : (others : List LineResult) → map Ok outputs ++ output (without_return row) ∷ others ≡ map Ok (outputs ++ bytes ∷ []) ++ others
    one others =
        ap (λ r. map Ok outputs ++ r ∷ others) made ∙ sym (append_assoc (map Ok outputs) (Ok bytes ∷ []) others)
        ∙ ap (λ ls. ls ++ others) (sym (map-append Ok outputs (bytes ∷ [])))

-- the line at the start ends there
pub has_whole : (bytes : List ℕ) (len whole : ℕ) → HasLine bytes len whole → whole ≤ length bytes
has_whole bytes len whole line =
    let all = ap length line.2 in
    let count = length-append line.0 (10 ∷ line.1) in
    omega (arith, line.5, all, count)

-- the lines before the buffer were taken, and the rest follows the buffer
pub record IsAt (output : List ℕ → LineResult) (input : List ℕ) (w : BufferView) (rest : List ℕ) (outputs lines : List (List ℕ)) : Type 0 where
  pub gone : List ℕ
  pub whole : input ≡ gone ++ (w.bytes ++ rest)
  pub counted : length gone + length w.bytes ≡ w.taken
  pub is_gone : IsGone output gone outputs lines

pub at_start : (output : List ℕ → LineResult) (input : List ℕ) (w : BufferView) → w.bytes ≡ [] → w.taken ≡ 0 → IsAt output input w input [] []
at_start output input w none zero_taken =
    record { gone = []; whole = sym (ap (λ l. l ++ input) none); counted = let none_there = ap length none in omega (arith, none_there, zero_taken); is_gone = gone_none output }

-- more was read
pub at_read : (output : List ℕ → LineResult) (input rest : List ℕ) (outputs lines : List (List ℕ)) (old new : BufferView) (before after : Option (List ℕ)) → IsAt output input old rest outputs lines
    → IsReadOn old new before after → IsRest old.longer before rest → (later : List ℕ) × IsRest new.longer after later × IsAt output input new later outputs lines
at_read output input rest outputs lines old new before after is read follows =
    let same = read.same rest follows in (
      same.0,
      same.1,
      record { gone = is.gone; whole = is.whole ∙ ap (λ l. is.gone ++ l) same.2; counted = omega (arith, is.counted, read.counted); is_gone = is.is_gone },
    )

module _ (output : List ℕ → LineResult) (law : RefusesLong output) (input rest : List ℕ) (outputs lines : List (List ℕ)) (w : BufferView) (is : IsAt output input w rest outputs lines) (within : IsWithin w) where
  -- the lines of the input are those that were taken, and those of the buffer and the rest
  pub lines_at : verdict_within output 16777216 input ≡ map Ok outputs ++ verdict_within output (16777216 - length is.gone) (w.bytes ++ rest)
  lines_at = ap (verdict_within output 16777216) is.whole ∙ is.is_gone.verdict 16777216 (w.bytes ++ rest) (omega (arith, is.counted, within.limit))

  bytes_room : length w.bytes ≤ 16777216 - length is.gone
  bytes_room = omega (arith, is.counted, within.limit)

  -- ---- a line with its end

  module _ (len whole : ℕ) (line : HasLine w.bytes len whole) where
    row_room : length line.0 + 1 ≤ 16777216 - length is.gone
    row_room = let count = length-append line.0 (10 ∷ line.1) in omega (arith, bytes_room, ap length line.2, count)

    pub line_at : (others : List LineResult) × (verdict_within output 16777216 input ≡ map Ok outputs ++ output (take len w.bytes) ∷ others)
    line_at =
        let others = verdict_within output ((16777216 - length is.gone) - (length line.0 + 1)) (line.1 ++ rest) in (
          others,
          lines_at
              ∙ ap (λ ls. map Ok outputs ++ ls)
              (ap (verdict_within output (16777216 - length is.gone)) (ap (λ l. l ++ rest) line.2 ∙ append_assoc line.0 (10 ∷ line.1) rest)
              ∙ verdict-line output (16777216 - length is.gone) line.0 (line.1 ++ rest) line.3 row_room ∙ ap (λ l. output l ∷ others) (sym line.4)),
        )

    pub next_at : (bytes : List ℕ) → output (take len w.bytes) ≡ Ok bytes → IsAt output input (record w { bytes = drop whole w.bytes }) rest (outputs ++ bytes ∷ []) (lines ++ take len w.bytes ∷ [])
    next_at bytes made =
        let split : line.0 ++ 10 ∷ line.1 ≡ (line.0 ++ 10 ∷ []) ++ line.1 = sym (append_assoc line.0 (10 ∷ []) line.1) in
        let count : length (line.0 ++ 10 ∷ []) ≡ length line.0 + 1 = length-append line.0 (10 ∷ []) in
        let left : drop whole w.bytes ≡ line.1 =
        ap (drop whole) (line.2 ∙ split) ∙ ap (λ n. drop n ((line.0 ++ 10 ∷ []) ++ line.1)) (line.5 ∙ sym count) ∙ drop-append_seam (line.0 ++ 10 ∷ []) line.1 in
        let gone_count = length-append is.gone (line.0 ++ 10 ∷ []) in
        let all = ap length (line.2 ∙ split) in
        let all_count = length-append (line.0 ++ 10 ∷ []) line.1 in
        record {
          gone = is.gone ++ (line.0 ++ 10 ∷ []);
          whole = is.whole ∙ ap (λ l. is.gone ++ (l ++ rest)) (line.2 ∙ split)
              ∙ ap (λ l. is.gone ++ l) (append_assoc (line.0 ++ 10 ∷ []) line.1 rest)
              ∙ sym (append_assoc is.gone (line.0 ++ 10 ∷ []) (line.1 ++ rest))
              ∙ ap (λ l. (is.gone ++ (line.0 ++ 10 ∷ [])) ++ (l ++ rest)) (sym left);
          counted = omega (arith, gone_count, count, ap length left, all, all_count, is.counted);
          is_gone = subst (λ (row : List ℕ). IsGone output (is.gone ++ (line.0 ++ 10 ∷ [])) (outputs ++ bytes ∷ []) (lines ++ row ∷ [])) (sym line.4) (gone_more output is.gone line.0 outputs lines bytes is.is_gone line.3 (ap output (sym line.4) ∙ made));
        }

  -- ---- the end of the input

  no_rest : (after : Option (List ℕ)) → IsTail w.bytes w.longer after → IsRest w.longer after rest → rest ≡ []
  no_rest after tail follows = by_after after tail.2 (subst (λ (b : Bool). IsRest b after rest) tail.1 follows)
    where
      by_after : (after : Option (List ℕ)) → IsAtEnd after → after ≡ Some rest → rest ≡ []
      by_after None end h = absurd (apart h)
        where
          apart : None ≡ Some rest → ⊥
          apart e = cc
      by_after (Some xs) end h = let same : rest ≡ xs = cc in same ∙ end

  pub end_at : (after : Option (List ℕ)) → IsTail w.bytes w.longer after → length w.bytes ≡ 0 → IsRest w.longer after rest → verdict_within output 16777216 input ≡ map Ok outputs
  end_at after tail none follows =
      lines_at
      ∙ ap (λ ls. map Ok outputs ++ ls)
      (ap (verdict_within output (16777216 - length is.gone)) (empty w.bytes none ∙ no_rest after tail follows) ∙ verdict-nil output (16777216 - length is.gone))
      ∙ append-nil (map Ok outputs)
    where
      empty : (bs : List ℕ) → length bs ≡ 0 → bs ++ rest ≡ rest
      empty [] h = refl
      empty (b ∷ bs) h = absurd (omega (arith, h))

  pub last_at : (after : Option (List ℕ)) → IsTail w.bytes w.longer after → 0 < length w.bytes → IsRest w.longer after rest
      → verdict_within output 16777216 input ≡ map Ok outputs ++ output w.bytes ∷ []
  last_at after tail some follows =
      lines_at
      ∙ ap (λ ls. map Ok outputs ++ ls)
      (ap (verdict_within output (16777216 - length is.gone)) (ap (λ l. w.bytes ++ l) (no_rest after tail follows) ∙ append-nil w.bytes)
      ∙ by_bytes w.bytes tail.0 some bytes_room)
    where
      by_bytes : (bs : List ℕ) → HasNoFeed bs → 0 < length bs → length bs ≤ 16777216 - length is.gone → verdict_within output (16777216 - length is.gone) bs ≡ output bs ∷ []
      by_bytes [] plain h room = absurd (omega arith)
      by_bytes (b ∷ bs) plain h room = verdict-last output (16777216 - length is.gone) b bs plain room

  -- the lines of the input, where it ends before a line or with one
  pub lines_end_at : (after : Option (List ℕ)) → IsTail w.bytes w.longer after → length w.bytes ≡ 0 → IsRest w.longer after rest → lines_of input ≡ lines
  lines_end_at after tail none follows =
      ap lines_of is.whole ∙ is.is_gone.taken (w.bytes ++ rest) ∙ ap (λ bs. lines ++ lines_of bs) (empty w.bytes none ∙ no_rest after tail follows) ∙ append-nil lines
    where
      empty : (bs : List ℕ) → length bs ≡ 0 → bs ++ rest ≡ rest
      empty [] h = refl
      empty (b ∷ bs) h = absurd (omega (arith, h))

  pub lines_last_at : (after : Option (List ℕ)) → IsTail w.bytes w.longer after → 0 < length w.bytes → IsRest w.longer after rest → lines_of input ≡ lines ++ w.bytes ∷ []
  lines_last_at after tail some follows =
      ap lines_of is.whole ∙ is.is_gone.taken (w.bytes ++ rest) ∙ ap (λ bs. lines ++ lines_of bs) (ap (λ l. w.bytes ++ l) (no_rest after tail follows) ∙ append-nil w.bytes)
      ∙ ap (λ ls. lines ++ ls) (by_bytes w.bytes tail.0 some)
    where
      by_bytes : (bs : List ℕ) → HasNoFeed bs → 0 < length bs → lines_of bs ≡ bs ∷ []
      by_bytes [] plain h = absurd (omega arith)
      by_bytes (b ∷ bs) plain h = lines_of-plain b bs plain

  -- ---- lines without an end

  pub long_at : HasLongLine w.bytes → (others : List LineResult) × (verdict_within output 16777216 input ≡ map Ok outputs ++ Err faults.InputLineTooLong ∷ others)
  long_at line =
      let count = length-append line.0 line.1 in
      let found = verdict-long output (16777216 - length is.gone) line.0 (line.1 ++ rest) law line.3 (omega (arith, bytes_room, ap length line.2, count)) line.4 in (
        found.0,
        lines_at
            ∙ ap (λ ls. map Ok outputs ++ ls) (ap (verdict_within output (16777216 - length is.gone)) (ap (λ l. l ++ rest) line.2 ∙ append_assoc line.0 line.1 rest) ∙ found.1),
      )

  pub long_last_at : (after : Option (List ℕ)) → IsTail w.bytes w.longer after → 65536 < length w.bytes → IsRest w.longer after rest
      → (others : List LineResult) × (verdict_within output 16777216 input ≡ map Ok outputs ++ Err faults.InputLineTooLong ∷ others)
  long_last_at after tail long follows = ([], last_at after tail (omega (arith, long)) follows ∙ ap (λ r. map Ok outputs ++ r ∷ []) (law w.bytes long))

  pub too_long_at : (after : Option (List ℕ)) → IsOpen w.bytes → w.longer ≡ true → IsRest w.longer after rest
      → (others : List LineResult) × (verdict_within output 16777216 input ≡ map Ok outputs ++ Err faults.InputTooLong ∷ others)
  too_long_at after line longer follows =
      let behind = subst (λ (b : Bool). IsRest b after rest) longer follows in
      let some : 0 < length rest = omega (arith, ap length behind.3) in
      let full : length w.bytes ≡ 16777216 - length is.gone = omega (arith, is.counted, within.full longer) in
      ([], lines_at ∙ ap (λ ls. map Ok outputs ++ ls) (verdict-too_long output (16777216 - length is.gone) w.bytes rest line.0 line.1 full some))

-- ---- what was read

reads_by : (output : List ℕ → LineResult) (input rest : List ℕ) (outputs lines : List (List ℕ)) (w : BufferView) (after : Option (List ℕ)) → IsAt output input w rest outputs lines → IsWithin w
    → (longer : Bool) → IsRest longer after rest → ReadsFew (Some input) after
reads_by output input rest outputs lines w after is within false follows =
    let whole = is.whole ∙ sym (append_assoc is.gone w.bytes rest) in
    let count = length-append is.gone w.bytes in
    (is.gone ++ w.bytes, subst (λ (o : Option (List ℕ)). Consumes (Some input) o (is.gone ++ w.bytes)) (sym follows) whole, omega (arith, count, is.counted, within.limit))
reads_by output input rest outputs lines w after is within true follows =
    let b = follows.0 in
    let left = follows.1 in
    let got = (is.gone ++ w.bytes) ++ b ∷ [] in
    let whole : input ≡ got ++ left =
    is.whole ∙ ap (λ l. is.gone ++ (w.bytes ++ l)) follows.3 ∙ sym (append_assoc is.gone w.bytes (b ∷ left)) ∙ sym (append_assoc (is.gone ++ w.bytes) (b ∷ []) left) in
    let count = length-append is.gone w.bytes in
    let more = length-append (is.gone ++ w.bytes) (b ∷ []) in
    (got, subst (λ (o : Option (List ℕ)). Consumes (Some input) o got) (sym follows.2) whole, omega (arith, count, more, is.counted, within.limit))

-- the progress of a stream, once its input is known: these lines were taken
abbrev pub HasProgressed : (List ℕ → LineResult) → List (List ℕ) → Option (List ℕ) → Option (List ℕ) → BufferView → Option (List ℕ) → Option (List ℕ) → ℕ → Type 0
HasProgressed output lines before after w old new number = (input : List ℕ) → before ≡ Some input
    → (rest : List ℕ) × (outputs : List (List ℕ)) × IsRest w.longer after rest × IsAt output input w rest outputs lines × Appends old new (concat outputs) × (number ≡ length outputs + 1)

pub reads_few : (output : List ℕ → LineResult) (lines : List (List ℕ)) (before after old new : Option (List ℕ)) (w : BufferView) (number : ℕ) → HasProgressed output lines before after w old new number → IsWithin w → ReadsFew before after
reads_few output lines None after old new w number progress within = ([], tt, omega arith)
reads_few output lines (Some input) after old new w number progress within = let s = progress input refl in reads_by output input s.0 s.1 lines w after s.3 within w.longer s.2

pub decides_before : (output : List ℕ → LineResult) (taken : List (List ℕ)) (before after old new : Option (List ℕ)) (w : BufferView) (number : ℕ) → HasProgressed output taken before after w old new number → IsWithin w → IsOpen w.bytes → w.longer ≡ false
    → (input : List ℕ) → before ≡ Some input → DecidesBefore number output before after
decides_before output taken before after old new w number progress within line longer input known =
    let s = progress input known in
    let is = s.3 in
    let follows : after ≡ Some s.0 = subst (λ (b : Bool). IsRest b after s.0) longer s.2 in
    let whole : input ≡ (is.gone ++ w.bytes) ++ s.0 = is.whole ∙ sym (append_assoc is.gone w.bytes s.0) in
    let count = length-append is.gone w.bytes in
    let lines : decided output (is.gone ++ w.bytes) ≡ map Ok s.1 = is.is_gone.decided w.bytes ∙ ap (λ ls. map Ok s.1 ++ ls) (decided-short output w.bytes line.0 line.1) ∙ append-nil (map Ok s.1) in
    let lines_count : length (decided output (is.gone ++ w.bytes)) ≡ length s.1 = ap length lines ∙ length-map s.1 Ok in (
      is.gone ++ w.bytes,
      rw (known, follows) whole,
      omega (arith, count, is.counted, within.limit),
      omega (arith, lines_count, s.5),
    )

-- ---- what was written

pub verdict-is : (t : TableView) (form : Form) (input : List ℕ) → verdict t form input ≡ verdict_within (output_of t form) 16777216 input
unfolding verdict
verdict-is t form input = refl

pub verdict_of_defined-is : (t : TableView) (form : Form) (input : List ℕ) → verdict_of_defined t form input ≡ verdict_within (output_by true t form) 16777216 input
unfolding verdict_of_defined
verdict_of_defined-is t form input = refl

module _ (lines : List LineResult) (outputs : List (List ℕ)) (number : ℕ) (a b c : Option (List ℕ)) (so_far : Appends a b (concat outputs)) (count : number ≡ length outputs + 1) where
  same_out : Appends b c [] → Appends a c (concat outputs)
  same_out p = subst (λ (xs : List ℕ). Appends a c xs) (append-nil (concat outputs)) (Appends-trans a b c (concat outputs) [] so_far p)

  pub more_out : (bytes : List ℕ) → Appends b c bytes → Appends a c (concat (outputs ++ bytes ∷ []))
  more_out bytes p =
      let joined : concat outputs ++ bytes ≡ concat (outputs ++ bytes ∷ []) = ap (λ l. concat outputs ++ l) (sym (append-nil bytes)) ∙ sym (concat-append outputs (bytes ∷ [])) in
      subst (λ (xs : List ℕ). Appends a c xs) joined (Appends-trans a b c (concat outputs) bytes so_far p)

  -- the write of a line's output
  module _ (output : LineResult) (others : List LineResult) (progress : lines ≡ map Ok outputs ++ output ∷ others) where
    refused : (fault : LineFault) → output ≡ Err fault → lines ≡ map Ok outputs ++ Err fault ∷ others
    refused fault e = progress ∙ ap (λ r. map Ok outputs ++ r ∷ others) e

    fault_written : (n : ℕ) (fault : LineFault) → n ≡ number → WritesBefore output b c fault → HasWrittenBefore lines a c n fault
    fault_written n faults.InputFailed is t = absurd t
    fault_written n faults.OutputFailed is t =
        (outputs, t.0, t.1, others, progress ∙ ap (λ r. map Ok outputs ++ r ∷ others) t.2, is ∙ count, Appends-trans a b c (concat outputs) t.0 so_far t.3)
    fault_written n (faults.UnknownChar position) is t = (outputs, others, refused _ t.0, is ∙ count, same_out t.1)
    fault_written n faults.NoAscii is t = (outputs, others, refused _ t.0, is ∙ count, same_out t.1)
    fault_written n faults.InputNotUtf8 is t = (outputs, others, refused _ t.0, is ∙ count, same_out t.1)
    fault_written n faults.InputLineTooLong is t = (outputs, others, refused _ t.0, is ∙ count, same_out t.1)
    fault_written n faults.InputTooLong is t = (outputs, others, refused _ t.0, is ∙ count, same_out t.1)

    pub err_written : (failure : Failure StreamFault) → WritesOutput output number b c (Err failure) → HasWritten lines a c (Err failure)
    err_written failures.Memory t = (outputs, output ∷ others, progress, same_out t)
    err_written (failures.Fault found) t = fault_written found.line found.fault t.0 t.1

  -- the write of the last line's output
  pub last_written : (output : LineResult) → lines ≡ map Ok outputs ++ output ∷ [] → (r : Result (Unit {0}) (Failure StreamFault)) → WritesOutput output number b c r → HasWritten lines a c r
  last_written output progress (Err fault) t = err_written output [] progress fault t
  last_written output progress (Ok done) t =
      (outputs ++ t.0 ∷ [], progress ∙ ap (λ r. map Ok outputs ++ r ∷ []) t.1 ∙ sym (map-append Ok outputs (t.0 ∷ [])), more_out t.0 t.2)

-- a line that could not be read
pub next_written : (output : List ℕ → LineResult) (law : RefusesLong output) (lines : List (List ℕ)) (before after old new : Option (List ℕ)) (w : BufferView) (number : ℕ)
    → HasProgressed output lines before after w old new number → IsWithin w → (fault : LineFault) → ReadsNext w.bytes w.longer after (Err fault) → (input : List ℕ) → before ≡ Some input
    → HasWritten (verdict_within output 16777216 input) old new (Err (failures.Fault (at_line number fault)))
next_written output law taken before after old new w number progress within fault tells input known = by_fault fault tells
  where
    s : (rest : List ℕ) × (outputs : List (List ℕ)) × IsRest w.longer after rest × IsAt output input w rest outputs taken × Appends old new (concat outputs) × (number ≡ length outputs + 1)
    s = progress input known

    by_fault : (fault : LineFault) → ReadsNext w.bytes w.longer after (Err fault) → HasWritten (verdict_within output 16777216 input) old new (Err (failures.Fault (at_line number fault)))
    by_fault (faults.UnknownChar position) n = absurd n
    by_fault faults.NoAscii n = absurd n
    by_fault faults.InputNotUtf8 n = absurd n
    by_fault faults.OutputFailed n = absurd n
    by_fault faults.InputFailed n =
        (s.1, verdict_within output (16777216 - length s.3.gone) (w.bytes ++ s.0), lines_at output law input s.0 s.1 taken w s.3 within, s.5, s.4)
    by_fault faults.InputTooLong n =
        let lines = too_long_at output law input s.0 s.1 taken w s.3 within after n.0 n.1 s.2 in
        (s.1, lines.0, lines.1, s.5, s.4)
    by_fault faults.InputLineTooLong (inl n) =
        let lines = long_at output law input s.0 s.1 taken w s.3 within n in
        (s.1, lines.0, lines.1, s.5, s.4)
    by_fault faults.InputLineTooLong (inr n) =
        let lines = long_last_at output law input s.0 s.1 taken w s.3 within after n.0 n.1 s.2 in
        (s.1, lines.0, lines.1, s.5, s.4)

-- a fault names one line, and has one kind
pub same_line : (number n : ℕ) (fault other : LineFault) → (let r : Result (Unit {0}) (Failure StreamFault) = Err (failures.Fault (at_line number fault)) in r) ≡ Err (failures.Fault (at_line n other)) → (number ≡ n) × (fault ≡ other)
same_line number n fault other e =
    let same : at_line number fault ≡ at_line n other = cc in
    (ap (λ (f : StreamFault). f.line) same, ap (λ (f : StreamFault). f.fault) same)

pub err_is : (r : Result (Unit {0}) (Failure StreamFault)) (fault : Failure StreamFault) → IsErrAnd r (λ e. e ≡ fault) → r ≡ Err fault
err_is (Ok done) fault h = absurd h
err_is (Err e) fault h = ap Err h

-- ---- from line to line

pub progress_start : (output : List ℕ → LineResult) (before new : Option (List ℕ)) (w : BufferView) → w.bytes ≡ [] → w.taken ≡ 0 → w.longer ≡ false → HasProgressed output [] before before w new new 1
progress_start output before new w none zero_taken longer = λ input known.
    (input, [], subst (λ (b : Bool). IsRest b before input) (sym longer) known, at_start output input w none zero_taken, Appends-nil new, omega arith)

pub progress_read : (output : List ℕ → LineResult) (lines : List (List ℕ)) (before after later old new : Option (List ℕ)) (w next : BufferView) (number : ℕ) → HasProgressed output lines before after w old new number → IsReadOn w next after later
    → HasProgressed output lines before later next old new number
progress_read output lines before after later old new w next number progress read = λ input known.
    let s = progress input known in
    let at = at_read output input s.0 s.1 lines w next after later s.3 read s.2 in
    (at.0, s.1, at.1, at.2, s.4, s.5)

module _ (output : List ℕ → LineResult) (law : RefusesLong output) (taken : List (List ℕ)) (before after old new written : Option (List ℕ)) (w : BufferView) (number : ℕ)
    (progress : HasProgressed output taken before after w old new number) (within : IsWithin w) where
  -- one more line was written
  pub progress_next : (len whole : ℕ) → HasLine w.bytes len whole → WritesOutput (output (take len w.bytes)) number new written (Ok tt)
      → HasProgressed output (taken ++ take len w.bytes ∷ []) before after (record w { bytes = drop whole w.bytes }) old written (number + 1)
  progress_next len whole line wrote = λ input known.
      let s = progress input known in
      let count = length-append s.1 (wrote.0 ∷ []) in (
        s.0,
        s.1 ++ wrote.0 ∷ [],
        s.2,
        next_at output law input s.0 s.1 taken w s.3 within len whole line wrote.0 wrote.1,
        more_out [] s.1 number old new written s.4 s.5 wrote.0 wrote.2,
        omega (arith, s.5, count),
      )

  -- a line was read, and not all of it was written
  pub line_written : (len whole : ℕ) → HasLine w.bytes len whole → (fault : Failure StreamFault) → WritesOutput (output (take len w.bytes)) number new written (Err fault)
      → (input : List ℕ) → before ≡ Some input → HasWritten (verdict_within output 16777216 input) old written (Err fault)
  line_written len whole line fault wrote = λ input known.
      let s = progress input known in
      let lines = line_at output law input s.0 s.1 taken w s.3 within len whole line in
      err_written (verdict_within output 16777216 input) s.1 number old new written s.4 s.5 (output (take len w.bytes)) lines.0 lines.1 fault wrote

  -- the last line, without its end
  module _ (len : ℕ) (tail : IsTail w.bytes w.longer after) (is : len ≡ length w.bytes) (some : 0 < len) where
    all : take len w.bytes ≡ w.bytes
    all = ap (λ n. take n w.bytes) is ∙ take-length w.bytes

    pub tail_written : (r : Result (Unit {0}) (Failure StreamFault)) → WritesOutput (output (take len w.bytes)) number new written r
        → (input : List ℕ) → before ≡ Some input → HasWritten (verdict_within output 16777216 input) old written r
    tail_written r wrote = λ input known.
        let s = progress input known in
        let lines = last_at output law input s.0 s.1 taken w s.3 within after tail (omega (arith, is, some)) s.2 in
        last_written (verdict_within output 16777216 input) s.1 number old new written s.4 s.5 (output (take len w.bytes)) (lines ∙ ap (λ l. map Ok s.1 ++ output l ∷ []) (sym all)) r wrote

    pub tail_taken : (input : List ℕ) → before ≡ Some input → lines_of input ≡ taken ++ take len w.bytes ∷ []
    tail_taken input known =
        let s = progress input known in
        lines_last_at output law input s.0 s.1 taken w s.3 within after tail (omega (arith, is, some)) s.2 ∙ ap (λ l. taken ++ l ∷ []) (sym all)

-- every line was written
module _ (output : List ℕ → LineResult) (law : RefusesLong output) (taken : List (List ℕ)) (before after old new : Option (List ℕ)) (w : BufferView) (number : ℕ)
    (progress : HasProgressed output taken before after w old new number) (within : IsWithin w) (tail : IsTail w.bytes w.longer after) (none : length w.bytes ≡ 0) where
  pub all_written : (input : List ℕ) → before ≡ Some input → HasWritten (verdict_within output 16777216 input) old new (Ok tt)
  all_written input known =
      let s = progress input known in
      (s.1, end_at output law input s.0 s.1 taken w s.3 within after tail none s.2, s.4)

  pub all_taken : (input : List ℕ) → before ≡ Some input → lines_of input ≡ taken
  all_taken input known =
      let s = progress input known in
      lines_end_at output law input s.0 s.1 taken w s.3 within after tail none s.2

-- where memory runs out after all lines were written, some first lines were written
pub all_then_memory : {T : Type 0} (lines : List LineResult) (old new : Option (List ℕ)) (r : Result T (Failure StreamFault)) → IsErrAnd r (λ e. e ≡ failures.Memory) → HasWritten lines old new (Ok tt)
    → HasWritten lines old new (outcome_of r)
all_then_memory lines old new (Ok value) h written = absurd h
all_then_memory lines old new (Err failure) h written =
    subst (λ (f : Failure StreamFault). HasWritten lines old new (Err f)) (sym h) (written.0, [], written.1 ∙ sym (append-nil (map Ok written.0)), written.2)
