-- By an unambiguous table the output of lines determines them: a mark is a character, no two cells
-- have the same, and none is a line feed.
use Rattle.std.proofs.Common.{◌≡◌, ◌≢◌, ℕ, ◌+◌, ◌<◌, ◌≤◌, Bool, true, false, cond, nat_le, nat_lt, List, [], ◌∷◌, ◌++◌, length, refl, ap, ap₂, sym, ◌∙◌, arith, Option, None, Some, Ok, Err, append_assoc}
use Rattle.std.proofs.lemmas.Str.{IsUtf8-from_is_utf8, encode_ascii, encode_same, encodes-chars}
use lib.Utf8.{encodes}
use Rattle.std.specs.Prelude.{map, option_map, take}
use Rattle.std.specs.List.{concat}
use Rattle.std.specs.Char.{encode_utf8}
use Rattle.std.specs.Fmt.{option_append}
use Rattle.std.specs.Str.{IsUtf8, chars, is_utf8}
use Rattle.brl_cells.specs.Marks.{ascii_mark, unicode_mark}
use Rattle.brl_cells.specs.declared.form.Form.{Form}
use Rattle.brl_cells.specs.declared.form.Form.TheVariants.{Ascii, Unicode}
use Rattle.brl_forward.specs.Faults.{first_unknown}
use Rattle.brl_rules.specs.TableView.{TableView}
use Rattle.brl_rules.specs.Translation.{IsUnambiguous, translation}
use Rattle.brl_stream.specs.InputLines.{lines_of}
use Rattle.brl_stream.specs.Output.{IsOutput, LineResult, decided, mark_of, marks_of, most_input, output_of, unless_unknown, verdict, verdict_within, with_feed}
use Rattle.brl_stream.specs.declared.fault.LineFault.TheVariants as faults
use Rattle.brl_stream.specs.declared.fault.LineFault.{LineFault}
use Rattle.brl_stream.proofs.OutputLemmas.{made_text}

-- ---- Lists of results

some_same : {X : Type 0} (x y : X) → Some x ≡ Some y → x ≡ y
some_same x y e = cc

some_bytes : (marks others : List ℕ) → [] ≡ (marks ++ 10 ∷ []) ++ others → ⊥
some_bytes [] others e = cc
some_bytes (b ∷ marks) others e = cc

-- no list of outputs ends with a fault
no_fault_last : (results : List LineResult) (fault : LineFault) (outputs : List (List ℕ)) → results ++ Err fault ∷ [] ≡ map Ok outputs → ⊥
no_fault_last [] fault [] e = cc
no_fault_last [] fault (output ∷ outputs) e = cc
no_fault_last (r ∷ results) fault [] e = cc
no_fault_last (r ∷ results) fault (output ∷ outputs) e = (let rest : results ++ Err fault ∷ [] ≡ map Ok outputs = cc in no_fault_last results fault outputs rest)

-- an input with an output is within the limit
outputs_of_lines : (output : List ℕ → LineResult) (most : ℕ) (input : List ℕ) (outputs : List (List ℕ)) → verdict_within output most input ≡ map Ok outputs → map output (lines_of input) ≡ map Ok outputs
unfolding verdict_within
outputs_of_lines output most input outputs h = by (nat_le (length input) most) h
  where
    by : (b : Bool) → cond b (map output (lines_of input)) (decided output (take most input) ++ Err faults.InputTooLong ∷ []) ≡ map Ok outputs → map output (lines_of input) ≡ map Ok outputs
    by true e = e
    by false e = absurd (no_fault_last (decided output (take most input)) faults.InputTooLong outputs e)

-- ---- What a line's output is made of

-- a line that has an output is a text, and these are its marks
record IsMadeOf (t : TableView) (form : Form) (line output : List ℕ) : Type 0 where
  text : IsUtf8 line
  marks : List ℕ
  are_marks : marks_of form (translation t (chars line)) ≡ Some marks
  joined : output ≡ marks ++ 10 ∷ []

made_of : (t : TableView) (form : Form) (line output : List ℕ) → output_of t form line ≡ Ok output → IsMadeOf t form line output
unfolding output_of
made_of t form line output made = by (nat_lt 65536 (length line)) (is_utf8 line) refl (first_unknown t (chars line)) (marks_of form (translation t (chars line))) refl made
  where
    by : (long text : Bool) → is_utf8 line ≡ text → (unknown : Option ℕ) (marks : Option (List ℕ)) → marks_of form (translation t (chars line)) ≡ marks
        → cond long (Err faults.InputLineTooLong) (cond text (unless_unknown unknown (with_feed marks)) (Err faults.InputNotUtf8)) ≡ Ok output → IsMadeOf t form line output
    by true text is unknown marks e h = cc
    by false false is unknown marks e h = cc
    by false true is (Some position) marks e h = cc
    by false true is None None e h = cc
    by false true is None (Some marks) e h = (let joined : output ≡ marks ++ 10 ∷ [] = cc in record { text = IsUtf8-from_is_utf8 line is; marks = marks; are_marks = e; joined = joined })

-- ---- Marks

module _ (differ : (left right mark : ℕ) → ascii_mark left ≡ Some mark → ascii_mark right ≡ Some mark → left ≡ right)
    (range : (cell mark : ℕ) → ascii_mark cell ≡ Some mark → (32 ≤ mark) × (mark < 96)) where
  -- the mark of a cell as a character
  mark_char : Form → ℕ → Option ℕ
  mark_char Ascii cell = ascii_mark cell
  mark_char Unicode cell = Some (unicode_mark cell)

  -- it is no line feed, and no other cell has it
  no_feed : (form : Form) (cell mark : ℕ) → mark_char form cell ≡ Some mark → mark ≢ 10
  unfolding mark_char
  no_feed Ascii cell mark is feed = (let within = range cell mark is in omega (arith, within.0, feed))
  no_feed Unicode cell mark is feed = (let same : 0x2800 + cell ≡ mark = some_same (unicode_mark cell) mark is in omega (arith, same, feed))

  one_cell : (form : Form) (left right mark : ℕ) → mark_char form left ≡ Some mark → mark_char form right ≡ Some mark → left ≡ right
  unfolding mark_char
  one_cell Ascii left right mark is_left is_right = differ left right mark is_left is_right
  one_cell Unicode left right mark is_left is_right =
      let a : 0x2800 + left ≡ mark = some_same (unicode_mark left) mark is_left in
      let b : 0x2800 + right ≡ mark = some_same (unicode_mark right) mark is_right in
      omega (arith, a, b)

  -- its bytes are those of the character
  record IsMark (form : Form) (cell : ℕ) (bytes : List ℕ) : Type 0 where
    mark : ℕ
    is : mark_char form cell ≡ Some mark
    encoded : bytes ≡ encode_utf8 mark

  mark_is : (form : Form) (cell : ℕ) (bytes : List ℕ) → mark_of form cell ≡ Some bytes → IsMark form cell bytes
  unfolding mark_char
  mark_is Ascii cell bytes h = by (ascii_mark cell) refl h
    where
      by : (mark : Option ℕ) → ascii_mark cell ≡ mark → option_map (λ m. m ∷ []) mark ≡ Some bytes → IsMark Ascii cell bytes
      by None is e = cc
      by (Some mark) is e = (let within = range cell mark is in record { mark = mark; is = is; encoded = sym (some_same (mark ∷ []) bytes e) ∙ sym (encode_ascii mark (omega (arith, within.1))) })
  mark_is Unicode cell bytes h = record { mark = unicode_mark cell; is = refl; encoded = sym (some_same (encode_utf8 (unicode_mark cell)) bytes h) }

  -- the marks of one cell more
  record AreMarks (form : Form) (cell : ℕ) (cells bytes : List ℕ) : Type 0 where
    mark : ℕ
    is : mark_char form cell ≡ Some mark
    rest : List ℕ
    are : marks_of form cells ≡ Some rest
    joined : bytes ≡ encode_utf8 mark ++ rest

  marks_are : (form : Form) (cell : ℕ) (cells bytes : List ℕ) → marks_of form (cell ∷ cells) ≡ Some bytes → AreMarks form cell cells bytes
  marks_are form cell cells bytes h = by (mark_of form cell) refl (marks_of form cells) refl h
    where
      by : (first : Option (List ℕ)) → mark_of form cell ≡ first → (others : Option (List ℕ)) → marks_of form cells ≡ others → option_append first others ≡ Some bytes → AreMarks form cell cells bytes
      by None first_is others others_are e = cc
      by (Some first) first_is None others_are e = cc
      by (Some first) first_is (Some others) others_are e =
          let m = mark_is form cell first first_is in
          record { mark = m.mark; is = m.is; rest = others; are = others_are; joined = sym (some_same (first ++ others) bytes e) ∙ ap (λ (l : List ℕ). l ++ others) m.encoded }

  -- ---- One line after another

  feed_bytes : (rest : List ℕ) → 10 ∷ rest ≡ encode_utf8 10 ++ rest
  feed_bytes rest = ap (λ (l : List ℕ). l ++ rest) (sym (encode_ascii 10 (omega arith)))

  -- marks up to a line feed determine their cells, and what follows
  same_cells : (form : Form) (cells others marks more rest after : List ℕ) → marks_of form cells ≡ Some marks → marks_of form others ≡ Some more
      → marks ++ 10 ∷ rest ≡ more ++ 10 ∷ after → (cells ≡ others) × (rest ≡ after)
  same_cells form [] [] marks more rest after is is_too same =
      let none : [] ≡ marks = some_same [] marks is in
      let none_too : [] ≡ more = some_same [] more is_too in
      let feeds : 10 ∷ rest ≡ 10 ∷ after = ap (λ (l : List ℕ). l ++ 10 ∷ rest) none ∙ same ∙ ap (λ (l : List ℕ). l ++ 10 ∷ after) (sym none_too) in
      (refl, let e : rest ≡ after = cc in e)
  same_cells form [] (other ∷ others) marks more rest after is is_too same =
      let none : [] ≡ marks = some_same [] marks is in
      let m = marks_are form other others more is_too in
      let e = ap (λ (l : List ℕ). l ++ 10 ∷ rest) none ∙ same ∙ ap (λ (l : List ℕ). l ++ 10 ∷ after) m.joined ∙ append_assoc (encode_utf8 m.mark) m.rest (10 ∷ after) in
      let firsts = encode_same 10 m.mark rest (m.rest ++ 10 ∷ after) (sym (feed_bytes rest) ∙ e) in
      absurd (no_feed form other m.mark m.is (sym firsts.0))
  same_cells form (cell ∷ cells) [] marks more rest after is is_too same =
      let none : [] ≡ more = some_same [] more is_too in
      let m = marks_are form cell cells marks is in
      let e = ap (λ (l : List ℕ). l ++ 10 ∷ after) none ∙ sym same ∙ ap (λ (l : List ℕ). l ++ 10 ∷ rest) m.joined ∙ append_assoc (encode_utf8 m.mark) m.rest (10 ∷ rest) in
      let firsts = encode_same 10 m.mark after (m.rest ++ 10 ∷ rest) (sym (feed_bytes after) ∙ e) in
      absurd (no_feed form cell m.mark m.is (sym firsts.0))
  same_cells form (cell ∷ cells) (other ∷ others) marks more rest after is is_too same =
      let m = marks_are form cell cells marks is in
      let n = marks_are form other others more is_too in
      let e =
      sym (append_assoc (encode_utf8 m.mark) m.rest (10 ∷ rest)) ∙ ap (λ (l : List ℕ). l ++ 10 ∷ rest) (sym m.joined) ∙ same
      ∙ ap (λ (l : List ℕ). l ++ 10 ∷ after) n.joined ∙ append_assoc (encode_utf8 n.mark) n.rest (10 ∷ after) in
      let firsts = encode_same m.mark n.mark (m.rest ++ 10 ∷ rest) (n.rest ++ 10 ∷ after) e in
      let one = one_cell form cell other m.mark m.is (n.is ∙ ap Some (sym firsts.0)) in
      let others_same = same_cells form cells others m.rest n.rest rest after m.are n.are firsts.1 in
      (ap₂ ◌∷◌ one others_same.0, others_same.1)

  module _ (t : TableView) (form : Form) (single : IsUnambiguous t) where
    -- an output and what follows determine the line, and what follows
    same_first : (left right output other rest after : List ℕ) → output_of t form left ≡ Ok output → output_of t form right ≡ Ok other → output ++ rest ≡ other ++ after → (left ≡ right) × (rest ≡ after)
    same_first left right output other rest after of_left of_right same =
        let a = made_of t form left output of_left in
        let b = made_of t form right other of_right in
        let e =
        sym (append_assoc a.marks (10 ∷ []) rest) ∙ ap (λ (l : List ℕ). l ++ rest) (sym a.joined) ∙ same ∙ ap (λ (l : List ℕ). l ++ after) b.joined ∙ append_assoc b.marks (10 ∷ []) after in
        let found = same_cells form (translation t (chars left)) (translation t (chars right)) a.marks b.marks rest after a.are_marks b.are_marks e in
        let texts = single (chars left) (chars right) (made_text t form left output of_left) (made_text t form right other of_right) found.0 in
        (sym (encodes-chars left a.text) ∙ ap encodes texts ∙ encodes-chars right b.text, found.1)

    pub same_line : (left right output : List ℕ) → output_of t form left ≡ Ok output → output_of t form right ≡ Ok output → left ≡ right
    same_line left right output of_left of_right = (same_first left right output output [] [] of_left of_right refl).0

    -- outputs, joined, determine their lines
    all_same : (lefts rights outputs others : List (List ℕ)) → map (output_of t form) lefts ≡ map Ok outputs → map (output_of t form) rights ≡ map Ok others → concat outputs ≡ concat others → lefts ≡ rights
    all_same [] [] outputs others of_lefts of_rights same = refl
    all_same [] (right ∷ rights) [] (other ∷ others) of_lefts of_rights same =
        let first : output_of t form right ≡ Ok other = cc in
        let b = made_of t form right other first in
        absurd (some_bytes b.marks (concat others) (same ∙ ap (λ (l : List ℕ). l ++ concat others) b.joined))
    all_same [] (right ∷ rights) [] [] of_lefts of_rights same = cc
    all_same [] (right ∷ rights) (output ∷ outputs) others of_lefts of_rights same = cc
    all_same (left ∷ lefts) [] (output ∷ outputs) [] of_lefts of_rights same =
        let first : output_of t form left ≡ Ok output = cc in
        let a = made_of t form left output first in
        absurd (some_bytes a.marks (concat outputs) (sym same ∙ ap (λ (l : List ℕ). l ++ concat outputs) a.joined))
    all_same (left ∷ lefts) [] [] others of_lefts of_rights same = cc
    all_same (left ∷ lefts) [] (output ∷ outputs) (other ∷ others) of_lefts of_rights same = cc
    all_same (left ∷ lefts) (right ∷ rights) [] others of_lefts of_rights same = cc
    all_same (left ∷ lefts) (right ∷ rights) (output ∷ outputs) [] of_lefts of_rights same = cc
    all_same (left ∷ lefts) (right ∷ rights) (output ∷ outputs) (other ∷ others) of_lefts of_rights same =
        let first : output_of t form left ≡ Ok output = cc in
        let first_too : output_of t form right ≡ Ok other = cc in
        let later : map (output_of t form) lefts ≡ map Ok outputs = cc in
        let later_too : map (output_of t form) rights ≡ map Ok others = cc in
        let found = same_first left right output other (concat outputs) (concat others) first first_too same in
        ap₂ ◌∷◌ found.0 (all_same lefts rights outputs others later later_too found.1)

    pub same_lines : (left right output : List ℕ) → IsOutput t form left output → IsOutput t form right output → lines_of left ≡ lines_of right
    unfolding verdict
    same_lines left right output of_left of_right =
        all_same (lines_of left) (lines_of right) of_left.0 of_right.0
        (outputs_of_lines (output_of t form) most_input left of_left.0 of_left.1)
        (outputs_of_lines (output_of t form) most_input right of_right.0 of_right.1) (sym of_left.2 ∙ of_right.2)
