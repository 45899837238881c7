-- States of versions 2 and 3 are read back from their spelling.
use Rattle.std.proofs.Common.{◌≡◌, ℕ, ◌<◌, ◌≤◌, Bool, true, false, cond, eqb, List, [], ◌∷◌, ◌++◌, map, Option, Some, None, refl, sym, ap, ◌∙◌, arith, IsTrue}
use Rattle.std.specs.Bool.{Decides}
use Rattle.std.specs.Cmp.Lexicographic.{lists_equiv}
use Rattle.std.specs.Fmt.{decimal, digits}
use Rattle.std.specs.List.{AllByRecursion, join_with_byte, slice_split}
use Rattle.std.proofs.lemmas.Bool.Decides.{Decides-eqb, nat_tests}
use Rattle.std.proofs.lemmas.List.Elements.{All-from_recursion, recursion_from_All}
use Rattle.std.proofs.lemmas.List.Splits.{slice_split_at, slice_split_none}
use Rattle.brl_rules.specs.declared.class.Class.{Class}
use Rattle.brl_rules.specs.declared.place.Cond.{Cond}
use Rattle.brl_rules.specs.declared.place.Cond.TheVariants.{Any, Meets, Avoids}
use Rattle.brl_states.specs.Order.{AreDues, in_order, is_proper}
use Rattle.brl_states.specs.SameDues.{dues_equiv}
use Rattle.brl_states.specs.SameDuesState.{same_states}
use Rattle.brl_states.specs.declared.due.Due.{Due}
use Rattle.brl_states.specs.declared.due.Due.TheVariants.{Need, Bar}
use Rattle.brl_states.specs.declared.dues_state.DuesState.{DuesState}
use Rattle.brl_cert.specs.Dues.{dues_fields, lenient_any, lenient_due, lenient_dues, lenient_head, lenient_parts, lenient_set, lenient_state, lenient_word, or_else, dues_format, spelled_cond, spelled_due, word_fields, word_format}
use Rattle.brl_cert.specs.Fields.{◌>>=◌, character, each, flag, is_char, lenient_char, number}
use Rattle.brl_cert.specs.Valid.{HasSet, IsDue, IsDuesState, IsCapsFree}
use Rattle.brl_cert.proofs.FieldLaws.{IsAbove, Reads, above_append, above_joined, all_above, each_again, each_char, flag_reads, lower, number_reads, split_joined}
use Rattle.brl_cert.proofs.Again.{KeepsStates}
use Rattle.brl_cert.proofs.Window.{decides, flips}
use Rattle.brl_rules.proofs.Facts.{beq-itself}

-- a mark isn't among the bytes
abbrev Free : ℕ → List ℕ → Type 0
Free mark bytes = AllByRecursion (λ b. eqb b mark ≡ false) bytes

free-above : (mark low : ℕ) → mark ≤ low → (bytes : List ℕ) → IsAbove low bytes → Free mark bytes
free-above mark low le [] h = tt
free-above mark low le (b ∷ bytes) h = ((let lt : low < b = h.0 in grind (arith, nat_tests)), free-above mark low le bytes h.1)

free-append : (mark : ℕ) (a b : List ℕ) → Free mark a → Free mark b → Free mark (a ++ b)
free-append mark [] b h k = k
free-append mark (x ∷ a) b h k = (h.0, free-append mark a b h.1 k)

no-mark : (mark : ℕ) (bytes : List ℕ) → Free mark bytes → slice_split (λ b. eqb b mark) bytes ≡ bytes ∷ []
no-mark mark bytes h = slice_split_none (λ b. eqb b mark) bytes (All-from_recursion (λ b. eqb b mark ≡ false) bytes h)

one-mark : (mark : ℕ) (head set : List ℕ) → Free mark head → Free mark set → slice_split (λ b. eqb b mark) (head ++ mark ∷ set) ≡ head ∷ set ∷ []
one-mark mark head set h k =
    slice_split_at (λ b. eqb b mark) head mark set (All-from_recursion (λ b. eqb b mark ≡ false) head h) ((Decides-eqb mark mark).1 refl)
    ∙ ap (λ (ps : List (List ℕ)). head ∷ ps) (no-mark mark set k)

-- ---- One due

proper-some : (d : Due) (b : Bool) → b ≡ true → cond b (Some d) None ≡ Some d
proper-some d true h = refl
proper-some d false h = cc

then-proper : (o : Option Due) (d : Due) → o ≡ Some d → is_proper d ≡ true → (o >>= λ due. cond (is_proper due) (Some due) None) ≡ Some d
then-proper o d e h = ap (λ (p : Option Due). p >>= λ due. cond (is_proper due) (Some due) None) e ∙ proper-some d (is_proper d) h

set-digits : (n mark : ℕ) → n < 256 → mark ≤ 47 → Free mark (decimal n)
set-digits n mark h le = free-above mark 47 le (decimal n) (number_reads 255 n (omega (arith, h)) (omega (arith, h))).above

set-again : (f : Class → Cond) (n : ℕ) (head : List ℕ) → n < 256 → lenient_set f (head ∷ decimal n ∷ []) ≡ lenient_head (f (record { 0 = n })) head
set-again f n head h = ap (λ (o : Option ℕ). o >>= λ m. lenient_head (f (record { 0 = m })) head) (number_reads 255 n (omega (arith, h)) (omega (arith, h))).again

module _ (head : List ℕ) (plus : Free 43 head) (minus : Free 45 head) (star : Free 42 head) (d : Due) (proper : is_proper d ≡ true) where
  meets-again : (set : Class) → set.0 < 256 → lenient_head (Meets set) head ≡ Some d → lenient_due (head ++ 43 ∷ decimal set.0) ≡ Some d
  meets-again set h e =
      let whole = head ++ 43 ∷ decimal set.0 in
      let first : lenient_set Meets (slice_split (λ b. eqb b 43) whole) ≡ Some d =
      ap (lenient_set Meets) (one-mark 43 head (decimal set.0) plus (set-digits set.0 43 h (omega arith))) ∙ set-again Meets set.0 head h ∙ e in
      then-proper (lenient_parts whole) d
      (ap (λ o. or_else o (or_else (lenient_set Avoids (slice_split (λ b. eqb b 45) whole)) (lenient_any (slice_split (λ b. eqb b 42) whole)))) first) proper

  avoids-again : (set : Class) → set.0 < 256 → lenient_head (Avoids set) head ≡ Some d → lenient_due (head ++ 45 ∷ decimal set.0) ≡ Some d
  avoids-again set h e =
      let whole = head ++ 45 ∷ decimal set.0 in
      let none : lenient_set Meets (slice_split (λ b. eqb b 43) whole) ≡ None =
      ap (lenient_set Meets) (no-mark 43 whole (free-append 43 head (45 ∷ decimal set.0) plus (refl, set-digits set.0 43 h (omega arith)))) in
      let second : lenient_set Avoids (slice_split (λ b. eqb b 45) whole) ≡ Some d =
      ap (lenient_set Avoids) (one-mark 45 head (decimal set.0) minus (set-digits set.0 45 h (omega arith))) ∙ set-again Avoids set.0 head h ∙ e in
      then-proper (lenient_parts whole) d
      (ap (λ o. or_else o (or_else (lenient_set Avoids (slice_split (λ b. eqb b 45) whole)) (lenient_any (slice_split (λ b. eqb b 42) whole)))) none
      ∙ ap (λ o. or_else o (lenient_any (slice_split (λ b. eqb b 42) whole))) second) proper

  any-again : lenient_head Any head ≡ Some d → lenient_due (head ++ 42 ∷ []) ≡ Some d
  any-again e =
      let whole = head ++ 42 ∷ [] in
      let none : lenient_set Meets (slice_split (λ b. eqb b 43) whole) ≡ None = ap (lenient_set Meets) (no-mark 43 whole (free-append 43 head (42 ∷ []) plus (refl, tt))) in
      let also : lenient_set Avoids (slice_split (λ b. eqb b 45) whole) ≡ None = ap (lenient_set Avoids) (no-mark 45 whole (free-append 45 head (42 ∷ []) minus (refl, tt))) in
      let third : lenient_any (slice_split (λ b. eqb b 42) whole) ≡ Some d = ap lenient_any (one-mark 42 head [] star tt) ∙ e in
      then-proper (lenient_parts whole) d
      (ap (λ o. or_else o (or_else (lenient_set Avoids (slice_split (λ b. eqb b 45) whole)) (lenient_any (slice_split (λ b. eqb b 42) whole)))) none
      ∙ ap (λ o. or_else o (lenient_any (slice_split (λ b. eqb b 42) whole))) also ∙ third) proper

above-joined : (chars : List ℕ) → AllByRecursion (Reads character 47) chars → IsAbove 45 (join_with_byte 46 (map (digits 16 false) chars))
above-joined chars h = above_joined 45 46 (omega arith) (map (digits 16 false) chars) (all_above 45 (omega arith) chars h)

bar-head : (cond : Cond) (c : ℕ) (chars : List ℕ) → AllByRecursion (Reads character 47) (c ∷ chars) → lenient_head cond (98 ∷ join_with_byte 46 (map (digits 16 false) (c ∷ chars))) ≡ Some (Bar (c ∷ chars) cond)
bar-head cond c chars h =
    let parts = split_joined 46 (digits 16 false c) (map (digits 16 false) chars) (all_above 46 (omega arith) (c ∷ chars) h) in
    ap (λ (ps : List (List ℕ)). each lenient_char ps >>= λ cs. Some (Bar cs cond)) parts
    ∙ ap (λ (o : Option (List ℕ)). o >>= λ cs. Some (Bar cs cond)) (each_again (c ∷ chars) h)

bar-free : (mark c : ℕ) (chars : List ℕ) → mark ≤ 45 → AllByRecursion (Reads character 47) (c ∷ chars) → Free mark (98 ∷ join_with_byte 46 (map (digits 16 false) (c ∷ chars)))
bar-free mark c chars le h =
    free-above mark 45 le (98 ∷ join_with_byte 46 (map (digits 16 false) (c ∷ chars))) (omega arith, above-joined (c ∷ chars) h)

due-again : (d : Due) → IsDue d → is_proper d ≡ true → lenient_due (spelled_due d) ≡ Some d
due-again (Need Any) h p = cc
due-again (Need (Meets set)) h p = meets-again (110 ∷ []) (refl, tt) (refl, tt) (refl, tt) (Need (Meets set)) p set h refl
due-again (Need (Avoids set)) h p = avoids-again (110 ∷ []) (refl, tt) (refl, tt) (refl, tt) (Need (Avoids set)) p set h refl
due-again (Bar [] cond) h p = cc
due-again (Bar (c ∷ chars) cond) h p = at cond h.1
  where
    reads : AllByRecursion (Reads character 47) (c ∷ chars)
    reads = each_char (c ∷ chars) (recursion_from_All (λ x. is_char x ≡ true) (c ∷ chars) h.0)

    at : (cond : Cond) → HasSet cond → lenient_due (spelled_due (Bar (c ∷ chars) cond)) ≡ Some (Bar (c ∷ chars) cond)
    at Any k =
        any-again (98 ∷ join_with_byte 46 (map (digits 16 false) (c ∷ chars))) (bar-free 43 c chars (omega arith) reads) (bar-free 45 c chars (omega arith) reads) (bar-free 42 c chars (omega arith) reads)
        (Bar (c ∷ chars) Any) refl (bar-head Any c chars reads)
    at (Meets set) k =
        meets-again (98 ∷ join_with_byte 46 (map (digits 16 false) (c ∷ chars))) (bar-free 43 c chars (omega arith) reads) (bar-free 45 c chars (omega arith) reads) (bar-free 42 c chars (omega arith) reads)
        (Bar (c ∷ chars) (Meets set)) refl set k (bar-head (Meets set) c chars reads)
    at (Avoids set) k =
        avoids-again (98 ∷ join_with_byte 46 (map (digits 16 false) (c ∷ chars))) (bar-free 43 c chars (omega arith) reads) (bar-free 45 c chars (omega arith) reads) (bar-free 42 c chars (omega arith) reads)
        (Bar (c ∷ chars) (Avoids set)) refl set k (bar-head (Avoids set) c chars reads)

-- ---- A state

-- a due in range that asks for something
pub record Fine (d : Due) : Type 0 where
  pub due : IsDue d
  pub proper : is_proper d ≡ true

each-Fine : (dues : List Due) → AllByRecursion IsDue dues → AllByRecursion (λ d. IsTrue (is_proper d)) dues → AllByRecursion Fine dues
each-Fine [] h p = tt
each-Fine (d ∷ dues) h p = (record { due = h.0; proper = p.0 }, each-Fine dues h.1 p.1)

dues-again : (dues : List Due) → AllByRecursion Fine dues → each lenient_due (map spelled_due dues) ≡ Some dues
dues-again [] h = refl
dues-again (d ∷ dues) h = rw (due-again d h.0.due h.0.proper, dues-again dues h.1) refl

module _ (law : (dues : List Due) → AreDues dues → in_order dues ≡ dues) where
  state-again : (s : DuesState) → IsDuesState s → lenient_state ((number 255).spell s.before.0) (flag.spell s.numeric) s.run (map spelled_due s.dues) ≡ Some s
  state-again s h =
      let b = number_reads 255 s.before.0 (omega (arith, h.before)) (omega (arith, h.before)) in
      let fine = each-Fine s.dues (recursion_from_All IsDue s.dues h.each) (recursion_from_All (λ d. IsTrue (is_proper d)) s.dues h.kept.proper) in
      rw (b.again, (flag_reads s.numeric).again, dues-again s.dues fine) (ap (λ (dues : List Due). Some (record s { dues = dues })) (law s.dues h.kept))

  owing-again : (s : DuesState) → IsCapsFree IsDuesState (λ z. z.run) s → lenient_dues (dues_fields s) ≡ Some s
  owing-again s h =
      ap (λ (run : Bool). lenient_state ((number 255).spell s.before.0) (flag.spell s.numeric) run (map spelled_due s.dues)) (sym h.1) ∙ state-again s h.0

  word-again : (s : DuesState) → IsDuesState s → lenient_word (word_fields s) ≡ Some s
  word-again s h = rw ((flag_reads s.run).again) (state-again s h)

cond-above : (cond : Cond) → HasSet cond → IsAbove 32 (spelled_cond cond)
cond-above Any h = (omega arith, tt)
cond-above (Meets set) h = (omega arith, lower 32 47 (omega arith) (decimal set.0) (number_reads 255 set.0 (omega (arith, h)) (omega (arith, h))).above)
cond-above (Avoids set) h = (omega arith, lower 32 47 (omega arith) (decimal set.0) (number_reads 255 set.0 (omega (arith, h)) (omega (arith, h))).above)

due-above : (d : Due) → IsDue d → IsAbove 32 (spelled_due d)
due-above (Need cond) h = (omega arith, cond-above cond h)
due-above (Bar chars cond) h =
    let reads = each_char chars (recursion_from_All (λ x. is_char x ≡ true) chars h.0) in
    (omega arith, above_append 32 (join_with_byte 46 (map (digits 16 false) chars)) (spelled_cond cond) (lower 32 45 (omega arith) _ (above-joined chars reads)) (cond-above cond h.1))

dues-above : (dues : List Due) → AllByRecursion IsDue dues → AllByRecursion (IsAbove 32) (map spelled_due dues)
dues-above [] h = tt
dues-above (d ∷ dues) h = (due-above d h.0, dues-above dues h.1)

owing-plain : (s : DuesState) → IsDuesState s → AllByRecursion (IsAbove 32) (dues_fields s)
owing-plain s h =
    let b = number_reads 255 s.before.0 (omega (arith, h.before)) (omega (arith, h.before)) in
    (lower 32 47 (omega arith) _ b.above, (lower 32 47 (omega arith) _ (flag_reads s.numeric).above, dues-above s.dues (recursion_from_All IsDue s.dues h.each)))

word-plain : (s : DuesState) → IsDuesState s → AllByRecursion (IsAbove 32) (word_fields s)
word-plain s h =
    let rest = owing-plain s h in
    (rest.0, (rest.1.0, (lower 32 47 (omega arith) _ (flag_reads s.run).above, rest.1.1)))

-- ---- States that are equal

same-state : (s : DuesState) → dues_format.same s s ≡ true
same-state s = rw ((Decides-eqb s.before.0 s.before.0).1 refl, beq-itself s.numeric, beq-itself s.run) ((lists_equiv dues_equiv).refl s.dues)

pub DuesState-Decides : (s t : DuesState) → Decides (dues_format.same s t) (s ≡ t)
DuesState-Decides = decides dues_format.same same_states same-state

pub keeps_owing : ((dues : List Due) → AreDues dues → in_order dues ≡ dues) → KeepsStates dues_format (IsCapsFree IsDuesState (λ s. s.run))
keeps_owing law = record { again = owing-again law; plain = λ s h. owing-plain s h.0; flips = flips dues_format.same DuesState-Decides }

pub keeps_word : ((dues : List Due) → AreDues dues → in_order dues ≡ dues) → KeepsStates word_format IsDuesState
keeps_word law = record { again = word-again law; plain = word-plain; flips = flips dues_format.same DuesState-Decides }
