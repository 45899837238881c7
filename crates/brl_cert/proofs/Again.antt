-- What is spelled is read again.
use Rattle.std.proofs.Common.{◌≡◌, ℕ, suc, ◌≤◌, Bool, true, false, not, cond, eqb, List, [], ◌∷◌, ◌++◌, length, Option, Some, Result, Ok, Err, refl, sym, ap, ◌∙◌, append_assoc, arith}
use Rattle.std.specs.Prelude.{codes}
use Rattle.std.specs.Str.{bytes_eq}
use Rattle.std.specs.Fmt.{decimal}
use Rattle.std.specs.List.{slice_split, onto_first, flat_map, list_any, AllByRecursion, IsDistinct}
use Rattle.std.proofs.lemmas.Slice.Eq.{bytes_eq-Decides}
use Rattle.std.proofs.lemmas.Bool.Decides.{Decides-eqb, Decides-ltb}
use Rattle.std.proofs.lemmas.List.{append-nil}
use Rattle.std.proofs.lemmas.List.Splits.{slice_split_at}
use Rattle.brl_cert.specs.declared.fault.CertFaultKind.{CertFaultKind}
use Rattle.brl_cert.specs.declared.fault.CertFaultKind.TheVariants.{Syntax, NotCanonical}
use Rattle.brl_pairs.specs.Body.{BodyView, IsPairOf, NumberPair, same_pair}
use Rattle.brl_cert.specs.Fields.{lead}
use Rattle.brl_cert.specs.declared.line.Line.{Line}
use Rattle.brl_cert.specs.declared.line.Line.TheVariants.{State, Pair, End}
use Rattle.brl_cert.specs.Lines.{StateFormat, count, fields_of, spelled_line, whole_line, spelled_body, lenient_line, strict_line, line_of, may_follow, is_end, add_line, body_of}
use Rattle.brl_cells.specs.Dots.{AreCells}
use Rattle.std.proofs.lemmas.List.Elements.{recursion_from_All}
use Rattle.brl_cert.specs.Valid.{IsBody}
use Rattle.brl_cert.proofs.FieldLaws.{IsAbove, Reads, ReadsCells, above_true, lower, above_joined, apart, split_joined, number_reads, lead_reads}

-- a format of states whose spelling is read back
pub record KeepsStates {S : Type 0} (form : StateFormat S) (IsState : S → Type 0) : Type 0 where
  pub again : (s : S) → IsState s → form.lenient (form.fields s) ≡ Some s
  pub plain : (s : S) → IsState s → AllByRecursion (IsAbove 32) (form.fields s)
  pub flips : (a b : S) → form.same a b ≡ form.same b a

lower_all : (low high : ℕ) → low ≤ high → (parts : List (List ℕ)) → AllByRecursion (IsAbove high) parts → AllByRecursion (IsAbove low) parts
lower_all low high le [] h = tt
lower_all low high le (part ∷ parts) h = (lower low high le part h.0, lower_all low high le parts h.1)

-- there is always a first part
pub first_part : (m : ℕ) (bytes : List ℕ) → (part : List ℕ) × (parts : List (List ℕ)) × (slice_split (λ b. eqb b m) bytes ≡ part ∷ parts)
first_part m [] = ([], [], refl)
first_part m (b ∷ bytes) = by_test (eqb b m) (slice_split (λ c. eqb c m) bytes)
  where
    by_test : (t : Bool) (ps : List (List ℕ)) → (part : List ℕ) × (parts : List (List ℕ)) × (cond t ([] ∷ ps) (onto_first b ps) ≡ part ∷ parts)
    by_test true ps = ([], ps, refl)
    by_test false [] = (b ∷ [], [], refl)
    by_test false (p ∷ ps) = (b ∷ p, ps, refl)

new_from_distinct : {X : Type 0} (e : X → X → Bool) → ((a b : X) → e a b ≡ e b a) → (front : List X) (x : X) (rest : List X) → IsDistinct e (front ++ x ∷ rest) → list_any (e x) front ≡ false
unfolding IsDistinct
new_from_distinct e flips [] x rest h = refl
new_from_distinct {X} e flips (d ∷ front) x rest h = rw (flips x d ∙ at front h.0) (new_from_distinct e flips front x rest h.1)
  where
    at : (ys : List X) → AllByRecursion (λ y. e d y ≡ false) (ys ++ x ∷ rest) → e d x ≡ false
    at [] k = k.0
    at (y ∷ ys) k = at ys k.1

module _ {S : Type 0} (form : StateFormat S) where
  split_line : (line : Line S) → AllByRecursion (IsAbove 32) (fields_of form line) → slice_split (λ b. eqb b 32) (spelled_line form line) ≡ fields_of form line
  split_line (State s) h = split_joined 32 (codes "state") (form.fields s) h
  split_line (Pair p) h = split_joined 32 (codes "pair") (decimal p.ahead ∷ decimal p.behind ∷ lead.spell p.lead ∷ []) h
  split_line (End s p) h = split_joined 32 (codes "end") (decimal s ∷ decimal p ∷ []) h

  line_again : (body : BodyView S) (line : Line S) → AllByRecursion (IsAbove 32) (fields_of form line) → lenient_line form (fields_of form line) ≡ Some line → may_follow body line ≡ true → line_of form body (spelled_line form line) ≡ Ok line
  line_again body line plain again follows =
      ap (λ (fs : List (List ℕ)). strict_line form body (spelled_line form line) (lenient_line form fs)) (split_line line plain)
      ∙ ap (λ (o : Option (Line S)). strict_line form body (spelled_line form line) o) again
      ∙ strict (may_follow body line) (bytes_eq (spelled_line form line) (spelled_line form line)) follows ((bytes_eq-Decides (spelled_line form line) (spelled_line form line)).1 refl)
    where
      strict : (a b : Bool) → a ≡ true → b ≡ true → (let r : Result (Line S) CertFaultKind = cond (not a) (Err Syntax) (cond b (Ok line) (Err NotCanonical)) in r) ≡ Ok line
      strict a b h k = rw (h, k) refl

  -- one line is read, and the lines after it follow
  step_again : (n : ℕ) (body : BodyView S) (line : Line S) (longer out : BodyView S) (rest : List ℕ) → AllByRecursion (IsAbove 32) (fields_of form line) → lenient_line form (fields_of form line) ≡ Some line → may_follow body line ≡ true → add_line form body line ≡ Ok longer → is_end line ≡ false
      → body_of form (suc n) longer (slice_split (λ b. eqb b 10) rest) ≡ Ok out → body_of form n body (slice_split (λ b. eqb b 10) (whole_line form line ++ rest)) ≡ Ok out
  step_again n body line longer out rest plain again follows added open_ goes =
      let bare : IsAbove 10 (spelled_line form line) = above_joined 10 32 (omega arith) (fields_of form line) (lower_all 10 32 (omega arith) (fields_of form line) plain) in
      let first = first_part 10 rest in
      let split : slice_split (λ b. eqb b 10) (whole_line form line ++ rest) ≡ spelled_line form line ∷ first.0 ∷ first.1 =
      ap (slice_split (λ b. eqb b 10)) (append_assoc (spelled_line form line) (10 ∷ []) rest) ∙ slice_split_at (λ b. eqb b 10) (spelled_line form line) 10 rest (apart 10 (spelled_line form line) bare) refl ∙ ap (λ (ps : List (List ℕ)). spelled_line form line ∷ ps) first.2 in
      ap (body_of form n body) split ∙ rw (line_again body line plain again follows) (rw added (rw open_ (ap (body_of form (suc n) longer) (sym first.2) ∙ goes)))

  last_again : (n : ℕ) (body : BodyView S) (line : Line S) → AllByRecursion (IsAbove 32) (fields_of form line) → lenient_line form (fields_of form line) ≡ Some line → may_follow body line ≡ true → add_line form body line ≡ Ok body → is_end line ≡ true
      → body_of form n body (slice_split (λ b. eqb b 10) (whole_line form line)) ≡ Ok body
  last_again n body line plain again follows added end =
      let bare : IsAbove 10 (spelled_line form line) = above_joined 10 32 (omega arith) (fields_of form line) (lower_all 10 32 (omega arith) (fields_of form line) plain) in
      ap (body_of form n body) (slice_split_at (λ b. eqb b 10) (spelled_line form line) 10 [] (apart 10 (spelled_line form line) bare) refl) ∙ rw (line_again body line plain again follows) (rw added (rw end refl))

  word_above : IsAbove 32 (codes "state") × IsAbove 32 (codes "pair") × IsAbove 32 (codes "end")
  word_above = (above_true 32 (codes "state") refl, above_true 32 (codes "pair") refl, above_true 32 (codes "end") refl)

  counted : (n : ℕ) → n ≤ 4294967295 → Reads count 47 n
  counted n le = number_reads 4294967295 n le (omega arith)

  above_32 : (low : ℕ) (bytes : List ℕ) → 32 ≤ low → IsAbove low bytes → IsAbove 32 bytes
  above_32 low bytes le h = lower 32 low le bytes h

  end_again : (n : ℕ) (body : BodyView S) → length body.states ≤ 4294967295 → length body.pairs ≤ 4294967295 → body_of form n body (slice_split (λ b. eqb b 10) (whole_line form (End (length body.states) (length body.pairs)))) ≡ Ok body
  end_again n body few_states few_pairs =
      let a = counted (length body.states) few_states in
      let b = counted (length body.pairs) few_pairs in
      let plain : AllByRecursion (IsAbove 32) (fields_of form (End (length body.states) (length body.pairs))) = (word_above.2, (above_32 47 (decimal (length body.states)) (omega arith) a.above, (above_32 47 (decimal (length body.pairs)) (omega arith) b.above, tt))) in
      last_again n body (End (length body.states) (length body.pairs)) plain (rw (a.again, b.again) refl) refl (rw ((Decides-eqb (length body.states) (length body.states)).1 refl, (Decides-eqb (length body.pairs) (length body.pairs)).1 refl) refl) refl

  pairs_again : ReadsCells → ((a b : NumberPair) → same_pair a b ≡ same_pair b a) → (ss : List S) (few : length ss ≤ 4294967295) (rest : List ℕ) (out : BodyView S) (front ps : List NumberPair) (n : ℕ) → IsDistinct same_pair (front ++ ps) → AllByRecursion (IsPairOf (length ss)) ps → AllByRecursion (λ p. AreCells p.lead) ps
      → ((m : ℕ) → body_of form m (record { states = ss; pairs = front ++ ps }) (slice_split (λ b. eqb b 10) rest) ≡ Ok out)
      → body_of form n (record { states = ss; pairs = front }) (slice_split (λ b. eqb b 10) (flat_map (λ p. whole_line form (Pair p)) ps ++ rest)) ≡ Ok out
  pairs_again law flips ss few rest out front [] n distinct each leads goes = ap (λ (ps : List NumberPair). body_of form n (record { states = ss; pairs = ps }) (slice_split (λ b. eqb b 10) rest)) (sym (append-nil front)) ∙ goes n
  pairs_again law flips ss few rest out front (p ∷ ps) n distinct each leads goes =
      let a = counted p.ahead (omega (arith, each.0.ahead)) in
      let b = counted p.behind (omega (arith, each.0.behind)) in
      let l : Reads lead 44 p.lead = lead_reads law p.lead leads.0 each.0.lead in
      let plain : AllByRecursion (IsAbove 32) (fields_of form (Pair p)) = (word_above.1, (above_32 47 (decimal p.ahead) (omega arith) a.above, (above_32 47 (decimal p.behind) (omega arith) b.above, (above_32 44 (lead.spell p.lead) (omega arith) l.above, tt)))) in
      let new : list_any (same_pair p) front ≡ false = new_from_distinct same_pair flips front p ps distinct in
      let again : lenient_line form (fields_of form (Pair p)) ≡ Some (Pair p) = rw (a.again, b.again, l.again) refl in
      let added : add_line form (record { states = ss; pairs = front }) (Pair p) ≡ Ok (record { states = ss; pairs = front ++ p ∷ [] }) = rw ((Decides-ltb p.ahead (length ss)).1 each.0.ahead, (Decides-ltb p.behind (length ss)).1 each.0.behind, new) refl in
      let regroup : (front ++ p ∷ []) ++ ps ≡ front ++ p ∷ ps = append_assoc front (p ∷ []) ps in
      let others = pairs_again law flips ss few rest out (front ++ p ∷ []) ps (suc n) (rw regroup distinct) each.1 leads.1 (λ m. rw regroup (goes m)) in
      ap (λ (bs : List ℕ). body_of form n (record { states = ss; pairs = front }) (slice_split (λ b. eqb b 10) bs)) (append_assoc (whole_line form (Pair p)) (flat_map (λ q. whole_line form (Pair q)) ps) rest)
      ∙ step_again n (record { states = ss; pairs = front }) (Pair p) (record { states = ss; pairs = front ++ p ∷ [] }) out (flat_map (λ q. whole_line form (Pair q)) ps ++ rest) plain again refl added refl others

  module _ {IsState : S → Type 0} (keeps : KeepsStates form IsState) where
    states_again : (rest : List ℕ) (out : BodyView S) (front ss : List S) (n : ℕ) → IsDistinct form.same (front ++ ss) → AllByRecursion IsState ss
        → ((m : ℕ) → body_of form m (record { states = front ++ ss; pairs = [] }) (slice_split (λ b. eqb b 10) rest) ≡ Ok out)
        → body_of form n (record { states = front; pairs = [] }) (slice_split (λ b. eqb b 10) (flat_map (λ s. whole_line form (State s)) ss ++ rest)) ≡ Ok out
    states_again rest out front [] n distinct each goes = ap (λ (xs : List S). body_of form n (record { states = xs; pairs = [] }) (slice_split (λ b. eqb b 10) rest)) (sym (append-nil front)) ∙ goes n
    states_again rest out front (s ∷ ss) n distinct each goes =
        let plain : AllByRecursion (IsAbove 32) (fields_of form (State s)) = (word_above.0, keeps.plain s each.0) in
        let new : list_any (form.same s) front ≡ false = new_from_distinct form.same keeps.flips front s ss distinct in
        let again : lenient_line form (fields_of form (State s)) ≡ Some (State s) = rw (keeps.again s each.0) refl in
        let added : add_line form (record { states = front; pairs = [] }) (State s) ≡ Ok (record { states = front ++ s ∷ []; pairs = [] }) = rw new refl in
        let regroup : (front ++ s ∷ []) ++ ss ≡ front ++ s ∷ ss = append_assoc front (s ∷ []) ss in
        let others = states_again rest out (front ++ s ∷ []) ss (suc n) (rw regroup distinct) each.1 (λ m. rw regroup (goes m)) in
        ap (λ (bs : List ℕ). body_of form n (record { states = front; pairs = [] }) (slice_split (λ b. eqb b 10) bs)) (append_assoc (whole_line form (State s)) (flat_map (λ q. whole_line form (State q)) ss) rest)
        ∙ step_again n (record { states = front; pairs = [] }) (State s) (record { states = front ++ s ∷ []; pairs = [] }) out (flat_map (λ q. whole_line form (State q)) ss ++ rest) plain again refl added refl others

    pub body_again : ReadsCells → ((a b : NumberPair) → same_pair a b ≡ same_pair b a) → (n : ℕ) (body : BodyView S) → IsBody form IsState body → body_of form n (record { states = []; pairs = [] }) (slice_split (λ b. eqb b 10) (spelled_body form body)) ≡ Ok body
    body_again law flips n body good =
        let end : List ℕ = whole_line form (End (length body.states) (length body.pairs)) in
        let regroup : spelled_body form body ≡ flat_map (λ s. whole_line form (State s)) body.states ++ (flat_map (λ p. whole_line form (Pair p)) body.pairs ++ whole_line form (End (length body.states) (length body.pairs))) =
        append_assoc (flat_map (λ s. whole_line form (State s)) body.states) (flat_map (λ p. whole_line form (Pair p)) body.pairs) (whole_line form (End (length body.states) (length body.pairs))) in
        ap (λ (bs : List ℕ). body_of form n (record { states = []; pairs = [] }) (slice_split (λ b. eqb b 10) bs)) regroup
        ∙ states_again (flat_map (λ p. whole_line form (Pair p)) body.pairs ++ whole_line form (End (length body.states) (length body.pairs))) body [] body.states n good.states_differ (recursion_from_All IsState body.states good.each_state)
        (λ m. pairs_again law flips body.states good.few_states (whole_line form (End (length body.states) (length body.pairs))) body [] body.pairs m good.pairs_differ (recursion_from_All (IsPairOf (length body.states)) body.pairs good.each_pair) (recursion_from_All (λ p. AreCells p.lead) body.pairs good.each_lead)
        (λ k. end_again k body good.few_states good.few_pairs))
