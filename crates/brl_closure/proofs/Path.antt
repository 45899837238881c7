-- Paths and the texts that they read, one step back.
use Rattle.std.proofs.Common.{◌≡◌, ◌≢◌, ℕ, ◌<◌, List, [], ◌∷◌, ◌++◌, inl, inr, length, Some, slice_get, get_or, reverse, refl, sym, ◌∙◌, ap, subst, arith, append_assoc}
use Rattle.std.proofs.lemmas.List.{reverse-append, reverse-reverse, append_cancel_left}
use Rattle.std.proofs.lemmas.Option.{slice_get_within, slice_get_read}
use Rattle.brl_pairs.specs.declared.step.Step.{Step}
use Rattle.brl_pairs.specs.Body.{NumberPair}
use Rattle.brl_pairs.specs.Runs.{Behaviour, IsPath, KeepsLaws, Reaches, cells_of, reads_of}
use Rattle.brl_closure.specs.declared.search.trail.StateOrigin.{StateOrigin}
use Rattle.brl_closure.specs.declared.search.trail.PairOrigin.{PairOrigin}
use Rattle.brl_closure.specs.declared.search.trail.Trail.{Trail}
use Rattle.brl_closure.specs.Diverging.{AreTextsOfSplit}
use Rattle.brl_closure.specs.Trail.{TakesStep, IsStateOrigin, IsSplitOf, StaysBehindOf, GetsAheadOf, IsPairOrigin, IsEarlier, HasTwoEnds, IsTraced}
use Rattle.brl_closure.specs.Path.{IsPlaceTo, IsTextTo, Continues, SplitContinues}
use Rattle.brl_pairs.proofs.Divergence.{places_differ}
use Rattle.brl_pairs.proofs.Lists.{inside, same_place}

-- the reads of a step before those that were appended, the last character first
pub reads_back : (text more reads all : List ℕ) → more ≡ text ++ reverse reads → reverse text ≡ all → reverse more ≡ reads ++ all
reads_back text more reads all e h = ap reverse e ∙ reverse-append text (reverse reads) ∙ ap (λ (xs : List ℕ). xs ++ reverse text) (reverse-reverse reads) ∙ ap (λ (xs : List ℕ). reads ++ xs) h

module _ {S : Type 0} (m : Behaviour S) (t : Trail S) (traced : IsTraced m t) where
  -- a state but the first has an origin
  pub origin_of : (k : ℕ) → 0 < k → (k_in : k < length t.states) → (o : StateOrigin) → o ≡ get_or t.state_origins.items k o → (s : S) × (slice_get t.states k ≡ Some s) × (o.parent < k) × IsStateOrigin m t.states s o
  origin_of k some k_in o is =
      let s = inside t.states k k_in in
      let found = traced.each_state k s.0 some s.1 in
      let o_at : slice_get t.state_origins.items k ≡ Some o = slice_get_read t.state_origins.items (length t.state_origins.items) k o refl (omega (arith, k_in, traced.state_origins)) is in
      let same : found.origin ≡ o = same_place t.state_origins.items k found.origin o found.kept o_at in
      (s.0, s.1, subst (λ (z : StateOrigin). z.parent < k) same found.earlier, subst (IsStateOrigin m t.states s.0) same found.found)

  -- one step further back
  pub text_back : (k number : ℕ) (text more : List ℕ) (s : S) → slice_get t.states k ≡ Some s → IsTextTo m t.states s number text → (parent place : ℕ) → IsPlaceTo m t.states parent s place
      → ((x : Step S) → TakesStep m t.states parent place x → more ≡ text ++ reverse x.reads) → (r : S) → slice_get t.states parent ≡ Some r → IsTextTo m t.states r number more
  text_back k number text more s at before parent place origin put r r_at =
      let x = origin.step in
      let from_r : origin.taken.state ≡ r = same_place t.states parent origin.taken.state r origin.taken.at r_at in
      record {
        state = before.state;
        at = before.at;
        path = x ∷ before.path;
        reaches = (
          (place, subst (λ (z : S). slice_get (m.steps z) place ≡ Some x) from_r origin.taken.listed),
          subst (λ (z : S). Reaches m z before.path before.state) (sym origin.next) before.reaches,
        );
        reads = reads_back text more x.reads (reads_of before.path) (put x origin.taken) before.reads;
      }

  -- ---- Pairs

  pub pair_origin_of : (n : ℕ) (p : NumberPair) → slice_get t.pairs n ≡ Some p → (o : PairOrigin) → o ≡ get_or t.pair_origins.items n o → IsEarlier n o × IsPairOrigin m t.states t.pairs p o
  pair_origin_of n p at o is =
      let found = traced.each_pair n p at in
      let n_in = slice_get_within t.pairs n p at in
      let o_at : slice_get t.pair_origins.items n ≡ Some o = slice_get_read t.pair_origins.items (length t.pair_origins.items) n o refl (omega (arith, n_in, traced.pair_origins)) is in
      let same : found.origin ≡ o = same_place t.pair_origins.items n found.origin o found.kept o_at in
      (subst (IsEarlier n) same found.earlier, subst (IsPairOrigin m t.states t.pairs p) same found.found)

  -- a step's state, at its number
  listed_at : (number place : ℕ) (x : Step S) (s : S) → TakesStep m t.states number place x → slice_get t.states number ≡ Some s → slice_get (m.steps s) place ≡ Some x
  listed_at number place x s h at = subst (λ (z : S). slice_get (m.steps z) place ≡ Some x) (same_place t.states number h.state s h.at at) h.listed

  moved : (r s : S) (number : ℕ) (path : List (Step S)) → slice_get t.states number ≡ Some r → slice_get t.states number ≡ Some s → IsPath m r path → IsPath m s path
  moved r s number path r_at s_at h = subst (λ (z : S). IsPath m z path) (same_place t.states number r s r_at s_at) h

  -- two runs go on from a pair whose run behind takes a step first
  step_back : (number place : ℕ) (q : NumberPair) → slice_get t.pairs number ≡ Some q → (x : Step S) → TakesStep m t.states q.behind place x
      → (s : S) → slice_get t.states q.ahead ≡ Some s → (one two : List (Step S)) → IsPath m s one → IsPath m x.next two → q.lead ++ cells_of one ≡ x.cells ++ cells_of two
      → (ahead behind more : List ℕ) → reverse ahead ≡ reads_of one → reverse behind ≡ reads_of two → more ≡ behind ++ reverse x.reads → Continues m t.states t.pairs number ahead more
  step_back number place q q_at x taken s s_at one two one_path two_path same_cells ahead behind more ahead_reads behind_reads put = record {
    pair = q;
    at = q_at;
    ahead_state = s;
    behind_state = taken.state;
    ahead_at = s_at;
    behind_at = taken.at;
    one = one;
    two = x ∷ two;
    one_path = one_path;
    two_path = ((place, taken.listed), two_path);
    same_cells = same_cells;
    ahead_reads = ahead_reads;
    behind_reads = reads_back behind more x.reads (reads_of two) put behind_reads;
  }

  -- the run behind is still behind
  pub still_back : (n number place : ℕ) (ahead behind more : List ℕ) (h : Continues m t.states t.pairs n ahead behind) → (q : NumberPair) → slice_get t.pairs number ≡ Some q
      → (by : StaysBehindOf m t.states q place h.pair) → more ≡ behind ++ reverse by.step.reads → Continues m t.states t.pairs number ahead more
  still_back n number place ahead behind more h q q_at by put =
      step_back number place q q_at by.step by.taken h.ahead_state (ap (slice_get t.states) (sym by.ahead) ∙ h.ahead_at) h.one h.two
      h.one_path (moved h.behind_state by.step.next h.pair.behind h.two h.behind_at by.behind h.two_path)
      (ap (λ (l : List ℕ). l ++ cells_of h.one) by.lead ∙ append_assoc by.step.cells h.pair.lead (cells_of h.one) ∙ ap (λ (l : List ℕ). by.step.cells ++ l) h.same_cells)
      ahead behind more h.ahead_reads h.behind_reads put

  -- the run behind got ahead
  pub swapped_back : (n number place : ℕ) (ahead behind more : List ℕ) (h : Continues m t.states t.pairs n ahead behind) → (q : NumberPair) → slice_get t.pairs number ≡ Some q
      → (by : GetsAheadOf m t.states q place h.pair) → more ≡ ahead ++ reverse by.step.reads → Continues m t.states t.pairs number behind more
  swapped_back n number place ahead behind more h q q_at by put =
      step_back number place q q_at by.step by.taken h.behind_state (ap (slice_get t.states) (sym by.behind) ∙ h.behind_at) h.two h.one
      h.two_path (moved h.ahead_state by.step.next h.pair.ahead h.one h.ahead_at by.ahead h.one_path)
      (ap (λ (l : List ℕ). q.lead ++ l) (sym h.same_cells) ∙ sym (append_assoc q.lead h.pair.lead (cells_of h.one)) ∙ ap (λ (l : List ℕ). l ++ cells_of h.one) (sym by.lead))
      behind ahead more h.behind_reads h.ahead_reads put

  -- a pair with an empty lead and two ends continues by no steps
  pub ends_continue : (n : ℕ) (p : NumberPair) → slice_get t.pairs n ≡ Some p → HasTwoEnds m t.states p → Continues m t.states t.pairs n [] []
  ends_continue n p at h = record {
    pair = p;
    at = at;
    ahead_state = h.ahead;
    behind_state = h.behind;
    ahead_at = h.ahead_at;
    behind_at = h.behind_at;
    one = [];
    two = [];
    one_path = h.ahead_ends;
    two_path = h.behind_ends;
    same_cells = ap (λ (l : List ℕ). l ++ []) h.no_lead;
    ahead_reads = refl;
    behind_reads = refl;
  }

  -- ---- After the split

  reaches_path : (s r : S) (before path : List (Step S)) → Reaches m s before r → IsPath m r path → IsPath m s (before ++ path)
  reaches_path s r [] path reaches h = subst (λ (z : S). IsPath m z path) (sym reaches) h
  reaches_path s r (x ∷ before) path reaches h = (reaches.0, reaches_path x.next r before path reaches.1 h)

  reads_join : (p q : List (Step S)) → reads_of (p ++ q) ≡ reads_of p ++ reads_of q
  reads_join [] q = refl
  reads_join (x ∷ p) q = ap (λ (l : List ℕ). x.reads ++ l) (reads_join p q) ∙ sym (append_assoc x.reads (reads_of p) (reads_of q))

  cells_join : (p q : List (Step S)) → cells_of (p ++ q) ≡ cells_of p ++ cells_of q
  cells_join [] q = refl
  cells_join (x ∷ p) q = ap (λ (l : List ℕ). x.cells ++ l) (cells_join p q) ∙ sym (append_assoc x.cells (cells_of p) (cells_of q))

  -- a text from its end, with the text before it
  whole_text : (text before : List ℕ) (path steps : List (Step S)) → reverse text ≡ reads_of steps → reverse before ≡ reads_of path → reverse (text ++ before) ≡ reads_of (path ++ steps)
  whole_text text before path steps h w =
      reverse-append text before ∙ ap (λ (l : List ℕ). l ++ reverse text) w ∙ ap (λ (l : List ℕ). reads_of path ++ l) h ∙ sym (reads_join path steps)

  pub two_paths : KeepsLaws m → (number longer shorter : ℕ) (ahead behind left right before : List ℕ) → (h : SplitContinues m t.states number longer shorter ahead behind) → IsTextTo m t.states m.start number before
      → ((x : Step S) → TakesStep m t.states number longer x → left ≡ ahead ++ reverse x.reads) → ((x : Step S) → TakesStep m t.states number shorter x → right ≡ behind ++ reverse x.reads)
      → AreTextsOfSplit m t.states number longer shorter (reverse (left ++ before)) (reverse (right ++ before))
  two_paths laws number longer shorter ahead behind left right before h w put_left put_right =
      let x = h.split.ahead_step in
      let y = h.split.behind_step in
      let x_here = listed_at number longer x w.state h.split.ahead_taken w.at in
      let y_here = listed_at number shorter y w.state h.split.behind_taken w.at in
      let heads : x ≢ y = places_differ m laws w.state longer shorter x y h.split.differ x_here y_here in
      record {
        paths = record {
          one = w.path ++ x ∷ h.one;
          two = w.path ++ y ∷ h.two;
          one_path = reaches_path m.start w.state w.path (x ∷ h.one) w.reaches ((longer, x_here), h.one_path);
          two_path = reaches_path m.start w.state w.path (y ∷ h.two) w.reaches ((shorter, y_here), h.two_path);
          differ = λ same. heads (let tails : x ∷ h.one ≡ y ∷ h.two = append_cancel_left w.path (x ∷ h.one) (y ∷ h.two) same in cc);
          same_cells = cells_join w.path (x ∷ h.one) ∙ ap (λ (l : List ℕ). cells_of w.path ++ (l ++ cells_of h.one)) h.split.lead
              ∙ ap (λ (l : List ℕ). cells_of w.path ++ l) (append_assoc y.cells h.pair.lead (cells_of h.one)) ∙ ap (λ (l : List ℕ). cells_of w.path ++ (y.cells ++ l)) h.same_cells ∙ sym (cells_join w.path (y ∷ h.two));
          left_reads = sym (whole_text left before w.path (x ∷ h.one) (reads_back ahead left x.reads (reads_of h.one) (put_left x h.split.ahead_taken) h.ahead_reads) w.reads);
          right_reads = sym (whole_text right before w.path (y ∷ h.two) (reads_back behind right y.reads (reads_of h.two) (put_right y h.split.behind_taken) h.behind_reads) w.reads);
        };
        diverge = λ r s rules. (
          record { before = w.path; one = x; other = y; first_rest = h.one; second_rest = h.two; differ = heads; first_steps = refl; second_steps = refl },
          rules x y h.split.ahead_taken h.split.behind_taken,
        );
      }

  -- what continues a pair continues the split that made it
  pub split_continues : (n number longer shorter : ℕ) (ahead behind : List ℕ) (h : Continues m t.states t.pairs n ahead behind) → IsSplitOf m t.states number longer shorter h.pair
      → SplitContinues m t.states number longer shorter ahead behind
  split_continues n number longer shorter ahead behind h split = record {
    pair = h.pair;
    split = split;
    one = h.one;
    two = h.two;
    one_path = moved h.ahead_state split.ahead_step.next h.pair.ahead h.one h.ahead_at split.ahead h.one_path;
    two_path = moved h.behind_state split.behind_step.next h.pair.behind h.two h.behind_at split.behind h.two_path;
    same_cells = h.same_cells;
    ahead_reads = h.ahead_reads;
    behind_reads = h.behind_reads;
  }
