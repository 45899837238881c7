use Rattle.std.proofs.Common.{◌≡◌, ◌∙◌, ◌+◌, ◌-◌, ◌<◌, ◌≤◌, Bool, ℕ, List, Some, ap, arith, false, get_or, length, slice_get, subst, sym, true, length-set, set}
use Rattle.std.proofs.lemmas.List.{length-replicate}
use Rattle.std.proofs.lemmas.Option.{slice_get-get_or, slice_get_within}
use Rattle.brl_pairs.proofs.Numbered.{contained}
use Rattle.brl_pairs.proofs.SortedLaws.{edge_at, is_at}
use Rattle.brl_pairs.proofs.SplitsLaws.{AreFirstMarks, marks_as_before, marks_more}
use Rattle.brl_pairs.proofs.splits.marks_of.Goals.{then-last-gt0, else-last-gt0}
use Rattle.brl_pairs.proofs.splits.marks_of.Goals as goal

pub loop-position-init : goal.loop-position-init
loop-position-init c = record {
  many = ap length (c.in_ok-marks.ensures.items_if_clones_equal (λ y e. e)) ∙ length-replicate c.args.count false;
  marks = record { own = λ k n x less. absurd (omega (arith, less)); last = λ k n j x less. absurd (omega (arith, less)) };
}

pub index_mut-requires : goal.index_mut-requires
index_mut-requires c =
    let sorted = c.args.sorted.now in
    let x = edge_at sorted c.loop-position.position in
    let at = is_at sorted c.loop-position.position (omega arith) in
    omega (arith, c.requires.places x (contained sorted c.loop-position.position x at), c.loop-position.invariant.many, c.loop-position.marks.ok.0)

-- the last one before
last_before : (shorter : List ℕ) (position : ℕ) → ((k n : ℕ) → slice_get shorter k ≡ Some n → n ≤ k) → position < length shorter → get_or shorter position 0 ≤ position
last_before shorter position before within = before position (get_or shorter position 0) (slice_get-get_or shorter position 0 within)

pub bounds-sorted-last : goal.bounds-sorted-last
bounds-sorted-last c =
    let le = last_before c.args.shorter.now c.loop-position.position c.requires.before (omega (arith, c.requires.many)) in
    omega (arith, le)

pub index_mut-requires-then-last-gt0 : goal.index_mut-requires-then-last-gt0
index_mut-requires-then-last-gt0 c =
    let sorted = c.args.sorted.now in
    let le = last_before c.args.shorter.now c.loop-position.position c.requires.before (omega (arith, c.requires.many)) in
    let n = get_or c.args.shorter.now c.loop-position.position 0 in
    let y = edge_at sorted (n - 1) in
    let at = is_at sorted (n - 1) (omega (arith, le)) in
    omega (arith, c.requires.places y (contained sorted (n - 1) y at), c.loop-position.invariant.many, c.loop-position.marks.ok.0)

pub loop-position-preserved : goal.loop-position-preserved
loop-position-preserved c =
    let sorted = c.args.sorted.now in
    let shorter = c.args.shorter.now in
    let position = c.loop-position.position in
    let n = get_or shorter position 0 in
    let n_at = slice_get-get_or shorter position 0 (omega (arith, c.requires.many)) in
    let old = c.loop-position.marks.items in
    elim c.if-last-gt0.branch [
      | then-last-gt0 w ↦
          let le = last_before shorter position c.requires.before (omega (arith, c.requires.many)) in
          let x = edge_at sorted position in
          let y = edge_at sorted (n - 1) in
          let x_at = is_at sorted position (omega arith) in
          let y_at = is_at sorted (n - 1) (omega (arith, le)) in
          let x_within : x.place < length old = omega (arith, c.requires.places x (contained sorted position x x_at), c.loop-position.invariant.many) in
          let y_within : y.place < length old = omega (arith, c.requires.places y (contained sorted (n - 1) y y_at), c.loop-position.invariant.many) in
          let is : c.if-last-gt0.marks.items ≡ set (set old x.place true) y.place true = ap (λ v. v.items) w.marks-is in
          record {
            many = ap length is ∙ length-set (set old x.place true) y.place true ∙ length-set old x.place true ∙ c.loop-position.invariant.many;
            marks = subst (λ (ms : List Bool). AreFirstMarks sorted shorter ms (position + 1)) (sym is)
                (marks_more sorted shorter position n n_at old x y x_at y_at w.if-last-gt0.true x_within y_within c.loop-position.invariant.marks);
          }
      | else-last-gt0 w ↦
          let is : c.if-last-gt0.marks.items ≡ old = ap (λ v. v.items) w.marks-is in
          record {
            many = ap length is ∙ c.loop-position.invariant.many;
            marks = subst (λ (ms : List Bool). AreFirstMarks sorted shorter ms (position + 1)) (sym is)
                (marks_as_before sorted shorter position n n_at old (omega (arith, w.if-last-gt0.false)) c.loop-position.invariant.marks);
          }
    ]

pub returns-clause-marks : goal.returns-clause-marks
returns-clause-marks c = record {
  own = λ k n x n_at some x_at. c.loop-position.invariant.marks.own k n x (let within = slice_get_within c.args.shorter.now k n n_at in omega (arith, within, c.requires.many)) n_at some x_at;
  last = λ k n j x n_at is x_at. c.loop-position.invariant.marks.last k n j x (let within = slice_get_within c.args.shorter.now k n n_at in omega (arith, within, c.requires.many)) n_at is x_at;
}
