use Rattle.std.proofs.Common.{◌∙◌, ℕ, List, ap, arith, slice_get, subst, sym}
use Rattle.std.proofs.lemmas.Option.{slice_get_within}
use Rattle.brl_pairs.specs.Splits.{AreMarks}
use Rattle.brl_pairs.proofs.Lists.{inside}
use Rattle.brl_pairs.proofs.splits.splits_of.Goals as goal

pub marks_of-requires-clause-before : goal.marks_of-requires-clause-before
marks_of-requires-clause-before c = λ k n at.
    let n_at = ap (λ (l : List ℕ). slice_get l k) (sym c.as_slice.ensures.value) ∙ at in
    let x = inside c.args.sorted.now k (let within = slice_get_within c.in_ok-shorter.shorter.items k n n_at in omega (arith, within, c.in_ok-shorter.ensures.many)) in
    (c.in_ok-shorter.ensures.shorter k n x.0 x.1 n_at).before

pub returns : goal.returns
returns c = record {
  positions = c.in_ok-positions.ensures;
  many = c.in_ok-shorter.ensures.many;
  shorter = c.in_ok-shorter.ensures.shorter;
  marks = subst (λ (l : List ℕ). AreMarks c.args.sorted.now l c.in_ok-marks.marks.items) c.as_slice.ensures.value c.in_ok-marks.ensures.marks;
  mark_count = λ x there. (let less = c.requires.places x there in omega (arith, less, c.in_ok-marks.ensures.count));
}
