use Rattle.std.proofs.Common.{◌≡◌, ◌∙◌, subst, sym, arith}
use Rattle.std.proofs.lemmas.Str.{IsCharBoundary-start}
use Rattle.std.specs.Str.{IsCharBoundary}
use Rattle.brl_lines.proofs.FolderLemmas.{boundary-slash, folder_of-here, folder_of-less, folder_of-none, take_front}
use Rattle.brl_lines.proofs.include.folder.Goals as goal
use Rattle.brl_lines.proofs.include.folder.Goals.{then-loop-end-test+else-bytes-end-ne47, else-loop-end-test}

pub loop-end-preserved : goal.loop-end-preserved
loop-end-preserved c = record {
  within = omega arith;
  same = folder_of-less c.args.path.now c.loop-end.end c.loop-end-test.true c.loop-end.invariant.within (rw c.as_bytes-bytes.ensures.value at c.if-bytes-end-ne47.true) c.loop-end.invariant.same;
}

pub range-requires-clause-end_boundary : goal.range-requires-clause-end_boundary
range-requires-clause-end_boundary c =
    elim c.loop-end-test.branch [
      | then-loop-end-test+else-bytes-end-ne47 w ↦ boundary-slash c.args.path.now c.loop-end.end w.loop-end-test.true c.loop-end.invariant.within c.utf8.path (rw c.as_bytes-bytes.ensures.value at w.if-bytes-end-ne47.false)
      | else-loop-end-test w ↦ (let none : c.loop-end.end ≡ 0 = omega arith in subst (λ n. IsCharBoundary c.args.path.now n) (sym none) (IsCharBoundary-start c.args.path.now c.utf8.path))
    ]

pub returns : goal.returns
returns c =
    elim c.loop-end-test.branch [
      | then-loop-end-test+else-bytes-end-ne47 w ↦ c.range.ensures.value ∙ take_front c.args.path.now c.loop-end.end ∙ folder_of-here c.args.path.now c.loop-end.end w.loop-end-test.true c.loop-end.invariant.within (rw c.as_bytes-bytes.ensures.value at w.if-bytes-end-ne47.false) c.loop-end.invariant.same
      | else-loop-end-test w ↦ c.range.ensures.value ∙ take_front c.args.path.now c.loop-end.end ∙ folder_of-none c.args.path.now c.loop-end.end w.loop-end-test.false c.loop-end.invariant.same
    ]
