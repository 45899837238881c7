use Rattle.std.proofs.Common.{◌∙◌, IfSome, Option, arith, refl, subst}
use Rattle.std.proofs.lemmas.Result.{err_from_is_err_and}
use Rattle.brl_lines.specs.Steps.{IsInner, IsRowAt}
use Rattle.brl_lines.specs.declared.open_file.OpenFile.{OpenFile}
use Rattle.brl_lines.proofs.LoopLemmas.{added-all, added-inner, added-line, added-none, added-nothing, added-past, inner-spans, number-small, refused-include, refused-inner, row-smaller, still-boundary, still-open, still-within}
use Rattle.brl_lines.proofs.expand.+expand.Goals as goal
use Rattle.brl_lines.proofs.expand.+expand.Goals.{in-Some-2+in_ok-expand-in-Include, in_default-2}

pub loop-row-init : goal.loop-row-init
loop-row-init g t c =
    record {
      added = added-none (g.S.Source.gives c.args.source.now) c.args.policy c.args.root.now c.args.file.now c.args.table.now c.requires.1.1.1;
      count = refl;
      same = refl;
    }

pub row_from-requires-clause-opened : goal.row_from-requires-clause-opened
row_from-requires-clause-opened g t c = still-open _ _ _ _ _ c.requires.1.1.1 _ _ _ c.loop-row.invariant.added

pub row_from-requires-clause-within : goal.row_from-requires-clause-within
row_from-requires-clause-within g t c = still-within _ _ _ _ _ c.requires.1.1.1 _ _ _ c.loop-row.invariant.added

pub row_from-requires-clause-boundary : goal.row_from-requires-clause-boundary
row_from-requires-clause-boundary g t c = still-boundary _ _ _ _ _ c.requires.1.1.1 _ _ _ c.loop-row.invariant.added

pub overflow_add-number : goal.overflow_add-number
overflow_add-number g t c =
    let small = number-small _ _ _ _ _ c.requires.1.1.1 _ _ _ c.loop-row.invariant.added in
    omega (arith, small)

pub loop-row-smaller-in-Nothing : goal.loop-row-smaller-in-Nothing
loop-row-smaller-in-Nothing g t c = row-smaller _ _ _ _ _ c.requires.1.1.1 _ _ _ c.loop-row.invariant.added _ (rw c.in-Some.is at c.in_ok-row.ensures)

pub loop-row-smaller-in-Continue-branch-3 : goal.loop-row-smaller-in-Continue-branch-3
loop-row-smaller-in-Continue-branch-3 g t c = row-smaller _ _ _ _ _ c.requires.1.1.1 _ _ _ c.loop-row.invariant.added _ (rw c.in-Some.is at c.in_ok-row.ensures)

pub loop-row-smaller : goal.loop-row-smaller
loop-row-smaller g t c = row-smaller _ _ _ _ _ c.requires.1.1.1 _ _ _ c.loop-row.invariant.added _ (rw c.in-Some.is at c.in_ok-row.ensures)

pub loop-row-preserved-in-Nothing : goal.loop-row-preserved-in-Nothing
loop-row-preserved-in-Nothing g t c =
    let is = rw c.in-Some.is at c.in_ok-row.ensures in
    record {
      added = added-nothing _ _ _ _ _ c.requires.1.1.1 _ _ _ c.loop-row.invariant.added _ is c.in-Nothing.is;
      count = c.loop-row.invariant.count;
      same = c.loop-row.invariant.same;
    }

pub loop-row-preserved-in-Continue-branch-3 : goal.loop-row-preserved-in-Continue-branch-3
loop-row-preserved-in-Continue-branch-3 g t c =
    let is = rw c.in-Some.is at c.in_ok-row.ensures in
    record {
      added = added-line _ _ _ _ _ c.requires.1.1.1 _ _ _ c.loop-row.invariant.added _ is c.in-Line.is c.push.new.self c.in_ok-push-in-Line.ensures.items;
      count = c.loop-row.invariant.count;
      same = c.loop-row.invariant.same;
    }

pub returns-in_err-inner-in-Include-clause-err : goal.returns-in_err-inner-in-Include-clause-err
returns-in_err-inner-in-Include-clause-err g t c =
    let is = rw c.in-Some.is at c.in_ok-row.ensures in
    let p = err_from_is_err_and c.from_residual-in_err-inner-in-Include.result c.from_residual-in_err-inner-in-Include.ensures.1 in
    rw (p.1, p.2) (refused-include _ _ _ _ _ c.requires.1.1.1 _ _ _ c.loop-row.invariant.added _ is _ c.in-Include.is c.in_err-inner-in-Include.field-0.0
    (rw (c.loop-row.invariant.same, c.in-Include.is) at c.in_err-inner-in-Include.ensures.err))

pub expand-requires : goal.expand-requires
expand-requires g t c κs within =
    let is = rw c.in-Some.is at c.in_ok-row.ensures in
    let takes = rw (c.loop-row.invariant.same, c.in-Include.is) at c.in_ok-inner-in-Include.ensures.ok in
    let opened = subst (λ (inner : Option OpenFile). IfSome inner (IsInner c.enter.new.table.files.entries c.args.file.now)) c.in-Some-2.is takes.opened in
    let depth = opened.1 in (
      omega (arith, depth),
      (
        within,
        record {
          given = rw (c.in_ok-inner-in-Include.ensures.same ∙ c.loop-row.invariant.same) takes.grows.given;
          opened = opened.0;
          spans = inner-spans _ _ _ _ _ c.requires.1.1.1 _ _ _ c.loop-row.invariant.added _ is _ c.in-Include.is _ _ takes;
        },
      ),
    )

pub returns-in_err-expand-in-Include-clause-err : goal.returns-in_err-expand-in-Include-clause-err
returns-in_err-expand-in-Include-clause-err g t c =
    let is = rw c.in-Some.is at c.in_ok-row.ensures in
    let takes = rw (c.loop-row.invariant.same, c.in-Include.is) at c.in_ok-inner-in-Include.ensures.ok in
    let p = err_from_is_err_and c.from_residual-in_err-expand-in-Include.result c.from_residual-in_err-expand-in-Include.ensures.1 in
    rw (p.1, p.2)
    (refused-inner _ _ _ _ _ c.requires.1.1.1 _ _ _ c.loop-row.invariant.added _ is _ c.in-Include.is _ _ takes _ c.in-Some-2.is
    c.in_err-expand-in-Include.field-0.0 (rw (c.in_ok-inner-in-Include.ensures.same ∙ c.loop-row.invariant.same) at c.in_err-expand-in-Include.ensures.err))

pub loop-row-preserved : goal.loop-row-preserved
loop-row-preserved g t c =
    let is = rw c.in-Some.is at c.in_ok-row.ensures in
    let takes = rw (c.loop-row.invariant.same, c.in-Include.is) at c.in_ok-inner-in-Include.ensures.ok in
    elim c.match-branch-5.branch [
      | in-Some-2+in_ok-expand-in-Include w ↦
          rw (w.table-is, w.source-is)
          record {
            added = added-inner _ _ _ _ _ c.requires.1.1.1 _ _ _ c.loop-row.invariant.added _ is _ c.in-Include.is _ _ takes _ w.in-Some-2.is _
                (rw (c.in_ok-inner-in-Include.ensures.same ∙ c.loop-row.invariant.same) at w.in_ok-expand-in-Include.ensures.ok);
            count = w.in_ok-expand-in-Include.ensures.count ∙ c.in_ok-inner-in-Include.ensures.count ∙ c.loop-row.invariant.count;
            same = w.in_ok-expand-in-Include.ensures.same ∙ c.in_ok-inner-in-Include.ensures.same ∙ c.loop-row.invariant.same;
          }
      | in_default-2 w ↦
          rw (w.table-is, w.source-is)
          record {
            added = added-past _ _ _ _ _ c.requires.1.1.1 _ _ _ c.loop-row.invariant.added _ is _ c.in-Include.is _ _ takes w.in_default-2.is;
            count = c.in_ok-inner-in-Include.ensures.count ∙ c.loop-row.invariant.count;
            same = c.in_ok-inner-in-Include.ensures.same ∙ c.loop-row.invariant.same;
          }
    ]

pub returns-clause-ok : goal.returns-clause-ok
returns-clause-ok g t c =
    let ends = subst (IsRowAt c.loop-row.table.files.entries c.args.file.now c.loop-row.number c.loop-row.at) c.in_default.is c.in_ok-row.ensures in
    added-all _ _ _ _ _ c.requires.1.1.1 _ _ _ c.loop-row.invariant.added ends
