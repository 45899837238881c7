use Rattle.brl_failure.specs.Raised.{if_fault-weaker}
use Rattle.std.proofs.lemmas.Result.{err_from_is_err_and}
use Rattle.brl_lines.proofs.SpanLemmas.{slices-given}
use Rattle.brl_lines.proofs.WalkLemmas.{lines-loaded, refused-loaded}
use Rattle.brl_lines.proofs.loaded.load.Goals as goal

pub returns-clause-lines : goal.returns-clause-lines
returns-clause-lines g c = lines-loaded (g.S.Source.gives c.args.source.now) c.args.root.now c.in_ok-table.table c.in_ok-table.ensures.ok c.new.result c.new.ensures

pub returns-clause-slices : goal.returns-clause-slices
returns-clause-slices g c =
    let walks = c.in_ok-table.ensures.ok in
    rw c.new.ensures (slices-given (g.S.Source.gives c.args.source.now) c.in_ok-table.table.files.entries walks.given c.in_ok-table.table.spans.items walks.spans)

pub returns-in_err-table-clause-fault : goal.returns-in_err-table-clause-fault
returns-in_err-table-clause-fault g c =
    let p = err_from_is_err_and c.from_residual.result c.from_residual.ensures.1 in
    rw (p.1, p.2) (if_fault-weaker _ _ c.in_err-table.field-0.0 (refused-loaded (g.S.Source.gives c.args.source.now) c.args.root.now) c.in_err-table.ensures.err)
