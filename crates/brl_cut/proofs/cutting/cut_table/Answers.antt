use Rattle.std.proofs.Common.{◌∙◌, List, ap, map, string_bytes, subst, sym, ℕ}
use Rattle.std.proofs.lemmas.Result.{err_from_is_err_and}
use Rattle.brl_failure.specs.Raised.{raised_is}
use Rattle.brl_lines.specs.Answer.{FileAnswers}
use Rattle.brl_cut.specs.Cuts.{IsReadAs, written_root}
use Rattle.brl_cut.specs.Edits.{Texts}
use Rattle.brl_cut.specs.Files.{file_view}
use Rattle.brl_cut.proofs.AlikeFiles.{loads-read, reads-read}
use Rattle.brl_cut.proofs.CutLemmas.{cut-fault, cut-in, read-fault, whole-in}
use Rattle.brl_cut.proofs.cutting.cut_table.Goals as goal

pub invariant_of-result : goal.invariant_of-result
invariant_of-result g c =
    let files = map file_view c.in_ok-whole.field-0.cut.files.items in
    let table = c.in_ok-table.table in
    let read : IsReadAs files (string_bytes c.in_ok-written.written) table =
    subst (λ (root : List ℕ). IsReadAs files root table) (sym c.in_ok-written.ensures)
    (subst (λ (fs : Texts). IsReadAs fs (written_root c.args.dir.now c.args.root.now) table) (ap (map file_view) c.as_slice.ensures.value) c.in_ok-table.ensures.table) in
    record {
      loads = loads-read files (string_bytes c.in_ok-written.written) table read;
      reads = reads-read files (string_bytes c.in_ok-written.written) table read;
    }

pub returns-clause-cut : goal.returns-clause-cut
returns-clause-cut g c =
    let gathered = c.in_ok-gathered.gathered in
    let gives = g.S.Source.gives c.args.source.now in
    let is = rw (raised_is _ c.gather.result c.raise.result gathered c.raise.ensures c.in_ok-gathered.was) at c.gather.ensures.gathered in
    let looked = c.folders.ensures ∙ ap (λ (gives : FileAnswers). gives.folders) c.gather.ensures.same in
    let of = c.in_ok-whole.field-0 in
    let whole = whole-in c.args.rewrite gives c.args.root.now c.args.dir.now gathered is (map string_bytes c.folders.result.now) looked of.whole.lines c.in_ok-whole.ensures.whole in
    let cut = cut-in c.args.rewrite gives c.args.root.now c.args.dir.now gathered is (map string_bytes c.folders.result.now) looked of.cut c.in_ok-whole.ensures.cut in
    let table = subst (λ (fs : Texts). IsReadAs fs (written_root c.args.dir.now c.args.root.now) c.in_ok-table.table) (ap (map file_view) c.as_slice.ensures.value) c.in_ok-table.ensures.table in
    (is, whole, cut, table)

pub returns-in_err-whole-clause-fault : goal.returns-in_err-whole-clause-fault
returns-in_err-whole-clause-fault g c =
    let gathered = c.in_ok-gathered.gathered in
    let is = rw (raised_is _ c.gather.result c.raise.result gathered c.raise.ensures c.in_ok-gathered.was) at c.gather.ensures.gathered in
    let told = cut-fault c.args.rewrite (g.S.Source.gives c.args.source.now) c.args.root.now c.args.dir.now gathered is (map string_bytes c.folders.result.now)
    (c.folders.ensures ∙ ap (λ (gives : FileAnswers). gives.folders) c.gather.ensures.same) c.cut_gathered.result c.cut_gathered.ensures.fault in
    let p = err_from_is_err_and c.from_residual-in_err-whole.result c.from_residual-in_err-whole.ensures.1 in
    rw (p.1, p.2) (rw c.in_err-whole.was at told)

pub returns-in_err-table-clause-fault : goal.returns-in_err-table-clause-fault
returns-in_err-table-clause-fault g c =
    let gathered = c.in_ok-gathered.gathered in
    let is = rw (raised_is _ c.gather.result c.raise.result gathered c.raise.ensures c.in_ok-gathered.was) at c.gather.ensures.gathered in
    let told = read-fault c.args.rewrite (g.S.Source.gives c.args.source.now) c.args.root.now c.args.dir.now gathered is (map string_bytes c.folders.result.now)
    (c.folders.ensures ∙ ap (λ (gives : FileAnswers). gives.folders) c.gather.ensures.same) c.in_ok-whole.field-0.cut c.in_ok-whole.ensures.cut
    (map file_view c.as_slice.result.now) (ap (map file_view) c.as_slice.ensures.value) c.read_written.result c.read_written.ensures.fault in
    let p = err_from_is_err_and c.from_residual-in_err-table.result c.from_residual-in_err-table.ensures.1 in
    rw (p.1, p.2) (rw c.in_err-table.was at told)

pub returns-in_err-written-clause-fault : goal.returns-in_err-written-clause-fault
returns-in_err-written-clause-fault g c =
    let p = err_from_is_err_and c.from_residual-in_err-written.result c.from_residual-in_err-written.ensures.1 in
    rw (p.1, p.2) tt
