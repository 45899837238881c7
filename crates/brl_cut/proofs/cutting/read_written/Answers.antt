use Rattle.std.proofs.Common.{◌∙◌, List, ℕ, map, subst, sym}
use Rattle.brl_failure.specs.Raised.{if_err-raised, if_ok-raised}
use Rattle.brl_cut.specs.Cuts.{IsReadAs, IsUnreadAs, IsUnwritten, written_root}
use Rattle.brl_cut.specs.Files.{file_view}
use Rattle.brl_cut.proofs.cutting.read_written.Goals as goal

pub returns-clause-table : goal.returns-clause-table
returns-clause-table c =
    let files = map file_view c.args.files.now in
    let root = c.as_str.ensures.value ∙ c.in_ok-written.ensures in
    if_ok-raised _ (IsReadAs files c.as_str.result.now) (IsReadAs files (written_root c.args.dir.now c.args.root.now)) c.read_back.result c.raise.result c.raise.ensures c.read_back.ensures.table
    (λ table h. subst (λ (r : List ℕ). IsReadAs files r table) root h)

pub returns-clause-fault : goal.returns-clause-fault
returns-clause-fault c =
    let files = map file_view c.args.files.now in
    let named = c.as_str.ensures.value ∙ c.in_ok-written.ensures in
    if_err-raised _ (IsUnreadAs files c.as_str.result.now) (IsUnwritten files c.args.root.now c.args.dir.now) c.read_back.result c.raise.result c.raise.ensures c.read_back.ensures.fault
    (λ one other same h. subst (IsUnwritten files c.args.root.now c.args.dir.now) (sym same) (subst (λ (r : List ℕ). IsUnreadAs files r one) named h))
