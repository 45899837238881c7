use Rattle.std.proofs.Common.{◌∙◌, ◌++◌, suc, ap, map, string_bytes, subst, sym}
use Rattle.std.proofs.lemmas.List.{map-append}
use Rattle.std.proofs.lemmas.Result.{err_from_is_err_and}
use Rattle.std.proofs.lemmas.Simd.{map-map}
use Rattle.brl_failure.specs.Raised.{if_fault-weaker}
use Rattle.brl_table.specs.Survey.{faulty_line_view}
use Rattle.brl_table.specs.declared.faulty.FaultyLine.{FaultyLine}
use Rattle.brl_cut.specs.Edits.{Texts, edited_files}
use Rattle.brl_cut.specs.Files.{file_view}
use Rattle.brl_cut.specs.Rounds.{IsSurveyed}
use Rattle.brl_cut.specs.Settling.{fault_edit, lines_among}
use Rattle.brl_cut.proofs.RoundLemmas.{faulty-after, files-after}
use Rattle.brl_cut.proofs.rounds.settle.Goals as goal

pub returns-in_err-surveyed-clause-fault : goal.returns-in_err-surveyed-clause-fault
returns-in_err-surveyed-clause-fault c =
    let inv = c.loop.invariant in
    let root = c.args.root.now in
    let folders = map string_bytes c.args.folders.now in
    let start = map file_view c.args.files.items in
    let found = map faulty_line_view c.loop.surveyed.faulty.items in
    let lines = map (λ (line : FaultyLine). fault_edit (faulty_line_view line)) c.as_slice-in-loop.result.now in
    let edits = sym (map-map fault_edit faulty_line_view c.as_slice-in-loop.result.now) ∙ ap (map fault_edit) (ap (map faulty_line_view) c.as_slice-in-loop.ensures.value) in
    let new = files-after folders root start (map file_view c.loop.files.items) inv.0 inv.1 found inv.3.0 inv.3.1 inv.3.2 lines (map file_view c.in_ok-files.files.items) edits
    (c.in_ok-files.ensures ∙ ap (edited_files lines) (ap (map file_view) c.as_slice.ensures.value)) in
    let p = err_from_is_err_and c.from_residual-in_err-surveyed.result c.from_residual-in_err-surveyed.ensures.1 in
    rw (p.1, p.2)
    (if_fault-weaker _ _ c.in_err-surveyed.field-0.0 (λ fault h. (suc inv.0, ap (λ (fs : Texts). lines_among folders fs root) (sym (ap (map file_view) c.as_slice-in-loop-2.ensures.value ∙ new)) ∙ h)) c.in_err-surveyed.ensures.fault)

pub loop-preserved : goal.loop-preserved
loop-preserved c =
    let inv = c.loop.invariant in
    let root = c.args.root.now in
    let folders = map string_bytes c.args.folders.now in
    let start = map file_view c.args.files.items in
    let found = map faulty_line_view c.loop.surveyed.faulty.items in
    let lines = map (λ (line : FaultyLine). fault_edit (faulty_line_view line)) c.as_slice-in-loop.result.now in
    let edits = sym (map-map fault_edit faulty_line_view c.as_slice-in-loop.result.now) ∙ ap (map fault_edit) (ap (map faulty_line_view) c.as_slice-in-loop.ensures.value) in
    let new = files-after folders root start (map file_view c.loop.files.items) inv.0 inv.1 found inv.3.0 inv.3.1 inv.3.2 lines (map file_view c.in_ok-files.files.items) edits
    (c.in_ok-files.ensures ∙ ap (edited_files lines) (ap (map file_view) c.as_slice.ensures.value)) in
    let faulty = faulty-after folders root start (map file_view c.loop.files.items) inv.0 inv.1 found inv.3.0 inv.3.1 inv.3.2 in (
      suc inv.0,
      new,
      ap (map faulty_line_view) c.in_ok-append.ensures.items ∙ map-append faulty_line_view c.loop.found.items c.loop.surveyed.faulty.items
          ∙ (λ j. inv.2 j ++ faulty j),
      subst (λ (fs : Texts). IsSurveyed folders root fs c.in_ok-surveyed.surveyed) (ap (map file_view) c.as_slice-in-loop-2.ensures.value) c.in_ok-surveyed.ensures.found,
    )
