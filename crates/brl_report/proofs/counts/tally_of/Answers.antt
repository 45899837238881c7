use Rattle.std.proofs.Common.{ℕ, ◌+◌, ◌≡◌, ◌∙◌, ◌++◌, ◌∷◌, [], Bor, List, Some, ap, arith, map, sym, take, unwrap_or, count_by, nat_cmp, bytes_eq}
use Rattle.std.specs.BTreeMap.{get_by}
use Rattle.std.specs.Cmp.Lexicographic.{slice_cmp}
use Rattle.std.proofs.lemmas.List.{map-append}
use Rattle.std.proofs.lemmas.List.Sums.{count_by-le-length}
use Rattle.std.proofs.lemmas.Map.Text.{btree_map_updates_str}
use Rattle.brl_table.specs.Reading.{dedup}
use Rattle.brl_table.specs.Survey.{faulty_line_view}
use Rattle.brl_report.specs.Survey.{opcodes_of}
use Rattle.brl_report.proofs.Tallies.{few-opcodes, numbers-more, opcodes-more, names-known, names-new}
use Rattle.brl_report.proofs.counts.tally_of.Goals as goal
use Rattle.brl_report.proofs.counts.tally_of.Goals.{then-number-eq0+in_ok-push, else-number-eq0}

pub overflow_add-number : goal.overflow_add-number
overflow_add-number c =
    let i = c.loop-faulty.faulty-index in
    let opcodes = opcodes_of (map faulty_line_view (take i c.args.found.now)) in
    let counted = c.unwrap_or-number.ensures ∙ ap (λ o. unwrap_or o 0) (c.copied.ensures ∙ c.get.ensures.value) ∙ c.loop-faulty.invariant.numbers_are c.as_str-opcode.result.now in
    let few = count_by-le-length (bytes_eq c.as_str-opcode.result.now) opcodes in
    let length_few = few-opcodes c.args.found.now i in
    omega (arith, counted, few, length_few)

pub loop-faulty-preserved : goal.loop-faulty-preserved
loop-faulty-preserved c =
    let i = c.loop-faulty.faulty-index in
    let opcode = c.as_str-opcode.result.now in
    let before = opcodes_of (map faulty_line_view (take i c.args.found.now)) in
    let counted = c.unwrap_or-number.ensures ∙ ap (λ o. unwrap_or o 0) (c.copied.ensures ∙ c.get.ensures.value) ∙ c.loop-faulty.invariant.numbers_are opcode in
    let more = opcodes-more c.args.found.now i c.faulty-item.result opcode c.loop-faulty-test.true c.faulty-item.is c.as_str-opcode.ensures.value in
    let now = λ (name : Bor (List ℕ)). name.now in
    let old = c.loop-faulty.invariant in
    let names : map (λ name. name.now) c.if-number-eq0.opcodes.items ≡ dedup bytes_eq (before ++ opcode ∷ []) =
    elim c.if-number-eq0.branch [
      | then-number-eq0+in_ok-push w ↦
          (ap (λ v. map now v.items) w.opcodes-is ∙ ap (map now) w.in_ok-push.ensures.items ∙ map-append now c.loop-faulty.opcodes.items (c.as_str-opcode.result ∷ [])
          ∙ ap (λ ns. ns ++ opcode ∷ []) old.names_are ∙ sym (names-new before opcode (sym counted ∙ w.if-number-eq0.true)))
      | else-number-eq0 w ↦
          (ap (λ v. map now v.items) w.opcodes-is ∙ old.names_are ∙ sym (names-known before opcode (λ none. w.if-number-eq0.false (counted ∙ none))))
    ] in
    record {
      names_are = names ∙ ap (dedup bytes_eq) (sym more);
      numbers_are = λ name.
          numbers-more before opcode (λ q. get_by (λ key. slice_cmp nat_cmp q key.now) c.loop-faulty.numbers) (λ q. get_by (λ key. slice_cmp nat_cmp q key.now) c.insert.new.self) c.unwrap_or-number.result counted
          (btree_map_updates_str opcode c.loop-faulty.numbers c.insert.new.self (Some (c.unwrap_or-number.result + 1)) c.in_ok-insert.ensures.updates) old.numbers_are name
          ∙ ap (count_by (bytes_eq name)) (sym more);
    }
