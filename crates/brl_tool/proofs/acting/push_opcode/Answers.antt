use Rattle.std.proofs.Common.{◌≡◌, ◌∙◌, ◌++◌, ap, append_assoc, map, string_bytes}
use Rattle.brl_acting.specs.WholeTable.{acting_view}
use Rattle.brl_lines.specs.Views.{location_view}
use Rattle.brl_tool.specs.Acting.{count_of, count_text, place_text}
use Rattle.brl_tool.proofs.acting.push_opcode.Goals as goal

pub returns : goal.returns
returns c =
    let old = string_bytes c.args.text.now in
    let lines = map acting_view c.args.lines.now in
    let opcode = string_bytes c.args.line.now.opcode in
    let place = place_text (location_view c.args.line.now.place) in
    let number : c.count_of.result ≡ count_of lines opcode = c.count_of.ensures ∙ ap (count_of lines) c.as_str-opcode.ensures.value in
    let counted : string_bytes c.push_count.new.text ≡ old ++ count_text opcode (count_of lines opcode) =
    c.in_ok-push_count.ensures ∙ (λ j. old ++ count_text (c.as_str-opcode.ensures.value j) (number j)) in
    c.in_ok-push_place.ensures ∙ ap (λ t. t ++ place) counted ∙ append_assoc old (count_text opcode (count_of lines opcode)) place
