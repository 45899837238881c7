use Rattle.std.proofs.Common.{◌∙◌, ◌<◌, ◌≤◌, ap, arith, length, map, sym}
use Rattle.std.proofs.lemmas.List.{get_or-map, length-map, take_all}
use Rattle.brl_lines.specs.Views.{line_view}
use Rattle.brl_slips.specs.Lines.{pieces_of}
use Rattle.brl_slips.proofs.Reading.{pieces_more, rules_all, rules_more}
use Rattle.brl_slips.proofs.lexicon.read_lexicon.Goals as goal

pub loop-place-preserved : goal.loop-place-preserved
loop-place-preserved c =
    let alphabet = c.in_ok-alphabet.alphabet in
    let lines = map line_view c.args.lines.now in
    let place = c.loop-place.place in
    let line = line_view c.index-lines-place.result in
    let within : place < length lines = omega (arith, c.loop-place-test.true, length-map c.args.lines.now line_view) in
    let is = get_or-map line_view c.args.lines.now place c.index-lines-place.result line c.loop-place-test.true ∙ sym (ap line_view c.index-lines-place.is) in
    record {
      pieces = pieces_more alphabet lines place line within is c.loop-place.pieces.items c.read_line.new.pieces.items c.loop-place.invariant.pieces c.in_ok-read_line.ensures.pieces;
      entries = rules_more alphabet lines place line within is c.loop-place.pieces.items c.loop-place.entries.items c.read_line.new.entries.items
          c.loop-place.invariant.pieces c.loop-place.invariant.entries c.in_ok-read_line.ensures.entries;
    }

pub returns : goal.returns
returns c =
    let alphabet = c.in_ok-alphabet.alphabet in
    let lines = map line_view c.args.lines.now in
    let past : length lines ≤ c.loop-place.place = omega (arith, c.loop-place-test.false, length-map c.args.lines.now line_view) in
    record {
      alphabet = c.in_ok-alphabet.ensures;
      pieces = c.loop-place.invariant.pieces ∙ ap (pieces_of alphabet) (take_all c.loop-place.place lines past);
      entries = c.loop-place.invariant.entries ∙ rules_all alphabet lines c.loop-place.place past;
    }
