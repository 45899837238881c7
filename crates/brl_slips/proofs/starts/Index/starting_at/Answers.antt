use Rattle.std.proofs.Common.{arith, rules, ◌≡◌, ◌≤◌, ◌<◌, ◌∷◌, ◌++◌, All, ℕ, [], List, length, ◌+◌, ◌-◌, inl, inr, ap, subst, sym, ◌∙◌, take, drop}
use Rattle.std.specs.List.{Contains}
use Rattle.std.proofs.lemmas.Bool.{cases_lt}
use Rattle.std.proofs.lemmas.List.Elements.{All-append, All-nil, Contains-append_left, Contains-append_right}
use Rattle.brl_slips.specs.Pieces.{chars_at}
use Rattle.brl_slips.specs.Searching.{IsPieceAt, numbers_of}
use Rattle.brl_slips.proofs.Completing.{at-within}
use Rattle.brl_slips.proofs.Indexing.{found-sound, found-whole}
use Rattle.brl_slips.proofs.starts.Index.starting_at.Goals as goal

pub loop-shorter-init : goal.loop-shorter-init
loop-shorter-init c =
    let pieces = c.args.pieces.now in
    let text = c.args.text.now in
    record {
      sound = subst (All (IsPieceAt pieces text c.args.place)) (sym c.new-found.ensures.items) (All-nil (IsPieceAt pieces text c.args.place));
      whole = λ number at lt. absurd (omega (arith, at-within pieces text c.args.place number at, c.requires.index.longest number, at.piece.shorter, lt, c.min.ensures, c.min-most.ensures));
    }

pub loop-shorter-preserved : goal.loop-shorter-preserved
loop-shorter-preserved c =
    let pieces = c.args.pieces.now in
    let text = c.args.text.now in
    let place = c.args.place in
    let index = c.args.self.now in
    let size = c.min-most.result - c.loop-shorter.shorter in
    let old = c.loop-shorter.found.items in
    let new = numbers_of index.numbers (take size (drop place text)) in
    let width : place + size - place ≡ size = omega arith in
    let items : c.push_numbers.new.found.items ≡ old ++ new = c.in_ok-push_numbers.ensures ∙ ap (λ n. old ++ numbers_of index.numbers (take n (drop place text))) width in
    record {
      sound = subst (All (IsPieceAt pieces text place)) (sym items)
          (All-append (IsPieceAt pieces text place) old new c.loop-shorter.invariant.sound
          (found-sound pieces index text place size c.requires.index (omega (arith, c.loop-shorter-test.true)) (omega (arith, c.min.ensures, c.min-most.ensures, c.requires.place)) (omega (arith, c.min-most.ensures, c.requires.place))));
      whole = λ number at lt. subst (λ l. Contains l number) (sym items)
          (elim (cases_lt size (length (chars_at pieces number))) [
            | inl longer ↦ Contains-append_left old new number (c.loop-shorter.invariant.whole number at longer)
            | inr not ↦ Contains-append_right old new number (found-whole pieces index text place size number c.requires.index at (omega (arith, lt, not)))
          ]);
    }

pub returns : goal.returns
returns c = record {
  sound = c.loop-shorter.invariant.sound;
  whole = λ number at. c.loop-shorter.invariant.whole number at (omega (arith, at.piece.some, c.loop-shorter-test.false));
}
