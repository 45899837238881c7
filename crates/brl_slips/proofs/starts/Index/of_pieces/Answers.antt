use Rattle.std.proofs.Common.{arith, rules, ◌≡◌, ◌≤◌, ◌<◌, ◌∷◌, ◌++◌, ℕ, [], List, length, nat_eq, ◌+◌, inl, inr, ap, subst, sym, ◌∙◌, below_more, if◌then◌else◌}
use Rattle.std.specs.Cmp.Lexicographic.{pointwise}
use Rattle.std.proofs.lemmas.Bool.{cases_lt}
use Rattle.brl_slips.specs.Pieces.{chars_at}
use Rattle.brl_slips.specs.declared.lexicon.Piece.{Piece}
use Rattle.brl_slips.specs.Searching.{AreNumbered, IsIndex, numbers_of}
use Rattle.brl_slips.proofs.Completing.{chars_there}
use Rattle.brl_slips.proofs.Indexing.{chars-past, numbered-more}
use Rattle.brl_slips.proofs.starts.Index.of_pieces.Goals as goal

pub loop-number-preserved : goal.loop-number-preserved
loop-number-preserved c =
    let pieces = c.args.pieces.now in
    let number = c.loop-number.number in
    let same = chars_there pieces number c.index-pieces-number.result (omega (arith, c.loop-number-test.true)) in
    let chars : c.as_slice.result.now ≡ chars_at pieces number = c.as_slice.ensures ∙ (ap (λ (p : Piece). p.chars) c.index-pieces-number.is ∙ sym same) in
    record {
      numbered = numbered-more pieces number c.loop-number.numbers c.insert.new.numbers
          (λ other. subst (λ cs. numbers_of c.insert.new.numbers other ≡ numbers_of c.loop-number.numbers other ++ (if pointwise nat_eq cs other then number ∷ [] else [])) chars (c.in_ok-insert.ensures other))
          c.loop-number.invariant.numbered;
      longest = below_more (λ n. length (chars_at pieces n) ≤ c.max-longest.result) number
          (λ n lt. omega (arith, c.loop-number.invariant.longest n lt, c.max-longest.ensures)) (omega (arith, ap length same, ap (λ (p : Piece). length p.chars) c.index-pieces-number.is, c.len.ensures, c.max-longest.ensures));
    }

pub returns : goal.returns
returns c =
    let pieces = c.args.pieces.now in
    let number = c.loop-number.number in
    let end : number ≡ length pieces = omega (arith, c.loop-number-test.false, c.loop-number.auto.number-end) in
    record {
      numbered = subst (λ k. AreNumbered pieces k c.loop-number.numbers) end c.loop-number.invariant.numbered;
      longest = λ n. elim (cases_lt n (length pieces)) [
        | inl lt ↦ c.loop-number.invariant.longest n (omega (arith, lt, end))
        | inr past ↦ omega (arith, ap length (chars-past pieces n past))
      ];
    }
