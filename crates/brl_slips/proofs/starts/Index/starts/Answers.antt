use Rattle.std.proofs.Common.{arith, rules, ◌≡◌, ◌≤◌, ◌<◌, ◌∷◌, ◌++◌, All, ℕ, [], List, length, ◌+◌, inl, inr, ap, subst, sym, ◌∙◌, below_more}
use Rattle.std.proofs.lemmas.List.{length_push}
use Rattle.std.proofs.lemmas.Bool.{cases_lt}
use Rattle.std.proofs.lemmas.List.Elements.{All-nil}
use Rattle.brl_slips.specs.Searching.{AreAt, IsPieceAt, numbers_at}
use Rattle.brl_slips.proofs.Indexing.{numbers-last, numbers-left, numbers-past}
use Rattle.brl_slips.proofs.starts.Index.starts.Goals as goal

pub loop-place-preserved : goal.loop-place-preserved
loop-place-preserved c =
    let old = c.loop-place.starts.items in
    let new = c.in_ok-starting_at.field-0 in
    let place = c.loop-place.place in
    let items : c.push.new.self.items ≡ old ++ new ∷ [] = c.in_ok-push.ensures.items in
    record {
      count = ap length items ∙ (length_push old new ∙ ap (λ n. n + 1) c.loop-place.invariant.count);
      each = below_more (λ k. AreAt c.args.pieces.now c.args.text.now k (numbers_at c.push.new.self.items k)) place
          (λ k lt. subst (AreAt c.args.pieces.now c.args.text.now k) (sym (ap (λ l. numbers_at l k) items ∙ numbers-left old new k (omega (arith, lt, c.loop-place.invariant.count)))) (c.loop-place.invariant.each k lt))
          (subst (AreAt c.args.pieces.now c.args.text.now place) (sym (ap (λ l. numbers_at l place) items ∙ numbers-last old new place c.loop-place.invariant.count)) c.in_ok-starting_at.ensures);
    }

pub returns : goal.returns
returns c =
    let pieces = c.args.pieces.now in
    let text = c.args.text.now in
    let starts = c.loop-place.starts.items in
    let end : c.loop-place.place ≡ length text = omega (arith, c.loop-place-test.false, c.loop-place.auto.place-end) in
    record {
      count = c.loop-place.invariant.count ∙ end;
      sound = λ place. elim (cases_lt place (length text)) [
        | inl lt ↦ (c.loop-place.invariant.each place (omega (arith, lt, end))).sound
        | inr past ↦ subst (All (IsPieceAt pieces text place)) (sym (numbers-past starts place (omega (arith, past, end, c.loop-place.invariant.count)))) (All-nil (IsPieceAt pieces text place))
      ];
      whole = λ place number lt at. (c.loop-place.invariant.each place (omega (arith, lt, end))).whole number at;
    }
