use Rattle.std.proofs.Common.{arith, ◌≡◌, ◌≤◌, ◌<◌, ◌+◌, ◌-◌, ◌∷◌, ◌++◌, [], ℕ, List, ap, subst, sym, ◌∙◌, refl, length, drop, take, get_or, length-drop, append_assoc, below_more}
use Rattle.brl_slips.specs.Searching.{Completes, IsCompleted, IsPieceAt, numbers_at}
use Rattle.std.specs.Prelude.{vec_len}
use Rattle.std.proofs.lemmas.List.{length_push, take_at}
use Rattle.brl_slips.proofs.Completing.{at-within, completed-end, completes-after, dead-after, dead_end, numbers_there, piece_at}
use Rattle.brl_slips.proofs.spelling.Text.+complete.Goals as goal

pub returns-then-state-self-clause-completed : goal.returns-then-state-self-clause-completed
returns-then-state-self-clause-completed t c =
    completed-end c.args.self.pieces.now c.args.self.chars.now c.args.wanted.cells.now c.args.state.character c.args.state.cell c.args.state.misses c.args.row.now.items
    (omega (arith, c.if-state-self.true)) c.requires.cell

pub after-requires-clause-piece : goal.after-requires-clause-piece
after-requires-clause-piece t c =
    piece_at c.args.self.pieces.now c.args.self.chars.now c.args.self.starts.now c.args.state.character c.index-self-state.result c.deref-number-items.result.now c.loop-number.number-index
    c.requires.starts (omega (arith, c.requires.starts.count, c.requires.character, c.if-state-self.false)) c.deref-number-items.ensures.value (omega (arith, c.loop-number-test.true))

pub complete-requires : goal.complete-requires
complete-requires t c =
    let after = c.in-Some.ensures in
    let at = piece_at c.args.self.pieces.now c.args.self.chars.now c.args.self.starts.now c.args.state.character c.index-self-state.result c.deref-number-items.result.now c.loop-number.number-index
    c.requires.starts (omega (arith, c.requires.starts.count, c.requires.character, c.if-state-self.false)) c.deref-number-items.ensures.value (omega (arith, c.loop-number-test.true)) in
    let within = at-within c.args.self.pieces.now c.args.self.chars.now c.args.state.character _ at in (
      omega (arith, c.decreases, after.character, within, at.piece.some),
      (c.requires.starts, (c.requires.short, (c.requires.few, (omega (arith, after.character, within), (after.within, (omega (arith, after.misses, c.requires.misses), c.loop-number.invariant.known)))))),
    )

pub returns-then-branch-clause-completed : goal.returns-then-branch-clause-completed
returns-then-branch-clause-completed t c =
    let pieces = c.args.self.pieces.now in
    let text = c.args.self.chars.now in
    let wanted = c.args.wanted.cells.now in
    let next = c.in-Some.next in
    let number = get_or c.deref-number-items.result.now c.loop-number.number-index 0 in
    let at = piece_at c.args.self.pieces.now c.args.self.chars.now c.args.self.starts.now c.args.state.character c.index-self-state.result c.deref-number-items.result.now c.loop-number.number-index
    c.requires.starts (omega (arith, c.requires.starts.count, c.requires.character, c.if-state-self.false)) c.deref-number-items.ensures.value (omega (arith, c.loop-number-test.true)) in
    let done = subst (IsCompleted pieces text wanted next.character next.cell next.misses c.push.new.self.items c.complete.new.row.items) c.if-branch.true c.in_ok-complete.ensures.completed in (
      number ∷ done.0,
      done.1 ∙ ap (λ r. r ++ done.0) (c.in_ok-push.ensures.items ∙ ap (λ r. r ++ number ∷ []) c.loop-number.invariant.row) ∙ append_assoc c.args.row.now.items (number ∷ []) done.0,
      completes-after pieces text wanted c.args.state number next done.0 at c.in-Some.ensures done.2,
    )

pub loop-number-preserved : goal.loop-number-preserved
loop-number-preserved t c =
    let pieces = c.args.self.pieces.now in
    let text = c.args.self.chars.now in
    let wanted = c.args.wanted.cells.now in
    let next = c.in-Some.next in
    let index = c.loop-number.number-index in
    let number = get_or c.deref-number-items.result.now index 0 in
    let dead = subst (IsCompleted pieces text wanted next.character next.cell next.misses c.push.new.self.items c.complete.new.row.items) c.if-branch.false c.in_ok-complete.ensures.completed in
    let pushed : c.complete.new.row.items ≡ c.args.row.now.items ++ number ∷ [] = dead.0 ∙ (c.in_ok-push.ensures.items ∙ ap (λ r. r ++ number ∷ []) c.loop-number.invariant.row) in
    record {
      row = c.pop.ensures.rest ∙ (ap (take (vec_len c.complete.new.row - 1)) pushed ∙ take_at c.args.row.now.items (number ∷ []) (vec_len c.complete.new.row - 1)
          (omega (arith, c.complete.new.row.ok.0, ap length pushed, length_push c.args.row.now.items number)));
      known = c.in_ok-complete.ensures.known;
      none = below_more (λ k. (more : List ℕ) → Completes pieces text wanted c.args.state.character c.args.state.cell c.args.state.misses (get_or c.deref-number-items.result.now k 0 ∷ more) → ⊥) index
          c.loop-number.invariant.none (λ more. dead-after pieces text wanted c.args.state number next more c.in-Some.ensures dead.1);
    }

pub returns-clause-completed : goal.returns-clause-completed
returns-clause-completed t c =
    let pieces = c.args.self.pieces.now in
    let starts = c.args.self.starts.now in
    let character = c.args.state.character in
    let within : character < length starts = omega (arith, c.requires.starts.count, c.requires.character, c.if-state-self.false) in
    let same : numbers_at starts character ≡ c.deref-number-items.result.now = numbers_there starts character c.index-self-state.result within ∙ sym c.deref-number-items.ensures.value in (
      c.loop-number.invariant.row,
      dead_end pieces c.args.self.chars.now c.args.wanted.cells.now starts character c.args.state.cell c.args.state.misses c.requires.starts (omega (arith, within, c.requires.starts.count))
          (λ k lt more. subst (λ ns. Completes pieces c.args.self.chars.now c.args.wanted.cells.now character c.args.state.cell c.args.state.misses (get_or ns k 0 ∷ more) → ⊥) (sym same)
          (c.loop-number.invariant.none k (omega (arith, lt, ap length same, c.loop-number-test.false)) more)),
    )

pub returns-clause-known : goal.returns-clause-known
returns-clause-known t c = c.mark.ensures c.args.self.pieces.now c.args.self.chars.now c.args.wanted.cells.now c.loop-number.invariant.known (returns-clause-completed t c).1
