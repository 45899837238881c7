use Rattle.std.proofs.Common.{◌≡◌, ℕ, ◌<◌, ◌≤◌, length, get_or, sym, ◌∙◌, ap, arith}
use Rattle.std.specs.Ordering.{nat_cmp}
use Rattle.std.proofs.lemmas.List.{get_or_default}
use Rattle.brl_pairs.proofs.Comparing.{decided, one_ended, shorter_first}
use Rattle.brl_pairs.proofs.sequence.compare_chars.Goals as goal

pub returns-then-one-place : goal.returns-then-one-place
returns-then-one-place c =
    let one = c.args.one.now in
    let other = c.args.other.now in
    let place = c.loop-place.place in
    let less : place < c.min-shared.result = c.loop-place-test.true in
    let in_one : place < length one = omega (arith, less, c.min-shared.ensures) in
    let in_other : place < length other = omega (arith, less, c.min-shared.ensures) in
    let x : c.index-one-place.result ≡ get_or one place 0 = c.index-one-place.is ∙ get_or_default one place c.index-one-place.result 0 in_one in
    let y : c.index-other-place.result ≡ get_or other place 0 = c.index-other-place.is ∙ get_or_default other place c.index-other-place.result 0 in_other in
    let x_now = c.index-one-place-then-one-place.is ∙ get_or_default one place c.index-one-place-then-one-place.result 0 in_one in
    let y_now = c.index-other-place-then-one-place.is ∙ get_or_default other place c.index-other-place-then-one-place.result 0 in_other in
    c.cmp.ensures ∙ ap (λ (n : ℕ). nat_cmp n c.index-other-place-then-one-place.result) x_now ∙ ap (nat_cmp (get_or one place 0)) y_now
    ∙ sym (decided place one other c.loop-place.invariant in_one in_other (λ same. c.if-one-place.true (x ∙ same ∙ sym y)))

pub returns : goal.returns
returns c =
    let one = c.args.one.now in
    let other = c.args.other.now in
    let place = c.loop-place.place in
    let all : c.min-shared.result ≤ place = c.loop-place-test.false in
    let upto : place ≤ c.min-shared.result = c.loop-place.auto.place-end in
    let shared = c.min-shared.ensures in
    c.cmp-2.ensures ∙ sym (shorter_first place one other c.loop-place.invariant (one_ended (length one) (length other) place (omega (arith, all, shared))) (omega (arith, upto, shared)) (omega (arith, upto, shared)))
