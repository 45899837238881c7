use Rattle.std.proofs.Common.{◌≡◌, ◌≤◌, ◌+◌, ◌∙◌, ap, arith, length, take, Result, Ok, Err, OnErr}
use Rattle.std.specs.List.{slice_range}
use Rattle.brl_stream.proofs.BufferLemmas.{IsRead, refilled, range-front, read_after, read_none, read_length, read_rest}
use Rattle.brl_stream.proofs.buffer.InputBuffer.fill.Given.{Over}
use Rattle.brl_stream.proofs.buffer.InputBuffer.fill.Goals.{After-min-within}
use Rattle.brl_stream.proofs.buffer.InputBuffer.fill.Goals as goal

on_err : {T E P : Type 0} (r : Result T E) → P → OnErr r P
on_err (Ok x) p = tt
on_err (Err e) p = p

-- what was read is in the buffer, after the bytes before
is_read : (g : Over) (c : After-min-within g) → IsRead c.self.inside.buffer.len c.self.inside.start c.self.inside.end c.in_ok-count.count c.min-within.result c.args.self.now.bytes c.self.inside.buffer.items c.read_after.new.buffer
is_read g c =
    let inside = c.self.inside in
    let most : inside.end + c.in_ok-count.count ≤ 196608 = omega (arith, c.in_ok-count.ensures.few, c.min-most.ensures, c.self.invariant.2) in
    record {
      is = ap (λ w. w.bytes) c.self.view_is ∙ c.make_room.ensures.bytes;
      order = c.self.invariant.1;
      room = omega (arith, most, c.self.invariant.0);
      sized = c.read_after.auto.buffer ∙ c.as_mut_slice.ensures.len;
      front = c.in_ok-count.ensures.front ∙ ap (take inside.end) c.as_mut_slice.ensures.value;
      few = omega (arith, c.min-within.ensures);
    }

pub returns-in_err-count-clause-bytes : goal.returns-in_err-count-clause-bytes
returns-in_err-count-clause-bytes g c =
    let inside = c.self.inside in
    let zs = inside.buffer.items in
    let ys = c.read_after.new.buffer in
    let sized : length ys ≡ inside.buffer.len = c.read_after.auto.buffer ∙ c.as_mut_slice.ensures.len in
    let front : take inside.end ys ≡ take inside.end zs = c.in_err-count.ensures.front ∙ ap (take inside.end) c.as_mut_slice.ensures.value in
    let is : slice_range zs inside.start inside.end ≡ c.args.self.now.bytes = ap (λ w. w.bytes) c.self.view_is ∙ c.make_room.ensures.bytes in
    let same = ap (λ l. slice_range l inside.start inside.end) (refilled inside.buffer.len ys zs sized) ∙ range-front ys zs inside.start inside.end c.self.invariant.1 front ∙ is in
    on_err c.from_residual.result same

pub returns-clause-read : goal.returns-clause-read
returns-clause-read g c =
    let count = c.in_ok-count.count in
    let within = c.min-within.result in
    let read = is_read g (goal.at.returns-clause-read g c).After-min-within in
    let one : count ≤ within + 1 = omega (arith, c.min-within.ensures, c.in_ok-count.ensures.few, c.min-most.ensures, c.self.invariant.4) in
    let longer = read_length read in
    let taken : c.self.inside.taken ≡ c.args.self.now.taken = ap (λ w. w.taken) c.self.view_is ∙ c.make_room.ensures.taken in
    record {
      counted = omega (arith, longer, taken);
      same = λ rest known. read_rest read _ _ c.in_ok-count.ensures.bytes one rest (rw c.requires.within at known);
    }

pub returns-clause-prefix : goal.returns-clause-prefix
returns-clause-prefix g c = read_after (is_read g (goal.at.returns-clause-prefix g c).After-min-within)

pub returns-clause-none : goal.returns-clause-none
returns-clause-none g c = read_none (is_read g (goal.at.returns-clause-none g c).After-min-within)
