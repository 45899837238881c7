use Rattle.std.proofs.Common.{◌≡◌, ◌+◌, false, arith, ap, ◌∙◌, sym, length}
use Rattle.brl_stream.specs.InputBuffer.{HasNoFeed}
use Rattle.brl_stream.proofs.FirstLineLemmas.{open-length, not_longer, tail-next}
use Rattle.brl_stream.proofs.line.next_line.Goals as goal

pub fill-requires-clause-few : goal.fill-requires-clause-few
fill-requires-clause-few g c =
    let more = rw (c.in_default.is, c.bytes.ensures.bytes, c.is_longer.ensures) at c.in_ok-next.ensures in
    open-length c.loop-next.buffer.bytes more.0

pub returns-in-Ok-eq0-clause-next : goal.returns-in-Ok-eq0-clause-next
returns-in-Ok-eq0-clause-next g c =
    let more = rw (c.in_default.is, c.bytes.ensures.bytes, c.is_longer.ensures) at c.in_ok-next.ensures in
    let ensures = c.in-Ok-eq0.ensures in
    let same = ensures.none c.in-Ok-eq0.field-0-test in
    let plain : HasNoFeed c.fill.new.self.bytes = rw same more.0.0 in
    let len : length c.fill.new.self.bytes ≡ length c.loop-next.buffer.bytes = ap length same in
    let taken : c.loop-next.buffer.taken + c.in-Ok-eq0.field-0 ≡ c.fill.new.self.taken = omega (arith, ensures.read.counted, len, c.in-Ok-eq0.field-0-test) in
    let longer : c.fill.new.self.longer ≡ false = not_longer c.fill.new.self.longer _ _ ensures.counts taken in
    let scanned : length c.bytes-scanned.result.now ≡ length c.fill.new.self.bytes = ap length c.bytes-scanned.ensures.bytes ∙ sym len in
    tail-next c.fill.new.self.bytes (length c.bytes-scanned.result.now) c.fill.new.self.longer (g.R.Input.remaining c.fill.new.reader) c.last_line.result (plain, longer, ensures.end c.in-Ok-eq0.field-0-test) scanned c.last_line.ensures
