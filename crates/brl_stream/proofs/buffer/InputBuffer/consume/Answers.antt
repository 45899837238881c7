use Rattle.std.proofs.Common.{◌≤◌, ◌-◌, ◌∙◌, ap, drop, length}
use Rattle.std.specs.List.{slice_range}
use Rattle.brl_stream.specs.InputBuffer.{BufferView}
use Rattle.brl_stream.proofs.BufferLemmas.{range-drop}
use Rattle.brl_stream.proofs.buffer.InputBuffer.consume.Goals as goal

pub returns : goal.returns
returns c =
    let inside = c.self.inside in
    let items = inside.buffer.items in
    let within : c.args.count ≤ length (slice_range items inside.start inside.end) = rw (← c.self.view_is) at c.requires in
    ap (λ bytes. record { bytes = bytes; taken = inside.taken; longer = inside.longer; room = 196608 - inside.end }) (range-drop items inside.start inside.end c.args.count within)
    ∙ ap (λ (w : BufferView). record w { bytes = drop c.args.count w.bytes }) c.self.view_is
