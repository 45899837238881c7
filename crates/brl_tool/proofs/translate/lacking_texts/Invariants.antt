use Rattle.std.proofs.Common.{◌≡◌, flat_map, string_bytes, take}
use Rattle.brl_tool.specs.Streams.{lacking_line}
use Rattle.brl_tool.proofs.translate.lacking_texts.Given as goal

abbrev pub invariant-loop-lacking : goal.invariant-loop-lacking
invariant-loop-lacking l = string_bytes l.text ≡ flat_map lacking_line (take l.lacking-index l.list)
