use Rattle.std.proofs.Common.{◌≡◌, take}
use Rattle.std.specs.Prelude.{flat_map, string_bytes}
use Rattle.brl_tool.specs.Notices.{notice_line}
use Rattle.brl_tool.proofs.notices.notices_text.Given as goal

abbrev pub invariant-loop-notice : goal.invariant-loop-notice
invariant-loop-notice l = string_bytes l.text ≡ flat_map (notice_line l.table) (take l.notice-index l.table.notices)
