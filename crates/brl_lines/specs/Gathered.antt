-- Internal. How the definitions see a walk through the files of a table.
use Rattle.std.specs.Prelude.{List, map, option_map, string_bytes}
use Rattle.brl_lines.specs.Files.{lines_at}
use Rattle.brl_lines.specs.Gathering.{LeftView}
use Rattle.brl_lines.specs.Lines.{OutView, Walk, WayView}
use Rattle.brl_lines.specs.Tokens.{LineView}
use Rattle.brl_lines.specs.Views.{location_view}
use Rattle.brl_lines.specs.declared.expand.Expansion.{Expansion}
use Rattle.brl_lines.specs.declared.gathering.LeadsOut.{LeadsOut}
use Rattle.brl_lines.specs.declared.way.LeftInclude.{LeftInclude}
use Rattle.brl_lines.specs.declared.way.Way.{Way}

-- an include line that is left out
abbrev pub left_view : LeftInclude → LeftView
left_view left = record { file = string_bytes left.file; line = left.line; name = string_bytes left.name; reason = left.reason }

-- an include line that leads out
abbrev pub out_view : LeadsOut → OutView
out_view out = record { name = string_bytes out.name; place = location_view out.place }

-- a way
abbrev pub way_view : Way → WayView
way_view way = record {
  paths = map string_bytes way.paths.items;
  names = map string_bytes way.names.items;
  left_out = map left_view way.left_out.items;
  out = option_map out_view way.out;
}

-- a walk with these lines
abbrev pub walk_with : List LineView → Way → Walk
walk_with lines way = record { lines = lines; way = way_view way }

-- a walk
abbrev pub walk_view : Expansion → Walk
walk_view table = walk_with (lines_at table.files.entries table.spans.items) table.way
