-- How contracts see the parts of a table: as a table whose rules are in the order of the parts.
use Rattle.std.specs.Prelude.{map}
use Rattle.std.specs.String.{string_bytes}
use Rattle.brl_rules.specs.declared.parts.TableParts.{TableParts}
use Rattle.brl_rules.specs.TableView.{TableView}

-- the view of the parts of a table
abbrev pub parts_view : TableParts → TableView
parts_view p = record {
  characters = p.characters.entries;
  rules = p.rules.items;
  signs = p.signs;
  files = map string_bytes p.files.items;
  notices = p.notices.items;
}
