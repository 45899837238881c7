-- Lines of a cut that are marked, since they can act. The project's own choice.
use Rattle.std.specs.Prelude.{ℕ, List, codes, map, string_bytes, zip}
use Rattle.brl_lines.specs.Lines.{LocationView}
use Rattle.brl_cut.specs.Edits.{EditView, Texts, edited, prefix_in}
use Rattle.brl_cut.specs.Files.{file_view}
use Rattle.brl_cut.specs.declared.outcome.CutTable.{CutTable}

-- the mark of the line at a place
abbrev pub mark : LocationView → EditView
mark place = record { file = place.file; line = place.line; prefix = codes "# can act: " }

-- a file with these marks, where it had this path before it was cut
abbrev pub marked_file : List EditView → List ℕ × (List ℕ × List ℕ) → List ℕ × List ℕ
marked_file marks entry = (entry.1.0, edited (prefix_in marks entry.0) entry.1.1)

-- the files of a cut, with marks before the lines at these places; a place has the path that its
-- file had before
abbrev pub marked_files : List LocationView → CutTable → Texts
marked_files places of = map (marked_file (map mark places)) (zip (map string_bytes of.cut.paths.items) (map file_view of.cut.files.items))
