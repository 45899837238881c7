-- A file of a table and one of its lines. The project's own choice.
use Rattle.std.specs.Prelude.{ℕ, List, [], ◌++◌, codes, slice_get, decimal, unwrap_or}
use Rattle.brl_rules.specs.TableView.{TableView}

-- the name of a table's file
abbrev pub file_name : TableView → ℕ → List ℕ
file_name t file = unwrap_or (slice_get t.files file) []

-- a file and one of its lines, as FILE:LINE
abbrev pub place_text : TableView → ℕ → ℕ → List ℕ
place_text t file line = file_name t file ++ codes ":" ++ decimal line
