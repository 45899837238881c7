-- Internal. How the definitions see files in memory and their edits.
use Rattle.std.specs.Prelude.{ℕ, ◌≡◌, List, option_map, Option, string_bytes}
use Rattle.std.specs.Borrow.{Bor}
use Rattle.std.specs.BTreeMap.{BTreeMap, get_by}
use Rattle.std.specs.Ordering.{nat_cmp}
use Rattle.brl_lines.specs.InMemory.{bytes_in, folders_of}
use Rattle.brl_lines.specs.declared.map_source.MapSource.{MapSource}
use Rattle.brl_cut.specs.Edits.{EditView, Texts}
use Rattle.brl_cut.specs.Settling.{bytes_at}
use Rattle.brl_cut.specs.declared.files.Edit.{Edit}
use Rattle.brl_lines.specs.declared.gathering.GatheredFile.{GatheredFile}

-- what is put before lines, by their numbers
abbrev pub HasPrefixes : BTreeMap ℕ (Bor (List ℕ)) → (ℕ → Option (List ℕ)) → Type 0
HasPrefixes prefixes prefix = (number : ℕ) → option_map (λ text. text.now) (get_by (nat_cmp number) prefixes) ≡ prefix number

-- an edit
abbrev pub edit_view : Edit → EditView
edit_view edit = record { file = string_bytes edit.file; line = edit.line; prefix = string_bytes edit.prefix }

-- a file, with its path and its bytes
abbrev pub file_view : GatheredFile → List ℕ × List ℕ
file_view file = (string_bytes file.path, file.bytes.items)

-- the source has these files and no others, and looks in these folders
abbrev pub HoldsFiles : List (List ℕ) → Texts → MapSource → Type 0
HoldsFiles folders files source = ((path : List ℕ) → bytes_in source path ≡ bytes_at files path) × (folders_of source.folders ≡ folders)
