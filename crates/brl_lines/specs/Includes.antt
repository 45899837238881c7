-- The file that an include line names. This restates the opcode `include` of the section
-- "Miscellaneous Opcodes" in "How to Write Translation Tables" of the liblouis User's and
-- Programmer's Manual. That a name is looked for beside the root, and then in the folders that are
-- given, and nowhere else, is the project's own choice.
use Rattle.std.specs.Prelude.{ℕ, ◌||◌, ◌==◌, nat_eq, if◌then◌else◌, List, [], ◌∷◌, ◌++◌, codes, drop, length, map, slice_get, slice_index, Option, None, option_map}
use Rattle.std.specs.List.{ends_with, list_any}
use Rattle.std.specs.Str.{bytes_eq}
use Rattle.brl_lines.specs.Answer.{FileAnswer, is_missing}
use Rattle.brl_lines.specs.Tokens.{LineView}

-- the folder of a path: all of it up to its last slash, and with it; nothing where it has no slash
abbrev pub folder_of : List ℕ → List ℕ
folder_of [] = []
folder_of (b ∷ bs) = if (b == 47) || list_any (λ c. c == 47) bs then b ∷ folder_of bs else []

-- what is after the last slash of a path
abbrev pub last_part : List ℕ → List ℕ
last_part path = drop (length (folder_of path)) path

-- the path of a name: the name itself where it begins with a slash, else in the root's folder
abbrev pub included : List ℕ → List ℕ → List ℕ
included root name = if slice_index name 0 == 47 then name else folder_of root ++ name

-- what is between a folder and a name in it: a slash, unless the folder ends with one or is empty
abbrev pub slash_after : List ℕ → List ℕ
slash_after folder = if (length folder == 0) || ends_with nat_eq folder (codes "/") then [] else codes "/"

-- the path of a name in a folder
abbrev pub path_in : List ℕ → List ℕ → List ℕ
path_in folder name = folder ++ (slash_after folder ++ name)

-- the paths of a name in these folders; none where it begins with a slash
abbrev pub paths_in : List (List ℕ) → List ℕ → List (List ℕ)
paths_in folders name = if slice_index name 0 == 47 then [] else map (λ folder. path_in folder name) folders

-- the first of some paths at which it isn't known that there is no file; where it is known of all
-- of them, another path
abbrev pub first_there : (List ℕ → Option FileAnswer) → List (List ℕ) → List ℕ → List ℕ
first_there answer [] other = other
first_there answer (path ∷ paths) other = if is_missing (answer path) then first_there answer paths other else path

-- the path at which a file is found that has a name, and a usual path: that path; where there is no
-- file, the first path of the name in the folders where there is one; and the usual path where
-- there is none either
abbrev pub found : List (List ℕ) → (List ℕ → Option FileAnswer) → List ℕ → List ℕ → List ℕ
found folders answer usual name = first_there answer (usual ∷ paths_in folders name) usual

-- the name in an include line; a line that is none, or that has no operand, has none
abbrev pub name_of : LineView → Option (List ℕ)
name_of line = if bytes_eq line.opcode.text (codes "include") then option_map (λ t. t.text) (slice_get line.operands 0) else None
