-- Include lines that are left out where the files of a table are gathered: those of hyphenation
-- dictionaries, which have no lines of a table, those of files that were gone through before, and
-- those of files that aren't there. The project's own choice.
use Rattle.std.specs.Prelude.{ℕ, ◌||◌, ◌==◌, Bool, not, nat_eq, List, codes, length}
use Rattle.std.specs.List.{ends_with, list_all, slice_split}
use Rattle.std.specs.Str.{bytes_eq}
use Rattle.brl_lines.specs.declared.way.IncludeReason.{IncludeReason}

-- a hyphenation dictionary: its name ends in `.dic`
abbrev pub is_dictionary : List ℕ → Bool
is_dictionary name = ends_with nat_eq name (codes ".dic")

-- a part of a name that names a folder or a file in a folder
abbrev pub is_plain_part : List ℕ → Bool
is_plain_part part = not ((length part == 0) || bytes_eq part (codes ".") || bytes_eq part (codes ".."))

-- a name of a file below a folder: each of its parts, between slashes, is plain
abbrev pub is_plain : List ℕ → Bool
is_plain name = list_all is_plain_part (slice_split (λ b. b == 47) name)

-- an include line that is left out: the path of its file, its number there, the name in it, and why
pub record LeftView : Type 0 where
  pub file : List ℕ
  pub line : ℕ
  pub name : List ℕ
  pub reason : IncludeReason

-- the files of a table, each with its path and its bytes, and their names in the same order; and
-- the include lines that are left out
pub record GatheredView : Type 0 where
  pub files : List (List ℕ × List ℕ)
  pub names : List (List ℕ)
  pub left_out : List LeftView
