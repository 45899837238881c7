-- How lines of a file become comments, each in its place. The project's own choice.
use Rattle.std.specs.Prelude.{ℕ, zero, suc, ◌-◌, ◌==◌, ◌&&◌, Bool, not, nat_eq, nat_le, nat_lt, if◌then◌else◌, List, [], ◌∷◌, ◌++◌, codes, drop, flat_map, fold, length, map, slice_index, take, Option, Some, None}
use Rattle.std.specs.List.{ends_with, enumerate_from}
use Rattle.std.specs.Str.{bytes_eq}
use Rattle.brl_lines.specs.Rows.{onto, order_mark, without_mark}

-- ---- Lines with their ends

-- the lines of a text, each up to its line feed, and with it
abbrev pub whole_lines : List ℕ → List (List ℕ)
whole_lines [] = []
whole_lines (b ∷ bs) = if b == 10 then (b ∷ []) ∷ whole_lines bs else onto b (whole_lines bs)

-- how many bytes a line has without its end: a line feed, a carriage return and a line feed, or
-- none
abbrev pub row_length : List ℕ → ℕ
row_length line =
    if ends_with nat_eq line (13 ∷ 10 ∷ []) then length line - 2
    else if ends_with nat_eq line (10 ∷ []) then length line - 1
    else length line

-- a byte order mark, where the bytes begin with one
abbrev pub mark_of : List ℕ → List ℕ
mark_of bytes = if bytes_eq (take 3 bytes) order_mark then order_mark else []

-- ---- Lines of at most 2,048 bytes

-- a byte begins a character
abbrev pub begins_character : ℕ → Bool
begins_character byte = not (nat_le 128 byte && nat_lt byte 192)

-- the last place up to this one where a character begins, or 0
unfoldable pub character_at : ℕ → List ℕ → ℕ
character_at zero row = 0
character_at (suc place) row = if begins_character (slice_index row (suc place)) then suc place else character_at place row

-- a row of at most 2,048 bytes: one with more is cut off before a character, and ends with `...`
abbrev pub limited : List ℕ → List ℕ
limited row = if nat_le (length row) 2048 then row else take (character_at 2045 row) row ++ codes "..."

-- ---- Edits

-- an edit of a line: what is put before it, in the file at a path
pub record EditView : Type 0 where
  pub file : List ℕ
  pub line : ℕ
  pub prefix : List ℕ

-- an edit is of this line
abbrev pub is_of : List ℕ → ℕ → EditView → Bool
is_of path number edit = bytes_eq path edit.file && nat_eq edit.line number

-- what is put before a line of the file at a path; the last edit of the line decides
abbrev pub prefix_in : List EditView → List ℕ → ℕ → Option (List ℕ)
prefix_in edits path number = fold (λ found edit. if is_of path number edit then Some edit.prefix else found) None edits

-- a line with this put before it, and its end
abbrev pub edited_line : Option (List ℕ) → List ℕ → List ℕ
edited_line None line = line
edited_line (Some prefix) line = limited (prefix ++ take (row_length line) line) ++ drop (row_length line) line

-- the bytes of a file, with what is put before its lines by their numbers, from 1
abbrev pub edited : (ℕ → Option (List ℕ)) → List ℕ → List ℕ
edited prefix bytes = mark_of bytes ++ flat_map (λ entry. edited_line (prefix entry.0) entry.1) (enumerate_from 1 (whole_lines (without_mark bytes)))

-- files, each with its path and its bytes
abbrev pub Texts : Type 0
Texts = List (List ℕ × List ℕ)

-- the files after these edits
abbrev pub edited_files : List EditView → Texts → Texts
edited_files edits files = map (λ file. (file.0, edited (prefix_in edits file.0) file.1)) files
