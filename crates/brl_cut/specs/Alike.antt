-- Internal. Files whose lines are the same as those of others, but for comments.
use Rattle.std.specs.Prelude.{ℕ, Bool, true, false, ◌&&◌, ◌||◌, ◌==◌, nat_le, List, [], ◌∷◌, length, slice_index}
use Rattle.std.specs.Str.{bytes_eq, is_utf8}
use Rattle.brl_lines.specs.Answer.{most_file_bytes}
use Rattle.brl_lines.specs.Lines.{most_row_bytes}
use Rattle.brl_lines.specs.Rows.{without_mark}
use Rattle.brl_cut.specs.Edits.{Texts, whole_lines}

-- the first byte of a line is `#`
abbrev pub begins_comment : List ℕ → Bool
begins_comment line = slice_index line 0 == 35

-- two lines are comments, and the second one isn't too long
abbrev pub are_comments : List ℕ → List ℕ → Bool
are_comments line other = begins_comment line && begins_comment other && nat_le (length other) most_row_bytes

-- a line is as good as another: both are comments, or they are the same
abbrev pub stands_for : List ℕ → List ℕ → Bool
stands_for line other = are_comments line other || bytes_eq line other

-- so is each of some lines
abbrev pub are_alike : List (List ℕ) → List (List ℕ) → Bool
are_alike [] [] = true
are_alike (line ∷ lines) (other ∷ others) = stands_for line other && are_alike lines others
are_alike lines others = false

-- a file with the other bytes is no larger than a file may be, and its lines are compared to those
-- of the first
abbrev pub keeps_lines : List ℕ → List ℕ → Bool
keeps_lines bytes other =
    nat_le (length other) most_file_bytes && is_utf8 other && are_alike (whole_lines (without_mark bytes)) (whole_lines (without_mark other))

-- a file is at the path of another, and has its bytes or lines that compare to its own
abbrev pub keeps_file : List ℕ × List ℕ → List ℕ × List ℕ → Bool
keeps_file file other = bytes_eq file.0 other.0 && (bytes_eq file.1 other.1 || keeps_lines file.1 other.1)

-- so is each of some files
abbrev pub keep_files : Texts → Texts → Bool
keep_files [] [] = true
keep_files (file ∷ files) (other ∷ others) = keeps_file file other && keep_files files others
keep_files files others = false
