-- The lines of a table over what a source answered for its files, and why a table has none. This
-- restates, of the sections "Overview" and "Miscellaneous Opcodes" in "How to Write Translation
-- Tables" of the liblouis User's and Programmer's Manual, that a table is the lines of its file,
-- and that an include line is replaced by the lines of the file that it names. The limits, and the
-- order in which a file is checked for faults, are the project's own choice.
use Rattle.std.specs.Prelude.{◌≡◌, ℕ, zero, suc, Bool, true, false, if◌then◌else◌, is_some, nat_lt, List, [], ◌∷◌, ◌++◌, length, Option, Some, None, Result, Ok, Err}
use Rattle.std.specs.List.{list_any, position_from}
use Rattle.std.specs.Str.{bytes_eq, is_utf8}
use Rattle.brl_failure.specs.Failure.{◌>>=◌}
use Rattle.brl_lines.specs.Answer.{FileAnswer, Holds, Missing, Large, Unreadable, is_missing, most_file_bytes}
use Rattle.brl_lines.specs.Gathering.{LeftView, is_dictionary, is_plain}
use Rattle.brl_lines.specs.Includes.{found, included, last_part, name_of}
use Rattle.brl_lines.specs.Rows.{rows_of, without_mark}
use Rattle.brl_lines.specs.Tokens.{LineView, lines_in}
use Rattle.brl_lines.specs.declared.fault.LoadFaultKind.{LoadFaultKind}
use Rattle.brl_lines.specs.declared.fault.LoadFaultKind.TheVariants as kinds
use Rattle.brl_lines.specs.declared.way.IncludeReason.{IncludeReason}
use Rattle.brl_lines.specs.declared.way.IncludeReason.TheVariants as reasons
use Rattle.brl_lines.specs.declared.way.Policy.{Policy}
use Rattle.brl_lines.specs.declared.way.Policy.TheVariants as policies

-- a file's path and a line of it
pub record LocationView : Type 0 where
  pub file : List ℕ
  pub line : ℕ

-- why a table has no lines: the fault of the file at a path, and the include line that named it, or
-- none for the root; of a long line the place is its own
pub record Refusal : Type 0 where
  pub kind : LoadFaultKind
  pub path : List ℕ
  pub place : Option LocationView

-- a refusal with these fields
abbrev pub refusal : LoadFaultKind → List ℕ → Option LocationView → Refusal
refusal kind path place = record { kind = kind; path = path; place = place }

-- A finite map from paths to what a source answered for them. A path that is not in the map is a
-- device of the contracts: such a file counts as one that can't be read, so more answers never
-- change lines that are found.
abbrev pub Answers : Type 0
Answers = List (List ℕ × FileAnswer)

-- the answer for a path, where the map has one
abbrev pub answer_at : Answers → List ℕ → Option FileAnswer
answer_at [] path = None
answer_at (entry ∷ others) path = if bytes_eq path entry.0 then Some entry.1 else answer_at others path

-- the most bytes of a row
abbrev pub most_row_bytes : ℕ
most_row_bytes = 2048

-- a row is too long
abbrev pub is_long : List (ℕ × ℕ) → Bool
is_long row = nat_lt most_row_bytes (length row)

-- the number of the first row that is too long
abbrev pub long_row : List ℕ → Option ℕ
long_row text = position_from is_long 1 (rows_of text)

-- the text, unless a row of it is too long
abbrev pub unless_long : List ℕ → List ℕ → Option ℕ → Result (List ℕ) Refusal
unless_long path text None = Ok text
unless_long path text (Some number) = Err (refusal kinds.LineTooLong path (Some (record { file = path; line = number })))

-- the text of a file with these bytes: they are not too many, they are UTF-8, and no row is too
-- long
unfoldable pub text_in : List ℕ → Option LocationView → List ℕ → Result (List ℕ) Refusal
text_in path place bytes =
    if nat_lt most_file_bytes (length bytes) then Err (refusal kinds.TooLarge path place)
    else if is_utf8 bytes then unless_long path (without_mark bytes) (long_row (without_mark bytes))
    else Err (refusal kinds.NotUtf8 path place)

-- a file with these bytes is good, by whatever path and line it is named
abbrev pub IsGood : List ℕ → Type 0
IsGood bytes = (path : List ℕ) (place : Option LocationView) → text_in path place bytes ≡ Ok (without_mark bytes)

-- the text of a file that was asked for
abbrev pub text_of : List ℕ → Option LocationView → Option FileAnswer → Result (List ℕ) Refusal
text_of path place (Some (Holds bytes)) = text_in path place bytes
text_of path place (Some Missing) = Err (refusal kinds.NotFound path place)
text_of path place (Some Large) = Err (refusal kinds.TooLarge path place)
text_of path place (Some Unreadable) = Err (refusal kinds.ReadFailed path place)
text_of path place None = Err (refusal kinds.ReadFailed path place)

-- ---- The way

-- the most include lines that are followed
abbrev pub most_includes : ℕ
most_includes = 1024

-- an include line whose name leads out of the root's folder: the name, and where it is
pub record OutView : Type 0 where
  pub name : List ℕ
  pub place : LocationView

-- what a walk came through: of the files, the paths where they were found and the names by which
-- they were looked for; the include lines that are left out; and the one that leads out
pub record WayView : Type 0 where
  pub paths : List (List ℕ)
  pub names : List (List ℕ)
  pub left_out : List LeftView
  pub out : Option OutView

-- the way before its first file
abbrev pub no_way : WayView
no_way = record { paths = []; names = []; left_out = []; out = None }

-- the way with a file more
abbrev pub with_file : List ℕ → List ℕ → WayView → WayView
with_file path name way = record way { paths = way.paths ++ path ∷ []; names = way.names ++ name ∷ [] }

-- the way with an include line more that is left out
abbrev pub with_left : LocationView → List ℕ → IncludeReason → WayView → WayView
with_left place name reason way = record way {
  left_out = way.left_out ++ record { file = place.file; line = place.line; name = name; reason = reason } ∷ [];
}

-- the way to an include line that leads out
abbrev pub with_out : LocationView → List ℕ → WayView → WayView
with_out place name way = record way { out = Some (record { name = name; place = place }) }

-- The way past an include line that isn't looked for. Where all are loaded there is none. Else one
-- of a dictionary is left out; and where files are gathered, so that none leads out, the first one
-- that does ends the way: none after it is looked for.
abbrev pub passed : Policy → LocationView → List ℕ → WayView → Option WayView
passed policies.Load place name way = None
passed policies.SkipDictionaries place name way = if is_dictionary name then Some (with_left place name reasons.Dictionary way) else None
passed policies.Gather place name way =
    if is_some way.out then Some way
    else if is_dictionary name then Some (with_left place name reasons.Dictionary way)
    else if is_plain name then None
    else Some (with_out place name way)

-- files are gathered
abbrev pub gathers : Policy → Bool
gathers policies.Gather = true
gathers policy = false

-- ---- The walk

-- a walk so far: its lines, and its way
pub record Walk : Type 0 where
  pub lines : List LineView
  pub way : WayView

-- the walk with a line more
abbrev pub with_line : LineView → Walk → Walk
with_line line walk = record walk { lines = walk.lines ++ line ∷ [] }

-- the walk with this way
abbrev pub on_way : WayView → Walk → Walk
on_way way walk = record walk { way = way }

-- the walk on from an include line, by its place and the name in it
abbrev pub Take : Type 0
Take = LocationView → List ℕ → Walk → Result Walk Refusal

-- the walk on from an include line through the file at a path, which has a text
abbrev pub Follow : Type 0
Follow = LocationView → List ℕ → List ℕ → List ℕ → Walk → Result Walk Refusal

-- the place of a line
abbrev pub location_of : LineView → LocationView
location_of line = record { file = line.file; line = line.line }

-- the walk on through a line, or from it by the name that it includes
abbrev pub replaced : Take → LineView → Option (List ℕ) → Walk → Result Walk Refusal
replaced take line None walk = Ok (with_line line walk)
replaced take line (Some name) walk = take (location_of line) name walk

-- the walk on through lines in order, each include line taken
abbrev pub expanded : Take → List LineView → Walk → Result Walk Refusal
expanded take [] walk = Ok walk
expanded take (line ∷ lines) walk = do
  next ← replaced take line (name_of line) walk
  expanded take lines next

-- an include line, whose file has this usual path, isn't one too many; the root is one of the paths
abbrev pub few : List ℕ → LocationView → WayView → Result (Unit {0}) Refusal
few usual place way = if nat_lt most_includes (length way.paths) then Err (refusal kinds.TooManyIncludes usual (Some place)) else Ok tt

-- the path of its file isn't among those that lead to it
abbrev pub apart : List ℕ → LocationView → List (List ℕ) → Result (Unit {0}) Refusal
apart path place chain = if list_any (bytes_eq path) chain then Err (refusal kinds.Cycle path (Some place)) else Ok tt

-- the walk on from an include line whose file is at a path, where all files are loaded
abbrev pub loaded_at : Follow → (List ℕ → Option FileAnswer) → List (List ℕ) → LocationView → List ℕ → List ℕ → Walk → Result Walk Refusal
loaded_at follow answer chain place name path walk = do
  text ← text_of path (Some place) (answer path)
  _ ← apart path place chain
  follow place name path text walk

-- the walk on from it where files are gathered, and it has this text: it is left out where the walk
-- came through the file before
abbrev pub unless_repeated : Follow → LocationView → List ℕ → List ℕ → List ℕ → Walk → Result Walk Refusal
unless_repeated follow place name path text walk =
    if list_any (bytes_eq path) walk.way.paths then Ok (on_way (with_left place name reasons.Repeated walk.way) walk) else follow place name path text walk

-- and where its file isn't there
abbrev pub gathered_at : Follow → (List ℕ → Option FileAnswer) → LocationView → List ℕ → List ℕ → Walk → Result Walk Refusal
gathered_at follow answer place name path walk =
    if is_missing (answer path) then Ok (on_way (with_left place name reasons.Missing walk.way) walk)
    else (text_of path (Some place) (answer path) >>= λ text. unless_repeated follow place name path text walk)

-- the walk on from an include line that was passed, or else looked for
abbrev pub past : Option WayView → Walk → Result Walk Refusal → Result Walk Refusal
past (Some way) walk looked = Ok (on_way way walk)
past None walk looked = looked

-- The walk on from an include line that is looked for, below whose own file others may be this many
-- deep. A file that would be too deep isn't looked for, unless files are gathered.
abbrev pub looked : List (List ℕ) → (List ℕ → Option FileAnswer) → List ℕ → Bool → ℕ → Follow → List (List ℕ) → Take
looked folders answer root true depth follow chain place name walk =
    gathered_at follow answer place name (found folders answer (included root name) name) walk
looked folders answer root false zero follow chain place name walk = do
  _ ← apart (included root name) place chain
  Err (refusal kinds.TooDeep (included root name) (Some place))
looked folders answer root false (suc depth) follow chain place name walk =
    loaded_at follow answer chain place name (found folders answer (included root name) name) walk

-- the walk on from an include line that isn't passed: it isn't one too many, and is looked for
abbrev pub entered : Policy → List (List ℕ) → (List ℕ → Option FileAnswer) → List ℕ → ℕ → Follow → List (List ℕ) → Take
entered policy folders answer root depth follow chain place name walk = do
  _ ← few (included root name) place walk.way
  looked folders answer root (gathers policy) depth follow chain place name walk

-- the walk on from an include line
abbrev pub taken : Policy → List (List ℕ) → (List ℕ → Option FileAnswer) → List ℕ → ℕ → Follow → List (List ℕ) → Take
taken policy folders answer root depth follow chain place name walk =
    past (passed policy place name walk.way) walk (entered policy folders answer root depth follow chain place name walk)

-- the walk on through a file to which an include line leads, where it and the files below it may be
-- this many deep
unfoldable pub follow : Policy → List (List ℕ) → (List ℕ → Option FileAnswer) → List ℕ → ℕ → List (List ℕ) → Follow
follow policy folders answer root zero chain place name path text walk = Err (refusal kinds.TooDeep path (Some place))
follow policy folders answer root (suc depth) chain place name path text walk =
    expanded (taken policy folders answer root depth (follow policy folders answer root depth (path ∷ chain)) (path ∷ chain))
    (lines_in path text) (on_way (with_file path name walk.way) walk)

-- the whole walk from the root that was found at a path, and has this name: it is 1 deep, and any
-- file 16 at most
abbrev pub walk_from : Policy → List (List ℕ) → (List ℕ → Option FileAnswer) → List ℕ → List ℕ → Result Walk Refusal
walk_from policy folders answer name root = do
  text ← text_of root None (answer root)
  expanded (taken policy folders answer root 15 (follow policy folders answer root 15 (root ∷ [])) (root ∷ []))
      (lines_in root text) (record { lines = []; way = with_file root name no_way })

-- the whole walk from the root that has a path, by what is known of each path, where files are
-- looked for in these folders too
abbrev pub walk_over : Policy → List (List ℕ) → (List ℕ → Option FileAnswer) → List ℕ → Result Walk Refusal
walk_over policy folders answer root = walk_from policy folders answer (last_part root) (found folders answer root root)

-- ---- The lines

-- the lines over what is known of each path, where files are looked for in these folders too
unfoldable pub lines_over : List (List ℕ) → (List ℕ → Option FileAnswer) → List ℕ → Result (List LineView) Refusal
lines_over folders answer root = do
  walk ← walk_over policies.Load folders answer root
  Ok walk.lines

-- the lines of the table whose root has a path
abbrev pub lines_of : List (List ℕ) → Answers → List ℕ → Result (List LineView) Refusal
lines_of folders answers root = lines_over folders (answer_at answers) root
