-- Internal. The files that were read, and the spans of lines in them.
use Rattle.std.specs.Prelude.{ℕ, List, [], ◌∷◌, map, slice_get, Option, None, Some, String, string_bytes}
use Rattle.std.specs.Global.{Global}
use Rattle.std.specs.List.{flat_map}
use Rattle.std.specs.Option.{option_map_or}
use Rattle.brl_lines.specs.Answer.{FileAnswer, Holds, Missing}
use Rattle.brl_lines.specs.Lines.{Answers}
use Rattle.brl_lines.specs.Loaded.{LoadedView}
use Rattle.brl_lines.specs.Rows.{piece, without_mark}
use Rattle.brl_lines.specs.Tokens.{LineView, line_of, token_of, tokens}
use Rattle.brl_lines.specs.declared.checked_file.CheckedFile.{CheckedFile}
use Rattle.brl_lines.specs.declared.open_file.OpenFile.{OpenFile}
use Rattle.brl_lines.specs.declared.span.LineSpan.{LineSpan}

-- the paths that were read, each with its file or none, in the order of their reading
abbrev pub Files : Type 0
Files = List (String Global × Option CheckedFile)

-- what the source answered where there is this file, or none
abbrev pub answer_for : Option CheckedFile → FileAnswer
answer_for None = Missing
answer_for (Some file) = Holds (string_bytes file.whole)

-- what the source answered for a path that was read
abbrev pub answer_of_file : String Global × Option CheckedFile → List ℕ × FileAnswer
answer_of_file file = (string_bytes file.0, answer_for file.1)

-- the text of a file, after a byte order mark; nothing where there is no file
abbrev pub text_for : Option CheckedFile → List ℕ
text_for None = []
text_for (Some file) = without_mark (string_bytes file.whole)

-- what the source answered for the files
abbrev pub answers_of : Files → Answers
answers_of files = map answer_of_file files

-- the path of the file with this index
abbrev pub path_at : Files → ℕ → List ℕ
path_at files index = option_map_or (λ file. string_bytes file.0) (slice_get files index) []

-- the text of the file with this index
abbrev pub text_at : Files → ℕ → List ℕ
text_at files index = option_map_or (λ file. text_for file.1) (slice_get files index) []

-- the line at a span, if it does something
abbrev pub span_lines : Files → LineSpan → List LineView
span_lines files span = line_of (path_at files span.file) span.line (map token_of (tokens (piece (text_at files span.file) span.from span.to)))

-- the lines at some spans
abbrev pub lines_at : Files → List LineSpan → List LineView
lines_at files spans = flat_map (span_lines files) spans

-- the paths of the files
abbrev pub paths_of : Files → List (List ℕ)
paths_of files = map (λ file. string_bytes file.0) files

-- what a contract sees of files that were read, and of spans in them
abbrev pub loaded_view : Files → List LineSpan → LoadedView
loaded_view files spans = record { lines = lines_at files spans; paths = paths_of files }

-- the paths that lead to a file, its own first
abbrev pub chain_of : OpenFile → List (List ℕ)
chain_of file = string_bytes file.path ∷ map string_bytes file.includers.items
