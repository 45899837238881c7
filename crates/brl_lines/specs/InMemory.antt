-- Files in memory. The project's own choice.
use Rattle.std.specs.Prelude.{ℕ, List, [], map, Option, None, Some, String, string_bytes}
use Rattle.std.specs.Global.{Global, Vec}
use Rattle.std.specs.BTreeMap.{get_by_text}
use Rattle.std.specs.Option.{option_map}
use Rattle.brl_lines.specs.Answer.{FileAnswer, FileAnswers, answer_of, same_answer}
use Rattle.brl_lines.specs.declared.map_source.MapSource.{MapSource}

-- folders that are given, or none
abbrev pub folders_of : Option (Vec (String Global)) → List (List ℕ)
folders_of None = []
folders_of (Some folders) = map string_bytes folders.items

-- the bytes at a path
abbrev pub bytes_in : MapSource → List ℕ → Option (List ℕ)
bytes_in source path = option_map (λ bytes. bytes.items) (get_by_text source.files path)

-- what they answer for a path
abbrev pub answer_in : MapSource → List ℕ → FileAnswer
answer_in source path = answer_of (bytes_in source path)

-- what they give
abbrev pub given_in : MapSource → FileAnswers
given_in source = record { folders = folders_of source.folders; may = λ path answer. same_answer answer (answer_in source path) }
