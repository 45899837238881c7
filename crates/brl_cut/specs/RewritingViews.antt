-- Internal. How the definitions see what the code makes of lines that are rewritten.
use Rattle.std.specs.Prelude.{ℕ, if◌then◌else◌, List, [], ◌∷◌, ◌++◌, flat_map, map, string_bytes}
use Rattle.brl_acting.specs.Letters.{letters_of}
use Rattle.brl_lines.specs.Tokens.{LineView}
use Rattle.brl_cut.specs.Contractions.{contraction_edit}
use Rattle.brl_cut.specs.Edits.{EditView, Texts}
use Rattle.brl_cut.specs.Files.{edit_view, file_view}
use Rattle.brl_cut.specs.Letsigns.{Known, include_edit, made_file, sign_edits}
use Rattle.brl_cut.specs.Rewriting.{Around, Change, RewrittenView, may_change}
use Rattle.brl_cut.specs.Signs.{SignView}
use Rattle.brl_rules.specs.declared.rule.Info.{Info}
use Rattle.brl_cut.specs.declared.rewriting.Around.{Around as AroundOfCode}
use Rattle.brl_cut.specs.declared.rewriting.Change.{Change as ChangeOfCode}
use Rattle.brl_cut.specs.declared.rewriting.Rewritten.{Rewritten}

abbrev pub around_view : AroundOfCode → Around
around_view around = record {
  folders = map string_bytes around.folders.now;
  names = map string_bytes around.names.now;
  root = around.root.now;
  home = around.home.now;
}

abbrev pub change_view : ChangeOfCode → Change
change_view change = record { edits = map edit_view change.edits.items; made = map file_view change.made.items }

abbrev pub rewritten_view : Rewritten → RewrittenView
rewritten_view rewritten = record {
  edits = map edit_view rewritten.edits.items;
  made = map file_view rewritten.made.items;
  files = map file_view rewritten.files.items;
}

-- What is made of lines where these characters are defined, and these cells are before those of a
-- contraction.

-- the edits of `contraction` lines
abbrev pub contractions_of : List (ℕ × Info) → List ℕ → List LineView → List EditView
contractions_of characters signs lines = flat_map (contraction_edit characters signs) lines

abbrev pub contraction_change_of : List (ℕ × Info) → List ℕ → List LineView → Change
contraction_change_of characters signs lines = record { edits = contractions_of characters signs lines; made = [] }

-- what is known of lines with a letter sign
abbrev pub known_from : List (ℕ × Info) → List ℕ → SignView → List LineView → Known
known_from characters signs sign lines = record { characters = characters; letters = letters_of lines; contraction = signs; sign = sign.cells }

-- the change of a line that gives this sign
abbrev pub sign_change_of : List ℕ → List (ℕ × Info) → List ℕ → SignView → List LineView → Change
sign_change_of root characters signs sign lines =
    let known = known_from characters signs sign lines in
    record { edits = contractions_of characters signs lines ++ include_edit sign ∷ sign_edits known lines; made = made_file root known lines ∷ [] }

-- the change of a line that gives this sign, where it may be made
abbrev pub change_from : Around → Texts → List (ℕ × Info) → List ℕ → SignView → List LineView → Change
change_from around files characters signs sign lines =
    if may_change around files (sign_change_of around.home characters signs sign lines) then sign_change_of around.home characters signs sign lines
    else contraction_change_of characters signs lines
