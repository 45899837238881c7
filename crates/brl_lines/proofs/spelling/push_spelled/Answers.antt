use Rattle.std.proofs.Common.{rules, ◌≡◌, true, false, None, find, arith, ◌<◌}
use Rattle.std.proofs.lemmas.Fmt.{hex_byte}
use Rattle.std.specs.Char.{is_ascii_control}
use Rattle.brl_lines.specs.Spelling.{escape_marks, means}
use Rattle.brl_lines.proofs.SpellingLemmas.{spelled-control, control_small}
use Rattle.brl_lines.proofs.spelling.push_spelled.Goals as goal

pub returns-then-is_ascii_control : goal.returns-then-is_ascii_control
returns-then-is_ascii_control c =
    let control : is_ascii_control c.args.character ≡ true = search rules in
    let none : find (means c.args.character) escape_marks ≡ None = search rules in
    let small : c.args.character < 256 = (let few = control_small c.args.character control in omega (arith, few)) in
    search (rules, spelled-control c.args.character control none, hex_byte false c.args.character small)
