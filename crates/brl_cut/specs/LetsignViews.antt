-- Internal. How the definitions see what the code knows of lines with `letsign`.
use Rattle.std.specs.Prelude.{ℕ, List}
use Rattle.brl_acting.specs.Letters.{letters_view}
use Rattle.brl_cut.specs.Letsigns.{Known, RuleView}
use Rattle.brl_cut.specs.declared.letsign.Alone.{Alone}
use Rattle.brl_cut.specs.declared.letsign.Known.{Known as KnownOfCode}
use Rattle.brl_cut.specs.declared.letsign.Rule.{Rule}

abbrev pub rule_view : Rule → RuleView
rule_view rule = record { chars = rule.chars.items; cells = rule.cells.items }

abbrev pub alone_view : Alone → ℕ × List ℕ
alone_view alone = (alone.character, alone.cells.items)

abbrev pub known_view : KnownOfCode → Known
known_view known = record {
  characters = known.given.now.characters.entries;
  letters = letters_view known.letters.now;
  contraction = known.given.now.signs.items;
  sign = known.sign.now;
}
