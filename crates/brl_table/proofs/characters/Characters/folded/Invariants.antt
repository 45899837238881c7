use Rattle.std.proofs.Common.{◌≡◌, map, take, IsTrue}
use Rattle.brl_table.specs.Building.{over}
use Rattle.brl_rules.specs.Text.{fold_of, is_text}
use Rattle.brl_table.proofs.characters.Characters.folded.Given as goal

abbrev pub invariant-loop-character : goal.invariant-loop-character
invariant-loop-character l =
    let t = over l.self.infos.entries in
    let passed = take l.character-index l.chars in
    record { defined : IsTrue (is_text t passed); folded : l.folded.items ≡ map (fold_of t) passed }
