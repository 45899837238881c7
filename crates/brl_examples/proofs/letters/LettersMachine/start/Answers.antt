use Rattle.brl_pairs.proofs.LettersLaws.{letters_KeepsLaws}
use Rattle.brl_examples.proofs.letters.LettersMachine.start.Goals as goal

pub returns-clause-laws : goal.returns-clause-laws
returns-clause-laws c = letters_KeepsLaws
