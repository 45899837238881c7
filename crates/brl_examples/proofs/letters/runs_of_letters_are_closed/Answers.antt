use Rattle.brl_pairs.specs.Examples.{a_or_b, letter_states, no_pairs}
use Rattle.brl_pairs.proofs.LettersLaws.{letters_IsClosedBut}
use Rattle.brl_examples.proofs.letters.runs_of_letters_are_closed.Goals as goal

pub returns : goal.returns
returns c = c.divergence_sets_law.ensures a_or_b (c.numbered_divergence_law.ensures.each a_or_b letter_states no_pairs letters_IsClosedBut)
