use Rattle.brl_pairs.specs.Examples.{a_or_b, letter_states, no_pairs}
use Rattle.brl_pairs.proofs.LettersLaws.{letters_IsClosedBut}
use Rattle.brl_examples.proofs.letters.numbered_letters_diverge_at_their_rules.Goals as goal

pub returns : goal.returns
returns c = c.numbered_divergence_law.ensures.paths a_or_b letter_states no_pairs letters_IsClosedBut
