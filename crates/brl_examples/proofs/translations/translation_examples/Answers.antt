use Rattle.std.proofs.Common.{refl}
use Rattle.brl_rules.specs.Translation.{translation}
use Rattle.brl_examples.proofs.translations.translation_examples.Goals as goal

pub returns : goal.returns
unfolding translation
returns c = record {
  contraction = refl;
  words = refl;
  numbers = refl;
  clash = record { left_text = refl; right_text = refl; differ = λ e. cc; left_cells = refl; right_cells = refl };
}
