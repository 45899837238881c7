use Rattle.std.proofs.Common.{◌∙◌, ◌||◌, Bool, ℕ, List, ap}
use Rattle.brl_acting.specs.Sets.{is_in}
use Rattle.brl_acting.proofs.char_set.CharSet.of.Goals as goal

pub returns : goal.returns
returns c = c.in_ok-add.ensures ∙ ap {B = ℕ → Bool} (λ (keys : List ℕ) (q : ℕ). is_in keys q || is_in c.args.chars.now q) c.new.ensures.empty
