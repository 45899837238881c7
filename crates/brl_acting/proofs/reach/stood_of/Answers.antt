use Rattle.std.proofs.Common.{◌∙◌, ◌||◌, Bool, ℕ, ap}
use Rattle.brl_acting.specs.Sets.{is_in}
use Rattle.brl_acting.proofs.reach.stood_of.Goals as goal

pub returns : goal.returns
returns c = c.in_ok-add.ensures ∙ ap {B = ℕ → Bool} (λ (set : ℕ → Bool) (q : ℕ). set q || is_in c.args.chars.now q) c.in_ok-stood.ensures
