-- The bases of a machine are those of it without some characters.
use Rattle.std.proofs.Common.{ℕ, Bool, List, ap, flat_map, ◌∙◌}
use Rattle.brl_pairs.specs.Based.{KeepsSharing, Sharing, firsts, step_past}
use Rattle.brl_pairs.specs.Runs.{Behaviour, IsListed}
use Rattle.brl_pairs.specs.declared.step.Step.{Step}
use Rattle.brl_pairs.proofs.Firsts.{firsts_kept, past_of_kept}
use Rattle.brl_without.specs.LeftOut.{uses_none}
use Rattle.brl_without.specs.Without.{steps_without, without}
use Rattle.brl_without.proofs.Steps.{kept_passes}

pub sharing_without : {S D : Type 0} (left_out : List ℕ) (eq : S → S → Bool) (m : Behaviour S) (h : Sharing S D) → KeepsSharing eq m h → KeepsSharing eq (without left_out m) h
sharing_without {S = S} left_out eq m h keeps = record {
  steps = λ s base is.
      ap (steps_without left_out) (keeps.steps s base is)
      ∙ firsts_kept eq (uses_none left_out) (flat_map (step_past h s) (m.steps base))
      ∙ ap (firsts eq) (past_of_kept h s (uses_none left_out) (m.steps base));
  free = keeps.free;
  apart = λ s base x y z is listed also. keeps.apart s base x y z is (before (m.steps base) x listed) (before (m.steps base) y also);
}
  where
    -- a step that is kept is listed before
    before : (listed : List (Step S)) (x : Step S) → IsListed (steps_without left_out listed) x → IsListed listed x
    before listed x h = (let r = kept_passes (λ (y : Step S). uses_none left_out y.reads) listed x h.0 h.1 in (r.0, r.1))
