use Rattle.brl_acting.specs.Readings.{small_by}
use Rattle.brl_acting.proofs.readings.readings_of.Goals as goal

pub returns : goal.returns
returns c =
    λ j. record {
      small = small_by (c.in_ok-own.ensures.items j);
      cells = c.in_ok-cells.ensures j;
      rules = c.in_ok-rules.ensures j;
      has_numsign = c.has.ensures j;
      keeps_word = c.keeps.ensures j;
      keeps_runs = c.keeps_runs.ensures j;
      letsign = c.letsign_of.ensures j;
    }
