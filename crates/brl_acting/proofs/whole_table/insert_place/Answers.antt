use Rattle.std.proofs.Common.{◌∙◌}
use Rattle.brl_acting.specs.WholeTable.{place_view}
use Rattle.brl_acting.proofs.LookedUp.{added}
use Rattle.brl_acting.proofs.whole_table.insert_place.Goals as goal

pub returns : goal.returns
returns c = λ other. c.in_ok-insert.ensures.updates.0 (record { line = other.1; path = record { ref_ptr = (0, 0); now = other.0 } }) ∙ added c.args.set.now.keys (place_view c.args.place) other
