use Rattle.std.proofs.Common.{refl, arith}
use Rattle.std.proofs.lemmas.Option.{slice_get-get_or}
use Rattle.brl_rules.proofs.parts.TableParts.entries_are_valid.Goals as goal

pub returns : goal.returns
returns c = (
  λ always k d within.
      c.loop-place.invariant k _ (omega (arith, within, c.len-place-end.ensures.len, c.loop-place-test.false))
      (slice_get-get_or c.args.self.now.characters.entries k d within),
  λ all. refl,
)
