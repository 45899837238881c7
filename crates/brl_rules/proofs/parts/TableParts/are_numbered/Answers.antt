use Rattle.std.proofs.Common.{◌≡◌, ◌∙◌, ap, sym, refl, arith, Some, slice_get}
use Rattle.std.specs.Option.{option_map}
use Rattle.std.proofs.lemmas.Option.{slice_get_within}
use Rattle.brl_rules.proofs.parts.TableParts.are_numbered.Goals as goal

pub returns-then-info-place : goal.returns-then-info-place
returns-then-info-place c =
    let there : Some (c.unwrap.result.0.now, c.unwrap.result.1.now) ≡ slice_get c.args.self.now.characters.entries c.loop-place.place =
    ap (option_map (λ p. (p.0.now, p.1.now))) (sym c.unwrap.ensures) ∙ c.get_index.ensures.entry in
    (λ never. absurd (cc), λ all. absurd (c.if-info-place.true (all c.loop-place.place (c.unwrap.result.0.now, c.unwrap.result.1.now) (sym there))))

pub returns : goal.returns
returns c = (
  λ always place entry there.
      let within = slice_get_within c.args.self.now.characters.entries place entry there in
      c.loop-place.invariant place entry (omega (arith, within, c.len-place-end.ensures.len, c.loop-place-test.false)) there,
  λ all. refl,
)
