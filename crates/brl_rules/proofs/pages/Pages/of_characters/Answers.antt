use Rattle.std.proofs.Common.{◌≡◌, ◌≤◌, ◌/◌, ◌%◌, ◌+◌, ◌∙◌, ap, sym, subst, arith, length, inr, Some}
use Rattle.std.specs.Prelude.{slice_get, slice_index_or}
use Rattle.std.specs.Option.{option_map}
use Rattle.brl_rules.proofs.PageSteps.{IsPlaced, found-placed, page_at, placed-more}
use Rattle.brl_rules.proofs.pages.Pages.of_characters.Goals as goal

pub loop-place-init : goal.loop-place-init
loop-place-init c = λ x.
    inr (ap (λ pages. slice_index_or (page_at pages (x / 256)) (x % 256) 65535) c.new.ensures.items, λ k entry below is e. absurd (omega (arith, below)))

pub loop-place-preserved : goal.loop-place-preserved
loop-place-preserved c = λ x.
    let entries = c.args.characters.now.entries in
    let there : Some (c.unwrap.result.0.now, c.unwrap.result.1.now) ≡ slice_get entries c.loop-place.place =
    ap (option_map (λ p. (p.0.now, p.1.now))) (sym c.unwrap.ensures) ∙ c.get_index.ensures.entry in
    subst (IsPlaced entries (c.loop-place.place + 1) x) (sym (c.in_ok-set.ensures x))
    (placed-more entries c.loop-place.place c.unwrap.result.0.now c.unwrap.result.1.now (sym there) x _ (c.loop-place.invariant x))

pub returns : goal.returns
returns c = λ x.
    let all : length c.args.characters.now.entries ≤ c.loop-place.place = omega (arith, c.len-place-end.ensures.len, c.loop-place-test.false) in
    found-placed c.args.characters.now.entries c.requires.distinct c.requires.few c.loop-place.place all x _ (c.loop-place.invariant x)
