use Rattle.std.proofs.Common.{◌∙◌, ◌++◌, [], ◌∷◌, ap, arith, false, length, length-append, refl, subst, sym, true, ◌+◌}
use Rattle.brl_clashes.proofs.Earlier.{known_next, none_known}
use Rattle.brl_clashes.proofs.Showings.{all_shown, fault_at_each, memory_at_each, none_shown, part_shown, shown_more}
use Rattle.brl_clashes.specs.Finding.{AreKnownAt}
use Rattle.brl_clashes.specs.Showing.{asked_of}
use Rattle.brl_clashes.proofs.showing.show_each.Goals as goal

pub loop-place-init : goal.loop-place-init
loop-place-init g c = (
  [],
  [],
  [],
  refl,
  omega arith,
  none_shown (asked_of c.args.plan.asked) c.args.tally.now (g.O.Output.contents c.args.out.now) c.requires.tally,
  refl,
  c.requires.all,
  subst (AreKnownAt (asked_of c.args.plan.asked) 0) (sym c.new-known.ensures.items) (none_known (asked_of c.args.plan.asked)),
)

pub returns-in_err-section-clause-shows : goal.returns-in_err-section-clause-shows
returns-in_err-section-clause-shows g c =
    let (sections, left, text, at, within, shown, calm, all, known) = c.loop-place.invariant in
    memory_at_each (asked_of c.args.plan.asked) sections left text c.loop-place.tally c.loop-place.tally (g.O.Output.contents c.args.out.now) (g.O.Output.contents c.loop-place.out) shown c.from_residual.result c.from_residual.ensures.1

pub returns-in_err-known-clause-shows : goal.returns-in_err-known-clause-shows
returns-in_err-known-clause-shows g c =
    let (sections, left, text, at, within, shown, calm, all, known) = c.loop-place.invariant in
    memory_at_each (asked_of c.args.plan.asked) sections left text c.loop-place.tally c.loop-place.tally (g.O.Output.contents c.args.out.now) (g.O.Output.contents c.loop-place.out) shown c.from_residual-in_err-known.result c.from_residual-in_err-known.ensures.1

pub returns-in_err-show_section-clause-shows : goal.returns-in_err-show_section-clause-shows
returns-in_err-show_section-clause-shows g c =
    let (sections, left, text, at, within, shown, calm, all, known) = c.loop-place.invariant in
    fault_at_each (asked_of c.args.plan.asked) sections left text c.loop-place.tally c.show_section.new.tally c.show_section.new.tally (g.O.Output.contents c.args.out.now) (g.O.Output.contents c.loop-place.out) (g.O.Output.contents c.show_section.new.out)
    shown c.loop-place.place at c.in_ok-section.section c.in_ok-section.ensures.section c.in_err-show_section.field-0.0 c.in_err-show_section.ensures.shows c.from_residual-in_err-show_section.result c.from_residual-in_err-show_section.ensures.1

pub returns-then-not-whole-clause-shows : goal.returns-then-not-whole-clause-shows
returns-then-not-whole-clause-shows g c =
    let asked = asked_of c.args.plan.asked in
    let (sections, left, text, at, within, shown, calm, all, known) = c.loop-place.invariant in
    let (x, part, is, more, writes) = c.in_ok-show_section.ensures.shows in
    let s = c.in_ok-section.section in
    part_shown asked (sections ++ s ∷ []) (left ++ x ∷ []) (text ++ part) c.show_section.new.tally (g.O.Output.contents c.args.out.now) (g.O.Output.contents c.show_section.new.out)
    (shown_more asked sections left text c.loop-place.tally (g.O.Output.contents c.args.out.now) (g.O.Output.contents c.loop-place.out) shown c.loop-place.place at s c.in_ok-section.ensures.section false x part c.show_section.new.tally
    (g.O.Output.contents c.show_section.new.out) (sym c.is_whole-whole.ensures ∙ c.if-not-whole.true) is more writes)

pub loop-place-preserved : goal.loop-place-preserved
loop-place-preserved g c =
    let asked = asked_of c.args.plan.asked in
    let (sections, left, text, at, within, shown, calm, all, known) = c.loop-place.invariant in
    let (x, part, is, more, writes) = c.in_ok-show_section.ensures.shows in
    let s = c.in_ok-section.section in
    let size = length-append sections (s ∷ []) in
    let copied = c.in_ok-known.ensures ∙ c.clashes_of.ensures in (
      sections ++ s ∷ [],
      left ++ x ∷ [],
      text ++ part,
      omega (arith, size, at),
      omega (arith, c.loop-place-test.true),
      shown_more asked sections left text c.loop-place.tally (g.O.Output.contents c.args.out.now) (g.O.Output.contents c.loop-place.out) shown c.loop-place.place at s c.in_ok-section.ensures.section true x part c.show_section.new.tally
          (g.O.Output.contents c.show_section.new.out) (sym c.is_whole-whole.ensures ∙ c.if-not-whole.false) is more writes,
      c.in_ok-show_section.ensures.calm ∙ calm,
      c.in_ok-section.ensures.all,
      subst (AreKnownAt asked (c.loop-place.place + 1)) (sym copied) (known_next asked c.loop-place.place s c.in_ok-section.ensures.section (sym c.is_whole-whole.ensures ∙ c.if-not-whole.false)),
    )

pub returns-clause-shows : goal.returns-clause-shows
returns-clause-shows g c =
    let (sections, left, text, at, within, shown, calm, all, known) = c.loop-place.invariant in
    let count = ap length c.requires.plan.kinds in
    all_shown (asked_of c.args.plan.asked) sections left text c.loop-place.tally (g.O.Output.contents c.args.out.now) (g.O.Output.contents c.loop-place.out) shown (omega (arith, at, within, count))
