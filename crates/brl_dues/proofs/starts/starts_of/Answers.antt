use Rattle.std.proofs.Common.{◌∙◌, refl, sym}
use Rattle.brl_dues.specs.Capitals.{letters}
use Rattle.brl_dues.proofs.FirstBars.{places-all, places-next, places-none}
use Rattle.brl_dues.proofs.Finding.{letters-count}
use Rattle.brl_dues.proofs.starts.starts_of.Goals as goal

pub loop-done-init : goal.loop-done-init
loop-done-init c =
    c.in_ok-places.ensures.items_if_clones_equal (λ y e. e)
    ∙ places-none c.args.dues.now (letters c.args.table.now) _ (c.char_count.ensures.count ∙ sym (letters-count c.args.table.now.characters))

pub loop-done-preserved : goal.loop-done-preserved
loop-done-preserved c =
    places-next c.args.table.now c.args.dues.now c.loop-done.done _ c.index-dues-place.result c.loop-done.places.items _ c.loop-done-test.true refl c.index-dues-place.is c.loop-done.invariant c.put_start.ensures

pub returns : goal.returns
returns c = places-all c.args.table.now c.args.dues.now c.loop-done.done c.loop-done.places.items c.loop-done-test.false c.loop-done.invariant
