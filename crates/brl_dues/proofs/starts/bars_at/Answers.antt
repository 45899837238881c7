use Rattle.std.proofs.Common.{◌≤◌, length, refl, rules, subst, sym}
use Rattle.brl_dues.specs.Letters.{bars_from}
use Rattle.brl_dues.proofs.FirstBars.{bars-there, place-within}
use Rattle.brl_dues.proofs.starts.bars_at.Goals as goal

pub offset_bounds-dues-start : goal.offset_bounds-dues-start
offset_bounds-dues-start c =
    let within : c.args.start ≤ length c.args.dues.now = subst (λ n. n ≤ length c.args.dues.now) (sym c.requires.start) (place-within (bars_from c.args.character) c.args.dues.now) in
    search rules

pub slice_bounds-from-start : goal.slice_bounds-from-start
slice_bounds-from-start c = subst (λ n. n ≤ length c.args.dues.now) (sym c.requires.start) (place-within (bars_from c.args.character) c.args.dues.now)

pub slice_bounds-from-count : goal.slice_bounds-from-count
slice_bounds-from-count c = subst (λ n. n ≤ length c.args.dues.now) (sym c.requires.start) (place-within (bars_from c.args.character) c.args.dues.now)

pub returns : goal.returns
returns c = bars-there c.args.character c.args.dues.now _ c.args.start c.count_of.result c.requires.dues c.requires.start refl c.count_of.ensures.bound c.count_of.ensures.before c.count_of.ensures.other
