use Rattle.std.proofs.Common.{sym}
use Rattle.std.proofs.lemmas.Simd.{map-map}
use Rattle.brl_lines.specs.Gathered.{left_view}
use Rattle.brl_cut.specs.Cuts.{include_edit}
use Rattle.brl_cut.proofs.cutting.without_left_out.Goals as goal

pub returns : goal.returns
returns c =
    rw (
      c.as_slice.ensures.value,
      c.as_slice-2.ensures.value,
      sym
          (map-map include_edit left_view c.args.gathered.now.left_out.items),
    ) at c.with_comments.ensures
