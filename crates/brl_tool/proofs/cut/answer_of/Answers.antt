use Rattle.std.proofs.Common.{◌∙◌, ap, map, refl}
use Rattle.brl_cut.specs.Files.{file_view}
use Rattle.brl_tool.proofs.cut.answer_of.Goals as goal

pub returns : goal.returns
returns c = (
  c.status_of.ensures,
  c.in_ok-text.ensures,
  (c.in_ok-files.files, refl, c.in_ok-files.ensures ∙ ap (map file_view) c.as_slice.ensures.value),
)
