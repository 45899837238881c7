use Rattle.std.proofs.Common.{◌∙◌, Some, ap, option_map, sym}
use Rattle.brl_lines.specs.Files.{answer_for}
use Rattle.brl_lines.specs.GatherFaults.{held}
use Rattle.brl_lines.proofs.FileLemmas.{answer_at-lookup}
use Rattle.brl_lines.proofs.read.file_there.Goals as goal

pub returns-in-Some-Some : goal.returns-in-Some-Some
returns-in-Some-Some c =
    sym (ap held (answer_at-lookup c.args.files.now.entries c.args.path.now ∙ ap (option_map answer_for) (sym c.in-Some-Some.ensures.value ∙ ap Some c.in-Some-Some.field-0-is)))

pub returns-in-Some-None : goal.returns-in-Some-None
returns-in-Some-None c =
    sym (ap held (answer_at-lookup c.args.files.now.entries c.args.path.now ∙ ap (option_map answer_for) (sym c.in-Some-None.ensures.value ∙ ap Some c.in-Some-None.field-0-is)))

pub returns-in-None : goal.returns-in-None
returns-in-None c = sym (ap held (answer_at-lookup c.args.files.now.entries c.args.path.now ∙ ap (option_map answer_for) (sym c.in-None.ensures.value)))
