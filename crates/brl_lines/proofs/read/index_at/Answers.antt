use Rattle.std.proofs.Common.{◌∙◌, Option, Some, ap, option_map, sym}
use Rattle.brl_lines.specs.Files.{answer_for}
use Rattle.brl_lines.specs.declared.checked_file.CheckedFile.{CheckedFile}
use Rattle.brl_lines.proofs.FileLemmas.{answer_at-lookup, found-file, not-read}
use Rattle.brl_lines.proofs.read.index_at.Goals as goal

pub returns-in-Some-default-default-Some : goal.returns-in-Some-default-default-Some
returns-in-Some-default-default-Some c =
    let found = c.in-Some-default-default-Some in
    let key = found.field-0-1.now in
    found-file c.args.files.now.entries c.args.path.now found.index key found.field-0-2-0
    (found.ensures.entry ∙ ap (λ (f : Option CheckedFile). Some (key, f)) found.field-0-2-is) (sym found.ensures.key)
    (sym found.ensures.value ∙ ap Some found.field-0-2-is)

pub returns-in-Some-default-default-None : goal.returns-in-Some-default-default-None
returns-in-Some-default-default-None c =
    let found = c.in-Some-default-default-None in
    answer_at-lookup c.args.files.now.entries c.args.path.now ∙ ap (option_map answer_for) (sym found.ensures.value ∙ ap Some found.field-0-2-is)

pub returns-in-None : goal.returns-in-None
returns-in-None c = let no = sym (not-read c.args.files.now.entries c.args.path.now c.in-None.ensures.value) ∙ c.requires.1 in absurd cc
