use Rattle.std.proofs.Common.{◌∙◌, ℕ, List, ap, drop, false, length}
use Rattle.std.proofs.lemmas.Bool.{false≢true}
use Rattle.std.proofs.lemmas.Str.Pattern.{starts_text}
use Rattle.std.specs.List.{starts_with}
use Rattle.std.specs.Prelude.{nat_eq}
use Rattle.brl_lines.proofs.FolderLemmas.{folder-starts}
use Rattle.brl_lines.proofs.include.last_part.Goals as goal

pub returns-in-Some : goal.returns-in-Some
returns-in-Some c =
    let path = c.args.path.now in
    let is = c.in-Some.ensures.cases in
    is.2 ∙ ap (λ k. drop k path) is.1.0 ∙ ap (λ (folder : List ℕ). drop (length folder) path) c.folder.ensures

pub returns-in-None : goal.returns-in-None
returns-in-None c =
    let path = c.args.path.now in
    let no = starts_text false c.folder.result.now path c.in-None.ensures.cases in
    absurd (false≢true (no ∙ ap (starts_with nat_eq path) c.folder.ensures ∙ folder-starts path))
