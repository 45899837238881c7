use Rattle.std.proofs.Common.{◌≢◌, ◌∙◌, All, ap, map, subst, sym}
use Rattle.std.proofs.lemmas.List.Elements.{All-map}
use Rattle.std.specs.Option.{option_copied}
use Rattle.brl_tool.specs.Baselines.{IsApart, only_read}
use Rattle.brl_tool.proofs.baselines.refuse_file_that_is_read.Goals as goal

-- none of the paths is that of the file that is written
pub returns-clause-apart : goal.returns-clause-apart
returns-clause-apart g c =
    let paths = only_read c.args.loaded.now.paths c.args.pairs in
    let apart =
    subst (All (λ one. one ≢ c.in-Some.out.now)) (ap (map (λ one. one.now)) c.as_slice.ensures.value ∙ c.in_ok-paths.ensures)
    (All-map (λ one. one ≢ c.in-Some.out.now) (λ one. one.now) c.as_slice.result.now (rw c.in-None.is at c.in_ok-path.ensures)) in
    subst (λ out. IsApart out paths) (sym (ap option_copied c.in-Some.is) ∙ c.written_path.ensures) apart
