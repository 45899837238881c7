use Rattle.std.proofs.Common.{◌≢◌, ◌∙◌, All, ap, map, subst}
use Rattle.std.proofs.lemmas.List.Elements.{All-map}
use Rattle.brl_tool.proofs.search.refuse_file_that_is_read.Goals as goal

-- none of the paths is that of the certificate
pub returns-clause-apart : goal.returns-clause-apart
returns-clause-apart g c =
    subst (All (λ one. one ≢ c.args.out.now)) (ap (map (λ one. one.now)) c.as_slice.ensures.value ∙ c.in_ok-paths.ensures)
    (All-map (λ one. one ≢ c.args.out.now) (λ one. one.now) c.as_slice.result.now (rw c.in-None.is at c.in_ok-path.ensures))
