use Rattle.std.proofs.Common.{◌≡◌, map, string_bytes, take}
use Rattle.brl_tool.proofs.SurveyLemmas.{IsSoFar}
use Rattle.brl_tool.specs.Surveying.{alphabet_if_any}
use Rattle.brl_tool.proofs.survey.survey_by_files.Given as goal

abbrev pub invariant-loop-path : goal.invariant-loop-path
invariant-loop-path g l = record {
  same : g.S.Source.gives l.source ≡ g.S.Source.gives l.fn.source;
  so_far : IsSoFar l.manner.brief (alphabet_if_any l.manner.only) (g.S.Source.gives l.fn.source) l.several (map (λ path. path.now) (take l.path-index l.paths)) (string_bytes l.text) l.status;
}
