use Rattle.std.proofs.Common.{rules, ◌∙◌, ap, string_bytes}
use Rattle.std.specs.Option.{option_map}
use Rattle.brl_answers.proofs.FilesLemmas.{other_texts}
use Rattle.brl_answers.proofs.files.put.Goals as goal

pub returns-in-Ok-clause-others : goal.returns-in-Ok-clause-others
returns-in-Ok-clause-others c p differ =
    ap (option_map (λ bytes. bytes.items)) (other_texts c.args.source.now.files c.insert.new.self _ (string_bytes c.in_ok-path.path) c.in-Ok.ensures.updates p (λ same. differ (same ∙ search rules)))
