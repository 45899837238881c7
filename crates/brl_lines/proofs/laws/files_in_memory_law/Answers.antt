use Rattle.std.proofs.Common.{◌∙◌, sym}
use Rattle.brl_lines.specs.InMemory.{answer_in, bytes_in, folders_of}
use Rattle.brl_lines.proofs.MemoryLemmas.{answer_of-readable, same_answer-is, told_of_all}
use Rattle.brl_lines.proofs.laws.files_in_memory_law.Goals as goal

pub returns-clause-one : goal.returns-clause-one
returns-clause-one c path one other h k = same_answer-is one _ h ∙ sym (same_answer-is other _ k)

pub returns-clause-told : goal.returns-clause-told
returns-clause-told c root outcome h k = told_of_all (folders_of c.args.source.now.folders) (answer_in c.args.source.now) (λ path. answer_of-readable (bytes_in c.args.source.now path)) root outcome h k
