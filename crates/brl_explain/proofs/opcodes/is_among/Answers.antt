use Rattle.std.proofs.Common.{◌∙◌, ℕ, Bor, List, bytes_eq, sym}
use Rattle.brl_report.proofs.Mapped.{any_of_map}
use Rattle.brl_explain.proofs.opcodes.is_among.Goals as goal

pub returns : goal.returns
returns c = c.contains.ensures.value ∙ sym (any_of_map (λ (own : List ℕ). bytes_eq own c.args.word.now) (λ (own : Bor (List ℕ)). own.now) c.args.words.now)
