use Rattle.std.proofs.Common.{◌∙◌, ap, sym}
use Rattle.std.specs.Prelude.{string_bytes}
use Rattle.std.specs.Str.{bytes_eq}
use Rattle.brl_lines.proofs.ChainLemmas.{any_here}
use Rattle.brl_lines.proofs.open_file.is_in.Goals as goal

pub returns-then-eq : goal.returns-then-eq
returns-then-eq c = sym (any_here (bytes_eq c.args.path.now) string_bytes c.args.paths.now c.loop-other.other-index c.other-item.result c.loop-other-test.true (ap (λ s. bytes_eq c.args.path.now (string_bytes s)) (sym c.other-item.is) ∙ ap (bytes_eq c.args.path.now) (sym c.as_str.ensures.value) ∙ sym c.eq.ensures ∙ c.if-eq.true))
