use Rattle.std.proofs.Common.{map}
use Rattle.brl_lines.specs.Views.{line_view}
use Rattle.brl_cut.specs.Files.{edit_view}
use Rattle.brl_cut.proofs.RewriteLemmas.{few-words-add}
use Rattle.brl_cut.proofs.noback.push_words.Goals as goal

pub returns-in_default : goal.returns-in_default
returns-in_default c = few-words-add (map edit_view c.args.edits.now.items) (line_view c.args.line.now) c.args.words.now c.in_default.len_below
