use Rattle.brl_cut.proofs.rewriting.base_edits_in.Goals as goal

pub returns : goal.returns
returns c = rw (c.as_slice.ensures.value, c.in_ok-lines.ensures, c.in_ok-loaded.ensures.lines) at c.base_of_lines.ensures
