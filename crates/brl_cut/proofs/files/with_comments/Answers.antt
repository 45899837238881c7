use Rattle.brl_cut.proofs.files.with_comments.Goals as goal

pub returns : goal.returns
returns g c = rw (c.as_slice.ensures.value, c.in_ok-edits.ensures) at c.edit_files.ensures
