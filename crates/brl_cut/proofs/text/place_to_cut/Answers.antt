use Rattle.std.proofs.Common.{◌∙◌, sym, arith}
use Rattle.brl_cut.proofs.Limits.{character-here, character-less, character-none}
use Rattle.brl_cut.proofs.text.place_to_cut.Goals as goal

pub loop-at-preserved : goal.loop-at-preserved
loop-at-preserved c = record {
  low = omega arith;
  same = character-less c.args.row.now c.loop-at.at (omega arith) (sym c.begins_character.ensures ∙ c.if-not-begins_character.true) ∙ c.loop-at.invariant.same;
}

pub returns-else-not-begins_character : goal.returns-else-not-begins_character
returns-else-not-begins_character c =
    sym (character-here c.args.row.now c.loop-at.at (omega arith) (sym c.begins_character.ensures ∙ c.if-not-begins_character.false)) ∙ c.loop-at.invariant.same

pub returns-after-loop-at : goal.returns-after-loop-at
returns-after-loop-at c = sym (character-none c.args.row.now c.loop-at.at (omega arith)) ∙ c.loop-at.invariant.same
