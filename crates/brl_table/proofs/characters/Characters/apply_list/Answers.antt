use Rattle.std.proofs.Common.{◌∙◌, ap, sym, subst, take, ℕ, List}
use Rattle.std.specs.Option.{option_copied_mut}
use Rattle.brl_table.proofs.ListSteps.{roles-known, roles-unknown, next_character, AppliesRole}
use Rattle.brl_table.proofs.characters.Characters.apply_list.Goals as goal
use Rattle.brl_table.proofs.characters.Characters.apply_list.Goals.{in-Some, in_default}

pub loop-character-preserved : goal.loop-character-preserved
loop-character-preserved c =
    let line = c.args.line.now in
    let old = c.args.self.now.infos.entries in
    let before = c.loop-character.self.infos.entries in
    let i = c.loop-character.character-index in
    let character = c.character-item.result in
    let more = next_character line.chars c.as_slice-character-items.result.now i character c.as_slice-character-items.ensures c.loop-character-test.true c.character-item.is in
    let P : List ℕ → Type 0 = λ cs. AppliesRole line.role old c.match-get_mut.self.infos.entries cs in
    elim c.match-get_mut.branch [
      | in-Some w ↦ (record {
        roles = subst P (sym more)
            (roles-known line.role old before c.match-get_mut.self.infos.entries (take i line.chars) character c.loop-character.invariant.roles w.in-Some.info.now w.set_role.new.info
            (sym c.get_mut.ensures.value ∙ ap option_copied_mut w.in-Some.is) w.set_role.ensures
            (ap (λ s. s.infos.entries) w.self-is ∙ (c.get_mut.follows.holds w.set_role.new.info).0));
        plain = ap (λ s. s.plain) w.self-is ∙ c.loop-character.invariant.plain;
        notices = ap (λ s. s.notices) w.self-is ∙ c.loop-character.invariant.notices;
      })
      | in_default w ↦ (record {
        roles = subst P (sym more)
            (roles-unknown line.role old before c.match-get_mut.self.infos.entries (take i line.chars) character c.loop-character.invariant.roles
            (sym c.get_mut.ensures.value ∙ ap option_copied_mut w.in_default.is)
            (ap (λ s. s.infos.entries) w.self-is ∙ ap (λ m. m.entries) c.get_mut.follows.holds-at-none));
        plain = ap (λ s. s.plain) w.self-is ∙ c.loop-character.invariant.plain;
        notices = ap (λ s. s.notices) w.self-is ∙ c.loop-character.invariant.notices;
      })
    ]
