use Rattle.std.proofs.Common.{◌∙◌, ◌++◌, ◌∷◌, [], ap, sym, subst, take, List}
use Rattle.std.proofs.lemmas.List.{take_more}
use Rattle.brl_table.specs.declared.item.Item.{Item}
use Rattle.brl_table.proofs.ListSteps.{roles-line, roles-other, AppliesLists}
use Rattle.brl_table.proofs.builder.apply_lists.Goals as goal
use Rattle.brl_table.proofs.builder.apply_lists.Goals.{in-Lists, in_default}

pub loop-item-preserved : goal.loop-item-preserved
loop-item-preserved c =
    let items = c.args.items.now in
    let i = c.loop-item.item-index in
    let item = c.item-item.result in
    let old = c.args.characters.now.infos.entries in
    let before = c.loop-item.characters.infos.entries in
    let after = c.match-item.characters.infos.entries in
    let more = take_more items i item c.loop-item-test.true ∙ ap (λ x. take i items ++ x ∷ []) (sym c.item-item.is) in
    let P : List Item → Type 0 = λ xs. AppliesLists old after xs in
    elim c.match-item.branch [
      | in-Lists w ↦ (record {
        roles = subst P (sym more)
            (roles-line old before after (take i items) item c.loop-item.invariant.roles w.in-Lists.line w.in-Lists.is
            (λ defined listed h. ap (λ s. s.infos.entries) w.characters-is ∙ w.apply_list.ensures.roles defined listed h));
        notices = ap (λ s. s.notices) w.characters-is ∙ w.apply_list.ensures.notices ∙ c.loop-item.invariant.notices;
      })
      | in_default w ↦ (record {
        roles = subst P (sym more)
            (roles-other old before after (take i items) item c.loop-item.invariant.roles w.in_default.not-Lists (ap (λ s. s.infos.entries) w.characters-is));
        notices = ap (λ s. s.notices) w.characters-is ∙ c.loop-item.invariant.notices;
      })
    ]
