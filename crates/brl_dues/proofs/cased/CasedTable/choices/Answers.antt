use Rattle.std.proofs.Common.{[], ◌∷◌, ◌++◌, ◌∙◌, ap, ap₂, sym}
use Rattle.std.specs.List.{flat_map, list_all}
use Rattle.brl_dues.specs.CapitalList.{is_fold_among, put_at}
use Rattle.brl_dues.specs.Capitals.{capitals}
use Rattle.brl_dues.proofs.ChoiceLoops.{choices-all, choices-next, choices-none, put-same}
use Rattle.brl_dues.proofs.Walking.{no-choices}
use Rattle.brl_dues.proofs.cased.CasedTable.choices.Goals as goal

pub loop-done-init : goal.loop-done-init
loop-done-init c =
    choices-none c.args.self.now c.args.chars.now c.push.new.self.items
    (c.in_ok-push.ensures.items ∙ ap₂ (λ l x. l ++ x ∷ []) c.new-texts.ensures.items (c.from_vec.ensures ∙ c.new.ensures.items))

pub loop-done-preserved : goal.loop-done-preserved
loop-done-preserved c =
    let t = c.args.self.now in
    let fold = c.index-chars-chars.result in
    choices-next t c.args.chars.now c.loop-done.done fold _ c.loop-done.texts.items c.in_ok-texts.texts.items c.loop-done-test.true c.index-chars-chars.is c.loop-done.invariant
    (c.in_ok-texts.ensures
    ∙ ap₂ (λ listed texts. flat_map (put_at fold texts) listed) (c.as_slice-capitals.ensures ∙ c.in_ok-found.ensures) c.as_slice.ensures.value
    ∙ put-same t fold c.loop-done.texts.items (capitals t))

pub returns : goal.returns
returns c = choices-all c.args.self.now c.args.chars.now c.loop-done.done c.loop-done.texts.items c.loop-done-test.false c.loop-done.invariant

pub returns-then-not-are_folds : goal.returns-then-not-are_folds
returns-then-not-are_folds c =
    c.new-texts.ensures.items
    ∙ sym
    (no-choices c.args.self.now c.args.chars.now
    (ap (λ listed. list_all (is_fold_among listed) c.args.chars.now) (sym (c.as_slice-capitals.ensures ∙ c.in_ok-found.ensures)) ∙ sym c.are_folds.ensures ∙ c.if-not-are_folds.true))
