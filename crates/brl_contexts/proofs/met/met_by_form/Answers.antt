use Rattle.std.proofs.Common.{◌∙◌, ◌<◌, All, List, ap, length, rules, subst, sym}
use Rattle.std.proofs.lemmas.List.Sorted.{All-permutation, answers_always, IsNonDecreasingBy-from_sort_by_key}
use Rattle.brl_contexts.specs.declared.met.Met.{Met}
use Rattle.brl_contexts.proofs.ByForm.{all_forms, met_of_form, of_form}
use Rattle.brl_contexts.proofs.met.met_by_form.Goals as goal
use Rattle.brl_pairs.proofs.Along.{stable_number}

pub returns : goal.returns
returns g c =
    let bars = (g.B.Based.sharing c.args.machine.now).bars c.args.state.now in
    let reads = c.args.reads.now in
    let numbers = c.args.order.now.numbers.items in
    record {
      within = All-permutation (λ (x : Met). x.form < length reads) c.in_ok-found.found.items c.sort_by_key.new.self.items c.sort_by_key.ensures.permutation
          (subst (λ (l : List Met). All (λ (x : Met). x.form < length reads) l) (sym c.in_ok-found.ensures) (all_forms bars reads numbers c.requires.order.in_order.within));
      ascending = IsNonDecreasingBy-from_sort_by_key (λ (x : Met). x.form) _ c.in_ok-sort_by_key.ensures.sorted (λ a r q k. search rules);
      each = λ form less.
          stable_number (λ (x : Met). x.form) c.in_ok-found.found.items c.sort_by_key.new.self.items (c.sort_by_key.ensures.stable (λ (x : Met). x.form) (answers_always _ _ _ (λ f a r k h. search rules)))
          (record { form = form; bar = 0 })
          ∙ ap (of_form form) c.in_ok-found.ensures
          ∙ met_of_form bars reads numbers c.requires.all form less;
    }
