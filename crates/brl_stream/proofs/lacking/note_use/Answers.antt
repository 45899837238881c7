use Rattle.std.proofs.Common.{◌≡◌, ◌∙◌, ℕ, Some, arith, ap, cond, subst₂, sym}
use Rattle.std.specs.BTreeMap.{get_by, is_at}
use Rattle.std.specs.Ordering.{nat_cmp}
use Rattle.brl_stream.specs.Lacking.{Use}
use Rattle.brl_stream.specs.declared.lacking.Uses.{Uses}
use Rattle.brl_stream.specs.declared.lacking.Noted.{Noted}
use Rattle.brl_stream.proofs.LackingLemmas.{few-found, noted-again, noted-new}
use Rattle.brl_stream.proofs.lacking.note_use.Goals as goal
use Rattle.brl_stream.proofs.lacking.note_use.Goals.{in-Some, in-None+in_ok-push-in-None}

pub overflow_add-found : goal.overflow_add-found
overflow_add-found c =
    let there : get_by (nat_cmp c.args.character) c.args.noted.now.found ≡ Some c.in-Some.found.now = sym c.in-Some.ensures.value in
    let few = few-found c.requires.0 c.args.character c.args.noted.now c.in-Some.found.now c.requires.1 there in
    omega (arith, few, c.requires.2)

pub returns : goal.returns
returns c = λ uses noted.
    let old = c.args.noted.now in
    let new : Noted = record { order = c.match-get.noted.order; found = c.insert.new.self } in
    let v : Use = (c.args.character, c.args.number) in
    let P : Noted → Uses → Type 0 = λ n f. (q : ℕ) → get_by (nat_cmp q) c.insert.new.self ≡ cond (is_at (nat_cmp c.args.character) q) (Some f) (get_by (nat_cmp q) n.found) in
    elim c.match-get.branch [
      | in-Some w ↦ noted-again uses v old new w.in-Some.found.now noted (sym w.in-Some.ensures.value) (ap (λ (n : Noted). n.order.items) w.noted-is) (subst₂ P w.noted-is w.found-is c.in_ok-insert.ensures.updates.0)
      | in-None+in_ok-push-in-None w ↦ noted-new uses v old new noted (sym w.in-None.ensures.value) (ap (λ (n : Noted). n.order.items) w.noted-is ∙ w.in_ok-push-in-None.ensures.items)
          (subst₂ P w.noted-is w.found-is c.in_ok-insert.ensures.updates.0)
    ]
