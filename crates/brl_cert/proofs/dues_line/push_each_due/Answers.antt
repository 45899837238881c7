use Rattle.std.proofs.Common.{List, ℕ, ◌∷◌, ◌++◌, ◌∙◌, ap, take_all, sym, arith, append_assoc, rules}
use Rattle.std.specs.List.{flat_map}
use Rattle.brl_states.specs.declared.due.Due.{Due}
use Rattle.std.proofs.lemmas.List.Folds.{flat_map-map}
use Rattle.brl_cert.specs.Dues.{spelled_due}
use Rattle.brl_cert.specs.Valid.{IsDue}
use Rattle.brl_cert.proofs.More.{one_more, all_more}
use Rattle.brl_cert.proofs.dues_line.push_each_due.Goals as goal

pub loop-due-preserved : goal.loop-due-preserved
loop-due-preserved c = record {
  written = one_more (λ due. 32 ∷ spelled_due due) c.args.out.now.items c.args.dues.now c.loop-due.due-index c.due-item.result c.loop-due.out.items c.push_due.new.out.items (omega arith) c.due-item.is c.loop-due.invariant.written (search (rules, append_assoc));
  in_range = all_more IsDue c.args.dues.now c.loop-due.due-index c.due-item.result (omega arith) c.due-item.is c.loop-due.invariant.in_range c.in_ok-push_due.ensures.in_range;
}

pub returns-clause-written : goal.returns-clause-written
returns-clause-written c =
    let f : Due → List ℕ = λ due. 32 ∷ spelled_due due in
    c.loop-due.invariant.written
    ∙ ap (λ (bytes : List ℕ). c.args.out.now.items ++ bytes) (ap (flat_map f) (take_all c.loop-due.due-index c.args.dues.now (omega (arith, c.loop-due-test.false))) ∙ sym (flat_map-map (λ (field : List ℕ). 32 ∷ field) spelled_due c.args.dues.now))
