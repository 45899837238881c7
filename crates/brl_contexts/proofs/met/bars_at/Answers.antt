use Rattle.std.proofs.Common.{◌≡◌, ◌≢◌, ◌∙◌, ℕ, Some, ap, arith, get_or, inl, inr, length, slice_get}
use Rattle.std.proofs.lemmas.Bool.{cases_eq}
use Rattle.std.proofs.lemmas.Option.{get_or_from_slice_get, slice_get_within}
use Rattle.brl_contexts.specs.declared.met.Met.{Met}
use Rattle.brl_contexts.proofs.met.bars_at.Goals as goal
use Rattle.brl_contexts.proofs.met.bars_at.Goals.{then-loop-next-test+else-met-next, else-loop-next-test}

abbrev no_met : Met
no_met = record { form = 0; bar = 0 }

pub returns : goal.returns
returns c =
    let met = c.args.met.now in
    let from = c.args.from in
    let next = c.loop-next.next in
    let many = c.loop-next.invariant.many in
    let own = (get_or met from no_met).form in
    let other : (x : Met) → slice_get met next ≡ Some x → x.form ≢ own = λ x at same.
    elim c.loop-next-test.branch [
      | then-loop-next-test+else-met-next w ↦ (let e : (get_or met next no_met).form ≡ own = ap (λ (y : Met). y.form) (get_or_from_slice_get met next x no_met at) ∙ same in absurd (w.if-met-next.false e))
      | else-loop-next-test w ↦ absurd (let within = slice_get_within met next x at in let end = w.loop-next-test.false in omega (arith, within, end))
    ]
    in
    record {
      form = own;
      some = elim (cases_eq (length c.loop-next.bars.items) 0) [
        | inl none ↦ absurd (
            let here : next ≡ from = omega (arith, many, none) in
            elim c.loop-next-test.branch [
              | then-loop-next-test+else-met-next w ↦ w.if-met-next.false (ap (λ (k : ℕ). (get_or met k no_met).form) here)
              | else-loop-next-test w ↦ (let end = w.loop-next-test.false in let start = c.requires.within in omega (arith, here, end, start))
            ])
        | inr some ↦ omega (arith, some)
      ];
      each = c.loop-next.invariant.each;
      next = λ x at. other x (ap (slice_get met) many ∙ at);
    }
