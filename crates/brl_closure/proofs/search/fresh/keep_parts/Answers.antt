use Rattle.std.proofs.Common.{◌≡◌, ◌++◌, ◌∷◌, [], ℕ, List, inl, inr, sym, ap, subst}
use Rattle.brl_closure.specs.Fresh.{HaveNumbers, IsOneOf}
use Rattle.brl_closure.proofs.Fresh.{numbers_more, one_last, one_more}
use Rattle.brl_closure.proofs.search.fresh.keep_parts.Goals as goal

pub loop-part-preserved : goal.loop-part-preserved
loop-part-preserved g c =
    let done = c.loop-part.yielded in
    let f = c.in-Some.part in
    let added = c.in_ok-number.ensures in
    record {
      numbers = subst (HaveNumbers c.add.new.self.parts (done ++ f ∷ [])) (sym c.in_ok-push.ensures.items)
          (numbers_more c.loop-part.parts c.add.new.self added.stays done c.loop-part.numbers.items f c.in_ok-number.number c.loop-part.invariant.numbers added.number);
      kept = λ k p own is. elim (added.kept k p own is) [
        | inl before ↦ elim (c.loop-part.invariant.kept k p own before) [ inl old ↦ inl old | inr one ↦ inr (one_more done f p own one) ]
        | inr here ↦ inr (subst (λ q. IsOneOf (done ++ f ∷ []) q own) (sym here.0) (subst (λ es. IsOneOf (done ++ f ∷ []) f.part es) (sym here.1) (one_last done f)))
      ];
      stays = λ k p at. added.stays k p (c.loop-part.invariant.stays k p at);
    }
