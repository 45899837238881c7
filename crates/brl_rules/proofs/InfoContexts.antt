-- The context after characters, given their infos.
use Rattle.std.proofs.Common.{ℕ, zero, suc, ◌+◌, ◌<◌, ◌≡◌, List, [], ◌∷◌, length, drop, get_or, map, arith, add-one, sym, ap, Some, Option, Bor}
use Rattle.brl_rules.specs.declared.context.Context.{Context}
use Rattle.brl_rules.specs.declared.rule.Info.{Info}
use Rattle.brl_rules.specs.Infos.{AreInfosOf}
use Rattle.brl_rules.specs.TableView.{TableView, info_of}
use Rattle.brl_rules.specs.Text.{context_after, context_after_all}

pub first_same : (x y : Option Info) (xs ys : List (Option Info)) → x ∷ xs ≡ y ∷ ys → x ≡ y
first_same x y xs ys h = cc

pub others_same : (x y : Option Info) (xs ys : List (Option Info)) → x ∷ xs ≡ y ∷ ys → xs ≡ ys
others_same x y xs ys h = cc

module _ (t : TableView) (d : Bor Info) (here behind : Context) where
  one_more : (chars : List ℕ) (infos : List (Bor Info)) (k : ℕ) → AreInfosOf t chars infos → k < length infos
      → ((c : ℕ) → info_of t c ≡ Some (get_or infos k d).now → behind ≡ context_after t here c)
      → context_after_all t behind (drop (suc k) chars) ≡ context_after_all t here (drop k chars)
  one_more chars [] k are within step = absurd (omega arith)
  one_more [] (info ∷ infos) k are within step = cc
  one_more (c ∷ chars) (info ∷ infos) zero are within step =
      ap (λ context. context_after_all t context chars) (step c (sym (first_same (Some info.now) (info_of t c) (map (λ (info : Bor Info). Some info.now) infos) (map (info_of t) chars) are)))
  one_more (c ∷ chars) (info ∷ infos) (suc k) are within step =
      one_more chars infos k (others_same (Some info.now) (info_of t c) (map (λ (info : Bor Info). Some info.now) infos) (map (info_of t) chars) are) (omega arith) step

  -- one step of the loop over the infos
  pub context-more : (chars : List ℕ) (infos : List (Bor Info)) (k : ℕ) → AreInfosOf t chars infos → k < length infos
      → ((c : ℕ) → info_of t c ≡ Some (get_or infos k d).now → behind ≡ context_after t here c)
      → context_after_all t behind (drop (k + 1) chars) ≡ context_after_all t here (drop k chars)
  context-more chars infos k are within step = rw add-one (one_more chars infos k are within step)
