-- The infos of a text: the one at a position, and those of the characters that a step takes.
use Rattle.std.proofs.Common.{ℕ, zero, suc, ◌<◌, ◌≡◌, List, [], ◌∷◌, length, take, drop, get_or, map, sym, ◌∙◌, ap, Some, Bor, slice_get}
use Rattle.std.proofs.lemmas.Option.{slice_get-get_or}
use Rattle.std.proofs.lemmas.List.{length-map, take-map, drop-map}
use Rattle.brl_rules.specs.declared.rule.Info.{Info}
use Rattle.brl_rules.specs.Infos.{AreInfosOf, first_info}
use Rattle.brl_rules.specs.TableView.{TableView, info_of}
use Rattle.brl_rules.proofs.InfoContexts.{first_same, others_same}

info_same : (x y : Bor Info) → Some x ≡ Some y → x ≡ y
info_same x y h = cc

module _ (t : TableView) where
  first_info-there : (text : List ℕ) (infos : List (Bor Info)) (start : ℕ) (info : Bor Info) → AreInfosOf t text infos → slice_get infos start ≡ Some info
      → first_info t (drop start text) ≡ Some info.now
  first_info-there text [] start info are there = cc
  first_info-there [] (x ∷ infos) start info are there = cc
  first_info-there (c ∷ text) (x ∷ infos) zero info are there =
      sym (first_same (Some x.now) (info_of t c) (map (λ (info : Bor Info). Some info.now) infos) (map (info_of t) text) are)
      ∙ ap (λ (info : Bor Info). Some info.now) (info_same x info there)
  first_info-there (c ∷ text) (x ∷ infos) (suc start) info are there =
      first_info-there text infos start info (others_same (Some x.now) (info_of t c) (map (λ (info : Bor Info). Some info.now) infos) (map (info_of t) text) are) there

  -- the rest at a position begins with the character of the info there
  pub first_info-at : (text : List ℕ) (infos : List (Bor Info)) (start : ℕ) (info : Bor Info) → AreInfosOf t text infos → start < length infos → info ≡ get_or infos start info
      → first_info t (drop start text) ≡ Some info.now
  first_info-at text infos start info are within is =
      first_info-there text infos start info are (slice_get-get_or infos start info within ∙ ap (λ (info : Bor Info). Some info) (sym is))

  pub length-infos : (text : List ℕ) (infos : List (Bor Info)) → AreInfosOf t text infos → length infos ≡ length text
  length-infos text infos are =
      sym (length-map infos (λ (info : Bor Info). Some info.now)) ∙ ap length are ∙ length-map text (info_of t)

  -- the infos of the characters that a step takes
  pub infos-taken : (text : List ℕ) (infos : List (Bor Info)) (start n m : ℕ) → AreInfosOf t text infos → m ≡ n → AreInfosOf t (take n (drop start text)) (take m (drop start infos))
  infos-taken text infos start n m are same =
      ap (λ k. map (λ (info : Bor Info). Some info.now) (take k (drop start infos))) same
      ∙ sym (take-map (λ (info : Bor Info). Some info.now) n (drop start infos))
      ∙ ap (take n) (sym (drop-map (λ (info : Bor Info). Some info.now) start infos) ∙ ap (drop start) are ∙ drop-map (info_of t) start text)
      ∙ take-map (info_of t) n (drop start text)
