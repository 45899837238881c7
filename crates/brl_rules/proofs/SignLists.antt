-- The indicators by their numbers, and lists of the cells of each.
use Rattle.std.proofs.Common.{ℕ, zero, suc, ◌<◌, ◌≤◌, ◌≡◌, ◌∙◌, Bool, true, false, cond, List, [], ◌∷◌, ◌++◌, length, map, ap, arith, refl, subst, sym, Some}
use Rattle.std.proofs.lemmas.Bool.Decides.{Decides-eqb}
use Rattle.std.proofs.lemmas.List.{length-map}
use Rattle.std.proofs.lemmas.Option.{slice_get-get_or, slice_get-map, slice_get_within}
use Rattle.std.specs.Prelude.{◌↔◌, All, IsTrue, option_map, slice_get, slice_index_or}
use Rattle.std.specs.List.{flat_map}
use Rattle.brl_rules.specs.declared.context.Context.{Context}
use Rattle.brl_rules.specs.declared.rule.Info.{Info}
use Rattle.brl_rules.specs.declared.signs.Sign.{Sign}
use Rattle.brl_rules.specs.declared.signs.Sign.TheVariants.{CapsLetter, NumSign, NoContractSign, BegCapsWord, EndCapsWord}
use Rattle.brl_rules.specs.Indicators.{is_used, sign_order, indicators_of, used_cells}
use Rattle.brl_rules.specs.TableView.{TableView, indicator_cells}
use Rattle.brl_rules.specs.Signs.{all_signs, by_sign, cells_at, is_same_sign, sign_number}
use Rattle.brl_rules.proofs.Facts.{some_is}

-- each indicator is at its number among them all
at-number : (sign : Sign) → slice_get all_signs (sign_number sign) ≡ Some sign
at-number CapsLetter = refl
at-number NumSign = refl
at-number NoContractSign = refl
at-number BegCapsWord = refl
at-number EndCapsWord = refl

-- each number is that of an indicator
numbered : (number : ℕ) → number < length all_signs → (sign : Sign) × (sign_number sign ≡ number)
numbered zero small = (CapsLetter, refl)
numbered (suc zero) small = (NumSign, refl)
numbered (suc (suc zero)) small = (NoContractSign, refl)
numbered (suc (suc (suc zero))) small = (BegCapsWord, refl)
numbered (suc (suc (suc (suc zero)))) small = (EndCapsWord, refl)
numbered (suc (suc (suc (suc (suc n))))) small = absurd (omega (arith, small))

number-small : (sign : Sign) → sign_number sign < length all_signs
number-small sign = slice_get_within all_signs (sign_number sign) sign (at-number sign)

pub same-sign : (sign other : Sign) → is_same_sign sign other ≡ true → sign ≡ other
same-sign sign other h =
    let same : sign_number sign ≡ sign_number other = (Decides-eqb (sign_number sign) (sign_number other)).0 h in
    some_is sign other (sym (at-number sign) ∙ ap (slice_get all_signs) same ∙ at-number other)

pub own-cells : (cells : Sign → List ℕ) (sign : Sign) → cells_at (by_sign cells) sign ≡ cells sign
own-cells cells sign =
    let within : sign_number sign < length (map cells all_signs) = omega (arith, length-map all_signs cells, number-small sign) in
    some_is (cells_at (by_sign cells) sign) (cells sign)
    (sym (slice_get-get_or (map cells all_signs) (sign_number sign) [] within)
    ∙ slice_get-map cells all_signs (sign_number sign) ∙ ap (option_map cells) (at-number sign))

-- an element within a list doesn't depend on the default
any-default : (xs : List (List ℕ)) (i : ℕ) (d e : List ℕ) → i < length xs → slice_index_or xs i d ≡ slice_index_or xs i e
any-default [] i d e within = absurd (omega (arith, within))
any-default (x ∷ xs) zero d e within = refl
any-default (x ∷ xs) (suc i) d e within = any-default xs i d e (omega (arith, within))

-- each of the lists is short exactly where each indicator has few cells
pub each-few : (signs : List (List ℕ)) (most : ℕ) (b : Bool) → length signs ≡ length all_signs → IsTrue b ↔ All (λ cells. length cells ≤ most) signs
    → IsTrue b ↔ ((sign : Sign) → length (cells_at signs sign) ≤ most)
each-few signs most b count all = (
  λ yes sign. all.0 yes (sign_number sign) [] (omega (arith, count, number-small sign)),
  λ few. all.1 (λ place d within.
      let sign = numbered place (omega (arith, count, within)) in
      let P : List ℕ → Type 0 = λ cells. length cells ≤ most in
      subst P (ap (λ n. slice_index_or signs n []) sign.1 ∙ any-default signs place [] d within) (few sign.0)),
)

-- ---- a character before which no indicator is used

no-cells : (used : Bool) (cells : List ℕ) → used ≡ false → cond used cells [] ≡ []
no-cells used cells is = ap (λ b. cond b cells []) is

none-joined : (cells : Sign → List ℕ) (signs : List Sign) → ((sign : Sign) → cells sign ≡ []) → flat_map cells signs ≡ []
none-joined cells [] none = refl
none-joined cells (sign ∷ signs) none = ap (λ first. first ++ flat_map cells signs) (none sign) ∙ none-joined cells signs none

pub signs-none : (t : TableView) (here : Context) (run : Bool) (info : Info) → ((sign : Sign) → is_used t here run info sign ≡ false) → indicators_of t here run info ≡ []
signs-none t here run info none =
    none-joined (used_cells t here run info) sign_order (λ sign. no-cells (is_used t here run info sign) (indicator_cells t sign) (none sign))
