-- The chosen rule is the first in rank that fits, else the own definition.
use Rattle.std.proofs.Common.{ℕ, zero, suc, ◌+◌, ◌<◌, ◌≡◌, Bool, true, false, cond, List, [], ◌∷◌, refl, arith, ◌∙◌, ap, Some}
use Rattle.std.specs.Prelude.{slice_get}
use Rattle.brl_rules.specs.declared.class.Class.{Class}
use Rattle.brl_rules.specs.declared.rule.Rule.{Rule}
use Rattle.brl_rules.specs.TableView.{TableView}
use Rattle.brl_rules.specs.Choice.{Choice, fits, by_rule, own, first_fitting, chosen}
use Rattle.brl_rules.specs.Position.{IsFirstThatFits}
use Rattle.brl_rules.proofs.Facts.{some_is}

taken : (b : Bool) (x y z : Choice) → b ≡ true → x ≡ z → cond b x y ≡ z
taken true x y z h e = e
taken false x y z h e = cc

passed : (b : Bool) (x y z : Choice) → b ≡ false → y ≡ z → cond b x y ≡ z
passed true x y z h e = cc
passed false x y z h e = e

module _ (t : TableView) (before : Class) (rest : List ℕ) where
  at_place : (number : ℕ) (rules : List Rule) (place : ℕ) (r : Rule) → slice_get rules place ≡ Some r → fits t before rest r ≡ true
      → ((earlier : ℕ) (q : Rule) → earlier < place → slice_get rules earlier ≡ Some q → fits t before rest q ≡ false)
      → first_fitting t before rest number rules ≡ by_rule (number + place) r
  at_place number [] place r there h none = cc
  at_place number (q ∷ rules) zero r there h none =
      let e : number ≡ number + 0 = omega arith in
      taken (fits t before rest q) (by_rule number q) (first_fitting t before rest (number + 1) rules) (by_rule (number + 0) r)
      (ap (fits t before rest) (some_is q r there) ∙ h) (ap (λ k. by_rule k q) e ∙ ap (by_rule (number + 0)) (some_is q r there))
  at_place number (q ∷ rules) (suc place) r there h none =
      let e : number + 1 + place ≡ number + suc place = omega arith in
      passed (fits t before rest q) (by_rule number q) (first_fitting t before rest (number + 1) rules) (by_rule (number + suc place) r)
      (none 0 q (omega arith) refl)
      (at_place (number + 1) rules place r there h (λ earlier p lower is. none (suc earlier) p (omega (arith, lower)) is) ∙ ap (λ k. by_rule k r) e)

  nowhere : (number : ℕ) (rules : List Rule) → ((place : ℕ) (q : Rule) → slice_get rules place ≡ Some q → fits t before rest q ≡ false)
      → first_fitting t before rest number rules ≡ own t rest
  nowhere number [] none = refl
  nowhere number (q ∷ rules) none =
      passed (fits t before rest q) (by_rule number q) (first_fitting t before rest (number + 1) rules) (own t rest) (none 0 q refl)
      (nowhere (number + 1) rules (λ place p is. none (suc place) p is))

  pub chosen-rule : (place : ℕ) (r : Rule) → IsFirstThatFits t before rest place r → chosen t before rest ≡ by_rule place r
  chosen-rule place r h =
      let e : 0 + place ≡ place = omega arith in
      at_place 0 t.rules place r h.there h.fitting h.none_earlier ∙ ap (λ k. by_rule k r) e

  pub chosen-own : ((place : ℕ) (q : Rule) → slice_get t.rules place ≡ Some q → fits t before rest q ≡ false) → chosen t before rest ≡ own t rest
  chosen-own none = nowhere 0 t.rules none
