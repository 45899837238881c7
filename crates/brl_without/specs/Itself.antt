-- Internal. Without no characters a machine is itself.
use Rattle.std.proofs.Common.{◌≡◌, ℕ, Bool, true, false, ◌&&◌, List, [], ◌∷◌, refl, ap}
use Rattle.std.specs.List.{filter}
use Rattle.brl_pairs.specs.Runs.{Behaviour}
use Rattle.brl_pairs.specs.declared.step.Step.{Step}
use Rattle.brl_rules.specs.TableView.{TableView}
use Rattle.brl_rules.specs.Translation.{IsUnambiguous}
use Rattle.brl_without.specs.LeftOut.{uses_none}
use Rattle.brl_without.specs.Tables.{IsUnambiguousWithout}
use Rattle.brl_without.specs.Without.{without}

-- each text uses no character of none
pub uses_none-none : (text : List ℕ) → uses_none [] text ≡ true
uses_none-none [] = refl
uses_none-none (c ∷ text) = uses_none-none text

-- a test that all pass keeps all
pub filter-all : {X : Type 0} (test : X → Bool) → ((x : X) → test x ≡ true) → (xs : List X) → filter test xs ≡ xs
filter-all test all [] = refl
filter-all test all (x ∷ xs) = rw (all x) (ap (λ ys. x ∷ ys) (filter-all test all xs))

and-true : (b c : Bool) → c ≡ true → (b && c) ≡ b
and-true true c e = e
and-true false c e = refl

-- without no characters a machine is itself
pub without-none : {S : Type 0} (m : Behaviour S) → without [] m ≡ m
without-none {S = S} m = λ i. record {
  start = m.start;
  steps = λ s. filter-all (λ (x : Step S). uses_none [] x.reads) (λ x. uses_none-none x.reads) (m.steps s) i;
  ends = m.ends;
  is_text = λ text. and-true (m.is_text text) (uses_none [] text) (uses_none-none text) i;
  translation = m.translation;
}

-- ---- Tables

-- without no characters a table's texts are all of its texts
pub unambiguous-none : (t : TableView) → IsUnambiguousWithout [] t → IsUnambiguous t
unambiguous-none t single left right left_is right_is same = single left right left_is right_is (uses_none-none left) (uses_none-none right) same
