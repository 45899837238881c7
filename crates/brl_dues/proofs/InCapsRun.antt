-- Runs of capitals: what must follow some characters so that they begin in one, or out of one.
use Rattle.std.proofs.Common.{◌≡◌, ℕ, Bool, true, false, not, ◌&&◌, ◌||◌, List, [], ◌∷◌, ◌++◌, Option, Some, None, is_some, refl, ap, cond}
use Rattle.std.specs.Option.{option_map_or}
use Rattle.brl_rules.specs.declared.class.Class.{Class}
use Rattle.brl_rules.specs.declared.place.Cond.{Cond}
use Rattle.brl_rules.specs.declared.rule.Info.{Info}
use Rattle.brl_rules.specs.Choice.{folds_of_capitals}
use Rattle.brl_rules.specs.Places.{holds, none}
use Rattle.brl_rules.specs.TableView.{TableView, info_of}
use Rattle.brl_rules.specs.Text.{classes_at, fold_of, has_word_capitals, is_capital, is_defined, is_in_caps_run}
use Rattle.brl_dues.specs.Capitals.{alike, any_if, further, further_by, is_upper}

-- ---- Flags

pub alike-true : (a b : Bool) → alike a b ≡ true → b ≡ a
alike-true true b e = e
alike-true false true e = cc
alike-true false false e = refl

pub alike-itself : (a : Bool) → alike a a ≡ true
alike-itself true = refl
alike-itself false = refl

-- ---- What must follow

-- the classes meet the further condition, if there is one
abbrev pub met_by : Option Cond → Class → Bool
met_by None classes = false
met_by (Some next) classes = holds next classes

pub some-met : (o : Option Cond) (classes : Class) → met_by o classes ≡ true → (next : Cond) × (o ≡ Some next) × (holds next classes ≡ true)
some-met None classes h = cc
some-met (Some next) classes h = (next, refl, h)

any-met : (b : Bool) (classes : Class) → met_by (any_if b) classes ≡ b
any-met true classes = refl
any-met false classes = refl

opposite-met : (run : Bool) (classes : Class) → met_by (any_if (not run)) classes ≡ alike run false
opposite-met true classes = refl
opposite-met false classes = refl

same-met : (run : Bool) (classes : Class) → met_by (any_if run) classes ≡ alike run true
same-met true classes = refl
same-met false classes = refl

module _ (t : TableView) (u : List ℕ) where
  by-met : (run : Bool) (others : List ℕ) → met_by (further_by t run others) (classes_at t u 0) ≡ alike run (is_capital (classes_at t (others ++ u) 0))
  by-met true [] = refl
  by-met false [] = refl
  by-met true (d ∷ others) = any-met (is_upper t d) (classes_at t u 0)
  by-met false (d ∷ others) = any-met (not (is_upper t d)) (classes_at t u 0)

  -- the further condition holds exactly where the characters begin in a run of capitals, or out of
  -- one
  pub further-met : (before : Class) (run : Bool) (c : ℕ) (others : List ℕ)
      → met_by (further t before run (c ∷ others)) (classes_at t u 0) ≡ alike run (is_in_caps_run t before (c ∷ (others ++ u)))
  further-met before run c others = at (has_word_capitals t) (is_upper t c) (is_capital before)
    where
      at : (w k b : Bool)
          → met_by (cond (w && k) (cond b (any_if run) (further_by t run others)) (any_if (not run))) (classes_at t u 0)
          ≡ alike run ((w && k) && (b || is_capital (classes_at t (others ++ u) 0)))
      at false k b = opposite-met run (classes_at t u 0)
      at true false b = opposite-met run (classes_at t u 0)
      at true true true = same-met run (classes_at t u 0)
      at true true false = by-met run others

-- ---- Capitals

-- a capital is defined
pub upper-defined : (t : TableView) (c : ℕ) → is_upper t c ≡ true → is_defined t c ≡ true
upper-defined t c h = at (info_of t c) h
  where
    at : (o : Option Info) → is_capital (option_map_or (λ (info : Info). info.classes) o none) ≡ true → is_some o ≡ true
    at None e = cc
    at (Some info) e = refl

pub folds-more : (t : TableView) (c : ℕ) (rest : List ℕ) → is_upper t c ≡ true → folds_of_capitals t (c ∷ rest) ≡ fold_of t c ∷ folds_of_capitals t rest
folds-more t c rest h = ap (λ b. cond b (fold_of t c ∷ folds_of_capitals t rest) []) h

pub folds-none : (t : TableView) (c : ℕ) (rest : List ℕ) → is_upper t c ≡ false → folds_of_capitals t (c ∷ rest) ≡ []
folds-none t c rest h = ap (λ b. cond b (fold_of t c ∷ folds_of_capitals t rest) []) h
