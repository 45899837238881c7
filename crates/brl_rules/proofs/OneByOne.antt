-- A translation, one rule at a time.
use Rattle.std.proofs.Common.{ℕ, ◌<◌, ◌≡◌, List, [], length}
use Rattle.brl_rules.specs.declared.context.Context.{Context}
use Rattle.brl_rules.specs.Rest.{translation_of_rest, TakesOneRule}
use Rattle.brl_rules.specs.TableView.{TableView}
use Rattle.brl_rules.specs.Text.{at_start}
use Rattle.brl_rules.specs.Translation.{translation}

-- a translation, one rule at a time
pub record Translating (t : TableView) : Type 0 where
  pub whole : (text : List ℕ) → translation t text ≡ translation_of_rest t at_start text
  pub end : (here : Context) → translation_of_rest t here [] ≡ []
  pub rule : (here : Context) (rest : List ℕ) → 0 < length rest → TakesOneRule t here rest

-- by the laws of translations, which hold for each table
pub translating : ((t : TableView) (text : List ℕ) → translation t text ≡ translation_of_rest t at_start text) → ((t : TableView) (here : Context) → translation_of_rest t here [] ≡ [])
    → ((t : TableView) (here : Context) (rest : List ℕ) → 0 < length rest → TakesOneRule t here rest) → (t : TableView) → Translating t
translating whole end rule t = record { whole = whole t; end = end t; rule = rule t }
