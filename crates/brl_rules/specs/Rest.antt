-- The translation of a text without positions, by the context and the rest of the text: so a
-- machine reads it.
use Rattle.std.specs.Prelude.{ℕ, zero, suc, ◌≡◌, List, [], ◌∷◌, ◌++◌, length, take, drop}
use Rattle.brl_rules.specs.declared.context.Context.{Context}
use Rattle.brl_rules.specs.TableView.{TableView}
use Rattle.brl_rules.specs.Text.{context_after_all}
use Rattle.brl_rules.specs.Indicators.{indicators}
use Rattle.brl_rules.specs.Choice.{chosen}

-- the translation of `rest` in the context `here`, in at most `steps` steps
abbrev pub rest_from : TableView → ℕ → Context → List ℕ → List ℕ
rest_from t zero here rest = []
rest_from t (suc steps) here [] = []
rest_from t (suc steps) here (c ∷ rest) =
    let choice = chosen t here.classes (c ∷ rest) in
    indicators t here (c ∷ rest) ++ choice.cells
    ++ rest_from t steps (context_after_all t here (take choice.taken (c ∷ rest))) (drop choice.taken (c ∷ rest))

-- the translation of `rest` in the context `here`
unfoldable pub translation_of_rest : TableView → Context → List ℕ → List ℕ
translation_of_rest t here rest = rest_from t (length rest) here rest

-- one step: the indicators, the chosen rule's cells, and the translation of the rest after the rule
abbrev pub TakesOneRule : TableView → Context → List ℕ → Type 0
TakesOneRule t here rest =
    let choice = chosen t here.classes rest in
    translation_of_rest t here rest
    ≡ indicators t here rest ++ choice.cells
    ++ translation_of_rest t (context_after_all t here (take choice.taken rest)) (drop choice.taken rest)
