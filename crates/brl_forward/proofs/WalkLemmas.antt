-- One step of a walk over a text, over plain lists.
use Rattle.std.proofs.Common.{ℕ, ◌+◌, ◌≡◌, Bool, Some, List, [], ◌∷◌, ◌++◌, append_assoc, take, length, refl, ap, sym, ◌∙◌}
use Rattle.std.specs.Option.{option_map_or}
use Rattle.brl_rules.specs.declared.context.Context.{Context}
use Rattle.brl_rules.specs.TableView.{TableView, info_of}
use Rattle.brl_rules.specs.declared.rule.Info.{Info}
use Rattle.brl_rules.specs.Infos.{first_info}
use Rattle.brl_rules.specs.Text.{context_after, context_after_all, is_in_caps_run}
use Rattle.brl_rules.specs.Indicators.{indicators, indicators_before, indicators_of}
use Rattle.brl_rules.specs.Translation.{chosen_at, indicators_at, translation, translation_from}
use Rattle.brl_forward.specs.Trace.{step_at}

-- the indicators before a rest, given the info of its first character
pub signs-known : (t : TableView) (here : Context) (run : Bool) (rest : List ℕ) (info : Info) → first_info t rest ≡ Some info → run ≡ is_in_caps_run t here.classes rest
    → indicators_of t here run info ≡ indicators t here rest
signs-known t here run rest info known is =
    ap (λ found. option_map_or (indicators_of t here run) found []) (sym known) ∙ ap (λ run. indicators_before t here run rest) is

-- the context after one character, given its info
pub context-one : (t : TableView) (here after : Context) (rest : List ℕ) (info : Info) (taken : ℕ) → taken ≡ 1 → first_info t rest ≡ Some info
    → ((c : ℕ) → info_of t c ≡ Some info → after ≡ context_after t here c) → after ≡ context_after_all t here (take taken rest)
context-one t here after [] info taken one known is = cc
context-one t here after (c ∷ rest) info taken one known is = is c known ∙ ap (λ n. context_after_all t here (take n (c ∷ rest))) (sym one)

-- ---- The cells of a walk

module _ (t : TableView) (text : List ℕ) where
  -- the start of a walk
  pub cells_start : translation_from t text (length text) 0 ≡ translation t text
  unfolding translation
  cells_start = refl

  -- one step of a walk
  pub cells_more : (i j : ℕ) (done more total : List ℕ)
      → translation_from t text (length text) i ≡ indicators_at t text i ++ (chosen_at t text i).cells ++ translation_from t text (length text) (i + (chosen_at t text i).taken)
      → more ≡ done ++ (step_at t text i).cells → j ≡ i + (step_at t text i).length → done ++ translation_from t text (length text) i ≡ total → more ++ translation_from t text (length text) j ≡ total
  cells_more i j done more total law more-is j-is so_far =
      ap (λ cells. cells ++ translation_from t text (length text) j) more-is
      ∙ append_assoc done (step_at t text i).cells (translation_from t text (length text) j)
      ∙ ap (λ next. done ++ ((step_at t text i).cells ++ translation_from t text (length text) next)) j-is
      ∙ ap (λ cells. done ++ cells) (sym law) ∙ so_far
