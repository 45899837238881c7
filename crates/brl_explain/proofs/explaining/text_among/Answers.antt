use Rattle.std.proofs.Common.{◌≡◌, ◌∙◌, ℕ, Bool, true, false, Bor, List, [], ◌∷◌, Some, ap, cond, map, option_map, refl, find}
use Rattle.brl_explain.specs.Explaining.{explains}
use Rattle.brl_explain.proofs.explaining.text_among.Goals as goal

-- the first of some texts is found by what they are
found_text : (test : List ℕ → Bool) (texts : List (Bor (List ℕ))) → option_map (λ text. text.now) (find (λ (text : Bor (List ℕ)). test text.now) texts) ≡ find test (map (λ text. text.now) texts)
found_text test [] = refl
found_text test (text ∷ texts) = first (test text.now) (found_text test texts)
  where
    first : (b : Bool) → option_map (λ (t : Bor (List ℕ)). t.now) (find (λ (t : Bor (List ℕ)). test t.now) texts) ≡ find test (map (λ (t : Bor (List ℕ)). t.now) texts)
        → option_map (λ (t : Bor (List ℕ)). t.now) (cond b (Some text) (find (λ (t : Bor (List ℕ)). test t.now) texts)) ≡ cond b (Some text.now) (find test (map (λ (t : Bor (List ℕ)). t.now) texts))
    first true others = refl
    first false others = others

pub returns : goal.returns
returns c = ap (option_map (λ (text : Bor (List ℕ)). text.now)) c.find_code.ensures ∙ found_text (explains c.args.code.now) c.args.texts.now
