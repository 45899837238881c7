-- Of equal steps the first: leaving out steps by what they read does the same before and after.
use Rattle.std.proofs.Common.{◌≡◌, ℕ, Bool, true, false, ◌||◌, List, [], ◌∷◌, ◌++◌, append-nil, ap₂, cond, filter, refl, sym, ◌∙◌, ap, true≢false}
use Rattle.std.proofs.lemmas.List.Elements.{filter-append}
use Rattle.std.specs.Cmp.{first_so, second_so}
use Rattle.std.specs.Cmp.Lexicographic.{bytes_decides}
use Rattle.std.specs.List.{flat_map, list_any}
use Rattle.brl_pairs.specs.Based.{Sharing, firsts, is_same, step_past, with_more, with_one, with_past}
use Rattle.brl_pairs.specs.declared.based.Past.{Past}
use Rattle.brl_pairs.specs.declared.based.Past.TheVariants.{Broken, Same, More}
use Rattle.brl_pairs.specs.declared.step.Step.{Step}

module _ {S : Type 0} (eq : S → S → Bool) (test : List ℕ → Bool) where
  abbrev kept : List (Step S) → List (Step S)
  kept steps = filter (λ (x : Step S). test x.reads) steps

  -- steps that are the same read the same
  same_reads : (x y : Step S) → is_same eq x y ≡ true → x.reads ≡ y.reads
  same_reads x y h = (bytes_decides x.reads y.reads).0 (second_so _ _ (first_so _ _ (first_so _ _ h)))

  -- whether one of those that are kept is the same
  any_kept : (x : Step S) → test x.reads ≡ true → (steps : List (Step S)) → list_any (is_same eq x) (kept steps) ≡ list_any (is_same eq x) steps
  any_kept x passes [] = refl
  any_kept x passes (y ∷ steps) = by (test y.reads) refl (is_same eq x y) refl (any_kept x passes steps)
    where
      by : (b : Bool) → test y.reads ≡ b → (c : Bool) → is_same eq x y ≡ c → list_any (is_same eq x) (kept steps) ≡ list_any (is_same eq x) steps
          → list_any (is_same eq x) (cond b (y ∷ kept steps) (kept steps)) ≡ (is_same eq x y || list_any (is_same eq x) steps)
      by true e c k more = ap (λ d. is_same eq x y || d) more
      by false e true k more = absurd (true≢false (sym passes ∙ ap test (same_reads x y k) ∙ e))
      by false e false k more = more ∙ sym (ap (λ d. d || list_any (is_same eq x) steps) k)

  one_kept : (x : Step S) (steps : List (Step S)) → kept (with_one eq steps x) ≡ cond (test x.reads) (with_one eq (kept steps) x) (kept steps)
  one_kept x steps = by (test x.reads) refl
    where
      added : (b : Bool) → test x.reads ≡ b → kept (steps ++ x ∷ []) ≡ kept steps ++ cond b (x ∷ []) []
      added b e = filter-append (λ (y : Step S). test y.reads) steps (x ∷ []) ∙ ap (λ c. kept steps ++ cond c (x ∷ []) []) e

      known : (c : Bool) → test x.reads ≡ true → kept (cond c steps (steps ++ x ∷ [])) ≡ cond c (kept steps) (kept steps ++ x ∷ [])
      known true e = refl
      known false e = added true e

      out : (c : Bool) → test x.reads ≡ false → kept (cond c steps (steps ++ x ∷ [])) ≡ kept steps
      out true e = refl
      out false e = added false e ∙ append-nil (kept steps)

      by : (b : Bool) → test x.reads ≡ b → kept (with_one eq steps x) ≡ cond b (with_one eq (kept steps) x) (kept steps)
      by true e = known (list_any (is_same eq x) steps) e ∙ ap (λ c. cond c (kept steps) (kept steps ++ x ∷ [])) (sym (any_kept x e steps))
      by false e = out (list_any (is_same eq x) steps) e

  more_kept : (steps more : List (Step S)) → kept (with_more eq steps more) ≡ with_more eq (kept steps) (kept more)
  more_kept steps [] = refl
  more_kept steps (x ∷ more) = more_kept (with_one eq steps x) more ∙ ap (λ l. with_more eq l (kept more)) (one_kept x steps) ∙ by (test x.reads)
    where
      by : (b : Bool) → with_more eq (cond b (with_one eq (kept steps) x) (kept steps)) (kept more) ≡ with_more eq (kept steps) (cond b (x ∷ kept more) (kept more))
      by true = refl
      by false = refl

  pub firsts_kept : (steps : List (Step S)) → kept (firsts eq steps) ≡ firsts eq (kept steps)
  firsts_kept steps = more_kept [] steps

module _ {S D : Type 0} (h : Sharing S D) (s : S) (test : List ℕ → Bool) where
  -- what a state has of a step reads what the step reads
  past_kept : (x : Step S) (p : Past D) → filter (λ (y : Step S). test y.reads) (with_past h x p) ≡ cond (test x.reads) (with_past h x p) []
  past_kept x Broken = sym (by (test x.reads))
    where
      by : (b : Bool) → cond {A = List (Step S)} b [] [] ≡ []
      by true = refl
      by false = refl
  past_kept x Same = refl
  past_kept x (More more) = refl

  one_past : (x : Step S) → filter (λ (y : Step S). test y.reads) (step_past h s x) ≡ cond (test x.reads) (step_past h s x) []
  one_past x = by (h.opens s (h.gate x.reads))
    where
      none : (b : Bool) → cond {A = List (Step S)} b [] [] ≡ []
      none true = refl
      none false = refl

      by : (o : Bool) → filter (λ (y : Step S). test y.reads) (cond o (with_past h x (h.past s x.reads x.next)) []) ≡ cond (test x.reads) (cond o (with_past h x (h.past s x.reads x.next)) []) []
      by true = past_kept x (h.past s x.reads x.next)
      by false = sym (none (test x.reads))

  pub past_of_kept : (steps : List (Step S)) → filter (λ (y : Step S). test y.reads) (flat_map (step_past h s) steps) ≡ flat_map (step_past h s) (filter (λ (y : Step S). test y.reads) steps)
  past_of_kept [] = refl
  past_of_kept (x ∷ steps) =
      filter-append (λ (y : Step S). test y.reads) (step_past h s x) (flat_map (step_past h s) steps)
      ∙ ap₂ (λ l r. l ++ r) (one_past x) (past_of_kept steps)
      ∙ by (test x.reads)
    where
      rest : List (Step S)
      rest = filter (λ (y : Step S). test y.reads) steps

      by : (b : Bool) → cond b (step_past h s x) [] ++ flat_map (step_past h s) rest ≡ flat_map (step_past h s) (cond b (x ∷ rest) rest)
      by true = refl
      by false = refl
