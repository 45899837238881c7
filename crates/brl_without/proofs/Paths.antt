-- The paths of a machine without some characters are its paths that read none of them.
use Rattle.std.proofs.Common.{◌≡◌, ◌≢◌, ◌<◌, ◌⊎◌, inl, inr, arith, ℕ, ◌&&◌, true, IsTrue, List, [], ◌∷◌, ◌++◌, refl, sym, ◌∙◌, ap}
use Rattle.std.specs.Cmp.{first_so, second_so}
use Rattle.std.proofs.lemmas.List.Folds.{list_all-append}
use Rattle.std.proofs.lemmas.Bool.{and_from}
use Rattle.brl_pairs.specs.Pairs.{IsClosed, Sets, Splits}
use Rattle.brl_pairs.specs.Runs.{Accepts, Behaviour, IsExact, IsGoodStep, IsInOrder, IsListed, IsPath, KeepsLaws, reads_of}
use Rattle.brl_pairs.specs.declared.step.Pair.{Pair}
use Rattle.brl_pairs.specs.declared.step.Step.{Step}
use Rattle.brl_without.specs.LeftOut.{uses_none}
use Rattle.brl_without.specs.Without.{without}
use Rattle.brl_without.proofs.Steps.{kept_in_turn, kept_passes, passes_kept}

either_order : (i j : ℕ) → i ≢ j → (i < j) ⊎ (j < i)
either_order i j differ = grind arith

module _ (left_out : List ℕ) where
  -- a text in two parts uses none where neither part does
  joined : (front rest : List ℕ) → uses_none left_out (front ++ rest) ≡ (uses_none left_out front && uses_none left_out rest)
  joined front rest = list_all-append _ front rest

  module _ {S : Type 0} (m : Behaviour S) where
    listed_within : (s : S) (x : Step S) → IsListed ((without left_out m).steps s) x → IsListed (m.steps s) x × (uses_none left_out x.reads ≡ true)
    listed_within s x h =
        let r = kept_passes (λ (y : Step S). uses_none left_out y.reads) (m.steps s) x h.0 h.1 in
        ((r.0, r.1), r.2)

    listed_without : (s : S) (x : Step S) → IsListed (m.steps s) x → uses_none left_out x.reads ≡ true → IsListed ((without left_out m).steps s) x
    listed_without s x h none = passes_kept (λ (y : Step S). uses_none left_out y.reads) (m.steps s) x h.0 h.1 none

    pub path_within : (s : S) (path : List (Step S)) → IsPath (without left_out m) s path → IsPath m s path × (uses_none left_out (reads_of path) ≡ true)
    path_within s [] h = (h, refl)
    path_within s (x ∷ path) h =
        let step = listed_within s x h.0 in
        let rest = path_within x.next path h.1 in
        ((step.0, rest.0), joined x.reads (reads_of path) ∙ and_from _ _ step.1 rest.1)

    pub path_without : (s : S) (path : List (Step S)) → IsPath m s path → uses_none left_out (reads_of path) ≡ true → IsPath (without left_out m) s path
    path_without s [] h none = h
    path_without s (x ∷ path) h none =
        let both : (uses_none left_out x.reads && uses_none left_out (reads_of path)) ≡ true = sym (joined x.reads (reads_of path)) ∙ none in
        (listed_without s x h.0 (first_so _ _ both), path_without x.next path h.1 (second_so (uses_none left_out x.reads) _ both))

    -- ---- Laws

    good : KeepsLaws m → (s : S) (x : Step S) → IsListed ((without left_out m).steps s) x → IsGoodStep x
    good laws s x h = laws.good_steps s x (listed_within s x h).0

    order : KeepsLaws m → (s : S) → IsInOrder ((without left_out m).steps s)
    order laws s i j x y less i_at j_at =
        let r = kept_in_turn (λ (z : Step S). uses_none left_out z.reads) (m.steps s) x y i j less i_at j_at in
        laws.in_order s r.first r.second x y r.less r.first_at r.second_at

    accepts : KeepsLaws m → (text : List ℕ) → IsTrue ((without left_out m).is_text text) → Accepts (without left_out m) text
    accepts laws text is =
        let whole = laws.accepts text (first_so _ _ is) in
        let none : uses_none left_out text ≡ true = second_so (m.is_text text) _ is in
        record {
          path = whole.path;
          is_path = path_without m.start whole.path whole.is_path (ap (uses_none left_out) whole.reads ∙ none);
          reads = whole.reads;
          cells = whole.cells;
        }

    pub keeps_laws : KeepsLaws m → KeepsLaws (without left_out m)
    keeps_laws laws = record { good_steps = good laws; in_order = order laws; accepts = accepts laws }

    pub keeps_exact : IsExact m → IsExact (without left_out m)
    keeps_exact exact = record {
      text = λ path is.
          (let r = path_within m.start path is in
          and_from _ _ (exact.text path r.0) r.1);
      translates = λ path is. exact.translates path (path_within m.start path is).0;
      one_path = λ path other is also same. exact.one_path path other (path_within m.start path is).0 (path_within m.start other also).0 same;
    }

    split_within : (s : S) (p : Pair S) → Splits ((without left_out m).steps s) p → Splits (m.steps s) p
    split_within s p h = elim (either_order h.i h.j h.differ) [
      | inl less ↦
          let r = kept_in_turn (λ (y : Step S). uses_none left_out y.reads) (m.steps s) h.longer h.shorter h.i h.j less h.longer_listed h.shorter_listed in
          record { i = r.first; j = r.second; longer = h.longer; shorter = h.shorter; differ = λ e. absurd (omega (arith, r.less, e)); longer_listed = r.first_at; shorter_listed = r.second_at; ahead = h.ahead; behind = h.behind; lead = h.lead }
      | inr more ↦
          let r = kept_in_turn (λ (y : Step S). uses_none left_out y.reads) (m.steps s) h.shorter h.longer h.j h.i more h.shorter_listed h.longer_listed in
          record { i = r.second; j = r.first; longer = h.longer; shorter = h.shorter; differ = λ e. absurd (omega (arith, r.less, e)); longer_listed = r.second_at; shorter_listed = r.first_at; ahead = h.ahead; behind = h.behind; lead = h.lead }
    ]

    pub keeps_closed : (sets : Sets S) → IsClosed m sets → IsClosed (without left_out m) sets
    keeps_closed sets closed = record {
      start = closed.start;
      steps = λ s x has listed. closed.steps s x has (listed_within s x listed).0;
      splits = λ s p has split. closed.splits s p has (split_within s p split);
      moves = λ p q has moved. closed.moves p q has (record { step = moved.step; listed = (listed_within p.behind moved.step moved.listed).0; moved = moved.moved });
      ends = closed.ends;
    }
