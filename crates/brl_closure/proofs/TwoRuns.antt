-- Each reached pair has two runs; where the machine is exact, a reached pair with two ends gives a
-- clash. So an unambiguous exact machine reaches closed sets.
use Rattle.std.proofs.Common.{◌≡◌, ◌≢◌, ℕ, IsTrue, List, [], ◌∷◌, ◌++◌, inl, inr, refl, sym, ◌∙◌, ap, subst, arith, append-nil}
use Rattle.brl_pairs.specs.Body.{BodyView}
use Rattle.brl_pairs.specs.Sets.{sets_of}
use Rattle.brl_pairs.specs.declared.step.Pair.{Pair}
use Rattle.brl_pairs.specs.declared.step.Step.{Step}
use Rattle.brl_pairs.specs.Divergence.{HasRunsOf}
use Rattle.brl_pairs.specs.Pairs.{HasPair, IsClosed, Sets}
use Rattle.brl_pairs.specs.Runs.{Behaviour, IsExact, IsUnambiguous, KeepsLaws, Reaches, cells_of, reads_of}
use Rattle.brl_rules.specs.TableView.{TableView}
use Rattle.brl_rules.specs.Text.{is_text}
use Rattle.brl_rules.specs.Translation.{IsClash, translation}
use Rattle.brl_closure.specs.Answers.{AreTwoPaths, HasTwoEndsReached, IsLimit}
use Rattle.brl_closure.specs.Deciding.{IsClashOf, HasClash, HasTwoRuns, ListsJustReached, reached_sets}
use Rattle.brl_closure.specs.Reached.{AtMost, Reached, ReachedPair, SamePair, SameState, start, step, split, move, other_order}
use Rattle.brl_pairs.proofs.Divergence.{divergence_on, no_divergence, reaches_end, reaches_on, runs_of_move, runs_of_other, runs_of_split}

module _ {S : Type 0} (m : Behaviour S) where
  -- ---- Two runs

  pub path_of : {s : S} → Reached m s → (path : List (Step S)) × Reaches m m.start path s
  path_of start = ([], refl)
  path_of (step {s = s} {x = x} reached listed) = (let w = path_of reached in (w.0 ++ x ∷ [], reaches_on m m.start s w.0 x w.1 listed))

  -- steps of any rules
  abbrev Any : Step S → Step S → Type 0
  Any x y = Unit {0}

  runs_of : KeepsLaws m → {p : Pair S} → ReachedPair m p → HasRunsOf m Any p
  runs_of laws (split {s = s} {p = p} reached h) = (let w = path_of reached in runs_of_split m Any (λ x y h. tt) laws s w.0 w.1 p h tt)
  runs_of laws (move {p = p} {q = q} reached h) = runs_of_move m Any (λ x y h. tt) p q h (runs_of laws reached)
  runs_of laws (other_order {p = p} reached no_lead) = runs_of_other m Any (λ x y h. tt) p no_lead (runs_of laws reached)

  -- each reached pair has two runs
  pub two_runs : KeepsLaws m → {p : Pair S} → ReachedPair m p → HasTwoRuns m p
  two_runs laws reached =
      let r = runs_of laws reached in
      record {
        one = r.first;
        two = r.second;
        one_reaches = r.ahead;
        two_reaches = r.behind;
        diverge = λ more other same. no_divergence (r.first ++ more) (r.second ++ other) same (divergence_on r.first r.second more other r.divergence);
        lead = r.lead;
      }

  -- ---- Two ends

  -- at an empty lead and two ends they are two different paths that give the same cells
  pub two_paths_of : KeepsLaws m → (h : HasTwoEndsReached m) → (left : List ℕ) × (right : List ℕ) × AreTwoPaths m left right
  two_paths_of laws h =
      let r = two_runs laws h.reached in (
        reads_of r.one,
        reads_of r.two,
        record {
          one = r.one;
          two = r.two;
          one_path = reaches_end m m.start h.pair.ahead r.one r.one_reaches h.ahead_ends;
          two_path = reaches_end m m.start h.pair.behind r.two r.two_reaches h.behind_ends;
          differ = λ same. r.diverge [] [] (ap (λ (l : List (Step S)). l ++ []) same);
          same_cells = r.lead ∙ ap (λ (l : List ℕ). cells_of r.two ++ l) h.no_lead ∙ append-nil (cells_of r.two);
          left_reads = refl;
          right_reads = refl;
        },
      )

  -- two such paths of an exact machine read a clash
  pub same_cells_from_paths : IsExact m → (left right : List ℕ) → AreTwoPaths m left right → IsClashOf m left right
  same_cells_from_paths exact left right h = record {
    left_text = subst (λ (l : List ℕ). IsTrue (m.is_text l)) h.left_reads (exact.text h.one h.one_path);
    right_text = subst (λ (l : List ℕ). IsTrue (m.is_text l)) h.right_reads (exact.text h.two h.two_path);
    differ = λ same. h.differ (exact.one_path h.one h.two h.one_path h.two_path (h.left_reads ∙ same ∙ sym h.right_reads));
    same_cells = ap m.translation (sym h.left_reads) ∙ sym (exact.translates h.one h.one_path) ∙ h.same_cells ∙ exact.translates h.two h.two_path ∙ ap m.translation h.right_reads;
  }

  pub clash_from_ends : KeepsLaws m → IsExact m → HasTwoEndsReached m → HasClash m
  clash_from_ends laws exact h = (let two = two_paths_of laws h in (two.0, two.1, same_cells_from_paths exact two.0 two.1 two.2))

  -- such texts are a clash of the table whose texts and translation the machine has
  pub clash_of_table : (t : TableView) → m.is_text ≡ is_text t → m.translation ≡ translation t → (left right : List ℕ) → IsClashOf m left right → IsClash t left right (translation t left)
  clash_of_table t texts translates left right h = record {
    left_text = subst (λ (is : List ℕ → _). IsTrue (is left)) texts h.left_text;
    right_text = subst (λ (is : List ℕ → _). IsTrue (is right)) texts h.right_text;
    differ = h.differ;
    left_cells = refl;
    right_cells = ap (λ (f : List ℕ → List ℕ). f right) (sym translates) ∙ sym h.same_cells ∙ ap (λ (f : List ℕ → List ℕ). f left) translates;
  }

  -- ---- Closed sets

  -- sets of just what is reached, each pair in at least one order
  pub closed_from_reached : KeepsLaws m → IsExact m → IsUnambiguous m → (sets : Sets S) → ((s : S) → sets.has_state s → Reached m s) → ((p : Pair S) → sets.has_pair p → ReachedPair m p)
      → ((s : S) → Reached m s → sets.has_state s) → ((p : Pair S) → ReachedPair m p → HasPair sets p) → IsClosed m sets
  closed_from_reached laws exact single sets from_state from_pair has_state has_pair = record {
    start = has_state m.start start;
    steps = λ s x has listed. has_state x.next (step (from_state s has) listed);
    splits = λ s p has h. has_pair p (split (from_state s has) h);
    moves = λ p q has h. has_pair q (move (from_pair p has) h);
    ends = λ p has no_lead ahead behind.
        (let two = clash_from_ends laws exact (record { pair = p; reached = from_pair p has; no_lead = no_lead; ahead_ends = ahead; behind_ends = behind }) in
        two.2.differ (single two.0 two.1 two.2.left_text two.2.right_text two.2.same_cells));
  }

  pub reached_closed : KeepsLaws m → IsExact m → IsUnambiguous m → IsClosed m (reached_sets m)
  reached_closed laws exact single = closed_from_reached laws exact single (reached_sets m) (λ s h. h) (λ p h. h) (λ s h. h) (λ p h. inl h)

  pub listed_closed : KeepsLaws m → IsExact m → IsUnambiguous m → (body : BodyView S) → ListsJustReached m body → IsClosed m (sets_of body)
  listed_closed laws exact single body h =
      closed_from_reached laws exact single (sets_of body) (λ s has. h.states has.0 s has.1) (λ p has. h.pairs has.0 p has.1) h.each_state h.each_pair

  -- ---- The limit

  pub no_limit : (limit states pairs : ℕ) → AtMost limit SameState (Reached m) → AtMost limit SamePair (ReachedPair m) → IsLimit m limit states pairs → ⊥
  no_limit limit states pairs few_states few_pairs h =
      let a = few_states states h.states_reached in
      let b = few_pairs pairs h.pairs_reached in
      elim h.passed [ inl over ↦ absurd (omega (arith, a, over)) | inr over ↦ absurd (omega (arith, b, over)) ]
