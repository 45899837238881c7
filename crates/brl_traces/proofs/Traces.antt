-- The steps of a path of the dues machine are those of the trace of what it reads. So where two
-- paths diverge, the traces of what they read do: steps of one state are one step exactly where
-- they have one rule and read the same, both in a run of capitals or both out of one.
use Rattle.std.proofs.Common.{◌≡◌, ◌≢◌, ℕ, zero, suc, ◌+◌, ◌<◌, ◌≤◌, true, List, [], ◌∷◌, ◌++◌, inl, inr, length, take, drop, nat_lt, refl, sym, ap, ◌∙◌, subst, subst₂, arith, drop-drop}
use Rattle.std.proofs.lemmas.List.{length-append}
use Rattle.std.specs.List.{AllZip}
use Rattle.std.proofs.lemmas.Bool.{and_from}
use Rattle.brl_pairs.specs.declared.step.Step.{Step}
use Rattle.brl_pairs.specs.Divergence.{DivergeAt, IsUnambiguousBut, has_rules}
use Rattle.brl_pairs.specs.Runs.{IsPath, reads_of}
use Rattle.brl_rules.specs.declared.context.Context.{Context}
use Rattle.brl_rules.specs.Choice.{Choice, chosen}
use Rattle.brl_rules.specs.Indicators.{indicators, indicators_before}
use Rattle.brl_rules.specs.TableView.{TableView}
use Rattle.brl_rules.specs.Text.{context_after_all, context_at, is_in_caps_run}
use Rattle.brl_rules.specs.Translation.{chosen_at}
use Rattle.brl_rules.proofs.OneByOne.{Translating}
use Rattle.brl_rules.proofs.PositionAndRest.{in_text, at_end}
use Rattle.brl_states.specs.declared.dues_state.DuesState.{DuesState}
use Rattle.brl_states.specs.DuesContext.{context_of}
use Rattle.brl_dues.specs.Due.{dues_met}
use Rattle.brl_dues.specs.Steps.{dues_machine}
use Rattle.brl_dues.proofs.Exact.{AreKnown, Stepped, one-form, one-step, path-Gives, step-back, stepped}
use Rattle.brl_dues.proofs.Taking.{Choosing, as_choice, drop-front, form-ReadsSome, form-in_caps_run, signs-front, take-front}
use Rattle.brl_forward.specs.Trace.{step_at, steps_from, trace_of}
use Rattle.brl_forward.specs.declared.steps.Traced.{Traced}
use Rattle.brl_without.specs.Without.{without}
use Rattle.brl_without.proofs.Paths.{path_within}
use Rattle.brl_traces.specs.Traces.{ClashesDivergeAt, ClashesDivergeAtWithout, IsSameStep, IsTraced, PathsAreTraces, TracesDivergeAsPaths, TracesDivergeAt, begins_in_caps_run}
use Rattle.brl_traces.proofs.Together.{Diverge, at_once, diverging, one_later}

-- the context after more characters of a text
abbrev pub Further : TableView → Type 0
Further t = (text : List ℕ) (i count : ℕ) → count ≤ length (drop i text) → context_after_all t (context_at t text i) (take count (drop i text)) ≡ context_at t text (i + count)

-- a step from a state, before what the rest of its path reads, as the trace of the text has it at a
-- position
pub record Walked (t : TableView) (text : List ℕ) (i : ℕ) (s : DuesState) (x : Step DuesState) (path : List (Step DuesState)) : Type 0 where
  pub stepped_by : Stepped t s x (reads_of path)
  pub met : dues_met t (reads_of path) x.next.dues ≡ true
  pub traced : IsTraced text x (step_at t text i)
  pub run : begins_in_caps_run t text (step_at t text i) ≡ stepped_by.form.run
  pub within : nat_lt i (length text) ≡ true
  pub next : context_of x.next ≡ context_at t text (i + (chosen_at t text i).taken)
  pub left : drop (i + (chosen_at t text i).taken) text ≡ reads_of path
  pub fewer : length (reads_of path) < length (reads_of (x ∷ path))

module _ (t : TableView) (choosing : Choosing t) (translating : Translating t) (known : AreKnown t) (further : Further t) where
  -- one step
  pub walked : (text : List ℕ) (i : ℕ) (s : DuesState) (x : Step DuesState) (path : List (Step DuesState)) → IsPath (dues_machine t) s (x ∷ path) → context_of s ≡ context_at t text i
      → drop i text ≡ reads_of (x ∷ path) → Walked t text i s x path
  walked text i s x path p here rest =
      let u = reads_of path in
      let met = (path-Gives t choosing translating known x.next path p.1).met in
      let h = stepped t choosing s x p.0 u met in
      let r = form-ReadsSome t s.before h.form h.is_form in
      let reads : x.reads ≡ h.form.reads = ap (λ (y : Step DuesState). y.reads) h.step in
      let begins : x.reads ≡ r.character ∷ r.others = reads ∙ r.reads in
      let front : drop i text ≡ h.form.reads ++ u = rest ∙ ap (λ l. l ++ u) reads in
      let choice : chosen_at t text i ≡ as_choice h.form =
      ap (λ (c : Context). chosen t c.classes (drop i text)) (sym here) ∙ ap (chosen t s.before) front ∙ h.choice in
      let signs : indicators t (context_at t text i) (drop i text) ≡ indicators_before t (context_of s) h.form.run h.form.reads =
      ap (λ (c : Context). indicators t c (drop i text)) (sym here) ∙ ap (indicators t (context_of s)) front
      ∙ signs-front t (context_of s) h.form u (form-ReadsSome t s.before h.form h.is_form) h.in_caps_run in
      let run : is_in_caps_run t (context_at t text i).classes (drop i text) ≡ h.form.run =
      ap (λ (c : Context). is_in_caps_run t c.classes (drop i text)) (sym here) ∙ ap (is_in_caps_run t s.before) front ∙ h.in_caps_run in
      let count : length x.reads ≡ (chosen_at t text i).taken = ap length reads ∙ sym (ap (λ (c : Choice). c.taken) choice) in
      let size = ap length begins in
      let whole = ap length rest in
      let joined = length-append x.reads u in
      let room : length x.reads ≤ length (drop i text) = omega (arith, whole, joined) in
      let own : x.reads ≡ take (length x.reads) (drop i text) = sym (ap (take (length x.reads)) rest ∙ take-front x.reads u) in
      record {
        stepped_by = h;
        met = met;
        traced = record {
          rule = ap (λ (y : Step DuesState). y.rule) h.step ∙ sym (ap (λ (c : Choice). c.number) choice);
          length = count;
          reads = own ∙ ap (λ n. take n (drop i text)) count;
          cells = ap (λ (y : Step DuesState). y.cells) h.step ∙ ap (λ l. l ++ h.form.cells) (sym signs)
              ∙ ap (λ (c : Choice). indicators t (context_at t text i) (drop i text) ++ c.cells) (sym choice);
        };
        run = run;
        within = in_text i text r.character (r.others ++ u) (rest ∙ ap (λ l. l ++ u) begins);
        next = ap (λ (y : Step DuesState). context_of y.next) h.step
            ∙ ap (λ l. context_after_all t (context_of s) l) (sym reads)
            ∙ ap (λ c. context_after_all t c x.reads) here
            ∙ ap (λ l. context_after_all t (context_at t text i) l) own
            ∙ further text i (length x.reads) room
            ∙ ap (λ k. context_at t text (i + k)) count;
        left = ap (λ k. drop (i + k) text) (sym count) ∙ sym (drop-drop (length x.reads) i text) ∙ ap (drop (length x.reads)) rest ∙ drop-front x.reads u;
        fewer = omega (arith, size, joined);
      }

  -- the steps from a position on
  traced : (text : List ℕ) (n i : ℕ) (s : DuesState) (path : List (Step DuesState)) → IsPath (dues_machine t) s path → context_of s ≡ context_at t text i → drop i text ≡ reads_of path
      → length (reads_of path) ≤ n → AllZip (IsTraced text) path (steps_from t text n i)
  traced text zero i s [] p here rest few = tt
  traced text (suc n) i s [] p here rest few = rw (at_end i text rest) tt
  traced text zero i s (x ∷ path) p here rest few = (let size = (walked text i s x path p here rest).fewer in absurd (omega (arith, few, size)))
  traced text (suc n) i s (x ∷ path) p here rest few =
      let w = walked text i s x path p here rest in
      let size = w.fewer in
      rw w.within (w.traced, traced text n (i + (chosen_at t text i).taken) x.next path p.1 w.next w.left (omega (arith, size, few)))

  pub paths-are-traces : PathsAreTraces t
  unfolding trace_of
  paths-are-traces path p = traced (reads_of path) (length (reads_of path)) 0 (dues_machine t).start path p refl refl (omega arith)

  -- ---- Divergence

  -- a step of one state begins in a run of capitals whatever follows, or never
  one-run : (s : DuesState) (x : Step DuesState) (u v : List ℕ) → dues_met t u x.next.dues ≡ true → (h : Stepped t s x u) (k : Stepped t s x v) → h.form.run ≡ k.form.run
  one-run s x u v met h k =
      let takes = step-back t s k.form k.is_form k.dues k.left u (ap (λ (y : Step DuesState). dues_met t u y.next.dues) (sym k.step) ∙ met) in
      let reads : h.form.reads ≡ k.form.reads = ap (λ (y : Step DuesState). y.reads) (sym h.step ∙ k.step) in
      sym h.in_caps_run ∙ ap (λ l. is_in_caps_run t s.before (l ++ u)) reads ∙ form-in_caps_run t s.before k.form k.is_form u takes.next

  -- one step of a state is the same step in both texts
  pub same-step : (left right : List ℕ) (i j : ℕ) (s : DuesState) (x : Step DuesState) (path other : List (Step DuesState)) → Walked t left i s x path → Walked t right j s x other
      → IsSameStep t left right (step_at t left i) (step_at t right j)
  same-step left right i j s x path other v w = record {
    rule = sym v.traced.rule ∙ w.traced.rule;
    reads = sym v.traced.reads ∙ w.traced.reads;
    cells = sym v.traced.cells ∙ w.traced.cells;
    run = v.run ∙ one-run s x (reads_of path) (reads_of other) v.met v.stepped_by w.stepped_by ∙ sym w.run;
  }

  -- steps of one state that are the same in both texts are one step
  pub step-from_same : (left right : List ℕ) (i j : ℕ) (s : DuesState) (x y : Step DuesState) (path other : List (Step DuesState)) → Walked t left i s x path → Walked t right j s y other
      → IsSameStep t left right (step_at t left i) (step_at t right j) → x ≡ y
  step-from_same left right i j s x y path other v w same =
      let h = v.stepped_by in
      let k = w.stepped_by in
      let number : h.form.number ≡ k.form.number =
      ap (λ (z : Step DuesState). z.rule) (sym h.step) ∙ v.traced.rule ∙ same.rule ∙ sym w.traced.rule ∙ ap (λ (z : Step DuesState). z.rule) k.step in
      let reads : h.form.reads ≡ k.form.reads =
      ap (λ (z : Step DuesState). z.reads) (sym h.step) ∙ v.traced.reads ∙ same.reads ∙ sym w.traced.reads ∙ ap (λ (z : Step DuesState). z.reads) k.step in
      let form = one-form t s.before h.form k.form h.is_form k.is_form number reads (sym v.run ∙ same.run ∙ w.run) in
      one-step t s x y h.form k.form h.dues k.dues form h.left k.left h.step k.step

  -- two steps of traces have the rules of two of paths
  abbrev HaveRules : Step DuesState → Step DuesState → Traced → Traced → Type 0
  HaveRules x y one other = (x.rule ≡ one.rule) × (y.rule ≡ other.rule)

  -- from a state on, the steps of two traces diverge where those of two paths do
  apart : (left right : List ℕ) (n k i j : ℕ) (s : DuesState) (steps : List (Step DuesState)) (x y : Step DuesState) (path other : List (Step DuesState)) → x ≢ y
      → IsPath (dues_machine t) s (steps ++ x ∷ path) → IsPath (dues_machine t) s (steps ++ y ∷ other) → context_of s ≡ context_at t left i → context_of s ≡ context_at t right j
      → drop i left ≡ reads_of (steps ++ x ∷ path) → drop j right ≡ reads_of (steps ++ y ∷ other) → length (reads_of (steps ++ x ∷ path)) ≤ n → length (reads_of (steps ++ y ∷ other)) ≤ k
      → Diverge t left right (steps_from t left n i) (steps_from t right k j) (HaveRules x y)
  apart left right zero k i j s [] x y path other differ p q here there rest tail few small = (let size = (walked left i s x path p here rest).fewer in absurd (omega (arith, few, size)))
  apart left right (suc n) zero i j s [] x y path other differ p q here there rest tail few small = (let size = (walked right j s y other q there tail).fewer in absurd (omega (arith, small, size)))
  apart left right (suc n) (suc k) i j s [] x y path other differ p q here there rest tail few small =
      let v = walked left i s x path p here rest in
      let w = walked right j s y other q there tail in
      rw (v.within, w.within)
      (at_once t left right (HaveRules x y) (step_at t left i) (step_at t right j) (steps_from t left n (i + (chosen_at t left i).taken)) (steps_from t right k (j + (chosen_at t right j).taken))
      (λ same. differ (step-from_same left right i j s x y path other v w same)) (v.traced.rule, w.traced.rule))
  apart left right zero k i j s (z ∷ steps) x y path other differ p q here there rest tail few small = (let size = (walked left i s z (steps ++ x ∷ path) p here rest).fewer in absurd (omega (arith, few, size)))
  apart left right (suc n) zero i j s (z ∷ steps) x y path other differ p q here there rest tail few small =
      (let size = (walked right j s z (steps ++ y ∷ other) q there tail).fewer in absurd (omega (arith, small, size)))
  apart left right (suc n) (suc k) i j s (z ∷ steps) x y path other differ p q here there rest tail few small =
      let v = walked left i s z (steps ++ x ∷ path) p here rest in
      let w = walked right j s z (steps ++ y ∷ other) q there tail in
      let v_size = v.fewer in
      let w_size = w.fewer in
      let more = apart left right n k (i + (chosen_at t left i).taken) (j + (chosen_at t right j).taken) z.next steps x y path other differ p.1 q.1 v.next w.next v.left w.left
      (omega (arith, v_size, few)) (omega (arith, w_size, small)) in
      rw (v.within, w.within)
      (one_later t left right (HaveRules x y) (step_at t left i) (step_at t right j) (steps_from t left n (i + (chosen_at t left i).taken)) (steps_from t right k (j + (chosen_at t right j).taken))
      (same-step left right i j s z (steps ++ x ∷ path) (steps ++ y ∷ other) v w) more)

  -- the traces of what two paths read diverge where the paths do
  pub diverge-as-paths : TracesDivergeAsPaths t
  unfolding trace_of
  diverge-as-paths rules first second is_first is_second diverge =
      let at = diverge.0 in
      let start = (dues_machine t).start in
      let one = at.before ++ at.one ∷ at.first_rest in
      let other = at.before ++ at.other ∷ at.second_rest in
      let left = reads_of first in
      let right = reads_of second in
      let is_one = subst (IsPath (dues_machine t) start) at.first_steps is_first in
      let is_other = subst (IsPath (dues_machine t) start) at.second_steps is_second in
      let left_reads : left ≡ reads_of one = ap reads_of at.first_steps in
      let right_reads : right ≡ reads_of other = ap reads_of at.second_steps in
      let left_size = ap length left_reads in
      let right_size = ap length right_reads in
      let r = apart left right (length left) (length right) 0 0 start at.before at.one at.other at.first_rest at.second_rest at.differ is_one is_other refl refl left_reads right_reads
      (omega (arith, left_size)) (omega (arith, right_size)) in
      diverging t rules left right r.place r.one r.other r.before r.one_there r.other_there r.differ
      (ap (λ m. has_rules rules m r.other.rule) (sym r.are_so.0) ∙ ap (has_rules rules at.one.rule) (sym r.are_so.1) ∙ diverge.1)

module _ (t : TableView) (as_paths : TracesDivergeAsPaths t) (rules : List (ℕ × ℕ)) where
  -- texts that two paths read, where these diverge
  pub traces-diverge : (left right : List ℕ) (first second : List (Step DuesState)) → IsPath (dues_machine t) (dues_machine t).start first → IsPath (dues_machine t) (dues_machine t).start second
      → reads_of first ≡ left → reads_of second ≡ right → DivergeAt rules first second → TracesDivergeAt t rules left right
  traces-diverge left right first second is_first is_second first_reads second_reads diverge =
      subst₂ (TracesDivergeAt t rules) first_reads second_reads (as_paths rules first second is_first is_second diverge)

  pub clashes-diverge : IsUnambiguousBut rules (dues_machine t) → ClashesDivergeAt rules t
  clashes-diverge but left right is_left is_right same =
      elim (but left right is_left is_right same) [
        | inl one ↦ inl one
        | inr h ↦ inr (traces-diverge left right h.0.path h.1.path h.0.is_path h.1.is_path h.0.reads h.1.reads h.2)
      ]

  pub clashes-diverge-without : (left_out : List ℕ) → IsUnambiguousBut rules (without left_out (dues_machine t)) → ClashesDivergeAtWithout left_out rules t
  clashes-diverge-without left_out but left right is_left is_right left_none right_none same =
      elim (but left right (and_from _ _ is_left left_none) (and_from _ _ is_right right_none) same) [
        | inl one ↦ inl one
        | inr h ↦ (
            let m = dues_machine t in
            let first_path = (path_within left_out m m.start h.0.path h.0.is_path).0 in
            let second_path = (path_within left_out m m.start h.1.path h.1.is_path).0 in
            inr (traces-diverge left right h.0.path h.1.path first_path second_path h.0.reads h.1.reads h.2))
      ]
