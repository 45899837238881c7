-- A walk as a whole, from its root.
use Rattle.std.proofs.Common.{◌≡◌, ℕ, List, [], ◌∷◌, ap, map, string_bytes, subst, sym, ◌∙◌, Option, None, Result, Ok, Err}
use Rattle.brl_failure.specs.Failure.{◌>>=◌}
use Rattle.brl_failure.specs.declared.failure.Failure.{Failure}
use Rattle.brl_failure.specs.declared.failure.Failure.TheVariants.{Fault, Memory}
use Rattle.brl_failure.specs.Failure.{IfFault}
use Rattle.brl_lines.specs.Answer.{FileAnswer, FileAnswers}
use Rattle.brl_lines.specs.Files.{Files, answers_of, loaded_view}
use Rattle.brl_lines.specs.Gathered.{left_view}
use Rattle.brl_lines.specs.Includes.{found, last_part}
use Rattle.brl_lines.specs.Lines.{Refusal, Walk, answer_at, expanded, follow, lines_over, no_way, taken, text_of, walk_from, walk_over, with_file}
use Rattle.brl_lines.specs.Loaded.{LoadedView}
use Rattle.brl_lines.specs.Outcome.{AreLinesOfFiles, IsReadFailure, IsRefusedAs}
use Rattle.brl_lines.specs.Skipping.{AreLinesWithout}
use Rattle.brl_lines.specs.Steps.{Fails, Stops, Walks, walk_in}
use Rattle.brl_lines.specs.Tokens.{lines_in}
use Rattle.brl_lines.specs.Views.{load_fault_view}
use Rattle.brl_lines.specs.declared.expand.Expansion.{Expansion}
use Rattle.brl_lines.specs.declared.fault.LoadFault.{LoadFault}
use Rattle.brl_lines.specs.declared.open_file.OpenFile.{OpenFile}
use Rattle.brl_lines.specs.declared.way.Policy.{Policy}
use Rattle.brl_lines.specs.declared.way.Policy.TheVariants as policies
use Rattle.brl_lines.proofs.FileLemmas.{paths-of-answers}

module _ (policy : Policy) (folders : List (List ℕ)) (answer : List ℕ → Option FileAnswer) (root top : List ℕ) (top_is : found folders answer root root ≡ top) where
  abbrev from_text : List ℕ → List (List ℕ) → Walk → List ℕ → Result Walk Refusal
  from_text own chain start text = expanded (taken policy folders answer own 15 (follow policy folders answer own 15 chain) chain) (lines_in own text) start

  by_text : (r : Result (List ℕ) Refusal) → text_of top None (answer top) ≡ r
      → walk_over policy folders answer root ≡ (r >>= from_text top (top ∷ []) (record { lines = []; way = with_file top (last_part root) no_way }))
  by_text r e =
      ap (walk_from policy folders answer (last_part root)) top_is
      ∙ ap (λ (r : Result (List ℕ) Refusal). r >>= from_text top (top ∷ []) (record { lines = []; way = with_file top (last_part root) no_way })) e

  -- the root is refused
  pub root-refused : (e : Refusal) → text_of top None (answer top) ≡ Err e → walk_over policy folders answer root ≡ Err e
  root-refused e h = by_text (Err e) h

  -- the root is good
  pub root-lines : (text own : List ℕ) (file : OpenFile) (start : Walk) → text_of top None (answer top) ≡ Ok text → own ≡ top → string_bytes file.path ≡ top
      → file.includers.items ≡ [] → file.depth_left ≡ 15
      → start.lines ≡ [] → start.way ≡ with_file top (last_part root) no_way
      → walk_over policy folders answer root ≡ walk_in policy folders own file text answer start
  root-lines text own file start h own_is path_is none depth no_lines way_is =
      by_text (Ok text) h ∙ (λ j. in_file (sym own_is j) (sym path_is j) (map string_bytes (sym none j)) (sym depth j)
      (record { lines = sym no_lines j; way = sym way_is j }))
    where
      in_file : List ℕ → List ℕ → List (List ℕ) → ℕ → Walk → Result Walk Refusal
      in_file own path others depth walk =
          expanded (taken policy folders answer own depth (follow policy folders answer own depth (path ∷ others)) (path ∷ others)) (lines_in path text) walk

-- why a walk ends
pub walk-stops : (gives : FileAnswers) (policy : Policy) (files : Files) (root : List ℕ) (failure : Failure LoadFault) → Fails gives files (λ answer. walk_over policy gives.folders answer root) failure
    → IfFault (Stops gives policy root) failure
walk-stops gives policy files root Memory h = tt
walk-stops gives policy files root (Fault fault) h = record { answers = h.answers; given = h.given; fails = h.fails; unreadable = h.unreadable }

-- ---- What a whole walk gives

module _ (gives : FileAnswers) (root : List ℕ) (table : Expansion) where
  abbrev known : List ℕ → Option FileAnswer
  known = answer_at (answers_of table.files.entries)

  -- the lines, where all files are loaded
  pub lines-loaded : Walks gives policies.Load root table → (loaded : LoadedView) → loaded ≡ loaded_view table.files.entries table.spans.items → AreLinesOfFiles gives root loaded.paths loaded.lines
  unfolding lines_over
  lines-loaded walks loaded is =
      subst (λ (l : LoadedView). AreLinesOfFiles gives root l.paths l.lines) (sym is)
      (answers_of table.files.entries, walks.given, paths-of-answers table.files.entries, ap (λ (r : Result Walk Refusal). r >>= λ walk. Ok walk.lines) walks.goes)

  -- without dictionaries
  pub lines-without : Walks gives policies.SkipDictionaries root table → (loaded : LoadedView) → loaded ≡ loaded_view table.files.entries table.spans.items
      → AreLinesWithout gives root (map left_view table.way.left_out.items) loaded.paths loaded.lines
  lines-without walks loaded is =
      subst (λ (l : LoadedView). AreLinesWithout gives root (map left_view table.way.left_out.items) l.paths l.lines) (sym is)
      (answers_of table.files.entries, walks.given, paths-of-answers table.files.entries, ap (λ (r : Result Walk Refusal). r >>= λ walk. Ok (walk.lines, walk.way.left_out)) walks.goes)

-- why nothing is loaded
pub refused-loaded : (gives : FileAnswers) (root : List ℕ) (fault : LoadFault) → Stops gives policies.Load root fault → IsRefusedAs gives root (load_fault_view fault) × IsReadFailure gives (load_fault_view fault)
unfolding lines_over
refused-loaded gives root fault stops = ((stops.answers, stops.given, ap (λ (r : Result Walk Refusal). r >>= λ walk. Ok walk.lines) stops.fails), stops.unreadable)
