-- What a row adds to a walk, and faults of the steps of a walk.
use Rattle.std.proofs.Common.{◌≡◌, ℕ, List, [], ◌∷◌, ◌++◌, ap, sym, ◌∙◌, Option, Some, None, Result, Err}
use Rattle.brl_failure.specs.Failure.{◌>>=◌, IfFault}
use Rattle.brl_failure.specs.declared.failure.Failure.{Failure}
use Rattle.brl_failure.specs.declared.failure.Failure.TheVariants.{Fault, Memory}
use Rattle.brl_lines.specs.Answer.{FileAnswer, FileAnswers}
use Rattle.brl_lines.specs.Files.{Files, answers_of}
use Rattle.brl_lines.specs.Includes.{name_of}
use Rattle.brl_lines.specs.Lines.{LocationView, Refusal, Take, Walk, answer_at, expanded, location_of, replaced}
use Rattle.brl_lines.specs.Outcome.{AreGiven}
use Rattle.brl_lines.specs.Steps.{Extends, Fails, FailsAs, Grows}
use Rattle.brl_lines.specs.Tokens.{LineView}
use Rattle.brl_lines.specs.Views.{load_fault_view}
use Rattle.brl_lines.specs.declared.fault.LoadFault.{LoadFault}
use Rattle.brl_lines.specs.declared.fault.LoadFaultKind.TheVariants as kinds
use Rattle.brl_lines.proofs.FileLemmas.{extends-older}

-- ---- one row more

module _ (take : Take) (walk : Walk) (left here rest : List LineView) (whole : Result Walk Refusal) (cut : left ≡ here ++ rest) (so_far : expanded take left walk ≡ whole) where
  -- it does nothing
  pub row-nothing : here ≡ [] → expanded take rest walk ≡ whole
  row-nothing none = ap (λ (lines : List LineView). expanded take lines walk) (sym (cut ∙ ap (λ (h : List LineView). h ++ rest) none)) ∙ so_far

  module _ (line : LineView) (one : here ≡ line ∷ []) where
    one_more : (replaced take line (name_of line) walk >>= λ next. expanded take rest next) ≡ whole
    one_more = ap (λ (lines : List LineView). expanded take lines walk) (sym (cut ∙ ap (λ (h : List LineView). h ++ rest) one)) ∙ so_far

    -- it is a line of the table
    pub row-line : name_of line ≡ None → expanded take rest (record { lines = walk.lines ++ here; way = walk.way }) ≡ whole
    row-line none =
        ap (λ (h : List LineView). expanded take rest (record { lines = walk.lines ++ h; way = walk.way })) one
        ∙ ap (λ (name : Option (List ℕ)). replaced take line name walk >>= λ next. expanded take rest next) (sym none) ∙ one_more

    -- it includes a file, and is taken
    pub row-include : (name : List ℕ) → name_of line ≡ Some name → (place : LocationView) → location_of line ≡ place → (r : Result Walk Refusal) → take place name walk ≡ r
        → (r >>= λ next. expanded take rest next) ≡ whole
    row-include name some place place_is r e =
        ap (λ (t : Result Walk Refusal). t >>= λ next. expanded take rest next) (sym (ap (λ (l : LocationView). take l name walk) place_is ∙ e))
        ∙ ap (λ (n : Option (List ℕ)). replaced take line n walk >>= λ next. expanded take rest next) (sym some) ∙ one_more

-- ---- faults

-- the definition has this fault, whatever more is known
pub fails-for : {U : Type 0} (gives : FileAnswers) (files : Files) (want : (List ℕ → Option FileAnswer) → Result U Refusal) (e : Refusal) (failure : Failure LoadFault)
    → AreGiven gives (answers_of files) → want (answer_at (answers_of files)) ≡ Err e → (e.kind ≡ kinds.ReadFailed → ⊥) → IfFault (λ fault. e ≡ load_fault_view fault) failure → Fails gives files want failure
fails-for gives files want e Memory given h other k = tt
fails-for gives files want e (Fault fault) given h other k = record {
  answers = answers_of files;
  given = given;
  extends = λ path a known. known;
  fails = h ∙ ap Err k;
  unreadable = λ failed. absurd (other (ap (λ r. r.kind) k ∙ failed));
}

-- a fault of a step is one of the whole, where the same fault of the whole follows
pub fails-as : {U V : Type 0} (gives : FileAnswers) (files : Files) (step : (List ℕ → Option FileAnswer) → Result U Refusal) (whole : (List ℕ → Option FileAnswer) → Result V Refusal) (fault : Refusal)
    → ((answer : List ℕ → Option FileAnswer) → Extends files answer → step answer ≡ Err fault → whole answer ≡ Err fault) → FailsAs gives files step fault → FailsAs gives files whole fault
fails-as gives files step whole fault more h = record {
  answers = h.answers;
  given = h.given;
  extends = h.extends;
  fails = more (answer_at h.answers) h.extends h.fails;
  unreadable = h.unreadable;
}

-- a fault of a step is one of the whole
pub fails-more : {U V : Type 0} (gives : FileAnswers) (files : Files) (step : (List ℕ → Option FileAnswer) → Result U Refusal) (whole : (List ℕ → Option FileAnswer) → Result V Refusal) (failure : Failure LoadFault)
    → ((answer : List ℕ → Option FileAnswer) (e : Refusal) → Extends files answer → step answer ≡ Err e → whole answer ≡ Err e) → Fails gives files step failure → Fails gives files whole failure
fails-more gives files step whole Memory more h = tt
fails-more gives files step whole (Fault fault) more h = fails-as gives files step whole (load_fault_view fault) (λ answer. more answer (load_fault_view fault)) h

-- a fault of a later step is one of a load that began with fewer files
pub fails-later : {U : Type 0} (gives : FileAnswers) (old new : Files) → Grows gives old new
    → (want : (List ℕ → Option FileAnswer) → Result U Refusal) (failure : Failure LoadFault) → Fails gives new want failure → Fails gives old want failure
fails-later gives old new grows want Memory h = tt
fails-later gives old new grows want (Fault fault) h = record {
  answers = h.answers;
  given = h.given;
  extends = extends-older gives old new grows (answer_at h.answers) h.extends;
  fails = h.fails;
  unreadable = h.unreadable;
}
