-- A text that meets the dues of a state has a path from it that reads the text.
use Rattle.std.proofs.Common.{◌≡◌, ℕ, zero, suc, ◌+◌, ◌≤◌, Bool, true, false, not, ◌&&◌, List, [], ◌∷◌, ◌++◌, Option, Some, None, length, take, refl, sym, ap, ap₂, ◌∙◌, inl, inr, arith, map, nat_eq, append_assoc, append-nil, length-append}
use Rattle.std.specs.Prelude.{slice_get}
use Rattle.std.specs.List.{list_all, starts_with}
use Rattle.std.specs.Cmp.{first_so, second_so}
use Rattle.std.proofs.lemmas.Bool.{eqb-true}
use Rattle.brl_pairs.specs.declared.step.Step.{Step}
use Rattle.brl_pairs.specs.Runs.{Accepts, IsPath, reads_of}
use Rattle.brl_rules.specs.declared.class.Class.{Class}
use Rattle.brl_rules.specs.declared.rule.Rule.{Rule}
use Rattle.brl_rules.specs.Choice.{fits, folds_of_capitals, matches}
use Rattle.brl_rules.specs.declared.place.Cond.{Cond}
use Rattle.brl_rules.specs.Places.{after_of, before_of, holds}
use Rattle.brl_rules.specs.TableView.{TableView}
use Rattle.brl_rules.specs.Text.{classes_at, fold_of, is_defined, is_in_caps_run, is_text}
use Rattle.brl_states.specs.declared.due.Due.{Due}
use Rattle.brl_states.specs.declared.dues_state.DuesState.{DuesState}
use Rattle.brl_dues.specs.Due.{dues_met}
use Rattle.brl_dues.specs.Capitals.{alike, further, is_upper}
use Rattle.brl_dues.specs.CaseForm.{CaseForm, IsForm, folded, may_read, own_form, rule_form}
use Rattle.brl_dues.specs.Steps.{dues_machine, next_dues, step_of}
use Rattle.brl_dues.proofs.Carrying.{fits_in}
use Rattle.brl_dues.proofs.Choices.{starts-rest}
use Rattle.brl_dues.proofs.Exact.{AreKnown, ends-met, path-Gives}
use Rattle.brl_dues.proofs.Forms.{IsStep-listed}
use Rattle.brl_dues.proofs.InCapsRun.{alike-itself, folds-more, folds-none, further-met, some-met}
use Rattle.brl_dues.proofs.StepLaw.{none_fits, option_met, step-met}
use Rattle.brl_dues.proofs.Taking.{Choosing, fits-form, form-ReadsSome, form-agrees}
use Rattle.brl_rules.proofs.OneByOne.{Translating}

-- ---- What fits

-- capitals that a rest begins with, and what comes after them
pub record Capitals (t : TableView) (rest chars : List ℕ) : Type 0 where
  pub others : List ℕ
  pub left : List ℕ
  pub uppers : list_all (is_upper t) others ≡ true
  pub folds : chars ≡ map (fold_of t) others
  pub begins : rest ≡ others ++ left

starts-folds : (t : TableView) (rest chars : List ℕ) → starts_with nat_eq (folds_of_capitals t rest) chars ≡ true → Capitals t rest chars
starts-folds t rest [] h = record { others = []; left = rest; uppers = refl; folds = refl; begins = refl }
starts-folds t [] (a ∷ chars) h = cc
starts-folds t (b ∷ rest) (a ∷ chars) h = at (is_upper t b) refl (starts-folds t rest chars)
  where
    at : (k : Bool) → is_upper t b ≡ k → (starts_with nat_eq (folds_of_capitals t rest) chars ≡ true → Capitals t rest chars) → Capitals t (b ∷ rest) (a ∷ chars)
    at false e more = (let no : false ≡ true = ap (λ w. starts_with nat_eq w (a ∷ chars)) (sym (folds-none t b rest e)) ∙ h in cc)
    at true e more =
        let both : (nat_eq a (fold_of t b) && starts_with nat_eq (folds_of_capitals t rest) chars) ≡ true = ap (λ w. starts_with nat_eq w (a ∷ chars)) (sym (folds-more t b rest e)) ∙ h in
        let m = more (second_so (nat_eq a (fold_of t b)) (starts_with nat_eq (folds_of_capitals t rest) chars) both) in
        let first : a ≡ fold_of t b = eqb-true a (fold_of t b) (first_so (nat_eq a (fold_of t b)) (starts_with nat_eq (folds_of_capitals t rest) chars) both) in
        record {
          others = b ∷ m.others;
          left = m.left;
          uppers = ap₂ (λ x y. x && y) e m.uppers;
          folds = ap₂ (λ x l. x ∷ l) first m.folds;
          begins = ap (λ l. b ∷ l) m.begins;
        }

-- what a rule reads of a rest that begins with its characters, and what comes after it
pub record Matching (t : TableView) (run : Bool) (c : ℕ) (rest chars : List ℕ) : Type 0 where
  pub others : List ℕ
  pub left : List ℕ
  pub may : may_read t run others ≡ true
  pub folds : chars ≡ folded t run c others
  pub begins : rest ≡ others ++ left

matches-form : (t : TableView) (run : Bool) (c : ℕ) (rest chars : List ℕ) → matches t run (c ∷ rest) chars ≡ true → Matching t run c rest chars
matches-form t run c rest [] h = cc
matches-form t true c rest (first ∷ others) h =
    let m = starts-folds t rest others (second_so (nat_eq first (fold_of t c)) (starts_with nat_eq (folds_of_capitals t rest) others) h) in
    let same : first ≡ fold_of t c = eqb-true first (fold_of t c) (first_so (nat_eq first (fold_of t c)) (starts_with nat_eq (folds_of_capitals t rest) others) h) in
    record { others = m.others; left = m.left; may = m.uppers; folds = ap₂ (λ x l. x ∷ l) same m.folds; begins = m.begins }
matches-form t false c rest (first ∷ others) h =
    let more = starts-rest rest others (second_so (nat_eq first (fold_of t c)) (starts_with nat_eq rest others) h) in
    let same : first ≡ fold_of t c = eqb-true first (fold_of t c) (first_so (nat_eq first (fold_of t c)) (starts_with nat_eq rest others) h) in
    record { others = others; left = more.0; may = refl; folds = ap (λ x. x ∷ others) same; begins = more.1 }

-- ---- The form that is taken

-- a form that is taken before a rest
pub record Found (t : TableView) (before : Class) (rest : List ℕ) : Type 0 where
  pub form : CaseForm
  pub is_form : IsForm t before form
  pub left : List ℕ
  pub begins : rest ≡ form.reads ++ left
  pub after : holds form.after (classes_at t left 0) ≡ true
  pub next : holds form.next (classes_at t left 0) ≡ true
  pub none : none_fits t before rest form.above ≡ true

slice_get-middle : (xs : List Rule) (r : Rule) (ys : List Rule) → slice_get (xs ++ r ∷ ys) (length xs) ≡ Some r
slice_get-middle [] r ys = refl
slice_get-middle (x ∷ xs) r ys = slice_get-middle xs r ys

take-middle : (xs ys : List Rule) → take (length xs) (xs ++ ys) ≡ xs
take-middle [] ys = refl
take-middle (x ∷ xs) ys = ap (λ l. x ∷ l) (take-middle xs ys)

none-more : (t : TableView) (before : Class) (rest : List ℕ) (above : List Rule) (r : Rule) → none_fits t before rest above ≡ true → fits t before rest r ≡ false
    → none_fits t before rest (above ++ r ∷ []) ≡ true
none-more t before rest [] r h e = ap (λ b. not b && true) e
none-more t before rest (q ∷ above) r h e =
    let first = first_so (not (fits t before rest q)) (none_fits t before rest above) h in
    ap (λ b. b && none_fits t before rest (above ++ r ∷ [])) first
    ∙ none-more t before rest above r (second_so (not (fits t before rest q)) (none_fits t before rest above) h) e

module _ (t : TableView) (before : Class) (c : ℕ) (rest : List ℕ) (defined : is_defined t c ≡ true) where
  -- whether the rest begins in a run of capitals
  abbrev run : Bool
  run = is_in_caps_run t before (c ∷ rest)

  -- what must follow what is read, does follow
  further-found : (others left : List ℕ) → rest ≡ others ++ left → (next : Cond) × (further t before run (c ∷ others) ≡ Some next) × (holds next (classes_at t left 0) ≡ true)
  further-found others left e =
      some-met (further t before run (c ∷ others)) (classes_at t left 0)
      (further-met t left before run c others ∙ ap (λ l. alike run (is_in_caps_run t before (c ∷ l))) (sym e) ∙ alike-itself run)

  found-own : none_fits t before (c ∷ rest) t.rules ≡ true → Found t before (c ∷ rest)
  found-own none =
      let n = further-found [] rest refl in
      record {
        form = own_form t c run n.0;
        is_form = inr (record { character = c; defined = defined; number = refl; reads = refl; next = n.1; after = refl; cells = refl; above = refl });
        left = rest;
        begins = refl;
        after = refl;
        next = n.2;
        none = none;
      }

  found-rule : (above : List Rule) (r : Rule) (rules : List Rule) → above ++ r ∷ rules ≡ t.rules → none_fits t before (c ∷ rest) above ≡ true → fits t before (c ∷ rest) r ≡ true
      → Found t before (c ∷ rest)
  found-rule above r rules whole none h =
      let front = first_so (matches t run (c ∷ rest) r.chars && holds (before_of r.place) before) (holds (after_of r.place before) (classes_at t (c ∷ rest) (length r.chars))) h in
      let before_holds = second_so (matches t run (c ∷ rest) r.chars) (holds (before_of r.place) before) front in
      let m = matches-form t run c rest r.chars (first_so (matches t run (c ∷ rest) r.chars) (holds (before_of r.place) before) front) in
      let n = further-found m.others m.left m.begins in
      let there : slice_get t.rules (length above) ≡ Some r = ap (λ l. slice_get l (length above)) (sym whole) ∙ slice_get-middle above r rules in
      let taken : above ≡ take (length above) t.rules = sym (take-middle above (r ∷ rules)) ∙ ap (take (length above)) whole in
      record {
        form = rule_form before above r run (c ∷ m.others) n.0;
        is_form = inl (record {
          rule = r;
          there = there;
          before_holds = before_holds;
          character = c;
          others = m.others;
          defined = defined;
          may = m.may;
          chars = m.folds;
          reads = refl;
          next = n.1;
          after = refl;
          cells = refl;
          above = taken;
        });
        left = m.left;
        begins = ap (λ l. c ∷ l) m.begins;
        after =
            sym (fits-form t before run c m.others m.left r m.may m.folds before_holds)
            ∙ ap (λ l. fits_in t before run (c ∷ l) r) (sym m.begins) ∙ h;
        next = n.2;
        none = none;
      }

  found-from : (above rules : List Rule) → above ++ rules ≡ t.rules → none_fits t before (c ∷ rest) above ≡ true → Found t before (c ∷ rest)
  found-from above [] whole none = found-own (ap (none_fits t before (c ∷ rest)) (sym whole ∙ append-nil above) ∙ none)
  found-from above (r ∷ rules) whole none =
      at (fits t before (c ∷ rest) r) refl (λ e. found-from (above ++ r ∷ []) rules (append_assoc above (r ∷ []) rules ∙ whole) (none-more t before (c ∷ rest) above r none e))
    where
      at : (b : Bool) → fits t before (c ∷ rest) r ≡ b → (fits t before (c ∷ rest) r ≡ false → Found t before (c ∷ rest)) → Found t before (c ∷ rest)
      at true e more = found-rule above r rules whole none e
      at false e more = more e

  pub found : Found t before (c ∷ rest)
  found = found-from [] t.rules refl refl

-- ---- The step that is taken

-- a step whose reads begin a rest, and whose next state's dues the others meet
pub record Steps (t : TableView) (s : DuesState) (rest : List ℕ) : Type 0 where
  pub form : CaseForm
  pub is_form : IsForm t s.before form
  pub dues : List Due
  pub owed : next_dues t s form ≡ Some dues
  pub left : List ℕ
  pub begins : rest ≡ form.reads ++ left
  pub met : dues_met t left dues ≡ true

pub step-on : (t : TableView) (s : DuesState) (rest : List ℕ) → Found t s.before rest → dues_met t rest s.dues ≡ true → Steps t s rest
step-on t s rest f met =
    let r = form-ReadsSome t s.before f.form f.is_form in
    let all : option_met t f.left (next_dues t s f.form) ≡ true =
    step-met t f.left s f.form r.character r.others r.reads (form-agrees t s.before f.form f.is_form f.left)
    ∙ ap₂ (λ a l. dues_met t l s.dues && (a && (holds f.form.next (classes_at t f.left 0) && none_fits t s.before l f.form.above))) f.after (sym f.begins)
    ∙ ap (λ x. dues_met t rest s.dues && (x && none_fits t s.before rest f.form.above)) f.next
    ∙ ap₂ (λ a b. a && b) met f.none in
    at (next_dues t s f.form) refl all
  where
    at : (o : Option (List Due)) → next_dues t s f.form ≡ o → option_met t f.left o ≡ true → Steps t s rest
    at None e h = cc
    at (Some dues) e h = record { form = f.form; is_form = f.is_form; dues = dues; owed = e; left = f.left; begins = f.begins; met = h }

text-behind : (t : TableView) (cs ds : List ℕ) → is_text t (cs ++ ds) ≡ true → is_text t ds ≡ true
text-behind t [] ds h = h
text-behind t (c ∷ cs) ds h = text-behind t cs ds (second_so (is_defined t c) (is_text t (cs ++ ds)) h)

-- ---- Paths

pub record HasPath (t : TableView) (s : DuesState) (rest : List ℕ) : Type 0 where
  pub path : List (Step DuesState)
  pub is_path : IsPath (dues_machine t) s path
  pub reads : reads_of path ≡ rest

path-on : (t : TableView) (s : DuesState) (rest : List ℕ) (h : Steps t s rest) → HasPath t (step_of t s h.form h.dues).next h.left → HasPath t s rest
path-on t s rest h more =
    let x = step_of t s h.form h.dues in
    let listed = IsStep-listed t s x (record { form = h.form; is_form = h.is_form; dues = h.dues; left = h.owed; step = refl }) in
    record { path = x ∷ more.path; is_path = (listed, more.is_path); reads = ap (λ l. h.form.reads ++ l) more.reads ∙ sym h.begins }

path-from : (t : TableView) (n : ℕ) (s : DuesState) (rest : List ℕ) → length rest ≤ n → is_text t rest ≡ true → dues_met t rest s.dues ≡ true → HasPath t s rest
path-from t n s [] short text met = record { path = []; is_path = sym (ends-met t s.dues) ∙ met; reads = refl }
path-from t zero s (c ∷ rest) short text met = absurd (omega (arith, short))
path-from t (suc n) s (c ∷ rest) short text met =
    let h = step-on t s (c ∷ rest) (found t s.before c rest (first_so (is_defined t c) (is_text t rest) text)) met in
    let r = form-ReadsSome t s.before h.form h.is_form in
    let size : length (c ∷ rest) ≡ length (r.character ∷ r.others) + length h.left = ap length (h.begins ∙ ap (λ l. l ++ h.left) r.reads) ∙ length-append (r.character ∷ r.others) h.left in
    let shorter : length h.left ≤ n = omega (arith, short, size) in
    path-on t s (c ∷ rest) h (path-from t n (step_of t s h.form h.dues).next h.left shorter (text-behind t h.form.reads h.left (ap (is_text t) (sym h.begins) ∙ text)) h.met)

pub accepts : (t : TableView) → Choosing t → Translating t → AreKnown t → (text : List ℕ) → is_text t text ≡ true → Accepts (dues_machine t) text
accepts t choosing translating known text h =
    let p = path-from t (length text) (dues_machine t).start text (omega arith) h refl in
    record {
      path = p.path;
      is_path = p.is_path;
      reads = p.reads;
      cells = (path-Gives t choosing translating known (dues_machine t).start p.path p.is_path).cells ∙ sym (translating.whole (reads_of p.path)) ∙ ap ((dues_machine t).translation) p.reads;
    }
