-- Each path that ends reads a text and gives its translation, and no other path reads that text.
use Rattle.std.proofs.Common.{◌≡◌, ℕ, zero, suc, Bool, true, false, ◌&&◌, List, [], ◌∷◌, ◌++◌, Some, length, take, refl, sym, ap, ap₂, ◌∙◌, subst, inl, inr, arith}
use Rattle.std.specs.Prelude.{slice_get}
use Rattle.std.specs.List.{list_all, AllByRecursion}
use Rattle.std.specs.Cmp.{first_so, second_so}
use Rattle.std.proofs.lemmas.Option.{slice_get_within}
use Rattle.brl_pairs.specs.declared.step.Step.{Step}
use Rattle.brl_pairs.specs.Runs.{IsExact, IsListed, IsPath, reads_of, cells_of}
use Rattle.brl_rules.specs.declared.class.Class.{Class}
use Rattle.brl_rules.specs.declared.rule.Rule.{Rule}
use Rattle.brl_rules.specs.Choice.{Choice, chosen, own}
use Rattle.brl_rules.specs.Places.{after_of, holds}
use Rattle.brl_rules.specs.Rest.{translation_of_rest}
use Rattle.brl_rules.specs.TableView.{TableView}
use Rattle.brl_rules.specs.Text.{classes_at, context_after_all, fold_of, is_defined, is_in_caps_run, is_text}
use Rattle.brl_states.specs.declared.due.Due.{Due}
use Rattle.brl_states.specs.declared.due.Due.TheVariants.{Need, Bar}
use Rattle.brl_states.specs.declared.dues_state.DuesState.{DuesState}
use Rattle.brl_dues.specs.Due.{due_met, dues_met, met_by_space}
use Rattle.brl_dues.specs.Capitals.{further, is_upper}
use Rattle.brl_dues.specs.CaseForm.{CaseForm, IsForm, folded, may_read}
use Rattle.brl_states.specs.DuesContext.{context_of}
use Rattle.brl_dues.specs.Steps.{IsStep, dues_machine, next_dues, step_of}
use Rattle.brl_dues.proofs.Forms.{listed-IsStep}
use Rattle.brl_dues.proofs.InCapsRun.{upper-defined}
use Rattle.brl_dues.proofs.StepLaw.{none_fits, option_met, step-met}
use Rattle.brl_dues.proofs.Taking.{Choosing, as_choice, form-ReadsSome, form-agrees, form-chosen, form-in_caps_run, form-translation}
use Rattle.brl_rules.proofs.OneByOne.{Translating}

-- the end of a text meets the dues exactly where class space meets every need
space-met : (t : TableView) (d : Due) → due_met t [] d ≡ met_by_space d
space-met t (Need c) = refl
space-met t (Bar [] c) = refl
space-met t (Bar (a ∷ chars) c) = refl

pub ends-met : (t : TableView) (dues : List Due) → dues_met t [] dues ≡ list_all met_by_space dues
ends-met t [] = refl
ends-met t (d ∷ dues) = ap₂ (λ a b. a && b) (space-met t d) (ends-met t dues)

-- ---- A step backwards

-- where a rest meets the dues after a step: the form is taken before it, and what the form reads
-- and the rest meet the dues
pub record Takes (t : TableView) (s : DuesState) (f : CaseForm) (u : List ℕ) : Type 0 where
  pub after : holds f.after (classes_at t u 0) ≡ true
  pub next : holds f.next (classes_at t u 0) ≡ true
  pub none : none_fits t s.before (f.reads ++ u) f.above ≡ true
  pub met : dues_met t (f.reads ++ u) s.dues ≡ true

pub step-back : (t : TableView) (s : DuesState) (f : CaseForm) → IsForm t s.before f → (dues : List Due) → next_dues t s f ≡ Some dues → (u : List ℕ)
    → dues_met t u dues ≡ true → Takes t s f u
step-back t s f is dues left u h =
    let r = form-ReadsSome t s.before f is in
    let after = holds f.after (classes_at t u 0) in
    let next = holds f.next (classes_at t u 0) in
    let none = none_fits t s.before (f.reads ++ u) f.above in
    let all = sym (step-met t u s f r.character r.others r.reads (form-agrees t s.before f is u)) ∙ ap (option_met t u) left ∙ h in
    let both = second_so (dues_met t (f.reads ++ u) s.dues) (after && (next && none)) all in
    let last = second_so after (next && none) both in
    record {
      after = first_so after (next && none) both;
      next = first_so next none last;
      none = second_so next none last;
      met = first_so (dues_met t (f.reads ++ u) s.dues) (after && (next && none)) all;
    }

-- ---- Texts

-- the characters of the rules are the table's
abbrev pub AreKnown : TableView → Type 0
AreKnown t = AllByRecursion (λ r. is_text t r.chars ≡ true) t.rules

known-there : (t : TableView) (rules : List Rule) (k : ℕ) (r : Rule) → AllByRecursion (λ r. is_text t r.chars ≡ true) rules → slice_get rules k ≡ Some r → is_text t r.chars ≡ true
known-there t [] k r h e = cc
known-there t (q ∷ rules) zero r h e = (let same : q ≡ r = cc in ap (λ (x : Rule). is_text t x.chars) (sym same) ∙ h.0)
known-there t (q ∷ rules) (suc k) r h e = known-there t rules k r h.1 e

text-first : (t : TableView) (c : ℕ) (cs ds : List ℕ) → is_defined t c ≡ true → is_text t cs ≡ true → is_text t (c ∷ cs) ≡ true
text-first t c cs ds h k = ap (λ b. b && is_text t cs) h ∙ k

uppers-text : (t : TableView) (cs : List ℕ) → list_all (is_upper t) cs ≡ true → is_text t cs ≡ true
uppers-text t [] h = refl
uppers-text t (c ∷ cs) h =
    text-first t c cs [] (upper-defined t c (first_so (is_upper t c) (list_all (is_upper t) cs) h)) (uppers-text t cs (second_so (is_upper t c) (list_all (is_upper t) cs) h))

others-text : (t : TableView) (run : Bool) (c : ℕ) (others : List ℕ) → may_read t run others ≡ true → is_text t (folded t run c others) ≡ true → is_text t others ≡ true
others-text t true c others may h = uppers-text t others may
others-text t false c others may h = second_so (is_defined t (fold_of t c)) (is_text t others) h

pub form-text : (t : TableView) → AreKnown t → (before : Class) (f : CaseForm) → IsForm t before f → is_text t f.reads ≡ true
form-text t known before f (inl h) =
    let all = ap (is_text t) (sym h.chars) ∙ known-there t t.rules f.number h.rule known h.there in
    ap (is_text t) h.reads ∙ text-first t h.character h.others [] h.defined (others-text t f.run h.character h.others h.may all)
form-text t known before f (inr h) = ap (is_text t) h.reads ∙ text-first t h.character [] [] h.defined refl

pub text-join : (t : TableView) (cs ds : List ℕ) → is_text t cs ≡ true → is_text t ds ≡ true → is_text t (cs ++ ds) ≡ true
text-join t [] ds h k = k
text-join t (c ∷ cs) ds h k =
    text-first t c (cs ++ ds) [] (first_so (is_defined t c) (is_text t cs) h) (text-join t cs ds (second_so (is_defined t c) (is_text t cs) h) k)

-- ---- Paths

-- what the path reads is a text that meets the state's dues, and its cells are the translation
pub record Gives (t : TableView) (s : DuesState) (path : List (Step DuesState)) : Type 0 where
  pub met : dues_met t (reads_of path) s.dues ≡ true
  pub text : is_text t (reads_of path) ≡ true
  pub cells : cells_of path ≡ translation_of_rest t (context_of s) (reads_of path)

-- a step of a path
pub record Stepped (t : TableView) (s : DuesState) (x : Step DuesState) (u : List ℕ) : Type 0 where
  pub taken : IsStep t s x
  pub open taken use *
  pub takes : Takes t s form u
  pub in_caps_run : is_in_caps_run t s.before (form.reads ++ u) ≡ form.run
  pub choice : chosen t s.before (form.reads ++ u) ≡ as_choice form

pub stepped : (t : TableView) → Choosing t → (s : DuesState) (x : Step DuesState) → IsListed ((dues_machine t).steps s) x → (u : List ℕ) → dues_met t u x.next.dues ≡ true → Stepped t s x u
stepped t law s x listed u met =
    let h = listed-IsStep t s x listed in
    let takes = step-back t s h.form h.is_form h.dues h.left u (ap (λ (y : Step DuesState). dues_met t u y.next.dues) (sym h.step) ∙ met) in
    record {
      taken = h;
      takes = takes;
      in_caps_run = form-in_caps_run t s.before h.form h.is_form u takes.next;
      choice = form-chosen t law s.before h.form h.is_form u takes.after takes.next takes.none;
    }

pub path-Gives : (t : TableView) → Choosing t → Translating t → AreKnown t → (s : DuesState) (path : List (Step DuesState)) → IsPath (dues_machine t) s path → Gives t s path
path-Gives t choosing translating known s [] p = record { met = ends-met t s.dues ∙ p; text = refl; cells = sym (translating.end (context_of s)) }
path-Gives t choosing translating known s (x ∷ path) p =
    let more = path-Gives t choosing translating known x.next path p.1 in
    let u = reads_of path in
    let h = stepped t choosing s x p.0 u more.met in
    let reads : x.reads ≡ h.form.reads = ap (λ (y : Step DuesState). y.reads) h.step in
    let cells = form-translation t translating (context_of s) h.form u (form-ReadsSome t s.before h.form h.is_form) h.in_caps_run h.choice in
    let next : context_of x.next ≡ context_after_all t (context_of s) h.form.reads = ap (λ (y : Step DuesState). context_of y.next) h.step in
    record {
      met = ap (λ l. dues_met t (l ++ u) s.dues) reads ∙ h.takes.met;
      text = ap (λ l. is_text t (l ++ u)) reads ∙ text-join t h.form.reads u (form-text t known s.before h.form h.is_form) more.text;
      cells =
          ap₂ (λ a b. a ++ b) (ap (λ (y : Step DuesState). y.cells) h.step) (more.cells ∙ ap (λ here. translation_of_rest t here u) next)
          ∙ sym cells ∙ ap (λ l. translation_of_rest t (context_of s) (l ++ u)) (sym reads);
    }

-- ---- One path

same-next : (t : TableView) (before : Class) (f g : CaseForm) (cs ds : List ℕ) → f.reads ≡ cs → g.reads ≡ ds → further t before f.run cs ≡ Some f.next → further t before g.run ds ≡ Some g.next
    → f.reads ≡ g.reads → f.run ≡ g.run → f.next ≡ g.next
same-next t before f g cs ds a b h k r e =
    let some : Some f.next ≡ Some g.next = sym h ∙ ap₂ (further t before) e (sym a ∙ r ∙ b) ∙ k in
    cc

-- forms with one number that read the same, both in a run of capitals or both out of one, are one
-- form
pub one-form : (t : TableView) (before : Class) (f g : CaseForm) → IsForm t before f → IsForm t before g → f.number ≡ g.number → f.reads ≡ g.reads → f.run ≡ g.run → f ≡ g
one-form t before f g (inl h) (inl k) n r e =
    let some : Some h.rule ≡ Some k.rule = sym h.there ∙ ap (slice_get t.rules) n ∙ k.there in
    let rule : h.rule ≡ k.rule = cc in
    let after : f.after ≡ g.after = h.after ∙ ap (λ (q : Rule). after_of q.place before) rule ∙ sym k.after in
    let next : f.next ≡ g.next = same-next t before f g (h.character ∷ h.others) (k.character ∷ k.others) h.reads k.reads h.next k.next r e in
    λ i. record { number = n i; reads = r i; run = e i; next = next i; after = after i; cells = (h.cells ∙ ap (λ (q : Rule). q.cells) rule ∙ sym k.cells) i; above = (h.above ∙ ap (λ m. take m t.rules) n ∙ sym k.above) i }
one-form t before f g (inl h) (inr k) n r e = (let low = slice_get_within t.rules f.number h.rule h.there in let high = k.number in absurd (omega (arith, low, high, n)))
one-form t before f g (inr h) (inl k) n r e = (let low = slice_get_within t.rules g.number k.rule k.there in let high = h.number in absurd (omega (arith, low, high, n)))
one-form t before f g (inr h) (inr k) n r e =
    let both : h.character ∷ [] ≡ k.character ∷ [] = sym h.reads ∙ r ∙ k.reads in
    let same : h.character ≡ k.character = cc in
    let after : f.after ≡ g.after = h.after ∙ sym k.after in
    let next : f.next ≡ g.next = same-next t before f g (h.character ∷ []) (k.character ∷ []) h.reads k.reads h.next k.next r e in
    λ i. record { number = n i; reads = r i; run = e i; next = next i; after = after i; cells = (h.cells ∙ ap (λ c. (own t (c ∷ [])).cells) same ∙ sym k.cells) i; above = (h.above ∙ sym k.above) i }

-- what two steps take is one form, where they are chosen at the same place
pub chosen-form : (t : TableView) (before : Class) (f g : CaseForm) → IsForm t before f → IsForm t before g → (u v : List ℕ) → f.reads ++ u ≡ g.reads ++ v → as_choice f ≡ as_choice g → f.reads ≡ g.reads
    → is_in_caps_run t before (f.reads ++ u) ≡ f.run → is_in_caps_run t before (g.reads ++ v) ≡ g.run → f ≡ g
chosen-form t before f g is also u v rest choice reads in_caps_run in_caps_run' =
    one-form t before f g is also (ap (λ (c : Choice). c.number) choice) reads (sym in_caps_run ∙ ap (is_in_caps_run t before) rest ∙ in_caps_run')

pub same-front : (xs ys u v : List ℕ) → length xs ≡ length ys → xs ++ u ≡ ys ++ v → (xs ≡ ys) × (u ≡ v)
same-front [] [] u v n e = (refl, e)
same-front [] (y ∷ ys) u v n e = absurd (omega (arith, n))
same-front (x ∷ xs) [] u v n e = absurd (omega (arith, n))
same-front (x ∷ xs) (y ∷ ys) u v n e =
    let first : x ≡ y = cc in
    let rest : xs ++ u ≡ ys ++ v = cc in
    let more = same-front xs ys u v (omega (arith, n)) rest in
    (ap (λ a. a ∷ xs) first ∙ ap (λ l. y ∷ l) more.0, more.1)

pub none-read : (t : TableView) (s : DuesState) (x : Step DuesState) (u : List ℕ) → IsListed ((dues_machine t).steps s) x → [] ≡ x.reads ++ u → ⊥
none-read t s x u listed e =
    let h = listed-IsStep t s x listed in
    let r = form-ReadsSome t s.before h.form h.is_form in
    let z : [] ≡ (r.character ∷ r.others) ++ u = e ∙ ap (λ l. l ++ u) (ap (λ (y : Step DuesState). y.reads) h.step ∙ r.reads) in
    cc

pub one-step : (t : TableView) (s : DuesState) (x y : Step DuesState) (f g : CaseForm) (ds es : List Due) → f ≡ g → next_dues t s f ≡ Some ds → next_dues t s g ≡ Some es
    → x ≡ step_of t s f ds → y ≡ step_of t s g es → x ≡ y
one-step t s x y f g ds es same h k a b =
    let some : Some ds ≡ Some es = sym h ∙ ap (next_dues t s) same ∙ k in
    let dues : ds ≡ es = cc in
    a ∙ ap (λ z. step_of t s z ds) same ∙ ap (step_of t s g) dues ∙ sym b

one-path : (t : TableView) → Choosing t → Translating t → AreKnown t → (s s' : DuesState) → s ≡ s' → (path other : List (Step DuesState)) → IsPath (dues_machine t) s path → IsPath (dues_machine t) s' other
    → reads_of path ≡ reads_of other → path ≡ other
one-path t choosing translating known s s' same [] [] p q e = refl
one-path t choosing translating known s s' same [] (y ∷ other) p q e = absurd (none-read t s' y (reads_of other) q.0 e)
one-path t choosing translating known s s' same (x ∷ path) [] p q e = absurd (none-read t s x (reads_of path) p.0 (sym e))
one-path t choosing translating known s s' same (x ∷ path) (y ∷ other) p q e =
    let u = reads_of path in
    let v = reads_of other in
    let q0 : IsListed ((dues_machine t).steps s) y = subst (λ z. IsListed ((dues_machine t).steps z) y) (sym same) q.0 in
    let h = stepped t choosing s x p.0 u (path-Gives t choosing translating known x.next path p.1).met in
    let k = stepped t choosing s y q0 v (path-Gives t choosing translating known y.next other q.1).met in
    let x_reads : x.reads ≡ h.form.reads = ap (λ (z : Step DuesState). z.reads) h.step in
    let y_reads : y.reads ≡ k.form.reads = ap (λ (z : Step DuesState). z.reads) k.step in
    let rest : h.form.reads ++ u ≡ k.form.reads ++ v = ap (λ l. l ++ u) (sym x_reads) ∙ e ∙ ap (λ l. l ++ v) y_reads in
    let choice : as_choice h.form ≡ as_choice k.form = sym h.choice ∙ ap (chosen t s.before) rest ∙ k.choice in
    let fronts = same-front h.form.reads k.form.reads u v (ap (λ (c : Choice). c.taken) choice) rest in
    let form = chosen-form t s.before h.form k.form h.is_form k.is_form u v rest choice fronts.0 h.in_caps_run k.in_caps_run in
    let step = one-step t s x y h.form k.form h.dues k.dues form h.left k.left h.step k.step in
    let more = one-path t choosing translating known x.next y.next (ap (λ (z : Step DuesState). z.next) step) path other p.1 q.1 fronts.1 in
    ap (λ z. z ∷ path) step ∙ ap (λ l. y ∷ l) more

pub exact : (t : TableView) → Choosing t → Translating t → AreKnown t → IsExact (dues_machine t)
exact t choosing translating known = record {
  text = λ path p. (path-Gives t choosing translating known (dues_machine t).start path p).text;
  translates = λ path p. (path-Gives t choosing translating known (dues_machine t).start path p).cells ∙ sym (translating.whole (reads_of path));
  one_path = λ path other p q e. one-path t choosing translating known (dues_machine t).start (dues_machine t).start refl path other p q e;
}
