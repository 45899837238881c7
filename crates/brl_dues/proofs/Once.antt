-- Steps are good, each is listed once, and they ascend by rule number.
use Rattle.std.proofs.Common.{◌≡◌, ◌≢◌, ℕ, zero, suc, ◌+◌, ◌*◌, ◌<◌, ◌≤◌, Bool, true, false, List, [], ◌∷◌, ◌++◌, Option, Some, None, length, map, take, refl, sym, ap, ◌∙◌, subst, cond, nat_eq, inl, inr, arith, length-append}
use Rattle.std.specs.Prelude.{slice_get}
use Rattle.std.specs.Option.{option_map_or}
use Rattle.std.specs.List.{AllByRecursion, flat_map}
use Rattle.std.specs.Map.{keys_of, lookup}
use Rattle.std.proofs.lemmas.Bool.{eq-eqb, eqb-true}
use Rattle.brl_pairs.specs.declared.step.Step.{Step}
use Rattle.brl_pairs.specs.Runs.{IsGoodStep, IsInOrder, IsListed}
use Rattle.brl_rules.specs.declared.class.Class.{Class}
use Rattle.brl_rules.specs.declared.context.Context.{Context}
use Rattle.brl_rules.specs.declared.rule.Info.{Info}
use Rattle.brl_rules.specs.declared.rule.Rule.{Rule}
use Rattle.brl_rules.specs.Choice.{own}
use Rattle.brl_rules.specs.Indicators.{is_used, sign_order, indicators_before, indicators_of, used_cells}
use Rattle.brl_rules.specs.Infos.{first_info}
use Rattle.brl_rules.specs.Places.{before_of, holds}
use Rattle.brl_rules.specs.declared.signs.Sign.{Sign}
use Rattle.brl_rules.specs.TableView.{TableView, indicator_cells}
use Rattle.brl_states.specs.declared.due.Due.{Due}
use Rattle.brl_states.specs.declared.dues_state.DuesState.{DuesState}
use Rattle.brl_dues.specs.Capitals.{letters}
use Rattle.brl_dues.specs.CaseForm.{CaseForm, IsForm, cased_if, groups, groups_from, groups_of, own_forms}
use Rattle.brl_states.specs.DuesContext.{context_of}
use Rattle.brl_dues.specs.Steps.{dues_steps, group_steps, next_dues, step_of, steps_of}
use Rattle.brl_dues.proofs.Forms.{from-cased_if, from-group, from-groups_from, from-groups_of, from-own_forms, from-step_if, listed-IsStep}
use Rattle.brl_states.proofs.Kept.{Keeps}
use Rattle.brl_states.proofs.Pairwise.{Pairwise, append-Pairwise, at-Pairwise, flat_map-Pairwise, map-Pairwise, Pairwise-at, weaken-Pairwise}
use Rattle.brl_dues.proofs.Repeats.{with_steps-differ}
use Rattle.brl_dues.proofs.Taking.{ReadsSome, form-ReadsSome}
use Rattle.brl_pairs.proofs.Listing.{IsIn, in-append, from-map}
use Rattle.brl_rules.proofs.CellCounts.{Within, found-cells}

-- ---- Once

-- of two forms the later one has no lower number, and where it has the same it reads other
-- characters
pub record Later (f g : CaseForm) : Type 0 where
  pub ascend : f.number ≤ g.number
  pub differ : f.number ≡ g.number → f.reads ≢ g.reads

lower-Later : (f g : CaseForm) → f.number < g.number → Later f g
lower-Later f g h = record { ascend = omega (arith, h); differ = λ e _. absurd (omega (arith, h, e)) }

-- the same of any two forms of two groups
abbrev LaterGroup : List CaseForm → List CaseForm → Type 0
LaterGroup group later = (f g : CaseForm) → IsIn f group → IsIn g later → Later f g

-- all forms of a group have one number
abbrev HasNumber : ℕ → List CaseForm → Type 0
HasNumber number group = (f : CaseForm) → IsIn f group → f.number ≡ number

module _ (t : TableView) (before : Class) where
  cased-Later : (above : List Rule) (r : Rule) (chars : List ℕ) (c d : ℕ) → c ≢ d → LaterGroup (cased_if t before above r chars c) (cased_if t before above r chars d)
  cased-Later above r chars c d other f g i j =
      let v = from-cased_if t before above r chars c f i in
      let w = from-cased_if t before above r chars d g j in
      let same : f.number ≡ g.number = ap (λ (x : CaseForm). x.number) v.is ∙ sym (ap (λ (x : CaseForm). x.number) w.is) in
      record {
        ascend = omega (arith, same);
        differ = λ _ e. (
            let both : c ∷ v.others ≡ d ∷ w.others = sym (ap (λ (x : CaseForm). x.reads) v.is) ∙ e ∙ ap (λ (x : CaseForm). x.reads) w.is in
            let first : c ≡ d = cc in
            other first);
      }

  groups_of-once : Pairwise (λ a b. a ≢ b) (letters t) → (above : List Rule) (r : Rule) → Pairwise LaterGroup (groups_of t before above r)
  groups_of-once single above r = at (holds (before_of r.place) before)
    where
      at : (b : Bool) → Pairwise LaterGroup (cond b (map (cased_if t before above r r.chars) (letters t)) [])
      at true = map-Pairwise (λ a b. a ≢ b) LaterGroup (cased_if t before above r r.chars) (letters t) single (λ c d other. cased-Later above r r.chars c d other)
      at false = tt

  number-above : (above : List Rule) (r : Rule) (g : List CaseForm) → IsIn g (groups_of t before above r) → HasNumber (length above) g
  number-above above r g h f i = ap (λ (x : CaseForm). x.number) (from-groups_of t before above r g f h i).case.is

  -- the number of the forms of a group of the rules
  group-number : (above rules : List Rule) (g : List CaseForm) → IsIn g (groups_from t before above rules) → (n : ℕ) × HasNumber n g × (length above ≤ n) × (n < length above + length rules)
  group-number above [] g h = absurd h
  group-number above (r ∷ rules) g h =
      let m = from-groups_from t before above (r ∷ rules) g h in
      let front = above ++ take m.place (r ∷ rules) in
      let n = length-append above (take m.place (r ∷ rules)) in
      let less = fewer (r ∷ rules) m.place m.rule m.there in
      (length front, number-above front m.rule g m.one, omega (arith, n), omega (arith, n, less))
    where
      fewer : (rs : List Rule) (k : ℕ) (q : Rule) → slice_get rs k ≡ Some q → length (take k rs) < length rs
      fewer [] k q e = cc
      fewer (x ∷ rs) zero q e = omega arith
      fewer (x ∷ rs) (suc k) q e = (let more = fewer rs k q e in omega (arith, more))

  groups_from-once : Pairwise (λ a b. a ≢ b) (letters t) → (above rules : List Rule) → Pairwise LaterGroup (groups_from t before above rules)
  groups_from-once single above [] = tt
  groups_from-once single above (r ∷ rules) =
      append-Pairwise LaterGroup (groups_of t before above r) (groups_from t before (above ++ r ∷ []) rules) (groups_of-once single above r) (groups_from-once single (above ++ r ∷ []) rules)
      (λ group later i j f g k l. (
      let n = number-above above r group i f k in
      let m = group-number (above ++ r ∷ []) rules later j in
      let e = m.1 g l in
      let high = m.2 in
      lower-Later f g (omega (arith, n, e, high, length-append above (r ∷ [])))))

-- ---- Own definitions

key-there : (es : List (ℕ × Info)) (i c : ℕ) → slice_get (keys_of es) i ≡ Some c → (e : ℕ × Info) × (slice_get es i ≡ Some e) × (c ≡ e.0)
key-there [] i c h = cc
key-there (e ∷ es) zero c h = (e, refl, (let same : e.0 ≡ c = cc in sym same))
key-there (e ∷ es) (suc i) c h = key-there es i c h

pub there-key : (es : List (ℕ × Info)) (i : ℕ) (e : ℕ × Info) → slice_get es i ≡ Some e → slice_get (keys_of es) i ≡ Some e.0
there-key [] i e h = cc
there-key (x ∷ es) zero e h = (let same : x ≡ e = cc in ap (λ (y : ℕ × Info). Some y.0) same)
there-key (x ∷ es) (suc i) e h = there-key es i e h

lookup-there : (es : List (ℕ × Info)) → Pairwise (λ a b. a ≢ b) (keys_of es) → (i : ℕ) (e : ℕ × Info) → slice_get es i ≡ Some e → lookup (nat_eq e.0) es ≡ Some e.1
lookup-there [] single i e h = cc
lookup-there (x ∷ es) single zero e h =
    let same : x ≡ e = cc in
    ap (λ b. cond b (Some x.1) (lookup (nat_eq e.0) es)) (eq-eqb e.0 x.0 (ap (λ (y : ℕ × Info). y.0) (sym same))) ∙ ap (λ (y : ℕ × Info). Some y.1) same
lookup-there (x ∷ es) single (suc i) e h =
    at (nat_eq e.0 x.0) refl (lookup-there es single.1 i e h)
  where
    other : x.0 ≢ e.0
    other = Pairwise-at (λ a b. a ≢ b) (keys_of (x ∷ es)) single 0 (suc i) x.0 e.0 (omega arith) refl (there-key es i e h)

    at : (b : Bool) → nat_eq e.0 x.0 ≡ b → lookup (nat_eq e.0) es ≡ Some e.1 → cond b (Some x.1) (lookup (nat_eq e.0) es) ≡ Some e.1
    at true q more = absurd (other (sym (eqb-true e.0 x.0 q)))
    at false q more = more

own-number : (t : TableView) → Keeps t → (i c : ℕ) → slice_get (letters t) i ≡ Some c → (own t (c ∷ [])).number ≡ length t.rules + i
own-number t keeps i c h =
    let w = key-there t.characters i c h in
    ap (λ x. length t.rules + option_map_or (λ (info : Info). info.number) (lookup (nat_eq x) t.characters) 0) w.2
    ∙ ap (λ o. length t.rules + option_map_or (λ (info : Info). info.number) o 0) (lookup-there t.characters keeps.single i w.0 w.1)
    ∙ ap (λ n. length t.rules + n) (keeps.numbered i w.0 w.1)

own-has-number : (t : TableView) (before : Class) (c : ℕ) → HasNumber (own t (c ∷ [])).number (own_forms t before c)
own-has-number t before c f i = ap (λ (x : CaseForm). x.number) (from-own_forms t before c f i).3

own-once : (t : TableView) → Keeps t → (before : Class) → Pairwise LaterGroup (map (own_forms t before) (letters t))
own-once t keeps before =
    map-Pairwise (λ c d. (own t (c ∷ [])).number < (own t (d ∷ [])).number) LaterGroup (own_forms t before) (letters t)
    (at-Pairwise (λ c d. (own t (c ∷ [])).number < (own t (d ∷ [])).number) (letters t)
    (λ i j c d less p q. (let n = own-number t keeps i c p in let m = own-number t keeps j d q in omega (arith, n, m, less))))
    (λ c d h f g i j. (let n = own-has-number t before c f i in let m = own-has-number t before d g j in lower-Later f g (omega (arith, n, m, h))))

groups-once : (t : TableView) → Keeps t → (before : Class) → Pairwise LaterGroup (groups t before)
groups-once t keeps before =
    append-Pairwise LaterGroup (groups_from t before [] t.rules) (map (own_forms t before) (letters t)) (groups_from-once t before keeps.single [] t.rules) (own-once t keeps before)
    (λ group later i j f g k l. (
    let low = group-number t before [] t.rules group i in
    let n = low.1 f k in
    let under = low.3 in
    let m = from-map (own_forms t before) later (letters t) j in
    let high = own-has-number t before m.0 g (subst (IsIn g) m.2 l) in
    lower-Later f g (omega (arith, n, under, high))))

-- the forms of each group have one number
one-number : (t : TableView) (before : Class) (group : List CaseForm) → IsIn group (groups t before) → (n : ℕ) × HasNumber n group
one-number t before group h = elim (in-append group (groups_from t before [] t.rules) (map (own_forms t before) (letters t)) h) [
  | inl k ↦ (let m = group-number t before [] t.rules group k in (m.0, m.1))
  | inr k ↦ (
      let m = from-map (own_forms t before) group (letters t) k in
      ((own t (m.0 ∷ [])).number, subst (HasNumber (own t (m.0 ∷ [])).number) (sym m.2) (own-has-number t before m.0)))
]

-- ---- Steps

record LaterStep (x y : Step DuesState) : Type 0 where
  ascend : x.rule ≤ y.rule
  differ : x ≢ y

-- the rule and the characters of a step of a group
record OfForm (group : List CaseForm) (x : Step DuesState) : Type 0 where
  form : CaseForm
  inside : IsIn form group
  rule : x.rule ≡ form.number
  reads : x.reads ≡ form.reads

of-form : (t : TableView) (s : DuesState) (group : List CaseForm) (x : Step DuesState) → IsIn x (group_steps t s group) → OfForm group x
of-form t s group x h =
    let k = from-group t s group x h in
    let w = from-step_if t s k.0 (next_dues t s k.0) x k.2 in
    record { form = k.0; inside = k.1; rule = ap (λ (z : Step DuesState). z.rule) w.2; reads = ap (λ (z : Step DuesState). z.reads) w.2 }

group-once : (t : TableView) (s : DuesState) (group : List CaseForm) → IsIn group (groups t s.before) → Pairwise LaterStep (group_steps t s group)
group-once t s group h =
    let n = one-number t s.before group h in
    weaken-Pairwise (λ a b. a ≢ b) LaterStep (group_steps t s group) (with_steps-differ [] (flat_map (steps_of t s) group) tt)
    (λ x y i j other. (
    let v = of-form t s group x i in
    let w = of-form t s group y j in
    let a = v.rule ∙ n.1 v.form v.inside in
    let b = w.rule ∙ n.1 w.form w.inside in
    record { ascend = omega (arith, a, b); differ = other }))

groups-Later : (t : TableView) (s : DuesState) (group later : List CaseForm) (x y : Step DuesState) → LaterGroup group later → IsIn x (group_steps t s group) → IsIn y (group_steps t s later) → LaterStep x y
groups-Later t s group later x y h i j =
    let v = of-form t s group x i in
    let w = of-form t s later y j in
    let k = h v.form w.form v.inside w.inside in
    let up = k.ascend in
    let a = v.rule in
    let b = w.rule in
    record {
      ascend = omega (arith, up, a, b);
      differ = λ e. k.differ (sym a ∙ ap (λ (z : Step DuesState). z.rule) e ∙ b) (sym v.reads ∙ ap (λ (z : Step DuesState). z.reads) e ∙ w.reads);
    }

pub in_order : (t : TableView) → Keeps t → (s : DuesState) → IsInOrder (dues_steps t s)
unfolding dues_steps
in_order t keeps s i j x y less p q =
    let all = flat_map-Pairwise LaterGroup LaterStep (group_steps t s) (groups t s.before) (groups-once t keeps s.before) (group-once t s) (groups-Later t s) in
    let k = Pairwise-at LaterStep (dues_steps t s) all i j x y less p q in
    record { differ = k.differ; ascend = k.ascend }

-- ---- Good steps

used-most : (t : TableView) (here : Context) (run : Bool) (info : Info) (sign : Sign) → Keeps t → length (used_cells t here run info sign) ≤ 16
used-most t here run info sign keeps = at (is_used t here run info sign) (keeps.signs_cells sign)
  where
    at : (b : Bool) → length (indicator_cells t sign) ≤ 16 → length (cond b (indicator_cells t sign) []) ≤ 16
    at true h = h
    at false h = omega arith

-- several indicators
many-most : (t : TableView) (here : Context) (run : Bool) (info : Info) (signs : List Sign) → Keeps t → length (flat_map (used_cells t here run info) signs) ≤ 16 * length signs
many-most t here run info [] keeps = omega arith
many-most t here run info (sign ∷ signs) keeps =
    let one = used-most t here run info sign keeps in
    let more = many-most t here run info signs keeps in
    let long = length-append (used_cells t here run info sign) (flat_map (used_cells t here run info) signs) in
    omega (arith, one, more, long)

signs-most : (t : TableView) (here : Context) (run : Bool) (rest : List ℕ) → Keeps t → length (indicators_before t here run rest) ≤ 80
signs-most t here run rest keeps = at (first_info t rest)
  where
    at : (o : Option Info) → length (option_map_or (indicators_of t here run) o []) ≤ 80
    at None = omega arith
    at (Some info) = (let most = many-most t here run info sign_order keeps in omega (arith, most))

rule-cells : (rules : List Rule) (k : ℕ) (r : Rule) → AllByRecursion (λ q. Within (length q.cells) 512) rules → slice_get rules k ≡ Some r → Within (length r.cells) 512
rule-cells [] k r h e = cc
rule-cells (q ∷ rules) zero r h e = (let same : q ≡ r = cc in subst (λ (x : Rule). Within (length x.cells) 512) same h.0)
rule-cells (q ∷ rules) (suc k) r h e = rule-cells rules k r h.1 e

form-cells : (t : TableView) → Keeps t → (before : Class) (f : CaseForm) → IsForm t before f → Within (length f.cells) 512
form-cells t keeps before f (inl h) = subst (λ l. Within (length l) 512) (sym h.cells) (rule-cells t.rules f.number h.rule keeps.rule_cells h.there)
form-cells t keeps before f (inr h) = subst (λ l. Within (length l) 512) (sym h.cells) (found-cells t.characters h.character keeps.own_cells h.defined)

good-form : (t : TableView) → Keeps t → (s : DuesState) (f : CaseForm) (dues : List Due) → ReadsSome t f → Within (length f.cells) 512 → IsGoodStep (step_of t s f dues)
good-form t keeps s f dues r cells =
    let signs = signs-most t (context_of s) f.run f.reads keeps in
    let long = length-append (indicators_before t (context_of s) f.run f.reads) f.cells in
    let read : length f.reads ≡ length (r.character ∷ r.others) = ap length r.reads in
    record {
      some_cells = omega (arith, long, cells.some);
      few_cells = omega (arith, long, cells.room, signs);
      some_reads = omega (arith, read);
    }

pub good_steps : (t : TableView) → Keeps t → (s : DuesState) (x : Step DuesState) → IsListed (dues_steps t s) x → IsGoodStep x
good_steps t keeps s x l =
    let h = listed-IsStep t s x l in
    subst IsGoodStep (sym h.step) (good-form t keeps s h.form h.dues (form-ReadsSome t s.before h.form h.is_form) (form-cells t keeps s.before h.form h.is_form))
