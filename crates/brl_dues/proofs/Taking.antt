-- A form that is taken where the rest meets what it asks for, and no rule ranked above fits, is the
-- table's choice there.
use Rattle.std.proofs.Common.{◌≡◌, ℕ, zero, suc, ◌<◌, Bool, true, false, not, ◌&&◌, List, [], ◌∷◌, ◌++◌, Some, length, map, take, drop, refl, sym, ap, ◌∙◌, subst, nat_eq, inl, inr, arith, eq-eqb}
use Rattle.std.proofs.lemmas.List.{length-map}
use Rattle.std.specs.Prelude.{slice_get}
use Rattle.std.specs.List.{list_all, starts_with}
use Rattle.std.specs.Cmp.{first_so, second_so}
use Rattle.std.proofs.lemmas.Bool.{not-true}
use Rattle.brl_rules.specs.declared.class.Class.{Class}
use Rattle.brl_rules.specs.declared.context.Context.{Context}
use Rattle.brl_rules.specs.declared.rule.Rule.{Rule}
use Rattle.brl_rules.specs.Choice.{Choice, by_rule, chosen, fits, folds_of_capitals, matches, own}
use Rattle.brl_rules.specs.Indicators.{indicators, indicators_before}
use Rattle.brl_rules.specs.Places.{holds, before_of, after_of}
use Rattle.brl_rules.specs.Position.{IsFirstThatFits}
use Rattle.brl_rules.specs.Rest.{translation_of_rest}
use Rattle.brl_rules.specs.TableView.{TableView}
use Rattle.brl_rules.specs.Text.{classes_at, context_after_all, fold_of, is_defined, is_in_caps_run}
use Rattle.brl_dues.specs.Capitals.{alike, is_upper}
use Rattle.brl_dues.specs.CaseForm.{CaseForm, IsForm, folded, may_read}
use Rattle.brl_dues.proofs.Carrying.{fits_in}
use Rattle.brl_dues.proofs.InCapsRun.{alike-true, folds-more, further-met, met_by}
use Rattle.brl_dues.proofs.StepLaw.{none_fits}
use Rattle.brl_rules.proofs.OneByOne.{Translating}

-- ---- The laws of a table's definitions

-- the chosen rule is the first in rank that fits, and the own definition where none does
pub record Choosing (t : TableView) : Type 0 where
  pub first : (before : Class) (rest : List ℕ) (place : ℕ) (r : Rule) → IsFirstThatFits t before rest place r → chosen t before rest ≡ by_rule place r
  pub none : (before : Class) (rest : List ℕ) → ((place : ℕ) (r : Rule) → slice_get t.rules place ≡ Some r → fits t before rest r ≡ false) → chosen t before rest ≡ own t rest

-- ---- None of the rules above

all-there : {X : Type 0} (p : X → Bool) (xs : List X) (k : ℕ) (x : X) → list_all p xs ≡ true → slice_get xs k ≡ Some x → p x ≡ true
all-there p [] k x h e = cc
all-there p (y ∷ ys) zero x h e = (let same : y ≡ x = cc in ap p (sym same) ∙ first_so (p y) (list_all p ys) h)
all-there p (y ∷ ys) (suc k) x h e = all-there p ys k x (second_so (p y) (list_all p ys) h) e

take-there : {X : Type 0} (xs : List X) (n k : ℕ) (x : X) → k < n → slice_get xs k ≡ Some x → slice_get (take n xs) k ≡ Some x
take-there [] n k x h e = cc
take-there (y ∷ ys) zero k x h e = absurd (omega (arith, h))
take-there (y ∷ ys) (suc n) zero x h e = e
take-there (y ∷ ys) (suc n) (suc k) x h e = take-there ys n k x (omega (arith, h)) e

-- ---- A form fits

classes-behind : (t : TableView) (past u : List ℕ) → classes_at t (past ++ u) (length past) ≡ classes_at t u 0
classes-behind t [] u = refl
classes-behind t (c ∷ past) u = classes-behind t past u

starts-itself : (past u : List ℕ) → starts_with nat_eq (past ++ u) past ≡ true
starts-itself [] u = refl
starts-itself (c ∷ past) u = ap (λ b. b && starts_with nat_eq (past ++ u) past) (eq-eqb c c refl) ∙ starts-itself past u

three : (m h a b : Bool) → m ≡ true → h ≡ true → a ≡ b → ((m && h) && a) ≡ b
three true true a b e f g = g
three true false a b e f g = cc
three false h a b e f g = cc

-- capitals begin with their own folds
folds-start : (t : TableView) (cs u : List ℕ) → list_all (is_upper t) cs ≡ true → starts_with nat_eq (folds_of_capitals t (cs ++ u)) (map (fold_of t) cs) ≡ true
folds-start t [] u h = refl
folds-start t (c ∷ cs) u h =
    ap (λ w. starts_with nat_eq w (fold_of t c ∷ map (fold_of t) cs)) (folds-more t c (cs ++ u) (first_so (is_upper t c) (list_all (is_upper t) cs) h))
    ∙ ap (λ b. b && starts_with nat_eq (folds_of_capitals t (cs ++ u)) (map (fold_of t) cs)) (eq-eqb (fold_of t c) (fold_of t c) refl)
    ∙ folds-start t cs u (second_so (is_upper t c) (list_all (is_upper t) cs) h)

matches-itself : (t : TableView) (run : Bool) (c : ℕ) (others u : List ℕ) → may_read t run others ≡ true → matches t run (c ∷ (others ++ u)) (folded t run c others) ≡ true
matches-itself t true c others u may =
    ap (λ b. b && starts_with nat_eq (folds_of_capitals t (others ++ u)) (map (fold_of t) others)) (eq-eqb (fold_of t c) (fold_of t c) refl)
    ∙ folds-start t others u may
matches-itself t false c others u may = ap (λ b. b && starts_with nat_eq (others ++ u) others) (eq-eqb (fold_of t c) (fold_of t c) refl) ∙ starts-itself others u

folded-length : (t : TableView) (run : Bool) (c : ℕ) (others : List ℕ) → length (folded t run c others) ≡ length (c ∷ others)
folded-length t true c others = ap suc (length-map others (fold_of t))
folded-length t false c others = refl

pub fits-form : (t : TableView) (before : Class) (run : Bool) (c : ℕ) (others u : List ℕ) (r : Rule) → may_read t run others ≡ true
    → r.chars ≡ folded t run c others → holds (before_of r.place) before ≡ true → fits_in t before run (c ∷ (others ++ u)) r ≡ holds (after_of r.place before) (classes_at t u 0)
fits-form t before run c others u r may e h =
    three (matches t run (c ∷ (others ++ u)) r.chars) (holds (before_of r.place) before) (holds (after_of r.place before) (classes_at t (c ∷ (others ++ u)) (length r.chars)))
    (holds (after_of r.place before) (classes_at t u 0))
    (ap (matches t run (c ∷ (others ++ u))) e ∙ matches-itself t run c others u may) h
    (ap (λ n. holds (after_of r.place before) (classes_at t (c ∷ (others ++ u)) n)) (ap length e ∙ folded-length t run c others)
    ∙ ap (holds (after_of r.place before)) (classes-behind t others u))

-- ---- The choice

-- what a form reads: a character of the table first
pub record ReadsSome (t : TableView) (f : CaseForm) : Type 0 where
  pub character : ℕ
  pub others : List ℕ
  pub reads : f.reads ≡ character ∷ others
  pub defined : is_defined t character ≡ true

pub form-ReadsSome : (t : TableView) (before : Class) (f : CaseForm) → IsForm t before f → ReadsSome t f
form-ReadsSome t before f (inl h) = record { character = h.character; others = h.others; reads = h.reads; defined = h.defined }
form-ReadsSome t before f (inr h) = record { character = h.character; others = []; reads = h.reads; defined = h.defined }

-- what a form asks to follow holds exactly where it is in a run of capitals, or out of one
pub form-agrees : (t : TableView) (before : Class) (f : CaseForm) → IsForm t before f → (u : List ℕ) → holds f.next (classes_at t u 0) ≡ alike f.run (is_in_caps_run t before (f.reads ++ u))
form-agrees t before f (inl h) u =
    ap (λ o. met_by o (classes_at t u 0)) (sym h.next) ∙ further-met t u before f.run h.character h.others ∙ ap (λ l. alike f.run (is_in_caps_run t before (l ++ u))) (sym h.reads)
form-agrees t before f (inr h) u =
    ap (λ o. met_by o (classes_at t u 0)) (sym h.next) ∙ further-met t u before f.run h.character [] ∙ ap (λ l. alike f.run (is_in_caps_run t before (l ++ u))) (sym h.reads)

pub form-in_caps_run : (t : TableView) (before : Class) (f : CaseForm) → IsForm t before f → (u : List ℕ) → holds f.next (classes_at t u 0) ≡ true → is_in_caps_run t before (f.reads ++ u) ≡ f.run
form-in_caps_run t before f is u h = alike-true f.run (is_in_caps_run t before (f.reads ++ u)) (sym (form-agrees t before f is u) ∙ h)

abbrev pub as_choice : CaseForm → Choice
as_choice f = record { number = f.number; taken = length f.reads; cells = f.cells }

pub form-chosen : (t : TableView) → Choosing t → (before : Class) (f : CaseForm) → IsForm t before f → (u : List ℕ) → holds f.after (classes_at t u 0) ≡ true
    → holds f.next (classes_at t u 0) ≡ true → none_fits t before (f.reads ++ u) f.above ≡ true → chosen t before (f.reads ++ u) ≡ as_choice f
form-chosen t law before f (inl h) u a x n =
    let rest = f.reads ++ u in
    let fitting : fits t before rest h.rule ≡ true =
    ap (λ run. fits_in t before run rest h.rule) (form-in_caps_run t before f (inl h) u x)
    ∙ ap (λ l. fits_in t before f.run (l ++ u) h.rule) h.reads
    ∙ fits-form t before f.run h.character h.others u h.rule h.may h.chars h.before_holds ∙ ap (λ c. holds c (classes_at t u 0)) (sym h.after) ∙ a in
    let none = λ (earlier : ℕ) (q : Rule) (lower : earlier < f.number) (is : slice_get t.rules earlier ≡ Some q).
    not-true (fits t before rest q)
    (all-there (λ r. not (fits t before rest r)) (take f.number t.rules) earlier q (ap (none_fits t before rest) (sym h.above) ∙ n) (take-there t.rules f.number earlier q lower is)) in
    let size : length h.rule.chars ≡ length f.reads = ap length h.chars ∙ folded-length t f.run h.character h.others ∙ sym (ap length h.reads) in
    law.first before rest f.number h.rule (record { there = h.there; fitting = fitting; none_earlier = none })
    ∙ (λ i. record { number = f.number; taken = size i; cells = sym h.cells i })
form-chosen t law before f (inr h) u a x n =
    let rest = f.reads ++ u in
    let none = λ (place : ℕ) (q : Rule) (is : slice_get t.rules place ≡ Some q).
    not-true (fits t before rest q) (all-there (λ r. not (fits t before rest r)) t.rules place q (ap (none_fits t before rest) (sym h.above) ∙ n) is) in
    law.none before rest none ∙ ap (λ l. own t (l ++ u)) h.reads
    ∙ (λ i. record { number = sym h.number i; taken = sym (ap length h.reads) i; cells = sym h.cells i })

-- ---- One form's cells

pub take-front : (xs ys : List ℕ) → take (length xs) (xs ++ ys) ≡ xs
take-front [] ys = refl
take-front (x ∷ xs) ys = ap (λ l. x ∷ l) (take-front xs ys)

pub drop-front : (xs ys : List ℕ) → drop (length xs) (xs ++ ys) ≡ ys
drop-front [] ys = refl
drop-front (x ∷ xs) ys = drop-front xs ys

pub signs-front : (t : TableView) (here : Context) (f : CaseForm) (u : List ℕ) → ReadsSome t f → is_in_caps_run t here.classes (f.reads ++ u) ≡ f.run
    → indicators t here (f.reads ++ u) ≡ indicators_before t here f.run f.reads
signs-front t here f u r e =
    ap (λ l. indicators t here (l ++ u)) r.reads
    ∙ ap (λ run. indicators_before t here run (r.character ∷ r.others)) (ap (λ l. is_in_caps_run t here.classes (l ++ u)) (sym r.reads) ∙ e)
    ∙ ap (indicators_before t here f.run) (sym r.reads)

some-rest : (t : TableView) (f : CaseForm) (u : List ℕ) → ReadsSome t f → 0 < length (f.reads ++ u)
some-rest t f u r = subst (λ l. 0 < length (l ++ u)) (sym r.reads) (omega arith)

-- the translation of what a form reads and a rest: the form's cells, and the translation of the
-- rest
pub form-translation : (t : TableView) → Translating t → (here : Context) (f : CaseForm) (u : List ℕ) → ReadsSome t f → is_in_caps_run t here.classes (f.reads ++ u) ≡ f.run
    → chosen t here.classes (f.reads ++ u) ≡ as_choice f
    → translation_of_rest t here (f.reads ++ u) ≡ (indicators_before t here f.run f.reads ++ f.cells) ++ translation_of_rest t (context_after_all t here f.reads) u
form-translation t law here f u r run e =
    let rest = f.reads ++ u in
    let behind = translation_of_rest t (context_after_all t here f.reads) u in
    law.rule here rest (some-rest t f u r)
    ∙ ap (λ (c : Choice). indicators t here rest ++ c.cells ++ translation_of_rest t (context_after_all t here (take c.taken rest)) (drop c.taken rest)) e
    ∙ ap (λ l. indicators t here rest ++ f.cells ++ translation_of_rest t (context_after_all t here l) (drop (length f.reads) rest)) (take-front f.reads u)
    ∙ ap (λ l. indicators t here rest ++ f.cells ++ translation_of_rest t (context_after_all t here f.reads) l) (drop-front f.reads u)
    ∙ ap (λ l. l ++ f.cells ++ behind) (signs-front t here f u r run)
