-- The choices of capitals for the characters of a rule: a rest begins with one of them exactly
-- where it begins with capitals whose folds are the characters.
use Rattle.std.proofs.Common.{◌≡◌, ℕ, Bool, true, false, not, ◌&&◌, ◌||◌, List, [], ◌∷◌, ◌++◌, Some, length, map, filter, refl, sym, ap, ap₂, ◌∙◌, cond, nat_eq, is_some}
use Rattle.std.specs.List.{flat_map, list_all, starts_with}
use Rattle.std.specs.Cmp.{first_so, second_so}
use Rattle.std.specs.Map.{keys_of, lookup}
use Rattle.std.proofs.lemmas.Bool.{eqb-true}
use Rattle.std.proofs.lemmas.List.Folds.{list_all-append}
use Rattle.brl_rules.specs.declared.place.Cond.{Cond}
use Rattle.brl_rules.specs.declared.rule.Info.{Info}
use Rattle.brl_rules.specs.Choice.{folds_of_capitals}
use Rattle.brl_rules.specs.Places.{holds}
use Rattle.brl_rules.specs.TableView.{TableView}
use Rattle.brl_rules.specs.Text.{classes_at, fold_of, is_defined}
use Rattle.brl_dues.specs.Capitals.{capitals, choices, is_upper, put_capital}
use Rattle.brl_dues.specs.Due.{goes_on}
use Rattle.brl_dues.proofs.InCapsRun.{folds-more, folds-none, upper-defined}
use Rattle.brl_rules.proofs.Facts.{and-false, nat_eq-sym}

pub starts-rest : (rest others : List ℕ) → starts_with nat_eq rest others ≡ true → (u : List ℕ) × (rest ≡ others ++ u)
starts-rest rest [] h = (rest, refl)
starts-rest [] (a ∷ others) h = cc
starts-rest (b ∷ rest) (a ∷ others) h =
    let more = starts-rest rest others (second_so (nat_eq a b) (starts_with nat_eq rest others) h) in
    let same : a ≡ b = eqb-true a b (first_so (nat_eq a b) (starts_with nat_eq rest others) h) in
    (more.0, ap (λ l. b ∷ l) more.1 ∙ ap (λ x. x ∷ (others ++ more.0)) (sym same))

pub and-true : (a : Bool) → (a && true) ≡ a
and-true true = refl
and-true false = refl

pub and-assoc : (a b c : Bool) → ((a && b) && c) ≡ (a && (b && c))
and-assoc true b c = refl
and-assoc false b c = refl

pub list_all-map : {X Y : Type 0} (p : Y → Bool) (q : X → Bool) (f : X → Y) → ((x : X) → p (f x) ≡ q x) → (xs : List X) → list_all p (map f xs) ≡ list_all q xs
list_all-map p q f h [] = refl
list_all-map p q f h (x ∷ xs) = ap₂ (λ a b. a && b) (h x) (list_all-map p q f h xs)

pub list_all-flat_map : {X Y : Type 0} (p : Y → Bool) (q : X → Bool) (f : X → List Y) → ((x : X) → list_all p (f x) ≡ q x) → (xs : List X) → list_all p (flat_map f xs) ≡ list_all q xs
list_all-flat_map p q f h [] = refl
list_all-flat_map p q f h (x ∷ xs) = list_all-append p (f x) (flat_map f xs) ∙ ap₂ (λ a b. a && b) (h x) (list_all-flat_map p q f h xs)

list_all-true : {X : Type 0} (xs : List X) → list_all (λ (x : X). true) xs ≡ true
list_all-true [] = refl
list_all-true (x ∷ xs) = list_all-true xs

module _ (t : TableView) (cond_after : Cond) where
  -- whether a rest begins with capitals whose folds are these characters, and goes on so
  abbrev pub caps_run_goes_on : List ℕ → List ℕ → Bool
  caps_run_goes_on rest chars = starts_with nat_eq (folds_of_capitals t rest) chars && holds cond_after (classes_at t rest (length chars))

  -- a test that fails of a text exactly where the rest goes on with it
  abbrev Tests : (List ℕ → Bool) → List ℕ → Type 0
  Tests test rest = (c : ℕ) (text : List ℕ) → test (c ∷ text) ≡ not (goes_on t rest (c ∷ text) cond_after)

  -- at the end of a text
  put-end : (test : List ℕ → Bool) → Tests test [] → (a : ℕ) (texts : List (List ℕ)) (cs : List ℕ) → list_all test (flat_map (put_capital t a texts) cs) ≡ true
  put-end test h a texts cs = list_all-flat_map test (λ c. true) (put_capital t a texts) (λ c. at c (nat_eq a (fold_of t c))) cs ∙ list_all-true cs
    where
      at : (c : ℕ) (b : Bool) → list_all test (cond b (map (λ text. c ∷ text) texts) []) ≡ true
      at c true = list_all-map test (λ text. true) (λ text. c ∷ text) (λ text. h c text) texts ∙ list_all-true texts
      at c false = refl

  module _ (test : List ℕ → Bool) (d : ℕ) (v : List ℕ) (h : Tests test (d ∷ v)) (a : ℕ) (texts : List (List ℕ)) where
    -- whether no text goes on after this character
    abbrev rest_passes : Bool
    rest_passes = list_all (λ text. not (goes_on t v text cond_after)) texts

    -- the texts of one capital
    put-one : (c : ℕ) → list_all test (map (λ text. c ∷ text) texts) ≡ (not (nat_eq c d) || rest_passes)
    put-one c = at (nat_eq c d) refl
      where
        at : (b : Bool) → nat_eq c d ≡ b → list_all test (map (λ text. c ∷ text) texts) ≡ (not b || rest_passes)
        at true e =
            list_all-map test (λ text. not (goes_on t v text cond_after)) (λ text. c ∷ text)
            (λ text. h c text ∙ ap (λ b. not ((b && starts_with nat_eq v text) && holds cond_after (classes_at t v (length text)))) e) texts
        at false e =
            list_all-map test (λ text. true) (λ text. c ∷ text)
            (λ text. h c text ∙ ap (λ b. not ((b && starts_with nat_eq v text) && holds cond_after (classes_at t v (length text)))) e) texts
            ∙ list_all-true texts

    -- whether this character is a capital that folds to the one that is asked for
    abbrev suits : ℕ → Bool
    suits c = is_upper t c && nat_eq a (fold_of t c)

    put-value : (c : ℕ) (b : Bool) → list_all test (cond b (map (λ text. c ∷ text) texts) []) ≡ cond b (not (nat_eq c d) || rest_passes) true
    put-value c true = put-one c
    put-value c false = refl

    cond-table : (k f n s r x : Bool) → (n ≡ true → x ≡ (k && f))
        → cond k (cond f (not n || r) true && (not (s && x) || r)) (not (s && x) || r) ≡ (not ((n || s) && x) || r)
    cond-table true true false s r x p = refl
    cond-table true false false s r x p = refl
    cond-table false f false s r x p = refl
    cond-table true true true s r false p = (let e : false ≡ true = p refl in cc)
    cond-table true true true true true true p = refl
    cond-table true true true false true true p = refl
    cond-table true true true s false true p = refl
    cond-table true false true s r true p = (let e : true ≡ false = p refl in cc)
    cond-table true false true true r false p = refl
    cond-table true false true false r false p = refl
    cond-table false f true s r true p = (let e : true ≡ false = p refl in cc)
    cond-table false f true true r false p = refl
    cond-table false f true false r false p = refl

    -- the texts of the capitals among these characters, with one more of them
    put-more : (c : ℕ) (cs : List ℕ) (s : Bool) → list_all test (flat_map (put_capital t a texts) (filter (is_upper t) cs)) ≡ (not (s && suits d) || rest_passes)
        → list_all test (flat_map (put_capital t a texts) (filter (is_upper t) (c ∷ cs))) ≡ (not ((nat_eq c d || s) && suits d) || rest_passes)
    put-more c cs s h =
        at (is_upper t c)
        ∙ ap (λ f. cond (is_upper t c) (cond (nat_eq a (fold_of t c)) (not (nat_eq c d) || rest_passes) true && f) f) h
        ∙ cond-table (is_upper t c) (nat_eq a (fold_of t c)) (nat_eq c d) s rest_passes (suits d) (λ e. ap suits (sym (eqb-true c d e)))
      where
        at : (k : Bool) → list_all test (flat_map (put_capital t a texts) (cond k (c ∷ filter (is_upper t) cs) (filter (is_upper t) cs)))
            ≡ cond k
            (cond (nat_eq a (fold_of t c)) (not (nat_eq c d) || rest_passes) true && list_all test (flat_map (put_capital t a texts) (filter (is_upper t) cs)))
            (list_all test (flat_map (put_capital t a texts) (filter (is_upper t) cs)))
        at true =
            list_all-append test (put_capital t a texts c) (flat_map (put_capital t a texts) (filter (is_upper t) cs))
            ∙ ap (λ b. b && list_all test (flat_map (put_capital t a texts) (filter (is_upper t) cs))) (put-value c (nat_eq a (fold_of t c)))
        at false = refl

    -- the texts of the capitals among these entries
    put-all : (es : List (ℕ × Info)) → list_all test (flat_map (put_capital t a texts) (filter (is_upper t) (keys_of es)))
        ≡ (not (is_some (lookup (nat_eq d) es) && suits d) || rest_passes)
    put-all [] = refl
    put-all (e ∷ es) =
        put-more e.0 (keys_of es) (is_some (lookup (nat_eq d) es)) (put-all es)
        ∙ ap (λ b. not (b && suits d) || rest_passes) (ap (λ n. n || is_some (lookup (nat_eq d) es)) (nat_eq-sym e.0 d) ∙ sym (is (nat_eq d e.0)))
      where
        is : (b : Bool) → is_some (cond b (Some e.1) (lookup (nat_eq d) es)) ≡ (b || is_some (lookup (nat_eq d) es))
        is true = refl
        is false = refl

  -- ---- All choices

  -- a test that fails of a choice exactly where the rest goes on with it
  pub choices-on : (a : ℕ) (chars : List ℕ) → ((v : List ℕ) → list_all (λ text. not (goes_on t v text cond_after)) (choices t chars) ≡ not (caps_run_goes_on v chars))
      → (rest : List ℕ) (test : List ℕ → Bool) → Tests test rest → list_all test (choices t (a ∷ chars)) ≡ not (caps_run_goes_on rest (a ∷ chars))
  choices-on a chars each [] test h = put-end test h a (choices t chars) (capitals t)
  choices-on a chars each (d ∷ v) test h =
      put-all test d v h a (choices t chars) t.characters ∙ at (is_upper t d) refl
    where
      passes : Bool
      passes = list_all (λ text. not (goes_on t v text cond_after)) (choices t chars)

      both : (f s g : Bool) → (not f || not (s && g)) ≡ not ((f && s) && g)
      both true s g = refl
      both false s g = refl

      at : (k : Bool) → is_upper t d ≡ k
          → (not (is_defined t d && (is_upper t d && nat_eq a (fold_of t d))) || passes) ≡ not (caps_run_goes_on (d ∷ v) (a ∷ chars))
      at true e =
          ap₂ (λ x k. not (x && (k && nat_eq a (fold_of t d))) || passes) (upper-defined t d e) e
          ∙ ap (λ r. not (nat_eq a (fold_of t d)) || r) (each v)
          ∙ both (nat_eq a (fold_of t d)) (starts_with nat_eq (folds_of_capitals t v) chars) (holds cond_after (classes_at t v (length chars)))
          ∙ ap (λ w. not (starts_with nat_eq w (a ∷ chars) && holds cond_after (classes_at t v (length chars)))) (sym (folds-more t d v e))
      at false e =
          ap (λ k. not (is_defined t d && (k && nat_eq a (fold_of t d))) || passes) e
          ∙ ap (λ b. not b || passes) (and-false (is_defined t d))
          ∙ ap (λ w. not (starts_with nat_eq w (a ∷ chars) && holds cond_after (classes_at t v (length chars)))) (sym (folds-none t d v e))

  pub choices-met : (chars rest : List ℕ) → list_all (λ text. not (goes_on t rest text cond_after)) (choices t chars) ≡ not (caps_run_goes_on rest chars)
  choices-met [] rest = and-true (not (goes_on t rest [] cond_after))
  choices-met (a ∷ chars) rest = choices-on a chars (choices-met chars) rest (λ text. not (goes_on t rest text cond_after)) (λ c text. refl)
