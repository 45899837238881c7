-- What carried dues leave, appended one by one to the dues found so far.
use Rattle.std.proofs.Common.{◌≡◌, ℕ, suc, ◌+◌, ◌-◌, ◌<◌, ◌≤◌, Bool, true, false, ◌&&◌, List, [], ◌∷◌, ◌++◌, length, take, drop, get_or, map, refl, sym, ap, ap₂, ◌∙◌, subst, append_assoc, append-nil, arith, drop-cons, drop_of_length-le, length-drop}
use Rattle.std.proofs.lemmas.List.{map-append, take-append-drop, take_all, take_more}
use Rattle.std.proofs.lemmas.Grind.{flat_map-append}
use Rattle.std.proofs.lemmas.List.Folds.{list_all-append}
use Rattle.std.specs.List.{flat_map, list_all}
use Rattle.brl_rules.specs.declared.place.Cond.{Cond}
use Rattle.brl_rules.specs.TableView.{TableView}
use Rattle.brl_dues.specs.declared.carry.Carried.{Carried}
use Rattle.brl_dues.specs.declared.carry.Carried.TheVariants.{Left}
use Rattle.brl_states.specs.declared.due.Due.{Due}
use Rattle.brl_states.specs.declared.due.Due.TheVariants.{Bar}
use Rattle.brl_dues.specs.Adding.{Adds}
use Rattle.brl_dues.specs.Capitals.{choices}
use Rattle.brl_dues.specs.Carry.{carry_capitals, is_whole, left_of, lefts}

-- none of these is broken, and what they leave is appended
pub record HasAdded (carried : List Carried) (old new : List Due) : Type 0 where
  pub whole : list_all is_whole carried ≡ true
  pub found : new ≡ old ++ lefts carried

pub has-none : (old : List Due) → HasAdded [] old old
has-none old = record { whole = refl; found = sym (append-nil old) }

module _ {X : Type 0} (g : X → Carried) (xs : List X) (i : ℕ) where
  one-more : (d : X) (c : Carried) → i < length xs → c ≡ g (get_or xs i d) → map g (take (i + 1) xs) ≡ map g (take i xs) ++ c ∷ []
  one-more d c h e = ap (map g) (take_more xs i d h) ∙ map-append g (take i xs) (get_or xs i d ∷ []) ∙ ap (λ y. map g (take i xs) ++ y ∷ []) (sym e)

  pub has-more : (d : X) (c : Carried) (w : Bool) (old now new : List Due) → i < length xs → c ≡ g (get_or xs i d) → HasAdded (map g (take i xs)) old now
      → Adds (c ∷ []) now new w → w ≡ true → HasAdded (map g (take (i + 1) xs)) old new
  has-more d c w old now new h e had adds t =
      let cs = map g (take i xs) in
      subst (λ l. HasAdded l old new) (sym (one-more d c h e)) (record {
        whole = list_all-append is_whole cs (c ∷ []) ∙ ap₂ (λ a b. a && b) had.whole (sym adds.whole_is ∙ t);
        found =
            adds.found t ∙ ap (λ l. l ++ lefts (c ∷ [])) had.found ∙ append_assoc old (lefts cs) (lefts (c ∷ []))
            ∙ ap (λ l. old ++ l) (sym (flat_map-append left_of cs (c ∷ [])));
      })

  pub adds-broken : (d : X) (c : Carried) (w : Bool) (old now new out : List Due) → i < length xs → c ≡ g (get_or xs i d) → HasAdded (map g (take i xs)) old now
      → Adds (c ∷ []) now new w → w ≡ false → Adds (map g xs) old out false
  adds-broken d c w old now new out h e had adds f =
      let cs = map g (take i xs) in
      let broken : list_all is_whole (map g (take (i + 1) xs)) ≡ false =
      ap (list_all is_whole) (one-more d c h e) ∙ list_all-append is_whole cs (c ∷ []) ∙ ap₂ (λ a b. a && b) had.whole (sym adds.whole_is ∙ f) in
      let all : map g xs ≡ map g (take (i + 1) xs) ++ map g (drop (i + 1) xs) =
      ap (map g) (sym (take-append-drop (i + 1) xs)) ∙ map-append g (take (i + 1) xs) (drop (i + 1) xs) in
      record {
        whole_is = sym (ap (list_all is_whole) all ∙ list_all-append is_whole (map g (take (i + 1) xs)) (map g (drop (i + 1) xs)) ∙ ap (λ b. b && list_all is_whole (map g (drop (i + 1) xs))) broken);
        found = λ t. cc;
      }

  pub adds-all : (old new : List Due) → length xs ≤ i → HasAdded (map g (take i xs)) old new → Adds (map g xs) old new true
  adds-all old new h had =
      let e : map g (take i xs) ≡ map g xs = ap (map g) (take_all i xs h) in
      record { whole_is = sym had.whole ∙ ap (list_all is_whole) e; found = λ _. had.found ∙ ap (λ l. old ++ lefts l) e }

-- the same, where each element carries several
module _ {X : Type 0} (g : X → List Carried) (xs : List X) (i : ℕ) where
  lists-one : (d : X) → i < length xs → flat_map g (take (i + 1) xs) ≡ flat_map g (take i xs) ++ g (get_or xs i d)
  lists-one d h = ap (flat_map g) (take_more xs i d h) ∙ flat_map-append g (take i xs) (get_or xs i d ∷ []) ∙ ap (λ y. flat_map g (take i xs) ++ y) (append-nil (g (get_or xs i d)))

  pub lists-more : (d : X) (cs : List Carried) (w : Bool) (old now new : List Due) → i < length xs → cs ≡ g (get_or xs i d) → HasAdded (flat_map g (take i xs)) old now
      → Adds cs now new w → w ≡ true → HasAdded (flat_map g (take (i + 1) xs)) old new
  lists-more d cs w old now new h e had adds t =
      let before = flat_map g (take i xs) in
      subst (λ l. HasAdded l old new) (sym (lists-one d h ∙ ap (λ y. before ++ y) (sym e))) (record {
        whole = list_all-append is_whole before cs ∙ ap₂ (λ a b. a && b) had.whole (sym adds.whole_is ∙ t);
        found =
            adds.found t ∙ ap (λ l. l ++ lefts cs) had.found ∙ append_assoc old (lefts before) (lefts cs)
            ∙ ap (λ l. old ++ l) (sym (flat_map-append left_of before cs));
      })

  pub lists-broken : (d : X) (cs : List Carried) (w : Bool) (old now new out : List Due) → i < length xs → cs ≡ g (get_or xs i d) → HasAdded (flat_map g (take i xs)) old now
      → Adds cs now new w → w ≡ false → Adds (flat_map g xs) old out false
  lists-broken d cs w old now new out h e had adds f =
      let before = flat_map g (take i xs) in
      let after = flat_map g (drop (i + 1) xs) in
      let broken : list_all is_whole (flat_map g (take (i + 1) xs)) ≡ false =
      ap (list_all is_whole) (lists-one d h ∙ ap (λ y. before ++ y) (sym e)) ∙ list_all-append is_whole before cs ∙ ap₂ (λ a b. a && b) had.whole (sym adds.whole_is ∙ f) in
      let all : flat_map g xs ≡ flat_map g (take (i + 1) xs) ++ after =
      ap (flat_map g) (sym (take-append-drop (i + 1) xs)) ∙ flat_map-append g (take (i + 1) xs) (drop (i + 1) xs) in
      record {
        whole_is = sym (ap (list_all is_whole) all ∙ list_all-append is_whole (flat_map g (take (i + 1) xs)) after ∙ ap (λ b. b && list_all is_whole after) broken);
        found = λ t. cc;
      }

  pub lists-all : (old new : List Due) → length xs ≤ i → HasAdded (flat_map g (take i xs)) old new → Adds (flat_map g xs) old new true
  lists-all old new h had =
      let e : flat_map g (take i xs) ≡ flat_map g xs = ap (flat_map g) (take_all i xs h) in
      record { whole_is = sym had.whole ∙ ap (list_all is_whole) e; found = λ _. had.found ∙ ap (λ l. old ++ lefts l) e }

-- ---- Bars in a run of capitals

-- the due that bars this text, followed by a character that meets the condition
abbrev pub barred : Cond → List ℕ → Carried
barred cond text = Left (Bar text cond)

barred-whole : (c : Cond) (texts : List (List ℕ)) → list_all is_whole (map (barred c) texts) ≡ true
barred-whole c [] = refl
barred-whole c (text ∷ texts) = barred-whole c texts

barred-lefts : (c : Cond) (texts : List (List ℕ)) → lefts (map (barred c) texts) ≡ map (λ text. Bar text c) texts
barred-lefts c [] = refl
barred-lefts c (text ∷ texts) = ap (λ l. Bar text c ∷ l) (barred-lefts c texts)

pub barred-Adds : (c : Cond) (texts : List (List ℕ)) (old new : List Due) → new ≡ old ++ map (λ text. Bar text c) texts → Adds (map (barred c) texts) old new true
barred-Adds c texts old new e = record { whole_is = sym (barred-whole c texts); found = λ _. e ∙ ap (λ l. old ++ l) (sym (barred-lefts c texts)) }

-- what is left of the bars of a rule in a run of capitals whose characters weren't all read
pub rest-barred : (t : TableView) (past chars : List ℕ) (c : Cond) (i shared : ℕ) → carry_capitals t past chars c ≡ carry_capitals t (drop i past) (drop i chars) c → i ≡ shared
    → length past ≤ shared → shared < length chars → carry_capitals t past chars c ≡ map (barred c) (choices t (take (length chars - shared) (drop shared chars)))
rest-barred t past chars c i shared e is done more =
    let rest : drop shared chars ≡ get_or chars shared 0 ∷ drop (suc shared) chars = drop-cons chars shared 0 more in
    e ∙ ap (λ k. carry_capitals t (drop k past) (drop k chars) c) is
    ∙ ap₂ (λ a b. carry_capitals t a b c) (drop_of_length-le past done) rest
    ∙ ap (λ l. map (barred c) (choices t l)) (sym rest ∙ sym (take_all (length chars - shared) (drop shared chars) (let n = length-drop shared chars in omega (arith, n))))
