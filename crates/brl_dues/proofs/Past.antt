-- Dues carried past characters, and then past more: what is left is what is left past all of them.
use Rattle.std.proofs.Common.{◌≡◌, ℕ, Bool, true, false, not, ◌&&◌, List, [], ◌∷◌, ◌++◌, Some, None, map, refl, sym, ap, ap₂, ◌∙◌, cond, nat_eq, append-nil}
use Rattle.std.specs.List.{list_all}
use Rattle.std.specs.Option.{option_map_or}
use Rattle.std.proofs.lemmas.Grind.{flat_map-append}
use Rattle.std.proofs.lemmas.List.Folds.{list_all-append}
use Rattle.brl_rules.specs.declared.place.Cond.{Cond}
use Rattle.brl_rules.specs.declared.place.Cond.TheVariants.{Any, Meets, Avoids}
use Rattle.brl_rules.specs.Places.{holds, share}
use Rattle.brl_rules.specs.TableView.{TableView}
use Rattle.brl_rules.specs.Text.{classes_of}
use Rattle.brl_dues.specs.declared.carry.Carried.{Carried}
use Rattle.brl_dues.specs.declared.carry.Carried.TheVariants.{Broken, Settled, Left}
use Rattle.brl_states.specs.declared.due.Due.{Due}
use Rattle.brl_states.specs.declared.due.Due.TheVariants.{Need, Bar}
use Rattle.brl_dues.specs.Adding.{Adds}
use Rattle.brl_dues.specs.Carry.{carry, carry_bar, is_whole, left_of, lefts, opposed, settled_if}
use Rattle.brl_dues.specs.Letters.{left_past}
use Rattle.brl_dues.proofs.Carrying.{not_not}

-- ---- One due

-- what is left of what is left, after more characters
abbrev further_on : TableView → List ℕ → Carried → Carried
further_on t more Broken = Broken
further_on t more Settled = Settled
further_on t more (Left due) = carry t more due

module _ (t : TableView) (more : List ℕ) where
  settled-on : (b : Bool) → settled_if b ≡ further_on t more (settled_if b)
  settled-on true = refl
  settled-on false = refl

  either-on : (b : Bool) (x y : Carried) → x ≡ further_on t more y → cond b x Settled ≡ further_on t more (cond b y Settled)
  either-on true x y e = e
  either-on false x y e = refl

opposed-on : (t : TableView) (more : List ℕ) (c : Cond) → carry_bar t more [] c ≡ further_on t more (opposed c)
opposed-on t [] Any = refl
opposed-on t (b ∷ more) Any = refl
opposed-on t [] (Meets set) = refl
opposed-on t (b ∷ more) (Meets set) = refl
opposed-on t [] (Avoids set) = refl
opposed-on t (b ∷ more) (Avoids set) = ap settled_if (not_not (share (classes_of t b) set))

carry_bar-on : (t : TableView) (past more chars : List ℕ) (c : Cond) → carry_bar t (past ++ more) chars c ≡ further_on t more (carry_bar t past chars c)
carry_bar-on t [] more [] c = opposed-on t more c
carry_bar-on t [] more (a ∷ chars) c = refl
carry_bar-on t (b ∷ past) more [] c = settled-on t more (not (holds c (classes_of t b)))
carry_bar-on t (b ∷ past) more (a ∷ chars) c =
    either-on t more (nat_eq a b) (carry_bar t (past ++ more) chars c) (carry_bar t past chars c) (carry_bar-on t past more chars c)

-- a due carried past some characters, and what is left of it past more
carry-on : (t : TableView) (past more : List ℕ) (d : Due) → carry t (past ++ more) d ≡ further_on t more (carry t past d)
carry-on t [] more (Need c) = refl
carry-on t (b ∷ past) more (Need c) = settled-on t more (holds c (classes_of t b))
carry-on t past more (Bar [] c) = refl
carry-on t past more (Bar (a ∷ chars) c) = carry_bar-on t past more (a ∷ chars) c

-- ---- All dues

module _ (t : TableView) (more : List ℕ) where
  -- whether what is left of these isn't broken, after more characters
  abbrev whole_on : List Carried → Bool
  whole_on carried = list_all is_whole (map (carry t more) (lefts carried))

  abbrev lefts_on : List Carried → List Due
  lefts_on carried = lefts (map (carry t more) (lefts carried))

  one-whole : (k : Carried) → is_whole (further_on t more k) ≡ (is_whole k && whole_on (k ∷ []))
  one-whole Broken = refl
  one-whole Settled = refl
  one-whole (Left due) = at (is_whole (carry t more due))
    where
      at : (b : Bool) → b ≡ (true && (b && true))
      at true = refl
      at false = refl

  one-left : (k : Carried) → left_of (further_on t more k) ≡ lefts_on (k ∷ [])
  one-left Broken = refl
  one-left Settled = refl
  one-left (Left due) = sym (append-nil (left_of (carry t more due)))

  lefts-more : (k : Carried) (carried : List Carried) → map (carry t more) (lefts (k ∷ carried)) ≡ map (carry t more) (lefts (k ∷ [])) ++ map (carry t more) (lefts carried)
  lefts-more Broken carried = refl
  lefts-more Settled carried = refl
  lefts-more (Left due) carried = refl

  joined : (a b c d : Bool) → ((a && b) && (c && d)) ≡ ((a && c) && (b && d))
  joined true true c d = refl
  joined true false true d = refl
  joined true false false d = refl
  joined false b c d = refl

  all-whole : (carried : List Carried) → list_all is_whole (map (further_on t more) carried) ≡ (list_all is_whole carried && whole_on carried)
  all-whole [] = refl
  all-whole (k ∷ carried) =
      ap₂ (λ a b. a && b) (one-whole k) (all-whole carried)
      ∙ joined (is_whole k) (whole_on (k ∷ [])) (list_all is_whole carried) (whole_on carried)
      ∙ ap (λ b. (is_whole k && list_all is_whole carried) && b)
      (sym (ap (list_all is_whole) (lefts-more k carried) ∙ list_all-append is_whole (map (carry t more) (lefts (k ∷ []))) (map (carry t more) (lefts carried))))

  all-lefts : (carried : List Carried) → lefts (map (further_on t more) carried) ≡ lefts_on carried
  all-lefts [] = refl
  all-lefts (k ∷ carried) =
      ap₂ (λ a b. a ++ b) (one-left k) (all-lefts carried)
      ∙ sym (ap lefts (lefts-more k carried) ∙ flat_map-append left_of (map (carry t more) (lefts (k ∷ []))) (map (carry t more) (lefts carried)))

carried-on : (t : TableView) (past more : List ℕ) (dues : List Due) → map (carry t (past ++ more)) dues ≡ map (further_on t more) (map (carry t past) dues)
carried-on t past more [] = refl
carried-on t past more (d ∷ dues) = ap₂ (λ a b. a ∷ b) (carry-on t past more d) (carried-on t past more dues)

-- carrying past some characters and then past more is carrying past all of them
pub left_past-append : (t : TableView) (past more : List ℕ) (dues : List Due) → left_past t (past ++ more) dues ≡ option_map_or (left_past t more) (left_past t past dues) None
left_past-append t past more dues =
    let carried = map (carry t past) dues in
    ap (λ l. cond (list_all is_whole l) (Some (lefts l)) None) (carried-on t past more dues)
    ∙ ap₂ (λ b l. cond b (Some l) None) (all-whole t more carried) (all-lefts t more carried)
    ∙ at (list_all is_whole carried) (whole_on t more carried) (lefts_on t more carried) (lefts carried) refl
  where
    at : (a b : Bool) (on left : List Due) → cond b (Some on) None ≡ left_past t more left → cond (a && b) (Some on) None ≡ option_map_or (left_past t more) (cond a (Some left) None) None
    at true b on left e = e
    at false b on left e = refl

-- ---- Found one by one

pub broken-past : (t : TableView) (past : List ℕ) (dues new : List Due) → Adds (map (carry t past) dues) [] new false → None ≡ left_past t past dues
broken-past t past dues new h = ap (λ b. cond b (Some (lefts (map (carry t past) dues))) None) h.whole_is

pub whole-past : (t : TableView) (past : List ℕ) (dues new : List Due) → Adds (map (carry t past) dues) [] new true → Some new ≡ left_past t past dues
whole-past t past dues new h = ap Some (h.found refl) ∙ ap (λ b. cond b (Some (lefts (map (carry t past) dues))) None) h.whole_is
