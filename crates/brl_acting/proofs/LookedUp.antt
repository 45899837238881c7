-- Places that are looked up in a set.
use Rattle.std.proofs.Common.{◌≡◌, ◌∙◌, ◌&&◌, ◌||◌, ◌+◌, ◌<◌, ◌∷◌, Bool, true, false, List, [], ℕ, ap, cond, get_or, length, map, refl, sym, take}
use Rattle.std.specs.Cmp.Lexicographic.{nat_list_eq_equiv}
use Rattle.std.proofs.lemmas.Cmp.{nat_eq_equiv}
use Rattle.std.proofs.lemmas.List.{map-append, take_more}
use Rattle.std.proofs.lemmas.List.Folds.{list_any-append}
use Rattle.brl_rules.proofs.Facts.{or-false}
use Rattle.brl_acting.specs.WholeTable.{Holds, has_place, is_key, is_place, place_view}
use Rattle.brl_acting.specs.declared.whole_table.Place.{Place}

place_sym : (x y : List ℕ × ℕ) → is_place x y ≡ is_place y x
place_sym x y = λ j. nat_eq_equiv.symm x.1 y.1 j && nat_list_eq_equiv.symm x.0 y.0 j

-- one more place in a set
pub added : (keys : List Place) (place other : List ℕ × ℕ) → cond (is_place place other) true (is_key keys other) ≡ (is_key keys other || is_place other place)
added keys place other = swap (is_place place other) (is_key keys other) ∙ ap (λ b. is_key keys other || b) (place_sym place other)
  where
    swap : (b x : Bool) → cond b true x ≡ (x || b)
    swap true true = refl
    swap true false = refl
    swap false true = refl
    swap false false = refl

pub hold_more : (places : List Place) (i : ℕ) (d : Place) (old new : List Place) → i < length places → Holds (map place_view (take i places)) old
    → ((other : List ℕ × ℕ) → is_key new other ≡ (is_key old other || is_place other (place_view (get_or places i d)))) → Holds (map place_view (take (i + 1) places)) new
hold_more places i d old new within holds adds = λ other.
    let first = map place_view (take i places) in
    let place = get_or places i d in
    adds other ∙ ap (λ b. b || is_place other (place_view place)) (holds other)
    ∙ sym (ap (λ ps. has_place (map place_view ps) other) (take_more places i d within)
    ∙ ap (λ ps. has_place ps other) (map-append place_view (take i places) (place ∷ []))
    ∙ list_any-append (is_place other) first (place_view place ∷ [])
    ∙ ap (λ b. has_place first other || b) (or-false (is_place other (place_view place))))
