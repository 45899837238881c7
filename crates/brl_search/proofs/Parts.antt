-- Texts from which some characters are left out.
use Rattle.std.proofs.Common.{◌≡◌, ◌∙◌, ℕ, zero, suc, ◌+◌, ◌≤◌, Bool, IsTrue, List, [], ◌∷◌, ◌++◌, inl, inr, length, take, drop, refl, sym, ap, subst, arith}
use Rattle.std.specs.Cmp.{first_so, second_so}
use Rattle.std.specs.List.{list_all, remove, remove_range}
use Rattle.std.proofs.lemmas.List.{append-nil, drop_all, take_all}
use Rattle.std.proofs.lemmas.Bool.{and_from}
use Rattle.brl_rules.specs.TableView.{TableView}
use Rattle.brl_rules.specs.Text.{is_defined, is_text}
use Rattle.brl_search.specs.Small.{IsPartOf}

-- a character more before the given text
part-more : (text given : List ℕ) (d : ℕ) → IsPartOf text given → IsPartOf text (d ∷ given)
part-more [] given d is = tt
part-more (c ∷ text) given d is = inr is

pub part-self : (text : List ℕ) → IsPartOf text text
part-self [] = tt
part-self (c ∷ text) = inl (refl, part-self text)

part-drop : (n : ℕ) (text : List ℕ) → IsPartOf (drop n text) text
part-drop zero text = part-self text
part-drop (suc n) [] = tt
part-drop (suc n) (c ∷ text) = part-more (drop n text) text c (part-drop n text)

pub part-remove_range : (text : List ℕ) (from to : ℕ) → from ≤ to → IsPartOf (remove_range text from to) text
part-remove_range text zero to le = part-drop to text
part-remove_range [] (suc from) zero le = tt
part-remove_range [] (suc from) (suc to) le = tt
part-remove_range (c ∷ text) (suc from) zero le = absurd (omega arith)
part-remove_range (c ∷ text) (suc from) (suc to) le = inl (refl, part-remove_range text from to (omega arith))

pub part-part : (text given whole : List ℕ) → IsPartOf text given → IsPartOf given whole → IsPartOf text whole
part-part [] given whole h k = tt
part-part (c ∷ text) [] whole h k = absurd h
part-part (c ∷ text) (d ∷ given) [] h k = absurd k
part-part (c ∷ text) (d ∷ given) (e ∷ whole) h k =
    elim k [
      | inl same ↦ (
          elim h [
            | inl first ↦ inl (first.0 ∙ same.0, part-part text given whole first.1 same.1)
            | inr rest ↦ inr (part-part (c ∷ text) given whole rest same.1)
          ])
      | inr rest ↦ inr (part-part (c ∷ text) (d ∷ given) whole h rest)
    ]

-- what holds of each character of a text holds of each of a part of it
pub part-all : (p : ℕ → Bool) (text given : List ℕ) → IsPartOf text given → IsTrue (list_all p given) → IsTrue (list_all p text)
part-all p [] given is all = refl
part-all p (c ∷ text) [] is all = absurd is
part-all p (c ∷ text) (d ∷ given) is all =
    elim is [
      | inl same ↦ and_from (p c) (list_all p text) (ap p same.0 ∙ first_so (p d) (list_all p given) all) (part-all p text given same.1 (second_so (p d) (list_all p given) all))
      | inr rest ↦ part-all p (c ∷ text) given rest (second_so (p d) (list_all p given) all)
    ]

-- a part of a text of the table is one
pub part-text : (t : TableView) (text given : List ℕ) → IsPartOf text given → IsTrue (is_text t given) → IsTrue (is_text t text)
part-text t text given is known = part-all (is_defined t) text given is known

-- what is left of a text of the table is one
pub part-is : (text given : List ℕ) (from to : ℕ) → from ≤ to → text ≡ remove_range given from to → IsPartOf text given
part-is text given from to le is = subst (λ (l : List ℕ). IsPartOf l given) (sym is) (part-remove_range given from to le)

pub text-without : (t : TableView) (text given : List ℕ) (from to : ℕ) → from ≤ to → text ≡ remove_range given from to → IsTrue (is_text t given) → IsTrue (is_text t text)
text-without t text given from to le is known = part-text t text given (part-is text given from to le is) known

-- ---- One character

pub remove_range-one : (text : List ℕ) (i : ℕ) → remove_range text i (i + 1) ≡ remove text i
remove_range-one text i = (let one : i + 1 ≡ suc i = omega arith in ap (λ n. take i text ++ drop n text) one)

-- where there is no character at the place, the text stays
pub remove-past : (text : List ℕ) (i : ℕ) → length text ≤ i → remove text i ≡ text
remove-past text i past =
    let all : length text ≤ suc i = omega arith in
    ap (λ l. take i text ++ l) (drop_all (suc i) text all) ∙ append-nil (take i text) ∙ take_all i text past
