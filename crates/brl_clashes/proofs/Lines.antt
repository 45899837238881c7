-- The lines of one more element, and of one more section.
use Rattle.std.proofs.Common.{◌≡◌, ◌∙◌, ◌<◌, ◌+◌, ◌++◌, ℕ, List, [], ◌∷◌, ap, append-nil, append_assoc, get_or, length, refl, sym, take}
use Rattle.std.specs.List.{flat_map, fold}
use Rattle.std.proofs.lemmas.List.{take_more}
use Rattle.std.proofs.lemmas.List.Concat.{flat_map-append}
use Rattle.brl_clashes.specs.Accepted.{is_less}
use Rattle.brl_clashes.specs.ClashesText.{AreSectionTexts}
use Rattle.brl_clashes.specs.SectionText.{IsSectionText}
use Rattle.brl_clashes.specs.Sections.{listed_after}
use Rattle.brl_clashes.specs.Sets.{FirstsView}
use Rattle.brl_clashes.specs.declared.list_form.ListForm.{ListForm}
use Rattle.brl_clashes.specs.declared.section.Section.{Section}
use Rattle.brl_lines.specs.Tokens.{LineView}
use Rattle.brl_rules.specs.TableView.{TableView}

-- a text that gets what belongs to the next element of a list
pub one_more : {X : Type 0} (f : X → List ℕ) (xs : List X) (i : ℕ) (x : X) (front text after : List ℕ) → i < length xs → x ≡ get_or xs i x
    → text ≡ front ++ flat_map f (take i xs) → after ≡ text ++ f x → after ≡ front ++ flat_map f (take (i + 1) xs)
one_more {X} f xs i x front text after within is so_far added =
    let next : take (i + 1) xs ≡ take i xs ++ x ∷ [] = take_more xs i x within ∙ ap (λ (y : X). take i xs ++ y ∷ []) (sym is) in
    let lines : flat_map f (take (i + 1) xs) ≡ flat_map f (take i xs) ++ f x =
    ap (flat_map f) next ∙ flat_map-append f (take i xs) (x ∷ []) ∙ ap (λ (rest : List ℕ). flat_map f (take i xs) ++ rest) (append-nil (f x)) in
    added ∙ ap (λ (ls : List ℕ). ls ++ f x) so_far ∙ append_assoc front (flat_map f (take i xs)) (f x) ∙ ap (λ (ls : List ℕ). front ++ ls) (sym lines)

-- ---- Sections

-- one more section, after those that are written
pub one_more_section : (t : TableView) (lines : List LineView) (firsts : FirstsView) (form : ListForm) (before : List (ℕ × ℕ)) (sections left : List Section) (s x : Section) (text part : List ℕ)
    → AreSectionTexts t lines firsts form before sections left text → IsSectionText t lines firsts form (is_less s x) (fold listed_after before left) x part
    → AreSectionTexts t lines firsts form before (sections ++ s ∷ []) (left ++ x ∷ []) (text ++ part)
one_more_section t lines firsts form before [] [] s x text part are is = (part, [], is, refl, ap (λ (front : List ℕ). front ++ part) are ∙ sym (append-nil part))
one_more_section t lines firsts form before [] (other ∷ left) s x text part are is = absurd are
one_more_section t lines firsts form before (first ∷ sections) [] s x text part are is = absurd are
one_more_section t lines firsts form before (first ∷ sections) (other ∷ left) s x text part (front, rest, front_is, rest_are, joined) is = (
  front,
  rest ++ part,
  front_is,
  one_more_section t lines firsts form (listed_after before other) sections left s x rest part rest_are is,
  ap (λ (all : List ℕ). all ++ part) joined ∙ append_assoc front rest part,
)
