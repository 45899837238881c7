-- The items of a test, one after the other.
use Rattle.std.proofs.Common.{◌≡◌, ◌∙◌, ◌||◌, ◌&&◌, ◌==◌, ◌++◌, ◌+◌, ◌<◌, ℕ, zero, suc, Bool, true, false, List, [], ◌∷◌, ap, append_assoc}
use Rattle.std.proofs.Common.{drop, get_or, length, not, refl, sym, take}
use Rattle.std.specs.Prelude.{if◌then◌else◌}
use Rattle.std.proofs.lemmas.List.{at_drop_more}
use Rattle.brl_acting.specs.Tests.{ItemView, item, items_after, keeps_not, string_length, taken}

-- the marks that an item takes are passed over
passed : (count : ℕ) (negated : Bool) (marks : List ℕ) → items_after count negated marks ≡ items_after 0 negated (drop count marks)
passed zero negated marks = refl
passed (suc count) negated [] = refl
passed (suc count) negated (mark ∷ marks) = passed count negated marks

-- the items from a mark on, by whether it keeps a `!` in force, and whether there is one
abbrev items_from : Bool → Bool → ℕ → List ℕ → List ItemView
items_from keeps negated mark marks =
    if keeps then items_after 0 (negated || (mark == 33)) marks
    else if negated then items_after (taken mark marks) false marks
    else item mark (take (taken mark marks) marks) ∷ items_after (taken mark marks) false marks

-- The items so far and those of what is left are all: so they are after one more mark.
module _ (before all : List ItemView) (rest marks : List ℕ) (mark : ℕ) (is : rest ≡ mark ∷ marks) where
  -- those of what is left, by whether the mark keeps a `!` in force
  left : (keeps negated : Bool) → keeps_not mark ≡ keeps → items_from keeps negated mark marks ≡ items_after 0 negated rest
  left keeps negated so = sym (ap (items_after 0 negated) is ∙ ap (λ b. items_from b negated mark marks) so)

  -- after an item that is taken away
  pub negated_so_far : keeps_not mark ≡ false → before ++ items_after 0 true rest ≡ all → before ++ items_after 0 false (drop (taken mark marks) marks) ≡ all
  negated_so_far ends so_far =
      ap (λ (more : List ItemView). before ++ more) (sym (passed (taken mark marks) false marks) ∙ left false true ends) ∙ so_far

  -- after another item
  pub item_so_far : keeps_not mark ≡ false → before ++ items_after 0 false rest ≡ all
      → (before ++ item mark (take (taken mark marks) marks) ∷ []) ++ items_after 0 false (drop (taken mark marks) marks) ≡ all
  item_so_far ends so_far =
      let one = item mark (take (taken mark marks) marks) in
      append_assoc before (one ∷ []) (items_after 0 false (drop (taken mark marks) marks))
      ∙ ap (λ (more : List ItemView). before ++ one ∷ more) (sym (passed (taken mark marks) false marks))
      ∙ ap (λ (more : List ItemView). before ++ more) (left false false ends) ∙ so_far

-- a string goes on after a mark that is no quotation mark, or is escaped
pub string_goes_on : (marks : List ℕ) (place : ℕ) (escaped : Bool) → place < length marks → (not escaped && (get_or marks place 0 == 34)) ≡ false
    → string_length place escaped (drop place marks) ≡ string_length (place + 1) (not escaped && (get_or marks place 0 == 92)) (drop (place + 1) marks)
string_goes_on marks place escaped within goes =
    at_drop_more (string_length place escaped) marks place 0 within
    ∙ ap (λ b. if b then place + 1 else string_length (place + 1) (not escaped && (get_or marks place 0 == 92)) (drop (place + 1) marks)) goes
