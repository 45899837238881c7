use Rattle.std.proofs.Common.{◌≡◌, Bool, true, false, ℕ, List, refl, sym, ◌∙◌}
use Rattle.std.proofs.lemmas.Slice.Eq.{bytes_eq-Decides}
use Rattle.std.specs.Str.{bytes_eq}
use Rattle.brl_rules.specs.TableView.{TableView}
use Rattle.brl_rules.specs.Translation.{IsClash, IsUnambiguous, translation}
use Rattle.brl_rules.proofs.laws.unambiguous_law.Goals as goal

-- texts of a table without a clash are equal where they are translated to the same cells
none_clash : (t : TableView) → ((left right cells : List ℕ) → IsClash t left right cells → ⊥) → IsUnambiguous t
none_clash t none left right left_text right_text same = by_test (bytes_eq left right) refl
  where
    by_test : (b : Bool) → bytes_eq left right ≡ b → left ≡ right
    by_test true e = (bytes_eq-Decides left right).0 e
    by_test false e = absurd
        (none left right (translation t left) (record {
          left_text = left_text;
          right_text = right_text;
          differ = λ same. let yes = (bytes_eq-Decides left right).1 same in let no = sym e ∙ yes in cc;
          left_cells = refl;
          right_cells = sym same;
        }))

pub returns : goal.returns
returns c t = (
  (λ unambiguous left right cells clash. clash.differ (unambiguous left right clash.left_text clash.right_text (clash.left_cells ∙ sym clash.right_cells))),
  none_clash t,
)
