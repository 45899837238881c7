-- The clashes of a section that are shown, in order.
use Rattle.std.proofs.Common.{◌≡◌, ◌+◌, ℕ, All, Bool, List, ap, not, subst, sym, Bor}
use Rattle.std.specs.Cmp.{IsStrictWeakOrder, IsTotalOrder}
use Rattle.std.specs.Fn.{Called, ComparesAs}
use Rattle.std.specs.List.Sorted.{IsPermutation, IsSorted, IsSortedBy}
use Rattle.std.specs.Ordering.{is_lt}
use Rattle.std.specs.Prelude.{length}
use Rattle.std.specs.declared.cmp.Ordering.{Ordering}
use Rattle.std.proofs.lemmas.Cmp.{nat_cmp_total, on_total, then_total}
use Rattle.std.proofs.lemmas.List.Elements.{All-filter}
use Rattle.std.proofs.lemmas.List.Sorted.{All-permutation, answers_always, ranks_by}
use denote.Param.Members.{Mut}
use Rattle.brl_clashes.specs.ListedPairs.{has_pair}
use Rattle.brl_clashes.specs.Order.{differing, suspicion_cmp, unequal}
use Rattle.brl_clashes.specs.SectionText.{is_shown, shown_among}
use Rattle.brl_clashes.specs.Sections.{AreClashesOf, clashes_beside}
use Rattle.brl_clashes.specs.Sets.{FirstsView}
use Rattle.brl_clashes.specs.declared.list_form.ListForm.{ListForm}
use Rattle.brl_rules.specs.TableView.{TableView}
use Rattle.brl_rules.specs.Translation.{IsClash}
use Rattle.brl_search.specs.declared.table_clashes.RuleClash.{RuleClash}

-- ---- Their order

abbrev ordered : IsTotalOrder suspicion_cmp
ordered =
    then_total (on_total (λ (x : RuleClash). unequal x.clash.left x.clash.right) nat_cmp_total)
    (then_total (on_total (λ (x : RuleClash). differing x.clash.left x.clash.right) nat_cmp_total)
    (then_total (on_total (λ (x : RuleClash). length x.clash.left + length x.clash.right) nat_cmp_total)
    (then_total (on_total (λ (x : RuleClash). x.lesser) nat_cmp_total) (on_total (λ (x : RuleClash). x.greater) nat_cmp_total))))

pub sorted_by : {F : Type 0} {g : Mut F (Bor RuleClash × (Bor RuleClash × Unit {0})) Ordering} {f : F} (new : List RuleClash)
    → ((lt : RuleClash → RuleClash → Bool) → IsStrictWeakOrder lt → ComparesAs g lt f → IsSortedBy lt new)
    → ((f : F) (a : Bor RuleClash × (Bor RuleClash × Unit {0})) (r : Ordering) (f' : F) → Called g f a r f' → r ≡ suspicion_cmp a.0.now a.1.0.now)
    → IsSorted suspicion_cmp new
sorted_by {F} {g} {f} new sorted compares =
    let lt = λ (x : RuleClash) (y : RuleClash). is_lt (suspicion_cmp x y) in
    let order : IsStrictWeakOrder (λ (x : RuleClash) (y : RuleClash). is_lt (suspicion_cmp x y)) = ranks_by ordered (λ (x : RuleClash). x) in
    let answers : ComparesAs g lt f = answers_always g (λ a r. is_lt r ≡ is_lt (suspicion_cmp a.0.now a.1.0.now)) f (λ h a r k called. ap is_lt (compares h a r k called)) in
    sorted lt order answers

-- ---- Which they are

-- the texts of clashes that are shown clash, as those of all do
pub shown_clash : (form : ListForm) (t : TableView) (firsts : FirstsView) (listed : List (ℕ × ℕ)) (new own shown : List RuleClash)
    → own ≡ shown_among form t firsts listed new → IsPermutation own shown → AreClashesOf t new → AreClashesOf t shown
shown_clash form t firsts listed new own shown own_is moved are =
    let P = λ (x : RuleClash). IsClash t x.clash.left x.clash.right x.clash.cells in
    let owns : All P own = subst (All P) (sym own_is) (All-filter (is_shown form t firsts listed) P new are) in
    All-permutation P own shown moved owns

-- the texts of new clashes clash, as those of all do
pub new_clash : (t : TableView) (before : List (ℕ × ℕ)) (all : List RuleClash) → AreClashesOf t all → AreClashesOf t (clashes_beside before all)
new_clash t before all are =
    All-filter (λ (clash : RuleClash). not (has_pair before (clash.lesser, clash.greater))) (λ (x : RuleClash). IsClash t x.clash.left x.clash.right x.clash.cells) all are
