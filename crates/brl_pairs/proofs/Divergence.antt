-- Where two lists of steps diverge, and the runs of pairs that have diverged. Where two paths with
-- the same cells diverge at some pairs of rules alone, the states and pairs that runs lead to are
-- closed but for these, where those of a pair diverge at none of them.
use Rattle.std.proofs.Common.{◌≡◌, ◌≢◌, ℕ, Bool, true, false, ◌&&◌, ◌||◌, nat_eq, IsTrue, List, [], ◌∷◌, ◌++◌, ◌⊎◌, inl, inr, Some, refl, sym, ◌∙◌, ap, subst, append_assoc, append-nil, slice_get}
use Rattle.std.proofs.lemmas.List.{append_cancel_left}
use Rattle.brl_pairs.specs.declared.step.Pair.{Pair}
use Rattle.brl_pairs.specs.declared.step.Step.{Step}
use Rattle.brl_pairs.specs.Runs.{Behaviour, IsListed, IsListedAt, IsPath, KeepsLaws, Reaches, cells_of}
use Rattle.brl_pairs.specs.Pairs.{Follows, GetsAhead, HasPair, Splits, StaysBehind, swapped}
use Rattle.brl_pairs.specs.Divergence.{Divergence, DivergeOnce, DivergeWhereListed, HasEachDivergence, HasRunsOf, HaveRules, IsClosedBut, has_rules, sets_apart}
use Rattle.brl_pairs.proofs.Lists.{either_way}

-- one place has one step
pub one_step : {X : Type 0} (listed : List X) (i j : ℕ) (x y : X) → i ≡ j → slice_get listed i ≡ Some x → slice_get listed j ≡ Some y → x ≡ y
one_step listed i j x y same at_i at_j = let at : slice_get listed i ≡ slice_get listed j = ap (slice_get listed) same in cc

-- the rules of a pair in the other order
pub either_rules : (pairs : List (ℕ × ℕ)) (r s : ℕ) → has_rules pairs r s ≡ has_rules pairs s r
either_rules [] r s = refl
either_rules (pair ∷ pairs) r s =
    both (nat_eq pair.0 r && nat_eq pair.1 s) (nat_eq pair.0 s && nat_eq pair.1 r) (has_rules pairs r s) (has_rules pairs s r) (either_rules pairs r s)
  where
    both : (a b c d : Bool) → c ≡ d → ((a || b) || c) ≡ ((b || a) || d)
    both true true c d e = refl
    both true false c d e = refl
    both false true c d e = refl
    both false false c d e = e

module _ {S : Type 0} where
  -- ---- Lists of steps

  diverge_once_from : (b c : List (Step S)) (x y z w : Step S) (first second third fourth : List (Step S)) → x ≢ y → z ≢ w
      → b ++ x ∷ first ≡ c ++ z ∷ third → b ++ y ∷ second ≡ c ++ w ∷ fourth → (b ≡ c) × (x ≡ z) × (y ≡ w)
  diverge_once_from [] [] x y z w first second third fourth xy zw d e = (refl, cc, cc)
  diverge_once_from [] (v ∷ c) x y z w first second third fourth xy zw d e = absurd (xy (let left : x ≡ v = cc in let right : y ≡ v = cc in left ∙ sym right))
  diverge_once_from (v ∷ b) [] x y z w first second third fourth xy zw d e = absurd (zw (let left : v ≡ z = cc in let right : v ≡ w = cc in sym left ∙ right))
  diverge_once_from (v ∷ b) (u ∷ c) x y z w first second third fourth xy zw d e =
      let head : v ≡ u = cc in
      let firsts : b ++ x ∷ first ≡ c ++ z ∷ third = cc in
      let seconds : b ++ y ∷ second ≡ c ++ w ∷ fourth = cc in
      let rest = diverge_once_from b c x y z w first second third fourth xy zw firsts seconds in
      ((let same : b ≡ c = rest.0 in cc), rest.1, rest.2)

  -- two lists of steps diverge at one place
  pub diverge_once : DivergeOnce S
  diverge_once first second p q =
      diverge_once_from p.before q.before p.one p.other q.one q.other p.first_rest p.second_rest q.first_rest q.second_rest p.differ q.differ
      (sym p.first_steps ∙ q.first_steps) (sym p.second_steps ∙ q.second_steps)

  -- one list doesn't diverge from itself
  pub no_divergence : (first second : List (Step S)) → first ≡ second → Divergence first second → ⊥
  no_divergence first second same at =
      let tails : at.one ∷ at.first_rest ≡ at.other ∷ at.second_rest =
      append_cancel_left at.before (at.one ∷ at.first_rest) (at.other ∷ at.second_rest) (sym at.first_steps ∙ same ∙ at.second_steps) in
      at.differ cc

  -- lists that have diverged, continued
  abbrev pub divergence_on : (first second more others : List (Step S)) → Divergence first second → Divergence (first ++ more) (second ++ others)
  divergence_on first second more others at = record {
    before = at.before;
    one = at.one;
    other = at.other;
    first_rest = at.first_rest ++ more;
    second_rest = at.second_rest ++ others;
    differ = at.differ;
    first_steps = ap (λ (l : List (Step S)). l ++ more) at.first_steps ∙ append_assoc at.before (at.one ∷ at.first_rest) more;
    second_steps = ap (λ (l : List (Step S)). l ++ others) at.second_steps ∙ append_assoc at.before (at.other ∷ at.second_rest) others;
  }

  -- where the second alone is continued
  abbrev divergence_by : (first second : List (Step S)) (x : Step S) → Divergence first second → Divergence first (second ++ x ∷ [])
  divergence_by first second x at = record {
    before = at.before;
    one = at.one;
    other = at.other;
    first_rest = at.first_rest;
    second_rest = at.second_rest ++ x ∷ [];
    differ = at.differ;
    first_steps = at.first_steps;
    second_steps = ap (λ (l : List (Step S)). l ++ x ∷ []) at.second_steps ∙ append_assoc at.before (at.other ∷ at.second_rest) (x ∷ []);
  }

  -- the lists exchanged
  abbrev divergence_back : (first second : List (Step S)) → Divergence first second → Divergence second first
  divergence_back first second at = record {
    before = at.before;
    one = at.other;
    other = at.one;
    first_rest = at.second_rest;
    second_rest = at.first_rest;
    differ = λ same. at.differ (sym same);
    first_steps = at.second_steps;
    second_steps = at.first_steps;
  }

  -- ---- Steps from a state

  module _ (m : Behaviour S) where
    -- steps at different places differ
    pub places_differ : KeepsLaws m → (s : S) (i j : ℕ) (x y : Step S) → i ≢ j → IsListedAt (m.steps s) i x → IsListedAt (m.steps s) j y → x ≢ y
    places_differ laws s i j x y other x_at y_at = elim (either_way i j other) [
      | inl less ↦ (laws.in_order s i j x y less x_at y_at).differ
      | inr more ↦ λ same. (laws.in_order s j i y x more y_at x_at).differ (sym same)
    ]

    -- steps and one step more
    pub reaches_on : (s r : S) (path : List (Step S)) (x : Step S) → Reaches m s path r → IsListed (m.steps r) x → Reaches m s (path ++ x ∷ []) x.next
    reaches_on s r [] x h listed = (subst (λ (z : S). IsListed (m.steps z) x) (sym h) listed, refl)
    reaches_on s r (y ∷ path) x h listed = (h.0, reaches_on y.next r path x h.1 listed)

    -- steps to a state that ends are a path
    pub reaches_end : (s r : S) (path : List (Step S)) → Reaches m s path r → IsTrue (m.ends r) → IsPath m s path
    reaches_end s r [] h ends = subst (λ (z : S). IsTrue (m.ends z)) (sym h) ends
    reaches_end s r (x ∷ path) h ends = (h.0, reaches_end x.next r path h.1 ends)

    -- the cells of steps and one step more
    cells_on : (path : List (Step S)) (x : Step S) → cells_of (path ++ x ∷ []) ≡ cells_of path ++ x.cells
    cells_on [] x = append-nil x.cells
    cells_on (y ∷ path) x = ap (λ (l : List ℕ). y.cells ++ l) (cells_on path x) ∙ sym (append_assoc y.cells (cells_of path) x.cells)

    -- the state that two paths share, and their next steps from it
    shared : (s : S) (before : List (Step S)) (x y : Step S) (first second : List (Step S)) → IsPath m s (before ++ x ∷ first) → IsPath m s (before ++ y ∷ second)
        → (r : S) × Reaches m s before r × IsListed (m.steps r) x × IsListed (m.steps r) y
    shared s [] x y first second a b = (s, refl, a.0, b.0)
    shared s (z ∷ before) x y first second a b =
        let rest = shared z.next before x y first second a.1 b.1 in
        (rest.0, (a.0, rest.1), rest.2, rest.3)

    -- two paths diverge where a state lists two steps
    pub diverge_where_listed : DivergeWhereListed m
    diverge_where_listed first second a b at =
        let r = shared m.start at.before at.one at.other at.first_rest at.second_rest (subst (IsPath m m.start) at.first_steps a) (subst (IsPath m m.start) at.second_steps b) in
        record {
          state = r.0;
          i = r.2.0;
          j = r.3.0;
          reached = r.1;
          differ = λ same. at.differ (one_step (m.steps r.0) r.2.0 r.3.0 at.one at.other same r.2.1 r.3.1);
          one_listed = r.2.1;
          other_listed = r.3.1;
        }

    -- ---- The runs of pairs

    module _ (Kind : Step S → Step S → Type 0) (either : (x y : Step S) → Kind x y → Kind y x) where
      pub runs_of_split : KeepsLaws m → (s : S) (path : List (Step S)) → Reaches m m.start path s → (p : Pair S) (h : Splits (m.steps s) p) → Kind h.longer h.shorter → HasRunsOf m Kind p
      runs_of_split laws s path reaches p h kind =
          let x = h.longer in
          let y = h.shorter in
          record {
            first = path ++ x ∷ [];
            second = path ++ y ∷ [];
            ahead = subst (Reaches m m.start (path ++ x ∷ [])) (sym h.ahead) (reaches_on m.start s path x reaches (h.i, h.longer_listed));
            behind = subst (Reaches m m.start (path ++ y ∷ [])) (sym h.behind) (reaches_on m.start s path y reaches (h.j, h.shorter_listed));
            divergence = record {
              before = path;
              one = x;
              other = y;
              first_rest = [];
              second_rest = [];
              differ = places_differ laws s h.i h.j x y h.differ h.longer_listed h.shorter_listed;
              first_steps = refl;
              second_steps = refl;
            };
            kind = kind;
            lead = cells_on path x ∙ ap (λ (l : List ℕ). cells_of path ++ l) h.lead ∙ sym (append_assoc (cells_of path) y.cells p.lead)
                ∙ ap (λ (l : List ℕ). l ++ p.lead) (sym (cells_on path y));
          }

      of_still : (p q : Pair S) (x : Step S) → IsListed (m.steps p.behind) x → StaysBehind p x q → HasRunsOf m Kind p → HasRunsOf m Kind q
      of_still p q x listed h r = record {
        first = r.first;
        second = r.second ++ x ∷ [];
        ahead = subst (Reaches m m.start r.first) (sym h.ahead) r.ahead;
        behind = subst (Reaches m m.start (r.second ++ x ∷ [])) (sym h.behind) (reaches_on m.start p.behind r.second x r.behind listed);
        divergence = divergence_by r.first r.second x r.divergence;
        kind = r.kind;
        lead = r.lead ∙ ap (λ (l : List ℕ). cells_of r.second ++ l) h.lead ∙ sym (append_assoc (cells_of r.second) x.cells q.lead)
            ∙ ap (λ (l : List ℕ). l ++ q.lead) (sym (cells_on r.second x));
      }

      of_swap : (p q : Pair S) (x : Step S) → IsListed (m.steps p.behind) x → GetsAhead p x q → HasRunsOf m Kind p → HasRunsOf m Kind q
      of_swap p q x listed h r = record {
        first = r.second ++ x ∷ [];
        second = r.first;
        ahead = subst (Reaches m m.start (r.second ++ x ∷ [])) (sym h.ahead) (reaches_on m.start p.behind r.second x r.behind listed);
        behind = subst (Reaches m m.start r.first) (sym h.behind) r.ahead;
        divergence = divergence_back r.first (r.second ++ x ∷ []) (divergence_by r.first r.second x r.divergence);
        kind = either r.divergence.one r.divergence.other r.kind;
        lead = cells_on r.second x ∙ ap (λ (l : List ℕ). cells_of r.second ++ l) h.lead ∙ sym (append_assoc (cells_of r.second) p.lead q.lead)
            ∙ ap (λ (l : List ℕ). l ++ q.lead) (sym r.lead);
      }

      pub runs_of_move : (p q : Pair S) → Follows m p q → HasRunsOf m Kind p → HasRunsOf m Kind q
      runs_of_move p q h r = elim h.moved [
        | inl still ↦ of_still p q h.step h.listed still r
        | inr swap ↦ of_swap p q h.step h.listed swap r
      ]

      pub runs_of_other : (p : Pair S) → p.lead ≡ [] → HasRunsOf m Kind p → HasRunsOf m Kind (swapped p)
      runs_of_other p no_lead r = record {
        first = r.second;
        second = r.first;
        ahead = r.behind;
        behind = r.ahead;
        divergence = divergence_back r.first r.second r.divergence;
        kind = either r.divergence.one r.divergence.other r.kind;
        lead = sym (append-nil (cells_of r.second)) ∙ ap (λ (l : List ℕ). cells_of r.second ++ l) (sym no_lead) ∙ sym r.lead
            ∙ sym (append-nil (cells_of r.first)) ∙ ap (λ (l : List ℕ). cells_of r.first ++ l) (sym no_lead);
      }

      -- runs to two final states with no lead give the same cells
      pub runs_same_cells : (p : Pair S) (r : HasRunsOf m Kind p) → p.lead ≡ [] → cells_of r.first ≡ cells_of r.second
      runs_same_cells p r no_lead = r.lead ∙ ap (λ (l : List ℕ). cells_of r.second ++ l) no_lead ∙ append-nil (cells_of r.second)

    -- ---- Closed sets

    module _ (rules : List (ℕ × ℕ)) where
      abbrev AreNone : Step S → Step S → Type 0
      AreNone x y = has_rules rules x.rule y.rule ≡ false

      none_either : (x y : Step S) → AreNone x y → AreNone y x
      none_either x y h = either_rules rules y.rule x.rule ∙ h

      split_apart : KeepsLaws m → (s : S) (p : Pair S) → (sets_apart m rules).has_state s → (h : Splits (m.steps s) p) → HaveRules rules h.longer h.shorter ⊎ HasPair (sets_apart m rules) p
      split_apart laws s p has h = decide (has_rules rules h.longer.rule h.shorter.rule) refl
        where
          decide : (b : Bool) → has_rules rules h.longer.rule h.shorter.rule ≡ b → HaveRules rules h.longer h.shorter ⊎ HasPair (sets_apart m rules) p
          decide true e = inl e
          decide false e = inr (inl (runs_of_split AreNone none_either laws s has.0 has.1 p h e))

      never_end : HasEachDivergence rules m → (p : Pair S) → HasRunsOf m AreNone p → p.lead ≡ [] → IsTrue (m.ends p.ahead) → IsTrue (m.ends p.behind) → ⊥
      never_end each p r no_lead ahead behind =
          let have : has_rules rules r.divergence.one.rule r.divergence.other.rule ≡ true =
          each r.first r.second (reaches_end m.start p.ahead r.first r.ahead ahead) (reaches_end m.start p.behind r.second r.behind behind) (runs_same_cells AreNone none_either p r no_lead) r.divergence in
          let none : has_rules rules r.divergence.one.rule r.divergence.other.rule ≡ false = r.kind in
          cc

      -- where all divergences are at these pairs of rules there are sets that are closed but for
      -- these
      pub closed_from_divergences : KeepsLaws m → HasEachDivergence rules m → IsClosedBut m rules (sets_apart m rules)
      closed_from_divergences laws each = record {
        start = ([], refl);
        steps = λ s x has listed. (has.0 ++ x ∷ [], reaches_on m.start s has.0 x has.1 listed);
        splits = split_apart laws;
        moves = λ p q has h. inl (runs_of_move AreNone none_either p q h has);
        ends = never_end each;
      }
