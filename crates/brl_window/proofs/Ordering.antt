-- The steps of a window machine are good and in order, and none is listed twice.
use Rattle.std.proofs.Common.{ℕ, zero, suc, ◌+◌, ◌-◌, ◌≤◌, ◌≡◌, ◌≢◌, Bool, true, false, List, [], ◌∷◌, ◌++◌, length, refl, arith, cond, sym, ◌∙◌, ap, subst, Option, Some, None, inl, inr, nat_le, length-append, append_assoc, append-nil, slice_get}
use Rattle.std.proofs.lemmas.List.{take-append-drop, length-take-le, append_cancel_left}
use Rattle.std.proofs.lemmas.Bool.Decides.{nat_tests}
use Rattle.std.specs.List.{flat_map, AllByRecursion}
use Rattle.std.specs.Map.{keys_of}
use Rattle.std.specs.Bool.{⊤}
use Rattle.std.specs.Option.{option_map_or}
use Rattle.brl_rules.specs.declared.class.Class.{Class}
use Rattle.brl_rules.specs.declared.rule.Rule.{Rule}
use Rattle.brl_rules.specs.declared.rule.Info.{Info}
use Rattle.brl_rules.specs.declared.context.Context.{Context}
use Rattle.brl_rules.specs.declared.signs.Sign.TheVariants.{CapsLetter, NumSign, NoContractSign, BegCapsWord, EndCapsWord}
use Rattle.brl_rules.specs.Choice.{Choice, by_rule, chosen, own, first_fitting, fits}
use Rattle.brl_rules.specs.declared.signs.Sign.{Sign}
use Rattle.brl_rules.specs.Infos.{first_info}
use Rattle.brl_rules.specs.Indicators.{indicators, is_used, indicators_of, used_cells}
use Rattle.brl_rules.specs.TableView.{TableView, indicator_cells}
use Rattle.brl_rules.specs.Text.{is_defined, is_in_caps_run}
use Rattle.brl_pairs.specs.declared.step.Step.{Step}
use Rattle.brl_pairs.specs.Runs.{IsListed, IsGoodStep, IsInOrder}
use Rattle.brl_states.specs.declared.window_state.WindowState.{WindowState}
use Rattle.brl_states.specs.WindowContext.{context_of}
use Rattle.brl_window.specs.Windows.{width, Window, windows_on, windows, window_step, begins_defined, steps_at, put_in, by_rule_number, steps_found, window_steps}
use Rattle.brl_states.proofs.Kept.{AreDistinct, Keeps}
use Rattle.brl_states.proofs.Pairwise.{append-Pairwise}
use Rattle.brl_window.proofs.Kept.{Choosing, chosen-Takes}
use Rattle.brl_window.proofs.Listing.{from-by_rule_number}
use Rattle.brl_pairs.proofs.Listing.{IsIn, from-flat_map, at-in}
use Rattle.brl_rules.proofs.CellCounts.{Within, found-cells}

cond-Within : (b : Bool) (x y : Choice) → Within (length x.cells) 512 → Within (length y.cells) 512 → Within (length (cond b x y).cells) 512
cond-Within true x y h k = h
cond-Within false x y h k = k

first-Within : (t : TableView) (before : Class) (c : ℕ) (rest : List ℕ) (n : ℕ) (rules : List Rule) → AllByRecursion (λ r. Within (length r.cells) 512) rules
    → Within (length (own t (c ∷ rest)).cells) 512 → Within (length (first_fitting t before (c ∷ rest) n rules).cells) 512
first-Within t before c rest n [] h o = o
first-Within t before c rest n (r ∷ rs) h o =
    cond-Within (fits t before (c ∷ rest) r) (by_rule n r) (first_fitting t before (c ∷ rest) (n + 1) rs) h.0 (first-Within t before c rest (n + 1) rs h.1 o)

used-most : (b : Bool) (cells : List ℕ) → length cells ≤ 16 → length (cond b cells []) ≤ 16
used-most true cells h = h
used-most false cells h = omega arith

signs-most : (t : TableView) (here : Context) (rest : List ℕ) → Keeps t → length (indicators t here rest) ≤ 80
signs-most t here rest valid = of_info (first_info t rest)
  where
    run : Bool
    run = is_in_caps_run t here.classes rest

    used : Info → Sign → List ℕ
    used info sign = used_cells t here run info sign

    most : (info : Info) (sign : Sign) → length (used info sign) ≤ 16
    most info sign = used-most (is_used t here run info sign) (indicator_cells t sign) (valid.signs_cells sign)

    five : (a b c d e : List ℕ) → length a ≤ 16 → length b ≤ 16 → length c ≤ 16 → length d ≤ 16 → length e ≤ 16 → length (a ++ (b ++ (c ++ (d ++ (e ++ []))))) ≤ 80
    five a b c d e ha hb hc hd he = grind (arith, length-append)

    of_info : (info : Option Info) → length (option_map_or (indicators_of t here run) info []) ≤ 80
    of_info None = omega arith
    of_info (Some info) = five (used info EndCapsWord) (used info NoContractSign) (used info NumSign) (used info BegCapsWord) (used info CapsLetter) (most info EndCapsWord) (most info NoContractSign) (most info NumSign) (most info BegCapsWord) (most info CapsLetter)

-- the step of a window whose first character is defined
good-step : (t : TableView) (here : Context) (x : ℕ) (xs : List ℕ) (b : Bool) → Keeps t → Choosing t → is_defined t x ≡ true
    → IsGoodStep (window_step t here (record { known = x ∷ xs; ended = b }))
good-step t here x xs b valid choosing d =
    let cells = first-Within t here.classes x xs 0 t.rules valid.rule_cells (found-cells t.characters x valid.own_cells d) in
    let takes = chosen-Takes t choosing here.classes x xs in
    let signs = signs-most t here (x ∷ xs) valid in
    let long = length-append (indicators t here (x ∷ xs)) (chosen t here.classes (x ∷ xs)).cells in
    let read = length-take-le (chosen t here.classes (x ∷ xs)).taken (x ∷ xs) takes.room in
    record {
      some_cells = omega (arith, long, cells.some);
      few_cells = omega (arith, long, cells.room, signs);
      some_reads = omega (arith, read, takes.some);
    }

good-at : (t : TableView) (here : Context) (known : List ℕ) (b d : Bool) → begins_defined t known ≡ d → Keeps t → Choosing t → (x : Step WindowState)
    → IsIn x (cond d (window_step t here (record { known = known; ended = b }) ∷ []) []) → IsGoodStep x
good-at t here known b false e valid choosing x h = absurd h
good-at t here [] b true e valid choosing x h = cc
good-at t here (c ∷ known) b true e valid choosing x (inl q) = subst IsGoodStep (sym q) (good-step t here c known b valid choosing e)
good-at t here (c ∷ known) b true e valid choosing x (inr h) = absurd h

pub good_steps : (t : TableView) → Keeps t → Choosing t → (s : WindowState) (x : Step WindowState) → IsListed (window_steps t s) x → IsGoodStep x
unfolding window_steps
good_steps t valid choosing s x l =
    let from = from-flat_map (steps_at t (context_of s)) x (windows t s) (from-by_rule_number x (steps_found t s) (at-in x (window_steps t s) l.0 l.1)) in
    let w = from.0 in
    good-at t (context_of s) w.known w.ended (begins_defined t w.known) refl valid choosing x from.2

-- what isn't in a list differs from each of its members
apart : {X : Type 0} (x : X) (xs : List X) → (IsIn x xs → ⊥) → AllByRecursion (λ y. x ≢ y) xs
apart x [] h = tt
apart x (y ∷ ys) h = ((λ e. h (inl e)), apart x ys (λ k. h (inr k)))

not-in : {X : Type 0} (x : X) (xs : List X) → AllByRecursion (λ y. x ≢ y) xs → IsIn x xs → ⊥
not-in x [] h k = k
not-in x (y ∷ ys) h (inl e) = h.0 e
not-in x (y ∷ ys) h (inr k) = not-in x ys h.1 k

distinct-append : {X : Type 0} (xs ys : List X) → AreDistinct xs → AreDistinct ys → ((z : X) → IsIn z xs → IsIn z ys → ⊥) → AreDistinct (xs ++ ys)
distinct-append xs ys h k none = append-Pairwise (λ x y. x ≢ y) xs ys h k (λ x y i j e. none x i (subst (λ z. IsIn z ys) (sym e) j))

distinct-flat_map : {X Y : Type 0} (f : X → List Y) (xs : List X) → AreDistinct xs → ((x : X) → AreDistinct (f x))
    → ((x y : X) (z : Y) → IsIn z (f x) → IsIn z (f y) → x ≡ y) → AreDistinct (flat_map f xs)
distinct-flat_map f [] h each same = tt
distinct-flat_map f (x ∷ xs) h each same =
    distinct-append (f x) (flat_map f xs) (each x) (distinct-flat_map f xs h.1 each same)
    (λ z a b. (let m = from-flat_map f z xs b in not-in x xs h.0 (subst (λ y. IsIn y xs) (sym (same x m.0 z a m.2)) m.1)))

-- a window begins with what was known
begins : (letters : List ℕ) (n : ℕ) (known : List ℕ) (w : Window) → IsIn w (windows_on letters n known) → (more : List ℕ) × (w.known ≡ known ++ more)
begins letters zero known w (inl e) = ([], ap (λ (v : Window). v.known) e ∙ sym (append-nil known))
begins letters zero known w (inr h) = absurd h
begins letters (suc n) known w (inl e) = ([], ap (λ (v : Window). v.known) e ∙ sym (append-nil known))
begins letters (suc n) known w (inr h) =
    let m = from-flat_map (λ c. windows_on letters n (known ++ c ∷ [])) w letters h in
    let b = begins letters n (known ++ m.0 ∷ []) w m.2 in
    (m.0 ∷ b.0, b.1 ∙ append_assoc known (m.0 ∷ []) b.0)

windows_on-distinct : (letters : List ℕ) → AreDistinct letters → (n : ℕ) (known : List ℕ) → AreDistinct (windows_on letters n known)
windows_on-distinct letters h zero known = (tt, tt)
windows_on-distinct letters h (suc n) known = (
  apart (record { known = known; ended = true }) (flat_map (λ c. windows_on letters n (known ++ c ∷ [])) letters) longer,
  distinct-flat_map (λ c. windows_on letters n (known ++ c ∷ [])) letters h (λ c. windows_on-distinct letters h n (known ++ c ∷ [])) same,
)
  where
    longer : IsIn (record { known = known; ended = true }) (flat_map (λ c. windows_on letters n (known ++ c ∷ [])) letters) → ⊥
    longer q =
        let w : Window = record { known = known; ended = true } in
        let m = from-flat_map (λ c. windows_on letters n (known ++ c ∷ [])) w letters q in
        let b = begins letters n (known ++ m.0 ∷ []) w m.2 in
        let l : length known ≡ length ((known ++ m.0 ∷ []) ++ b.0) = ap length b.1 in
        let k : length ((known ++ m.0 ∷ []) ++ b.0) ≡ length known + 1 + length b.0 = length-append (known ++ m.0 ∷ []) b.0 ∙ ap (λ a. a + length b.0) (length-append known (m.0 ∷ [])) in
        absurd (omega (arith, l, k))

    same : (c d : ℕ) (w : Window) → IsIn w (windows_on letters n (known ++ c ∷ [])) → IsIn w (windows_on letters n (known ++ d ∷ [])) → c ≡ d
    same c d w p q =
        let a = begins letters n (known ++ c ∷ []) w p in
        let b = begins letters n (known ++ d ∷ []) w q in
        let e : known ++ (c ∷ a.0) ≡ known ++ (d ∷ b.0) = sym (append_assoc known (c ∷ []) a.0) ∙ sym a.1 ∙ b.1 ∙ append_assoc known (d ∷ []) b.0 in
        let f : c ∷ a.0 ≡ d ∷ b.0 = append_cancel_left known (c ∷ a.0) (d ∷ b.0) e in
        cc

-- a step determines its window
one-window : (t : TableView) (here : Context) (w : Window) (z : Step WindowState) → IsIn z (steps_at t here w) → (z.reads ++ z.next.coming ≡ w.known) × (z.next.ended ≡ w.ended)
one-window t here w z h = at (begins_defined t w.known) h
  where
    at : (d : Bool) → IsIn z (cond d (window_step t here w ∷ []) []) → (z.reads ++ z.next.coming ≡ w.known) × (z.next.ended ≡ w.ended)
    at false k = absurd k
    at true (inl e) =
        (ap (λ (x : Step WindowState). x.reads ++ x.next.coming) e ∙ take-append-drop (chosen t here.classes w.known).taken w.known, ap (λ (x : Step WindowState). x.next.ended) e)
    at true (inr k) = absurd k

one-step : (t : TableView) (here : Context) (w : Window) → AreDistinct (steps_at t here w)
one-step t here w = at (begins_defined t w.known)
  where
    at : (d : Bool) → AreDistinct (cond d (window_step t here w ∷ []) [])
    at true = (tt, tt)
    at false = tt

windows-distinct : (t : TableView) (s : WindowState) → AreDistinct (keys_of t.characters) → AreDistinct (windows t s)
windows-distinct t s h = at s.ended
  where
    at : (b : Bool) → AreDistinct (cond b (record { known = s.coming; ended = true } ∷ []) (windows_on (keys_of t.characters) (width t - length s.coming) s.coming))
    at true = (tt, tt)
    at false = windows_on-distinct (keys_of t.characters) h (width t - length s.coming) s.coming

found-distinct : (t : TableView) (s : WindowState) → AreDistinct (keys_of t.characters) → AreDistinct (steps_found t s)
found-distinct t s h =
    distinct-flat_map (steps_at t (context_of s)) (windows t s) (windows-distinct t s h) (one-step t (context_of s)) same
  where
    same : (v w : Window) (z : Step WindowState) → IsIn z (steps_at t (context_of s) v) → IsIn z (steps_at t (context_of s) w) → v ≡ w
    same v w z p q =
        let a = one-window t (context_of s) v z p in
        let b = one-window t (context_of s) w z q in
        let k : v.known ≡ w.known = sym a.0 ∙ b.0 in
        let e : v.ended ≡ w.ended = sym a.1 ∙ b.1 in
        λ i. record { known = k i; ended = e i }

-- in order of the rules
module _ {S : Type 0} where
  abbrev pub IsAscending : List (Step S) → Type 0
  IsAscending [] = ⊤
  IsAscending (x ∷ xs) = AllByRecursion (λ y. x.rule ≤ y.rule) xs × IsAscending xs

  put-all : (b : Bool) (P : Step S → Type 0) (x y : Step S) (ys zs : List (Step S)) → P x → P y → AllByRecursion P ys → AllByRecursion P zs → AllByRecursion P (cond b (x ∷ y ∷ ys) (y ∷ zs))
  put-all true P x y ys zs h k all more = (h, (k, all))
  put-all false P x y ys zs h k all more = (k, more)

  put_in-all : (P : Step S → Type 0) (x : Step S) (xs : List (Step S)) → P x → AllByRecursion P xs → AllByRecursion P (put_in x xs)
  put_in-all P x [] h all = (h, tt)
  put_in-all P x (y ∷ ys) h all = put-all (nat_le x.rule y.rule) P x y ys (put_in x ys) h all.0 all.1 (put_in-all P x ys h all.1)

  above : (n m : ℕ) (xs : List (Step S)) → n ≤ m → AllByRecursion (λ y. m ≤ y.rule) xs → AllByRecursion (λ y. n ≤ y.rule) xs
  above n m [] h all = tt
  above n m (x ∷ xs) h all = ((let a = all.0 in omega (arith, a)), above n m xs h all.1)

  put_in-ascending : (x : Step S) (xs : List (Step S)) → IsAscending xs → IsAscending (put_in x xs)
  put_in-ascending x [] h = (tt, tt)
  put_in-ascending x (y ∷ ys) h = at (nat_le x.rule y.rule) refl (put_in-ascending x ys h.1)
    where
      at : (b : Bool) → nat_le x.rule y.rule ≡ b → IsAscending (put_in x ys) → IsAscending (cond b (x ∷ y ∷ ys) (y ∷ put_in x ys))
      at true e more = (let k : x.rule ≤ y.rule = grind (arith, nat_tests) in ((k, above x.rule y.rule ys k h.0), h))
      at false e more = (let k : y.rule ≤ x.rule = grind (arith, nat_tests) in (put_in-all (λ z. y.rule ≤ z.rule) x ys k h.0, more))

  pub by_rule_number-ascending : (xs : List (Step S)) → IsAscending (by_rule_number xs)
  by_rule_number-ascending [] = tt
  by_rule_number-ascending (x ∷ xs) = put_in-ascending x (by_rule_number xs) (by_rule_number-ascending xs)

  put_in-distinct : (x : Step S) (xs : List (Step S)) → (IsIn x xs → ⊥) → AreDistinct xs → AreDistinct (put_in x xs)
  put_in-distinct x [] none h = (tt, tt)
  put_in-distinct x (y ∷ ys) none h = at (nat_le x.rule y.rule) (put_in-distinct x ys (λ k. none (inr k)) h.1)
    where
      at : (b : Bool) → AreDistinct (put_in x ys) → AreDistinct (cond b (x ∷ y ∷ ys) (y ∷ put_in x ys))
      at true more = (apart x (y ∷ ys) none, h)
      at false more = (put_in-all (λ z. y ≢ z) x ys (λ e. none (inl (sym e))) h.0, more)

  by_rule_number-distinct : (xs : List (Step S)) → AreDistinct xs → AreDistinct (by_rule_number xs)
  by_rule_number-distinct [] h = tt
  by_rule_number-distinct (x ∷ xs) h = put_in-distinct x (by_rule_number xs) (λ k. not-in x xs h.0 (from-by_rule_number x xs k)) (by_rule_number-distinct xs h.1)

  all-at : (P : Step S → Type 0) (xs : List (Step S)) (i : ℕ) (x : Step S) → AllByRecursion P xs → slice_get xs i ≡ Some x → P x
  all-at P [] i x h e = cc
  all-at P (y ∷ ys) zero x h e = (let q : y ≡ x = cc in subst P q h.0)
  all-at P (y ∷ ys) (suc i) x h e = all-at P ys i x h.1 e

  pub ordered : (xs : List (Step S)) → AreDistinct xs → IsAscending xs → IsInOrder xs
  ordered [] d h i j x y less p q = cc
  ordered (z ∷ zs) d h i zero x y less p q = absurd (omega (arith, less))
  ordered (z ∷ zs) d h zero (suc j) x y less p q =
      let e : z ≡ x = cc in
      record {
        differ = subst (λ v. v ≢ y) e (all-at (λ v. z ≢ v) zs j y d.0 q);
        ascend = subst (λ (v : Step S). v.rule ≤ y.rule) e (all-at (λ v. z.rule ≤ v.rule) zs j y h.0 q);
      }
  ordered (z ∷ zs) d h (suc i) (suc j) x y less p q = ordered zs d.1 h.1 i j x y (omega (arith, less)) p q

pub in_order : (t : TableView) → Keeps t → (s : WindowState) → IsInOrder (window_steps t s)
unfolding window_steps
in_order t valid s = ordered (window_steps t s) (by_rule_number-distinct (steps_found t s) (found-distinct t s valid.single)) (by_rule_number-ascending (steps_found t s))
