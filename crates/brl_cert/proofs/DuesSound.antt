-- A state of version 2 or 3 that is read is in range, and its dues are in order.
use Rattle.std.proofs.Common.{◌≡◌, ◌⊎◌, inl, inr, ℕ, ◌<◌, ◌≤◌, Bool, true, false, cond, eqb, All, List, [], ◌∷◌, length, Option, Some, None, ◌↔◌, subst, arith, IsTrue}
use Rattle.std.specs.List.{AllByRecursion, Contains, slice_split}
use Rattle.std.proofs.lemmas.List.Elements.{All-contains, All-contains_itself, All-from_recursion, All-weaker}
use Rattle.brl_rules.specs.declared.class.Class.{Class}
use Rattle.brl_rules.specs.declared.place.Cond.{Cond}
use Rattle.brl_rules.specs.declared.place.Cond.TheVariants.{Any, Meets, Avoids}
use Rattle.brl_rules.proofs.Facts.{some_is}
use Rattle.brl_states.specs.DuesContext.{state_in}
use Rattle.brl_states.specs.Order.{AreDues, in_order, is_proper}
use Rattle.brl_states.specs.declared.due.Due.{Due}
use Rattle.brl_states.specs.declared.due.Due.TheVariants.{Need, Bar}
use Rattle.brl_states.specs.declared.dues_state.DuesState.{DuesState}
use Rattle.brl_cert.specs.Dues.{lenient_any, lenient_due, lenient_dues, lenient_head, lenient_parts, lenient_set, lenient_state, lenient_word, or_else, dues_format, word_format}
use Rattle.brl_cert.specs.Fields.{◌>>=◌, each, flag, lenient_char, lenient_context, number}
use Rattle.brl_cert.specs.Valid.{HasSet, IsDue, IsDuesState, IsCapsFree}
use Rattle.brl_cert.proofs.DuesLaws.{DuesState-Decides, Fine}
use Rattle.brl_cert.proofs.Sound.{ReadsStates, context_valid, each_valid, equal_from_decides, lenient_number-small, some_if, then_some}

-- the laws of the order of dues, as states that are read need them
pub record KeepsOrder : Type 0 where
  pub made : (dues : List Due) → All (λ due. IsTrue (is_proper due)) dues → AreDues (in_order dues)
  pub members : (dues : List Due) (due : Due) → Contains (in_order dues) due ↔ Contains dues due

-- ---- One due

head_valid : (asks : Cond) → HasSet asks → (head : List ℕ) (d : Due) → lenient_head asks head ≡ Some d → IsDue d
head_valid asks h [] d e = absurd cc
head_valid asks h (first ∷ rest) d e = by_need (eqb first 110) e
  where
    by_length : (b : Bool) → cond b (Some (Need asks)) None ≡ Some d → IsDue d
    by_length true e = subst IsDue (some_is (Need asks) d e) h
    by_length false e = absurd cc

    by_bar : (b : Bool) → cond b (each lenient_char (slice_split (λ c. eqb c 46) rest) >>= λ chars. Some (Bar chars asks)) None ≡ Some d → IsDue d
    by_bar false e = absurd cc
    by_bar true e =
        let a = then_some (each lenient_char (slice_split (λ c. eqb c 46) rest)) (λ chars. Some (Bar chars asks)) d e in
        subst IsDue (some_is (Bar a.0 asks) d a.2) (All-from_recursion _ a.0 (each_valid (slice_split (λ c. eqb c 46) rest) a.0 a.1), h)

    by_need : (b : Bool) → cond b (cond (eqb (length rest) 0) (Some (Need asks)) None) (cond (eqb first 98) (each lenient_char (slice_split (λ c. eqb c 46) rest) >>= λ chars. Some (Bar chars asks)) None) ≡ Some d → IsDue d
    by_need true e = by_length (eqb (length rest) 0) e
    by_need false e = by_bar (eqb first 98) e

set_valid : (asks : Class → Cond) → ((set : Class) → set.0 < 256 → HasSet (asks set)) → (parts : List (List ℕ)) (d : Due) → lenient_set asks parts ≡ Some d → IsDue d
set_valid asks has [] d e = absurd cc
set_valid asks has (head ∷ []) d e = absurd cc
set_valid asks has (head ∷ set ∷ []) d e =
    let a = then_some ((number 255).lenient set) (λ n. lenient_head (asks (record { 0 = n })) head) d e in
    let small : a.0 ≤ 255 = lenient_number-small 10 255 set a.0 a.1 in
    head_valid (asks (record { 0 = a.0 })) (has (record { 0 = a.0 }) (omega (arith, small))) head d a.2
set_valid asks has (head ∷ set ∷ other ∷ parts) d e = absurd cc

any_valid : (parts : List (List ℕ)) (d : Due) → lenient_any parts ≡ Some d → IsDue d
any_valid [] d e = absurd cc
any_valid (head ∷ []) d e = absurd cc
any_valid (head ∷ set ∷ []) d e = head_valid Any tt head d (some_if (eqb (length set) 0) (lenient_head Any head) d e).1
any_valid (head ∷ set ∷ other ∷ parts) d e = absurd cc

either_is : {A : Type 0} (one other : Option A) (x : A) → or_else one other ≡ Some x → (one ≡ Some x) ⊎ (other ≡ Some x)
either_is None other x e = inr e
either_is (Some y) other x e = inl e

parts_valid : (field : List ℕ) (d : Due) → lenient_parts field ≡ Some d → IsDue d
parts_valid field d e =
    elim (either_is (lenient_set Meets (slice_split (λ b. eqb b 43) field)) (or_else (lenient_set Avoids (slice_split (λ b. eqb b 45) field)) (lenient_any (slice_split (λ b. eqb b 42) field))) d e) [
      | inl meets ↦ set_valid Meets (λ set h. h) (slice_split (λ b. eqb b 43) field) d meets
      | inr other ↦ elim (either_is (lenient_set Avoids (slice_split (λ b. eqb b 45) field)) (lenient_any (slice_split (λ b. eqb b 42) field)) d other) [
        | inl avoids ↦ set_valid Avoids (λ set h. h) (slice_split (λ b. eqb b 45) field) d avoids
        | inr any ↦ any_valid (slice_split (λ b. eqb b 42) field) d any
      ]
    ]

due_valid : (field : List ℕ) (d : Due) → lenient_due field ≡ Some d → Fine d
due_valid field d e =
    let a = then_some (lenient_parts field) (λ due. cond (is_proper due) (Some due) None) d e in
    let b = some_if (is_proper a.0) (Some a.0) d a.2 in
    subst Fine (some_is a.0 d b.1) record { due = parts_valid field a.0 a.1; proper = b.0 }

-- ---- A state

dues_valid : (fields : List (List ℕ)) (dues : List Due) → each lenient_due fields ≡ Some dues → AllByRecursion Fine dues
dues_valid [] dues e = subst (AllByRecursion Fine) (some_is [] dues e) tt
dues_valid (field ∷ fields) dues e =
    let a = then_some (lenient_due field) (λ d. each lenient_due fields >>= λ more. Some (d ∷ more)) dues e in
    let b = then_some (each lenient_due fields) (λ more. Some (a.0 ∷ more)) dues a.2 in
    subst (AllByRecursion Fine) (some_is (a.0 ∷ b.0) dues b.2) (due_valid field a.0 a.1, dues_valid fields b.0 b.1)

module _ (order : KeepsOrder) where
  each_in_order : (dues : List Due) → All Fine dues → All IsDue (in_order dues)
  each_in_order dues fine =
      All-weaker (Contains (in_order dues)) IsDue (λ d c. (All-contains Fine dues d fine ((order.members dues d).0 c)).due) (in_order dues) (All-contains_itself (in_order dues))

  in_order_kept : (dues : List Due) → All Fine dues → AreDues (in_order dues)
  in_order_kept dues fine = order.made dues (All-weaker Fine (λ d. IsTrue (is_proper d)) (λ d h. h.proper) dues fine)

  state_valid : (b n : List ℕ) (run : Bool) (fields : List (List ℕ)) (s : DuesState) → lenient_state b n run fields ≡ Some s → IsDuesState s × (s.run ≡ run)
  state_valid b n run fields s e =
      let x = then_some (lenient_context b n run) (λ here. each lenient_due fields >>= λ dues. Some (state_in here (in_order dues))) s e in
      let z = then_some (each lenient_due fields) (λ dues. Some (state_in x.0 (in_order dues))) s x.2 in
      let here = context_valid b n run x.0 x.1 in
      let small = here.0 in
      let fine : All Fine z.0 = All-from_recursion Fine z.0 (dues_valid fields z.0 z.1) in
      subst (λ (s : DuesState). IsDuesState s × (s.run ≡ run)) (some_is (state_in x.0 (in_order z.0)) s z.2)
      (record { before = omega (arith, small); each = each_in_order z.0 fine; kept = in_order_kept z.0 fine }, here.1)

  owing_valid : (fields : List (List ℕ)) (s : DuesState) → lenient_dues fields ≡ Some s → IsCapsFree IsDuesState (λ z. z.run) s
  owing_valid [] s e = absurd cc
  owing_valid (b ∷ []) s e = absurd cc
  owing_valid (b ∷ n ∷ fields) s e = state_valid b n false fields s e

  word_valid : (fields : List (List ℕ)) (s : DuesState) → lenient_word fields ≡ Some s → IsDuesState s
  word_valid [] s e = absurd cc
  word_valid (b ∷ []) s e = absurd cc
  word_valid (b ∷ n ∷ []) s e = absurd cc
  word_valid (b ∷ n ∷ r ∷ fields) s e =
      let x = then_some (flag.lenient r) (λ run. lenient_state b n run fields) s e in
      (state_valid b n x.0 fields s x.2).0

  pub reads_owing : ReadsStates dues_format (IsCapsFree IsDuesState (λ s. s.run))
  reads_owing = record { valid = owing_valid; equal = equal_from_decides dues_format.same DuesState-Decides }

  pub reads_word : ReadsStates word_format IsDuesState
  reads_word = record { valid = word_valid; equal = equal_from_decides dues_format.same DuesState-Decides }
