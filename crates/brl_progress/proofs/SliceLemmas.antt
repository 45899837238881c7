-- Work in slices has less to do after each, and ends as it began.
use Rattle.std.proofs.Common.{Err, IfOk, Ok, Result, ℕ, ◌≡◌, ◌+◌, ◌<◌, ◌≤◌, subst, sym, arith}
use Rattle.brl_progress.specs.Slices.{EndsWith, IfFinished, IfUnfinished}
use Rattle.brl_progress.specs.declared.slices.Slice.{Slice}
use Rattle.brl_progress.specs.declared.slices.Slice.TheVariants.{Finished, Unfinished}

module _ {S T : Type 0} where
  -- how many steps are left at most, and one more for the end
  abbrev pub steps_left_in : (S → ℕ) → Slice S T → ℕ
  steps_left_in steps_left (Unfinished rest) = steps_left rest + 1
  steps_left_in steps_left (Finished outcome) = 0

  -- a slice of at least one step leaves less
  pub less_left : (steps_left : S → ℕ) (old : S) (steps : ℕ) → 0 < steps → (slice : Slice S T)
      → IfUnfinished (λ new. steps_left new + steps ≤ steps_left old) slice → steps_left_in steps_left slice < steps_left old + 1
  less_left steps_left old steps some (Unfinished new) fewer = omega arith
  less_left steps_left old steps some (Finished outcome) fewer = omega arith

  -- a fact of the rest gives another one
  pub if_unfinished : (P Q : S → Type 0) → ((rest : S) → P rest → Q rest) → (slice : Slice S T) → IfUnfinished P slice → IfUnfinished Q slice
  if_unfinished P Q gives (Unfinished rest) p = gives rest p
  if_unfinished P Q gives (Finished outcome) p = tt

  -- what the work ends with after a slice, it ends with
  pub ends_after : (ends_with : S → T → Type 0) (old : S) (slice : Slice S T) (outcome : T) → IfFinished (ends_with old) slice
      → IfUnfinished (λ new. ends_with new outcome → ends_with old outcome) slice → EndsWith ends_with slice outcome → ends_with old outcome
  ends_after ends_with old (Finished first) outcome finished same ends = subst (ends_with old) (sym ends) finished
  ends_after ends_with old (Unfinished rest) outcome finished same ends = same ends

  -- what the work begins with, it ends with
  pub ends_as : {E : Type 0} (P : T → Type 0) (Q : S → Type 0) (ends_with : S → T → Type 0) → ((rest : S) (outcome : T) → Q rest → ends_with rest outcome → P outcome)
      → (begun : Slice S T) → IfFinished P begun → IfUnfinished Q begun → (r : Result T E) → IfOk r (EndsWith ends_with begun) → IfOk r P
  ends_as P Q ends_with gives (Finished first) finished unfinished (Ok outcome) ends = subst P (sym ends) finished
  ends_as P Q ends_with gives (Unfinished rest) finished unfinished (Ok outcome) ends = gives rest outcome unfinished ends
  ends_as P Q ends_with gives begun finished unfinished (Err fault) ends = tt

  -- work on a machine, with a limit, ends as that machine and that limit say
  pub ends_for : {E M : Type 0} (P : M → ℕ → T → Type 0) (machine_of : S → M) (limit_of : S → ℕ) (machine : M) (limit : ℕ) (Q : S → Type 0)
      → ((rest : S) → Q rest → (machine_of rest ≡ machine) × (limit_of rest ≡ limit))
      → (begun : Slice S T) → IfFinished (P machine limit) begun → IfUnfinished Q begun → (r : Result T E) → IfOk r (EndsWith (λ rest. P (machine_of rest) (limit_of rest)) begun) → IfOk r (P machine limit)
  ends_for {E} {M} P machine_of limit_of machine limit Q stays =
      ends_as (P machine limit) Q (λ rest. P (machine_of rest) (limit_of rest))
      (λ rest outcome same ends. subst (λ (n : ℕ). P machine n outcome) (stays rest same).1 (subst (λ (x : M). P x (limit_of rest) outcome) (stays rest same).0 ends))
