-- Where a row that is too long is cut off.
use Rattle.std.proofs.Common.{◌≡◌, ◌≢◌, ℕ, zero, suc, ◌-◌, true, false, List, refl, arith}
use Rattle.std.specs.Prelude.{slice_index}
use Rattle.brl_cut.specs.Edits.{begins_character, character_at}

pub character-here : (row : List ℕ) (at : ℕ) → at ≢ 0 → begins_character (slice_index row at) ≡ true → character_at at row ≡ at
unfolding character_at
character-here row zero h begins = absurd (h refl)
character-here row (suc n) h begins = rw begins refl

pub character-less : (row : List ℕ) (at : ℕ) → at ≢ 0 → begins_character (slice_index row at) ≡ false → character_at (at - 1) row ≡ character_at at row
unfolding character_at
character-less row zero h goes = absurd (h refl)
character-less row (suc n) h goes =
    let same : suc n - 1 ≡ n = omega arith in
    rw (goes, same) refl

pub character-none : (row : List ℕ) (at : ℕ) → at ≡ 0 → character_at at row ≡ at
unfolding character_at
character-none row zero h = refl
character-none row (suc n) h = absurd (omega (arith, h))
