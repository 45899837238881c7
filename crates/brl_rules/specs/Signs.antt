-- The indicators by their numbers, and lists of the cells of each.
use Rattle.std.specs.Prelude.{ℕ, Bool, ◌==◌, List, [], ◌∷◌, map, slice_index_or, if◌then◌else◌}
use Rattle.brl_rules.specs.declared.signs.Sign.{Sign}
use Rattle.brl_rules.specs.declared.signs.Sign.TheVariants.{CapsLetter, NumSign, NoContractSign, BegCapsWord, EndCapsWord}

-- the number of an indicator, from 0
abbrev pub sign_number : Sign → ℕ
sign_number CapsLetter = 0
sign_number NumSign = 1
sign_number NoContractSign = 2
sign_number BegCapsWord = 3
sign_number EndCapsWord = 4

-- the indicators, by their numbers
abbrev pub all_signs : List Sign
all_signs = CapsLetter ∷ NumSign ∷ NoContractSign ∷ BegCapsWord ∷ EndCapsWord ∷ []

-- whether two indicators are the same
abbrev pub is_same_sign : Sign → Sign → Bool
is_same_sign sign other = sign_number sign == sign_number other

-- the cells of each indicator, by their numbers
abbrev pub by_sign : (Sign → List ℕ) → List (List ℕ)
by_sign cells = map cells all_signs

-- the cells of one indicator in such a list
abbrev pub cells_at : List (List ℕ) → Sign → List ℕ
cells_at signs sign = slice_index_or signs (sign_number sign) []

-- no indicator has cells
abbrev pub no_cells : List (List ℕ)
no_cells = by_sign (λ sign. [])

-- one indicator has these cells, and the others have their own
abbrev pub with_cells : List (List ℕ) → Sign → List ℕ → List (List ℕ)
with_cells signs sign cells = by_sign (λ other. if is_same_sign other sign then cells else cells_at signs other)
