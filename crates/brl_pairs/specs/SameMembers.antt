-- Internal. Booleans, numbers and cells that their equality calls equal are equal.
use Rattle.std.proofs.Common.{◌≡◌, ℕ, Bool, true, false, eqb, refl, List, nat_eq}
use Rattle.std.specs.Cmp.Lexicographic.{bytes_decides, pointwise}
use Rattle.std.proofs.Math.Bool.{beq}
use Rattle.std.proofs.lemmas.Bool.Decides.{Decides-eqb}

-- booleans that are equal by comparison are equal
pub same_bools : (a b : Bool) → beq a b ≡ true → a ≡ b
same_bools true true h = refl
same_bools false false h = refl
same_bools a b h = cc

-- numbers that are equal by comparison are equal
pub same_numbers : (a b : ℕ) → eqb a b ≡ true → a ≡ b
same_numbers a b h = (Decides-eqb a b).0 h

-- cells that are equal by comparison are equal
pub same_cells : (a b : List ℕ) → pointwise nat_eq a b ≡ true → a ≡ b
same_cells a b h = (bytes_decides a b).0 h
