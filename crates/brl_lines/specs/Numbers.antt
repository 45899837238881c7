-- Numbers in texts. A text is the list of its bytes. The project's own choice.
use Rattle.std.specs.Prelude.{ℕ, nat_lt, nat_le, ◌&&◌, if◌then◌else◌, List, length, Option, Some, None}
use Rattle.std.specs.Char.{is_digit}
use Rattle.std.specs.List.{list_all}
use Rattle.std.specs.Str.Parse.{digits_value}

-- the number that digits of the radix spell, up to the greatest; leading zeros and capital letters
-- are allowed
abbrev pub lenient_number : ℕ → ℕ → List ℕ → Option ℕ
lenient_number radix greatest field =
    if nat_lt 0 (length field) && list_all (λ c. is_digit c radix) field && nat_le (digits_value radix field) greatest
    then Some (digits_value radix field) else None
