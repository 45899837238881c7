-- Internal. Where a table has each character, by its code point.
use Rattle.std.specs.Prelude.{ℕ, ◌≡◌, ◌/◌, ◌%◌, nat_eq, List, [], slice_get, slice_index_or, option_map}
use Rattle.std.specs.Map.{lookup}
use Rattle.std.specs.Option.{option_map_or}
use Rattle.brl_rules.specs.declared.pages.Pages.{Pages}
use Rattle.brl_rules.specs.declared.rule.Info.{Info}

-- the places that a page of a code point has
abbrev pub page_of : Pages → ℕ → List ℕ
page_of pages c = option_map_or (λ page. page.items) (slice_get pages.pages.items (c / 256)) []

-- the place of a character, and 65535 where it has none
abbrev pub place_in : Pages → ℕ → ℕ
place_in pages c = slice_index_or (page_of pages c) (c % 256) 65535

-- each of these characters is found at its place, and no other one is found
abbrev pub ArePagesOf : List (ℕ × Info) → Pages → Type 0
ArePagesOf characters pages =
    (c : ℕ) → option_map (λ entry. entry.1) (slice_get characters (place_in pages c)) ≡ lookup (nat_eq c) characters
