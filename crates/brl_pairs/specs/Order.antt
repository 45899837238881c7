-- Sequences of numbers in ascending order, and those around a key: they begin it, or begin with it.
-- The project's own choice.
use Rattle.std.specs.Prelude.{◌≡◌, ℕ, ◌+◌, ◌<◌, ◌≤◌, Bool, true, false, ◌||◌, All, List, [], ◌++◌, filter, get_or, if◌then◌else◌, length, map, nat_eq}
use Rattle.std.specs.List.{range_with_len, starts_with}
use Rattle.std.specs.List.Sorted.{IsSortedBy}
use Rattle.brl_pairs.specs.Sorted.{is_before}
use Rattle.brl_pairs.specs.declared.order.Around.{Around}
use Rattle.brl_pairs.specs.declared.order.Order.{Order}

-- the sequence at a place; no numbers where there is none
abbrev pub at : List (List ℕ) → ℕ → List ℕ
at all place = get_or all place []

-- the sequences with these numbers among those that are kept, in the order of the numbers
abbrev pub all_at : List (List ℕ) → List ℕ → List (List ℕ)
all_at kept numbers = map (at kept) numbers

-- ---- Around a key

-- whether a sequence is around a key: it begins with the key, or begins it
abbrev pub is_around : List ℕ → List ℕ → Bool
is_around key own = starts_with nat_eq own key || starts_with nat_eq key own

-- the places of the sequences around a key, ascending
abbrev pub places_around : List (List ℕ) → List ℕ → List ℕ
places_around all key = filter (λ place. is_around key (at all place)) (range_with_len 0 (length all))

-- the places that an answer names: first those of shorter sequences, and then an interval
abbrev pub places_of : Around → List ℕ
places_of around = around.shorter.items ++ range_with_len around.from around.count

-- ---- Looked up

-- whether a sequence comes before a key or, where this is asked, begins with it
abbrev pub is_low : Bool → List ℕ → List ℕ → Bool
is_low begins key own = if begins then starts_with nat_eq own key else is_before own key

-- the places from one on are cut in two at n: those before pass the test, and the others don't
pub record IsCutAt (test : ℕ → Bool) (from end n : ℕ) : Type 0 where
  pub after : from ≤ n
  pub within : n ≤ end
  pub low : (place : ℕ) → from ≤ place → place < n → test place ≡ true
  pub high : (place : ℕ) → n ≤ place → place < end → test place ≡ false

-- ---- In order

-- n is one more than the last of the first places, this many, whose sequence begins the key; 0
-- where there is none
pub record IsLastBeginning (all : List (List ℕ)) (key : List ℕ) (end n : ℕ) : Type 0 where
  pub before : n ≤ end
  pub begins : (place : ℕ) → n ≡ place + 1 → starts_with nat_eq key (at all place) ≡ true
  pub others : (place : ℕ) → n ≤ place → place < end → starts_with nat_eq key (at all place) ≡ false

-- for each of the first places, this many, one more than the last place before it whose sequence
-- begins its own
abbrev pub AreBeginnings : List (List ℕ) → List ℕ → Type 0
AreBeginnings all shorter = (place : ℕ) → place < length shorter → IsLastBeginning all (at all place) place (get_or shorter place 0)

-- these sequences are among those that are kept, and ascend
pub record AreInOrder (kept : List (List ℕ)) (numbers : List ℕ) : Type 0 where
  pub within : All (λ number. number < length kept) numbers
  pub ascending : IsSortedBy is_before (all_at kept numbers)

-- an order of sequences that are kept: they ascend, and for each the last one before it that begins
-- it is known
pub record IsOrderOf (kept : List (List ℕ)) (order : Order) : Type 0 where
  pub in_order : AreInOrder kept order.numbers.items
  pub many : length order.shorter.items ≡ length order.numbers.items
  pub beginnings : AreBeginnings (all_at kept order.numbers.items) order.shorter.items
