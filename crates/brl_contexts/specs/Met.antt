-- The forms that the bars of a state meet. The project's own choice.
use Rattle.std.specs.Prelude.{◌≡◌, ◌≢◌, ◌==◌, ℕ, ◌+◌, ◌<◌, All, true, Contains, List, Some, filter, get_or, length, map, slice_get}
use Rattle.std.specs.List.{flat_map, range_with_len}
use Rattle.brl_contexts.specs.declared.met.Met.{Met}
use Rattle.std.specs.List.Sorted.{IsNonDecreasingBy}
use Rattle.brl_pairs.specs.Based.{meeting}
use Rattle.brl_pairs.specs.Order.{all_at, at, is_around, places_around}

-- the form whose number is at a place, with a bar
abbrev pub met_at : List ℕ → ℕ → ℕ → Met
met_at numbers bar place = record { form = get_or numbers place 0; bar = bar }

-- the forms that a bar meets, which begin it or begin with it, in the order of what they read
abbrev pub met_by : List (List ℕ) → List (List ℕ) → List ℕ → ℕ → List Met
met_by bars reads numbers bar = map (met_at numbers bar) (places_around (all_at reads numbers) (at bars bar))

-- the forms that bars meet, bar by bar
abbrev pub met_in : List (List ℕ) → List (List ℕ) → List ℕ → List Met
met_in bars reads numbers = flat_map (met_by bars reads numbers) (range_with_len 0 (length bars))

-- a bar with this number meets a form with one of these numbers: it begins what the form reads, or
-- begins with it
pub record IsMet (bars reads : List (List ℕ)) (numbers : List ℕ) (x : Met) : Type 0 where
  pub form : Contains numbers x.form
  pub bar : x.bar < length bars
  pub meets : is_around (at bars x.bar) (at reads x.form) ≡ true

-- a form with each of these bars
abbrev pub with_bars : ℕ → List ℕ → List Met
with_bars form bars = map (λ bar. record { form = form; bar = bar }) bars

-- these are all forms that bars meet, by ascending form: each form with the bars that meet it
pub record AreMetByForm (bars reads : List (List ℕ)) (found : List Met) : Type 0 where
  pub within : All (λ (x : Met). x.form < length reads) found
  pub ascending : IsNonDecreasingBy (λ (x : Met). x.form) found
  pub each : (form : ℕ) → form < length reads → filter (λ (x : Met). form == x.form) found ≡ with_bars form (meeting bars (at reads form))

-- from this place on, as many have one form, by these bars, and the next one, if there is one, has
-- another form
pub record AreBarsAt (found : List Met) (from : ℕ) (bars : List ℕ) : Type 0 where
  pub form : ℕ
  pub some : 0 < length bars
  pub each : (k bar : ℕ) → slice_get bars k ≡ Some bar → slice_get found (from + k) ≡ Some (record { form = form; bar = bar })
  pub next : (x : Met) → slice_get found (from + length bars) ≡ Some x → x.form ≢ form
