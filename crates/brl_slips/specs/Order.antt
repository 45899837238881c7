-- The order in which slips are shown: those that are wrong most often first. The project's own.
use Rattle.std.specs.Prelude.{ℕ, ◌==◌, if◌then◌else◌, List, slice_get}
use Rattle.std.specs.Option.{option_map_or}
use Rattle.std.specs.Ordering.{flip_args, nat_cmp, on, then_cmp}
use Rattle.std.specs.declared.cmp.Ordering.{Ordering}
use Rattle.brl_slips.specs.declared.fault.Fault.{Fault}
use Rattle.brl_slips.specs.declared.fault.Fault.TheVariants.{Exchanged, Missing, Replaced, TooMany, TwoReplaced}
use Rattle.brl_slips.specs.declared.slip.Slip.{Slip}

-- the group of a slip of five cells or more, or of four: one cell replaced or exchanged, of five
-- cells or more; too many and missing; four cells; two replaced
abbrev pub group_of : Fault → ℕ → ℕ
group_of (Replaced place) cells = if cells == 4 then 2 else 0
group_of (Exchanged place) cells = if cells == 4 then 2 else 0
group_of (TooMany place) cells = if cells == 4 then 2 else 1
group_of (Missing place) cells = if cells == 4 then 2 else 1
group_of (TwoReplaced first second) cells = 3

-- the group, and the number of cells, of the slip with a number
abbrev pub group_at : List Slip → ℕ → ℕ
group_at slips number = option_map_or (λ (slip : Slip). group_of slip.fault slip.length) (slice_get slips number) 0

abbrev pub cells_at : List Slip → ℕ → ℕ
cells_at slips number = option_map_or (λ (slip : Slip). slip.length) (slice_get slips number) 0

-- slips by their groups; in each the rule with more cells first, then the one that comes first in
-- the table
abbrev pub slip_cmp : List Slip → ℕ → ℕ → Ordering
slip_cmp slips = then_cmp (on (group_at slips) nat_cmp) (then_cmp (on (cells_at slips) (flip_args nat_cmp)) nat_cmp)
