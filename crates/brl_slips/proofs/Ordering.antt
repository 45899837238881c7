-- The numbers of slips in their order.
use Rattle.std.proofs.Common.{List}
use Rattle.std.specs.Cmp.{IsTotalOrder}
use Rattle.std.proofs.lemmas.Cmp.{back_total, nat_cmp_total, on_total, then_total}
use Rattle.brl_slips.specs.Order.{cells_at, group_at, slip_cmp}
use Rattle.brl_slips.specs.declared.slip.Slip.{Slip}

-- the order is total
abbrev pub ordered : (slips : List Slip) → IsTotalOrder (slip_cmp slips)
ordered slips = then_total (on_total (group_at slips) nat_cmp_total) (then_total (on_total (cells_at slips) (back_total nat_cmp_total)) nat_cmp_total)
