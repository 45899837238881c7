use Rattle.std.proofs.Common.{◌∙◌, arith, nat_eq, sym}
use Rattle.brl_states.proofs.Kept.{keeps_of}
use Rattle.brl_dues.specs.Capitals.{letters}
use Rattle.brl_dues.specs.Letters.{bars_from}
use Rattle.brl_dues.proofs.FirstBars.{number-within, put-alike, put-defined, put-undefined}
use Rattle.brl_dues.proofs.starts.put_start.Goals as goal

pub index_mut-requires : goal.index_mut-requires
index_mut-requires c =
    let within = number-within c.args.place (λ x. x) c.in-Some.first c.args.table.now (keeps_of c.args.table.now c.law.ensures) c.in-Some-info.info.now (sym c.in-Some-info.ensures.value) in
    omega (arith, within, c.requires)

pub returns-in-Some-info : goal.returns-in-Some-info
returns-in-Some-info c later h =
    put-defined c.args.place later c.in-Some.first c.args.table.now (keeps_of c.args.table.now c.law.ensures) c.in-Some-info.info.now (sym c.in-Some-info.ensures.value) c.args.places.now.items h
    ∙ sym (put-alike c.args.place later (λ x. bars_from x c.args.due.now) (nat_eq c.in-Some.first) c.in-Some.ensures (letters c.args.table.now))

pub returns-in_default-info : goal.returns-in_default-info
returns-in_default-info c later h =
    put-undefined c.args.place later c.in-Some.first c.args.table.now (sym c.in_default-info.ensures.value) c.args.places.now.items h
    ∙ sym (put-alike c.args.place later (λ x. bars_from x c.args.due.now) (nat_eq c.in-Some.first) c.in-Some.ensures (letters c.args.table.now))
