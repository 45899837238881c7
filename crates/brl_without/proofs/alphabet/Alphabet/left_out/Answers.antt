use Rattle.std.proofs.Common.{Result, Ok, Err, OnOk, refl}
use Rattle.brl_without.proofs.Alphabets.{outside_defined}
use Rattle.brl_without.proofs.alphabet.Alphabet.left_out.Goals as goal

on_ok : {A E : Type 0} (holds : Type 0) (result : Result A E) → holds → OnOk result holds
on_ok holds (Ok x) h = h
on_ok holds (Err e) h = tt

pub returns-in-Only-clause-defined : goal.returns-in-Only-clause-defined
returns-in-Only-clause-defined c = on_ok _ c.only.result (rw c.in-Only.is (outside_defined c.args.table.now c.in-Only.spans.items))
