-- The numbers of what a certificate lists.
use Rattle.std.specs.Prelude.{ℕ, length}
use Rattle.brl_states.specs.declared.cert.Cert.TheVariants.{Dues, Window, Word}
use Rattle.brl_states.specs.declared.cert.Cert.{Cert as Certificate}

-- the number of states that a certificate lists
abbrev pub state_count : Certificate → ℕ
state_count (Window body) = length body.states
state_count (Dues body) = length body.states
state_count (Word body) = length body.states

-- the number of pairs that a certificate lists
abbrev pub pair_count : Certificate → ℕ
pair_count (Window body) = length body.pairs
pair_count (Dues body) = length body.pairs
pair_count (Word body) = length body.pairs
