-- What is asked of a table. The project's own choice.
use Rattle.std.specs.Prelude.{◌≡◌, []}
use Rattle.brl_pairs.specs.declared.excused.Excused.{Excused}

-- nothing is excused
abbrev pub IsNothing : Excused → Type 0
IsNothing excused = (excused.accepted ≡ []) × (excused.exchanged ≡ [])
