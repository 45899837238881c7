use Rattle.std.proofs.Common.{◌≡◌, ◌≢◌, ◌<◌, ℕ, suc, false, List, [], ◌∷◌, Option, None, Bor, arith, get_or, length, lit<, nat_eq, refl, ne_eqb}
use Rattle.std.specs.List.{list_any}
use Rattle.std.proofs.lemmas.Str.Pattern.{IsSplitOnceResult, split_parts}
use Rattle.brl_explain.specs.Details.{is_comma}
use Rattle.brl_explain.proofs.details.whole_note.Goals as goal

none_there : (dots : List ℕ) → ((i : ℕ) → i < length dots → get_or dots i 0 ≢ 44) → list_any is_comma dots ≡ false
none_there [] none = refl
none_there (byte ∷ dots) none =
    let first : nat_eq byte 44 ≡ false = ne_eqb byte 44 (none 0 (omega arith)) in
    let others = none_there dots (λ i within. none (suc i) (omega arith)) in
    rw (first, others) refl

no_comma : (dots : List ℕ) (parts : Option (Bor (List ℕ) × Bor (List ℕ))) → IsSplitOnceResult 44 dots parts → parts ≡ None → list_any is_comma dots ≡ false
no_comma dots parts is none = none_there dots (rw none at (split_parts 44 dots parts is (lit< tt)))

pub returns-in-None : goal.returns-in-None
returns-in-None c = rw (no_comma c.args.dots.now c.split_once.result c.split_once.ensures.cases c.in-None.is) c.dots_note.ensures
