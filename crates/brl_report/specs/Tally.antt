-- Internal. What a tally of opcodes has.
use Rattle.std.specs.Prelude.{ℕ, ◌≡◌, List, count_by, map, unwrap_or, bytes_eq}
use Rattle.std.specs.Borrow.{Bor}
use Rattle.std.specs.BTreeMap.{BTreeMap, get_by}
use Rattle.std.specs.Cmp.Lexicographic.{slice_cmp}
use Rattle.std.specs.Global.{Vec}
use Rattle.std.specs.Ordering.{nat_cmp}
use Rattle.brl_table.specs.Reading.{dedup}

-- the names are these opcodes, each once, and the numbers are how often each is among them
pub record IsTally (opcodes : List (List ℕ)) (names : Vec (Bor (List ℕ))) (numbers : BTreeMap (Bor (List ℕ)) ℕ) : Type 0 where
  pub names_are : map (λ name. name.now) names.items ≡ dedup bytes_eq opcodes
  pub numbers_are : (name : List ℕ) → unwrap_or (get_by (λ key. slice_cmp nat_cmp name key.now) numbers) 0 ≡ count_by (bytes_eq name) opcodes
