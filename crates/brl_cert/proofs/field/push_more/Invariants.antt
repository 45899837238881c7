use Rattle.std.proofs.Common.{◌≡◌, ◌++◌, ◌∷◌, take, All, true, false}
use Rattle.std.specs.Fmt.{digits}
use Rattle.std.specs.List.{flat_map}
use Rattle.brl_cert.specs.Fields.{is_char}
use Rattle.brl_cert.proofs.field.push_more.Given as goal

abbrev pub invariant-loop-character : goal.invariant-loop-character
invariant-loop-character l = record {
  written : l.out.items ≡ l.fn.out.items ++ flat_map (λ c. 46 ∷ digits 16 false c) (take l.character-index l.characters);
  in_range : All (λ c. is_char c ≡ true) (take l.character-index l.characters);
}
