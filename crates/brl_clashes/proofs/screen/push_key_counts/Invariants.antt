use Rattle.std.proofs.Common.{◌≡◌, ◌++◌, flat_map, string_bytes, take}
use Rattle.brl_clashes.specs.Screen.{key_count}
use Rattle.brl_clashes.proofs.screen.push_key_counts.Given as goal

-- the counts so far are written
abbrev pub invariant-loop-kind : goal.invariant-loop-kind
invariant-loop-kind l = string_bytes l.text ≡ string_bytes l.fn.text ++ flat_map (key_count l.kinds) (take l.kind-index l.others)
