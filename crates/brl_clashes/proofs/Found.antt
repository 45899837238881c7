-- What the texts of a section use, and that none of them clash.
use Rattle.std.proofs.Common.{◌≡◌, ◌∙◌, ◌+◌, ◌-◌, ◌++◌, ℕ, List, Option, None, Some, true, false, ap, arith, drop, length, length-drop, take, take_all}
use Rattle.std.specs.Prelude.{◌&&◌}
use Rattle.std.specs.Option.{option_map_or}
use Rattle.std.proofs.lemmas.Bool.{and_parts}
use Rattle.brl_clashes.proofs.Verdicts.{no_clashes}
use Rattle.brl_clashes.specs.Finding.{IfKnown}
use Rattle.brl_clashes.specs.Kinds.{kept, left_out_in, of_kinds, section_kinds}
use Rattle.brl_clashes.specs.Sections.{is_whole, lists_none}
use Rattle.brl_clashes.specs.Showing.{Asked}
use Rattle.brl_clashes.specs.declared.kind.Kind.{Kind}
use Rattle.brl_rules.specs.TableView.{TableView}
use Rattle.brl_search.specs.declared.table_clashes.ClashList.{ClashList}
use Rattle.brl_without.specs.Tables.{IsUnambiguousWithout}

-- the rest of a list from a place on, as a slice
rest_of : (k : ℕ) (xs : List Kind) → take (length xs - k) (drop k xs) ≡ drop k xs
rest_of k xs = take_all (length xs - k) (drop k xs) (omega (arith, length-drop k xs))

-- what the texts of a section don't use, as the code has it
pub left_out_is : (t : TableView) (left_out : List ℕ) (place : ℕ) (kinds : List Kind) (characters without : List ℕ) → kinds ≡ section_kinds t left_out → characters ≡ kept t left_out
    → without ≡ left_out ++ of_kinds t (take (length kinds - (place + 1)) (drop (place + 1) kinds)) characters → without ≡ left_out_in t left_out place
left_out_is t left_out place kinds characters without kinds_are kept_are without_is =
    without_is ∙ ap (λ (ks : List Kind). left_out ++ of_kinds t ks characters) (rest_of (place + 1) kinds ∙ ap (drop (place + 1)) kinds_are)
    ∙ ap (λ (cs : List ℕ). left_out ++ of_kinds t (drop (place + 1) (section_kinds t left_out)) cs) kept_are

-- where the list of all texts is known and empty, no two texts clash
pub none_of : (asked : Asked) (all : Option ClashList) → IfKnown asked all → option_map_or (λ found. is_whole found && lists_none found) all false ≡ true → IsUnambiguousWithout asked.left_out asked.table
none_of asked None known is = absurd cc
none_of asked (Some all) known is =
    let (whole, none) = and_parts (is_whole all) (lists_none all) is in
    no_clashes asked.table asked.left_out asked.limit all known whole none
