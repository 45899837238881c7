use Rattle.std.proofs.Common.{◌≡◌, ◌∙◌, ◌++◌, List, ℕ, ap, map, string_bytes}
use Rattle.brl_accepted.specs.Pairs.{pairs_text}
use Rattle.brl_accepted.specs.Reading.{names_of}
use Rattle.brl_accepted.specs.Writing.{listed_sets, pairs_beside, sets_text}
use Rattle.brl_accepted.proofs.writing.write_accepted.Goals as goal

pub returns : goal.returns
returns c =
    let names = names_of c.args.known in
    let t = names.table in
    let listed = c.args.listed.now in
    let found = listed_sets t names.sets listed in
    let sets : map (λ set. set.items) c.in_ok-sets.sets.items ≡ found = c.in_ok-sets.ensures ∙ ap (listed_sets t names.sets) (c.in_ok-all.ensures ∙ c.in_ok-from_slice.ensures.items) in
    let pairs : c.in_ok-pairs.pairs.items ≡ pairs_beside t found listed =
    c.in_ok-pairs.ensures ∙ ap (λ (ss : List (List ℕ)). pairs_beside t ss listed) (ap (map (λ set. set.items)) c.as_slice.ensures.value ∙ sets) in
    let words : map string_bytes c.as_slice-3.result.now ≡ names.words = ap (map string_bytes) c.as_slice-3.ensures.value ∙ c.in_ok-words.ensures in
    let first = c.in_ok-text.ensures ∙ ap sets_text (ap (map (λ set. set.items)) c.as_slice-2.ensures.value ∙ sets) in
    let rest = c.as_str.ensures.value ∙ c.in_ok-write_pairs.ensures ∙ (λ i. pairs_text (words i) ((c.as_slice-4.ensures.value ∙ pairs) i)) in
    c.in_ok-push_str.ensures.bytes ∙ (λ i. first i ++ rest i)
