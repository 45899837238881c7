-- What the lines of a file name, one line more at a time.
use Rattle.std.proofs.Common.{◌≡◌, ◌∙◌, ◌+◌, ◌<◌, ◌++◌, ℕ, List, [], ◌∷◌, Option, None, Some, ap, arith, cond, flat_map, get_or, is_some, length, map, refl, string_bytes, subst, sym, take}
use Rattle.std.specs.List.{count_by, enumerate_from}
use Rattle.std.proofs.lemmas.List.{length-take, map-append, take_more}
use Rattle.std.proofs.lemmas.List.Sums.{sum_by-cons}
use Rattle.brl_accepted.specs.FaultText.{FaultView, fault_view}
use Rattle.brl_accepted.specs.Reading.{Named, Names, kept_by, named_by, stale_by}
use Rattle.brl_accepted.specs.Words.{AreFound, named_view}
use Rattle.brl_accepted.specs.declared.fault.ExcuseFaultKind.{ExcuseFaultKind}
use Rattle.brl_accepted.specs.declared.lines.Named.{Named as Line}
use Rattle.brl_accepted.specs.declared.reading.NamedLines.{NamedLines}
use Rattle.brl_accepted.proofs.ListLemmas.{flat_map_push}

-- a line more has the next number
numbered : (n : ℕ) (xs : List (List ℕ)) (x : List ℕ) → enumerate_from n (xs ++ x ∷ []) ≡ enumerate_from n xs ++ (n + length xs, x) ∷ []
numbered n [] x = ap (λ m. (m, x) ∷ []) (let e : n ≡ n + 0 = omega arith in e)
numbered n (y ∷ xs) x = ap (λ rest. (n, y) ∷ rest) (numbered (n + 1) xs x ∙ ap (λ m. enumerate_from (n + 1) xs ++ (m, x) ∷ []) (let e : n + 1 + length xs ≡ n + length (y ∷ xs) = omega arith in e))

numbered_from_0 : (xs : List (List ℕ)) (x : List ℕ) → enumerate_from 0 (xs ++ x ∷ []) ≡ enumerate_from 0 xs ++ (length xs, x) ∷ []
numbered_from_0 xs x = numbered 0 xs x ∙ ap (λ m. enumerate_from 0 xs ++ (m, x) ∷ []) (let e : 0 + length xs ≡ length xs = omega arith in e)

module _ (names : Names) (list : Option (List (ℕ × ℕ))) (path : List ℕ) where
  -- one more line
  found_push : (all : List (List ℕ)) (line : List ℕ) (place : ℕ) (old new : NamedLines) (named : Line) → length all ≡ place → AreFound names list path all old → named_view named ≡ named_by names list line
      → new.pairs.items ≡ old.pairs.items ++ named.pairs.items → map (λ set. set.items) new.sets.items ≡ map (λ set. set.items) old.sets.items ++ named.set.items ∷ []
      → map fault_view new.stale.items ≡ map fault_view old.stale.items ++ stale_by named.fault path (place, line) → string_bytes new.kept ≡ string_bytes old.kept ++ kept_by named.fault line
      → AreFound names list path (all ++ line ∷ []) new
  found_push all line place old new named place_is so_far is pairs sets stale kept =
      let fault = ap (λ (view : Named). view.fault) is in
      record {
        pairs = pairs ∙ (λ i. so_far.pairs i ++ (is i).pairs) ∙ sym (flat_map_push (λ l. (named_by names list l).pairs) all line);
        sets = sets ∙ (λ i. so_far.sets i ++ (is i).set ∷ []) ∙ sym (map-append (λ l. (named_by names list l).set) all (line ∷ []));
        stale = stale ∙ (λ i. so_far.stale i ++ stale_by (fault i) path (sym place_is i, line))
            ∙ sym (ap (flat_map (λ row. stale_by (named_by names list row.1).fault path row)) (numbered_from_0 all line) ∙ flat_map_push (λ row. stale_by (named_by names list row.1).fault path row) (enumerate_from 0 all) (length all, line));
        kept = kept ∙ (λ i. so_far.kept i ++ kept_by (fault i) line) ∙ sym (flat_map_push (λ l. kept_by (named_by names list l).fault l) all line);
      }

  pub found_more : (all : List (List ℕ)) (line : List ℕ) (place : ℕ) (old new : NamedLines) (named : Line) → place < length all → get_or all place [] ≡ line → AreFound names list path (take place all) old
      → named_view named ≡ named_by names list line → new.pairs.items ≡ old.pairs.items ++ named.pairs.items → map (λ set. set.items) new.sets.items ≡ map (λ set. set.items) old.sets.items ++ named.set.items ∷ []
      → map fault_view new.stale.items ≡ map fault_view old.stale.items ++ stale_by named.fault path (place, line) → string_bytes new.kept ≡ string_bytes old.kept ++ kept_by named.fault line
      → AreFound names list path (take (place + 1) all) new
  found_more all line place old new named within item so_far is pairs sets stale kept =
      subst (λ (ls : List (List ℕ)). AreFound names list path ls new) (sym (take_more all place [] within ∙ ap (λ (l : List ℕ). take place all ++ l ∷ []) item))
      (found_push (take place all) line place old new named (length_taken place all within) so_far is pairs sets stale kept)
    where
      length_taken : (i : ℕ) (xs : List (List ℕ)) → i < length xs → length (take i xs) ≡ i
      length_taken i xs within = grind (arith, length-take i xs)

  -- how many are stale
  by_one : (n : ℕ) (line : List ℕ) (fault : Option ExcuseFaultKind) (rest : List FaultView) (count : ℕ) → length rest ≡ count → length (stale_by fault path (n, line) ++ rest) ≡ cond (is_some fault) 1 0 + count
  by_one n line None rest count is = omega (arith, is)
  by_one n line (Some kind) rest count is = omega (arith, is)

  pub stale_counted : (n : ℕ) (all : List (List ℕ)) → length (flat_map (λ row. stale_by (named_by names list row.1).fault path row) (enumerate_from n all)) ≡ count_by (λ (line : Named). is_some line.fault) (map (named_by names list) all)
  stale_counted n [] = refl
  stale_counted n (line ∷ all) =
      by_one n line (named_by names list line).fault (flat_map (λ row. stale_by (named_by names list row.1).fault path row) (enumerate_from (n + 1) all)) _ (stale_counted (n + 1) all)
      ∙ sym (sum_by-cons (λ (l : Named). cond (is_some l.fault) 1 0) (named_by names list line) (map (named_by names list) all))
