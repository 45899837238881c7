use Rattle.std.proofs.Common.{◌≡◌, ◌∙◌, ◌++◌, ℕ, List, ap, arith, take, nat_le, length, true, false, refl}
use Rattle.std.proofs.lemmas.Bool.Decides.{nat_tests}
use Rattle.std.specs.Prelude.{codes}
use Rattle.brl_cut.specs.Edits.{character_at}
use Rattle.brl_cut.proofs.text.limit.Goals as goal
use Rattle.brl_cut.proofs.text.limit.Goals.{then-len-gt-MOST_ROW_BYTES+in_ok-extend_from_slice, else-len-gt-MOST_ROW_BYTES}

pub returns : goal.returns
returns c =
    elim c.if-len-gt-MOST_ROW_BYTES.branch [
      | then-len-gt-MOST_ROW_BYTES+in_ok-extend_from_slice w ↦
          (let large : nat_le (length c.args.row.items) 2048 ≡ false = grind (arith, nat_tests) in
          rw (w.row-is, large) (w.in_ok-extend_from_slice.ensures.items ∙ ap (λ (xs : List ℕ). w.truncate.new.self.items ++ xs) w.as_bytes.ensures.value ∙ ap (λ (xs : List ℕ). xs ++ codes "...") (w.truncate.ensures.items ∙ ap (λ n. take n c.args.row.items) (w.place_to_cut-at.ensures ∙ ap (character_at 2045) w.as_slice.ensures.value))))
      | else-len-gt-MOST_ROW_BYTES w ↦
          (let small : nat_le (length c.args.row.items) 2048 ≡ true = grind (arith, nat_tests) in
          rw (w.row-is, small) refl)
    ]
