-- Spans that are read, and spans that are spelled.
use Rattle.std.proofs.Common.{◌≡◌, ◌∙◌, ℕ, zero, suc, ◌+◌, ◌<◌, Bool, true, false, if◌then◌else◌, List, [], ◌∷◌, ◌++◌, ap, append-nil, append_assoc, arith, drop, get_or, length, refl, sym}
use Rattle.std.proofs.lemmas.List.{drop_more}
use Rattle.brl_without.specs.Spans.{continues, last_of, length_of, spans_from, spelled_after, spelled_span}
use Rattle.brl_without.specs.declared.span.Span.{Span}

-- what a span has taken is passed over
passed : (taken : ℕ) (characters : List ℕ) → spans_from taken characters ≡ spans_from 0 (drop taken characters)
unfolding spans_from
passed zero characters = refl
passed (suc taken) [] = refl
passed (suc taken) (c ∷ characters) = passed taken characters

-- one more span is read
pub one_more_read : (all left rest after : List ℕ) (first last : ℕ) (spans pushed : List Span) → spans_from 0 all ≡ spans ++ spans_from 0 left → left ≡ first ∷ rest
    → last ≡ last_of first rest → after ≡ drop (length_of rest) rest → pushed ≡ spans ++ record { first = first; last = last } ∷ [] → spans_from 0 all ≡ pushed ++ spans_from 0 after
unfolding spans_from
one_more_read all left rest after first last spans pushed so_far is last_is after_is pushed_is =
    let one : ℕ → Span = λ end. record { first = first; last = end } in
    so_far ∙ ap (λ (cs : List ℕ). spans ++ spans_from 0 cs) is ∙ (λ i. spans ++ one (sym last_is i) ∷ (passed (length_of rest) rest ∙ ap (spans_from 0) (sym after_is)) i)
    ∙ sym (append_assoc spans (one last ∷ []) (spans_from 0 after)) ∙ ap (λ (xs : List Span). xs ++ spans_from 0 after) (sym pushed_is)

-- all are read
pub all_read : (all left : List ℕ) (spans : List Span) → spans_from 0 all ≡ spans ++ spans_from 0 left → length left ≡ 0 → spans ≡ spans_from 0 all
unfolding spans_from
all_read all [] spans so_far none = sym (so_far ∙ append-nil spans)
all_read all (c ∷ left) spans so_far none = absurd (omega (arith, none))

-- ---- Spelled

module _ (spans text : List ℕ) (begun : Span) (others : List Span) (i : ℕ) (d : Span) (within : i < length others) (so_far : spans ≡ text ++ spelled_after begun (drop i others)) where
  -- one more span is read
  one_more : spans ≡ text ++ spelled_after begun (get_or others i d ∷ drop (i + 1) others)
  one_more = so_far ∙ ap (λ (left : List Span). text ++ spelled_after begun left) (drop_more others i d within)

  -- it follows on the span that is begun
  pub one_more_follows : continues begun (get_or others i d) ≡ true → spans ≡ text ++ spelled_after (record { first = begun.first; last = (get_or others i d).last }) (drop (i + 1) others)
  unfolding spelled_after
  one_more_follows follows =
      one_more ∙ ap (λ (b : Bool). text ++ (if b then spelled_after (record { first = begun.first; last = (get_or others i d).last }) (drop (i + 1) others)
      else spelled_span begun ++ spelled_after (get_or others i d) (drop (i + 1) others))) follows

  -- or that one is spelled
  pub one_more_spelled : continues begun (get_or others i d) ≡ false → (more : List ℕ) → more ≡ text ++ spelled_span begun → spans ≡ more ++ spelled_after (get_or others i d) (drop (i + 1) others)
  unfolding spelled_after
  one_more_spelled apart more more_is =
      let rest = spelled_after (get_or others i d) (drop (i + 1) others) in
      one_more ∙ ap (λ (b : Bool). text ++ (if b then spelled_after (record { first = begun.first; last = (get_or others i d).last }) (drop (i + 1) others) else spelled_span begun ++ rest)) apart
      ∙ sym (append_assoc text (spelled_span begun) rest) ∙ ap (λ (bytes : List ℕ). bytes ++ rest) (sym more_is)

-- the last span is spelled
pub last_spelled : (spans text more : List ℕ) (begun : Span) (left : List Span) → left ≡ [] → more ≡ text ++ spelled_span begun → spans ≡ text ++ spelled_after begun left → more ≡ spans
unfolding spelled_after
last_spelled spans text more begun left none more_is so_far = more_is ∙ sym (so_far ∙ ap (λ (xs : List Span). text ++ spelled_after begun xs) none)
