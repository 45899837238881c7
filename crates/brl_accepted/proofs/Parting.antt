-- A line of a pair of rules is parted in one way: after its first three words.
use Rattle.std.proofs.Common.{◌≡◌, ◌≢◌, ◌∙◌, ◌<◌, ◌-◌, ◌++◌, ℕ, List, [], ◌∷◌, ap, append_assoc, arith, codes, get_or, length, refl, sym, subst, take}
use Rattle.std.proofs.Math.Seq.{take-append_seam}
use Rattle.std.proofs.lemmas.List.{get_or_default, length-append}
use Rattle.std.proofs.lemmas.List.Elements.{recursion_from_All}
use Rattle.brl_accepted.specs.Pairs.{between}
use Rattle.brl_accepted.specs.Words.{ArePartsOf, BeginsWithWord, IsThreeWords, IsWord}

-- a text begins with one word
first_word : (a b x y : List ℕ) → IsWord a → IsWord b → a ++ (32 ∷ x) ≡ b ++ (32 ∷ y) → (a ≡ b) × (x ≡ y)
first_word [] [] x y h k e = (refl, cc)
first_word [] (c ∷ b) x y h k e = absurd (k.0 (let same : c ≡ 32 = cc in same))
first_word (c ∷ a) [] x y h k e = absurd (h.0 (let same : c ≡ 32 = cc in same))
first_word (c ∷ a) (d ∷ b) x y h k e =
    let head : c ≡ d = cc in
    let (rest, after) = first_word a b x y h.1 k.1 cc in
    ((λ i. head i ∷ rest i), after)

-- what has a blank isn't a word
pub not_a_word : (a x : List ℕ) → IsWord (a ++ (32 ∷ x)) → ⊥
not_a_word [] x h = h.0 refl
not_a_word (c ∷ a) x h = not_a_word a x h.1

-- three words and what follows them
spread : (one rest : List ℕ) (h : IsThreeWords one) → one ++ rest ≡ h.one ++ (32 ∷ (h.two ++ (32 ∷ (h.three ++ rest))))
spread one rest h =
    ap (λ (w : List ℕ). w ++ rest) h.is ∙ append_assoc h.one (32 ∷ (h.two ++ (32 ∷ h.three))) rest ∙ ap (λ (w : List ℕ). h.one ++ (32 ∷ w)) (append_assoc h.two (32 ∷ h.three) rest)

-- what three words are followed by
pub same_parts : (one other x y : List ℕ) → IsThreeWords one → IsThreeWords other → one ++ (between ++ x) ≡ other ++ (between ++ y) → (one ≡ other) × (x ≡ y)
same_parts one other x y h k e =
    let (first, after) = first_word h.one k.one _ _ h.one_is k.one_is (sym (spread one (between ++ x) h) ∙ e ∙ spread other (between ++ y) k) in
    let (second, later) = first_word h.two k.two _ _ h.two_is k.two_is after in
    let (third, end) = first_word h.three k.three _ _ h.three_is k.three_is later in
    let rest : x ≡ y = cc in
    (h.is ∙ (λ i. first i ++ (32 ∷ (second i ++ (32 ∷ third i)))) ∙ sym k.is, rest)

module _ (line one rest : List ℕ) (parts : ArePartsOf line one rest) where
  -- the line, word by word
  line_is : line ≡ parts.words.one ++ (32 ∷ (parts.words.two ++ (32 ∷ (parts.words.three ++ (between ++ rest)))))
  line_is = parts.is ∙ spread one (between ++ rest) parts.words

  pub has_first : IsWord line → ⊥
  has_first h = not_a_word parts.words.one _ (subst IsWord line_is h)

  after_first : (r : List ℕ) → BeginsWithWord line r → r ≡ parts.words.two ++ (32 ∷ (parts.words.three ++ (between ++ rest)))
  after_first r w = (first_word w.word parts.words.one _ _ w.is_word parts.words.one_is (sym w.is ∙ line_is)).1

  pub has_second : (r : List ℕ) → BeginsWithWord line r → IsWord r → ⊥
  has_second r w h = not_a_word parts.words.two _ (subst IsWord (after_first r w) h)

  after_second : (r s : List ℕ) → BeginsWithWord line r → BeginsWithWord r s → s ≡ parts.words.three ++ (between ++ rest)
  after_second r s w v = (first_word v.word parts.words.two _ _ v.is_word parts.words.two_is (sym v.is ∙ after_first r w)).1

  pub has_third : (r s : List ℕ) → BeginsWithWord line r → BeginsWithWord r s → IsWord s → ⊥
  has_third r s w v h = not_a_word parts.words.three _ (subst IsWord (after_second r s w v) h)

  -- what follows the third word
  pub after_third : (r s u : List ℕ) → BeginsWithWord line r → BeginsWithWord r s → BeginsWithWord s u → u ≡ codes "/ " ++ rest
  after_third r s u w v x = (first_word x.word parts.words.three _ _ x.is_word parts.words.three_is (sym x.is ∙ after_second r s w v)).1

-- a line of three words, the mark and the rest
pub are_parts : (line r s u rest one : List ℕ) → (w : BeginsWithWord line r) → (v : BeginsWithWord r s) → (x : BeginsWithWord s u) → u ≡ codes "/ " ++ rest
    → one ≡ w.word ++ (32 ∷ (v.word ++ (32 ∷ x.word))) → ArePartsOf line one rest
are_parts line r s u rest one w v x end is =
    let words : IsThreeWords one = record { one = w.word; two = v.word; three = x.word; is = is; one_is = w.is_word; two_is = v.is_word; three_is = x.is_word } in
    record {
      is = w.is ∙ (λ i. w.word ++ (32 ∷ v.is i)) ∙ (λ i. w.word ++ (32 ∷ (v.word ++ (32 ∷ x.is i)))) ∙ (λ i. w.word ++ (32 ∷ (v.word ++ (32 ∷ (x.word ++ (32 ∷ end i))))))
          ∙ sym (spread one (between ++ rest) words);
      words = words;
    }

-- what comes before the third blank
pub front_is : (line r s u one : List ℕ) (size : ℕ) → (w : BeginsWithWord line r) → (v : BeginsWithWord r s) → (x : BeginsWithWord s u) → one ≡ take size line → size ≡ length line - length u - 1
    → one ≡ w.word ++ (32 ∷ (v.word ++ (32 ∷ x.word)))
front_is line r s u one size w v x is at =
    let front = w.word ++ (32 ∷ (v.word ++ (32 ∷ x.word))) in
    let whole : line ≡ front ++ (32 ∷ u) =
    w.is ∙ (λ i. w.word ++ (32 ∷ v.is i)) ∙ (λ i. w.word ++ (32 ∷ (v.word ++ (32 ∷ x.is i))))
    ∙ sym (append_assoc w.word (32 ∷ (v.word ++ (32 ∷ x.word))) (32 ∷ u) ∙ ap (λ (t : List ℕ). w.word ++ (32 ∷ t)) (append_assoc v.word (32 ∷ x.word) (32 ∷ u))) in
    let long : size ≡ length front = omega (arith, at, ap length whole, length-append front (32 ∷ u)) in
    is ∙ (λ i. take (long i) (whole i)) ∙ take-append_seam front (32 ∷ u)

-- no byte of a word is a blank
pub is_word_by : (bytes : List ℕ) → ((i : ℕ) → i < length bytes → get_or bytes i 0 ≢ 32) → IsWord bytes
is_word_by bytes h = recursion_from_All (λ b. b ≢ 32) bytes (λ k d within e. h k within (sym (get_or_default bytes k d 0 within) ∙ e))
