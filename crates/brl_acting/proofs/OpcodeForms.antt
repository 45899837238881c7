-- What the form of a line says of its opcode.
use Rattle.std.proofs.Common.{◌≡◌, ◌∙◌, ◌||◌, ℕ, Bool, List, [], ◌∷◌, None, Option, ap, codes, false, is_some, not, refl, sym, true}
use Rattle.std.proofs.lemmas.Bool.{and_parts}
use Rattle.std.specs.Cmp.Lexicographic.{bytes_decides}
use Rattle.std.specs.List.{list_all}
use Rattle.brl_acting.specs.Capitals.{has_opcode, pair_chars}
use Rattle.brl_acting.specs.Classes.{classes_in, names_class}
use Rattle.brl_acting.specs.Forms.{defines, form_of, is_definition, is_never, is_other_rule, is_placed, tells_of_characters}
use Rattle.brl_acting.specs.Readings.{is_rule}
use Rattle.brl_acting.specs.Sets.{is_one_of}
use Rattle.brl_acting.specs.Words.{LineParts, prefix_length, word_at}
use Rattle.brl_acting.specs.declared.form.Form.{Form}

-- a line whose form fails a test has no opcode whose form passes it
module _ (test : Option Form → Bool) (parts : LineParts) (own : parts.form ≡ form_of (word_at parts.words 0)) (fails : test parts.form ≡ false) where
  unlike : (name : List ℕ) → test (form_of name) ≡ true → has_opcode name parts ≡ false
  unlike name passes = by (has_opcode name parts) refl
    where
      by : (b : Bool) → has_opcode name parts ≡ b → has_opcode name parts ≡ false
      by true e = absurd (let wrong : false ≡ true = sym fails ∙ ap test (own ∙ ap form_of ((bytes_decides (word_at parts.words 0) name).0 e)) ∙ passes in cc)
      by false e = e

  none_of : (names : List (List ℕ)) → list_all (λ name. test (form_of name)) names ≡ true → is_one_of names (word_at parts.words 0) ≡ false
  none_of [] pass = refl
  none_of (name ∷ names) pass =
      let both = and_parts (test (form_of name)) (list_all (λ other. test (form_of other)) names) pass in
      λ i. unlike name both.0 i || none_of names both.1 i

module _ (parts : LineParts) (own : parts.form ≡ form_of (word_at parts.words 0)) (fails : tells_of_characters parts.form ≡ false) where
  pub no_noletsigns : has_opcode (codes "noletsign") parts ≡ false
  unfolding form_of is_definition is_placed is_other_rule is_never
  no_noletsigns = unlike tells_of_characters parts own fails (codes "noletsign") refl

  pub no_pair : pair_chars parts ≡ None
  unfolding form_of is_definition is_placed is_other_rule is_never
  no_pair = rw (unlike tells_of_characters parts own fails (codes "uplow") refl) (rw (unlike tells_of_characters parts own fails (codes "base") refl) refl)

  no_names : names_class (word_at parts.words 0) ≡ false
  unfolding form_of is_definition is_placed is_other_rule is_never
  no_names = none_of tells_of_characters parts own fails (codes "attribute" ∷ codes "class" ∷ codes "base" ∷ codes "swapcc" ∷ codes "swapcd" ∷ []) refl

  pub no_classes : defines parts.form ≡ false → classes_in parts ≡ []
  no_classes other = rw other (rw no_names (rw no_pair refl))

-- a line that is no rule makes no letter a word
pub no_words : (parts : LineParts) → parts.form ≡ form_of (word_at parts.words 0) → is_rule parts.form ≡ false → is_one_of (codes "word" ∷ codes "largesign" ∷ []) (word_at parts.words 0) ≡ false
unfolding form_of is_definition is_placed is_other_rule is_never
no_words parts own fails = none_of is_rule parts own fails (codes "word" ∷ codes "largesign" ∷ []) refl

-- an opcode with a form begins no prefix
pub no_prefix : (parts : LineParts) → parts.form ≡ form_of (word_at parts.words 0) → is_some parts.form ≡ true → prefix_length (word_at parts.words 0) ≡ 0
unfolding form_of is_definition is_placed is_other_rule is_never
no_prefix parts own some =
    let none = none_of (λ form. not (is_some form)) parts own (ap not some) in
    rw (none (codes "noback" ∷ codes "nofor" ∷ codes "nocross" ∷ codes "empmatchbefore" ∷ codes "empmatchafter" ∷ []) refl) (rw (none (codes "before" ∷ codes "after" ∷ []) refl) refl)
