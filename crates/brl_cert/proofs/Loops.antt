-- The lines of a body, one by one.
use Rattle.std.proofs.Common.{◌≡◌, ℕ, zero, suc, ◌+◌, ◌<◌, Bool, true, false, not, ◌&&◌, cond, eqb, List, [], ◌∷◌, length, map, drop, get_or, Result, Ok, Err, IfOk, OnOk, refl, sym, ap, subst, ◌∙◌, arith, length-drop}
use Rattle.std.proofs.lemmas.Bool.Decides.{nat_tests, Decides-eqb}
use Rattle.std.proofs.lemmas.List.{get_or-map, length-map}
use Rattle.brl_cert.specs.declared.fault.CertFault.{CertFault}
use Rattle.brl_cert.specs.declared.fault.CertFaultKind.TheVariants.{Syntax, Truncated}
use Rattle.brl_cert.specs.declared.line.Line.{Line}
use Rattle.brl_cert.specs.Lines.{at_line, StateFormat, ◌>>>◌, placed, line_of, add_line, is_end, one_line, body_of}
use Rattle.brl_pairs.specs.Body.{BodyView}
use Rattle.brl_failure.specs.Failure.{IsFaultOf}
use Rattle.brl_failure.specs.declared.failure.Failure.{Failure}
use Rattle.brl_failure.specs.declared.failure.Failure.TheVariants as failures
use Rattle.brl_cert.proofs.Found.{placed_ok}

module _ {S : Type 0} (form : StateFormat S) where
  pub take_ok : (n : ℕ) (body longer : BodyView S) (bytes : List ℕ) (line : Line S) (r : Result Bool (Failure CertFault)) → placed n (line_of form body bytes) ≡ Ok line → OnOk r (placed n (add_line form body line) ≡ Ok longer) → IfOk r (λ last. last ≡ is_end line)
      → IfOk r (λ last. placed n (one_line form body bytes) ≡ Ok (last, longer))
  take_ok n body longer bytes line (Err fault) e a l = tt
  take_ok n body longer bytes line (Ok last) e a l =
      subst (λ (b : Bool). placed n (one_line form body bytes) ≡ Ok (b, longer)) (sym l)
      (rw (placed_ok n (line_of form body bytes) line e, placed_ok n (add_line form body line) longer a) refl)

  -- what follows after one line
  abbrev continued : ℕ → List ℕ → List (List ℕ) → List (List ℕ) → Bool × BodyView S → Result (BodyView S) CertFault
  continued n next rest behind x = cond (not x.0) (body_of form (suc n) x.1 rest) (cond (eqb (length next) 0 && eqb (length behind) 0) (Ok x.1) (Err (at_line (suc n) Syntax)))

  both_empty : (next : List ℕ) (more : List (List ℕ)) → eqb (length next + length more) 0 ≡ eqb (length next) 0 && eqb (length more) 0
  both_empty [] [] = refl
  both_empty [] (x ∷ more) = (let t : eqb (0 + length (x ∷ more)) 0 ≡ false = grind (arith, nat_tests) in let u : eqb (length (x ∷ more)) 0 ≡ false = grind (arith, nat_tests) in rw (t, u) refl)
  both_empty (b ∷ next) more = (let t : eqb (length (b ∷ next) + length more) 0 ≡ false = grind (arith, nat_tests) in let u : eqb (length (b ∷ next)) 0 ≡ false = grind (arith, nat_tests) in rw (t, u) refl)

  one_step : (n : ℕ) (body : BodyView S) (ys : List (List ℕ)) (i : ℕ) → suc i < length ys
      → body_of form n body (drop i ys) ≡ (placed n (one_line form body (get_or ys i [])) >>> continued n (get_or ys (suc i) []) (drop (suc i) ys) (drop (suc (suc i)) ys))
  one_step n body [] i lt = absurd (omega arith)
  one_step n body (y ∷ []) zero lt = absurd (omega arith)
  one_step n body (y ∷ next ∷ more) zero lt =
      ap (λ (t : Bool). placed n (one_line form body y) >>> λ x. cond (not x.0) (body_of form (suc n) x.1 (next ∷ more)) (cond t (Ok x.1) (Err (at_line (suc n) Syntax)))) (both_empty next more)
  one_step n body (y ∷ ys) (suc i) lt = one_step n body ys i (omega arith)

  last_line : (n : ℕ) (body : BodyView S) (ys : List (List ℕ)) (i : ℕ) → suc i ≡ length ys → body_of form n body (drop i ys) ≡ Err (at_line n Truncated)
  last_line n body [] i e = absurd (omega arith)
  last_line n body (y ∷ []) zero e = refl
  last_line n body (y ∷ next ∷ more) zero e = absurd (omega arith)
  last_line n body (y ∷ ys) (suc i) e = last_line n body ys i (omega arith)

  module _ {A : Type 0} (g : A → List ℕ) (xs : List A) (d : A) (n : ℕ) (body : BodyView S) (i : ℕ) (whole : Result (BodyView S) CertFault) (so_far : body_of form n body (drop i (map g xs)) ≡ whole) where
    abbrev line : Result (Bool × BodyView S) CertFault
    line = placed n (one_line form body (g (get_or xs i d)))

    this : suc i < length xs → whole ≡ (line >>> continued n (get_or (map g xs) (suc i) []) (drop (suc i) (map g xs)) (drop (suc (suc i)) (map g xs)))
    this lt =
        sym so_far ∙ one_step n body (map g xs) i (omega (arith, length-map xs g))
        ∙ ap (λ (y : List ℕ). placed n (one_line form body y) >>> continued n (get_or (map g xs) (suc i) []) (drop (suc i) (map g xs)) (drop (suc (suc i)) (map g xs))) (get_or-map g xs i d [] (omega arith))

    pub goes_on : suc i < length xs → (longer : BodyView S) (m j : ℕ) → m ≡ suc n → j ≡ suc i → line ≡ Ok (false, longer) → body_of form m longer (drop j (map g xs)) ≡ whole
    goes_on lt longer m j mn ji e = sym (this lt ∙ ap (λ r. r >>> continued n (get_or (map g xs) (suc i) []) (drop (suc i) (map g xs)) (drop (suc (suc i)) (map g xs))) e ∙ ap (λ k. body_of form k longer (drop (suc i) (map g xs))) (sym mn) ∙ ap (λ k. body_of form m longer (drop k (map g xs))) (sym ji))

    pub stops : suc i < length xs → (failure : Failure CertFault) → IsFaultOf line failure → IsFaultOf whole failure
    stops lt failures.Memory e = tt
    stops lt (failures.Fault fault) e = this lt ∙ ap (λ r. r >>> continued n (get_or (map g xs) (suc i) []) (drop (suc i) (map g xs)) (drop (suc (suc i)) (map g xs))) e

    ended : suc i < length xs → (longer : BodyView S) → line ≡ Ok (true, longer) → whole ≡ cond (eqb (length (get_or (map g xs) (suc i) [])) 0 && eqb (length (drop (suc (suc i)) (map g xs))) 0) (Ok longer) (Err (at_line (suc n) Syntax))
    ended lt longer e = this lt ∙ ap (λ r. r >>> continued n (get_or (map g xs) (suc i) []) (drop (suc i) (map g xs)) (drop (suc (suc i)) (map g xs))) e

    pub closes : suc (suc i) ≡ length xs → (longer : BodyView S) → line ≡ Ok (true, longer) → (last : ℕ) → last ≡ suc i → eqb (length (g (get_or xs last d))) 0 ≡ true → whole ≡ Ok longer
    closes two longer e last is none =
        let a : eqb (length (get_or (map g xs) (suc i) [])) 0 ≡ true = ap (λ bs. eqb (length bs) 0) (get_or-map g xs (suc i) d [] (omega arith)) ∙ ap (λ k. eqb (length (g (get_or xs k d))) 0) (sym is) ∙ none in
        let b : eqb (length (drop (suc (suc i)) (map g xs))) 0 ≡ true = (Decides-eqb (length (drop (suc (suc i)) (map g xs))) 0).1 (omega (arith, length-drop (suc (suc i)) (map g xs), length-map xs g)) in
        ended (omega arith) longer e ∙ rw (a, b) refl

    pub lines_behind : suc (suc i) < length xs → (longer : BodyView S) → line ≡ Ok (true, longer) → (m : ℕ) → m ≡ suc n → whole ≡ Err (at_line m Syntax)
    lines_behind more longer e m mn =
        let b : eqb (length (drop (suc (suc i)) (map g xs))) 0 ≡ false = (let some : 0 < length (drop (suc (suc i)) (map g xs)) = omega (arith, length-drop (suc (suc i)) (map g xs), length-map xs g) in grind (arith, nat_tests)) in
        ended (omega arith) longer e ∙ rw b (by_test (eqb (length (get_or (map g xs) (suc i) [])) 0)) ∙ ap (λ k. Err (at_line k Syntax)) (sym mn)
      where
        by_test : (t : Bool) → (let r : Result (BodyView S) CertFault = cond (t && false) (Ok longer) (Err (at_line (suc n) Syntax)) in r) ≡ Err (at_line (suc n) Syntax)
        by_test true = refl
        by_test false = refl

    pub bytes_behind : suc (suc i) ≡ length xs → (longer : BodyView S) → line ≡ Ok (true, longer) → (m last : ℕ) → m ≡ suc n → last ≡ suc i → eqb (length (g (get_or xs last d))) 0 ≡ false → whole ≡ Err (at_line m Syntax)
    bytes_behind two longer e m last mn is some =
        let a : eqb (length (get_or (map g xs) (suc i) [])) 0 ≡ false = ap (λ bs. eqb (length bs) 0) (get_or-map g xs (suc i) d [] (omega arith)) ∙ ap (λ k. eqb (length (g (get_or xs k d))) 0) (sym is) ∙ some in
        ended (omega arith) longer e ∙ rw a refl ∙ ap (λ k. Err (at_line k Syntax)) (sym mn)

  pub cut : {A : Type 0} (g : A → List ℕ) (xs : List A) (n : ℕ) (body : BodyView S) (i : ℕ) (whole : Result (BodyView S) CertFault) → body_of form n body (drop i (map g xs)) ≡ whole → suc i ≡ length xs → (m : ℕ) → m ≡ n → whole ≡ Err (at_line m Truncated)
  cut g xs n body i whole so_far one m mn = sym so_far ∙ last_line n body (map g xs) i (omega (arith, length-map xs g)) ∙ ap (λ k. Err (at_line k Truncated)) (sym mn)
