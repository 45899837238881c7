-- What is read is spelled so, each byte of it.
use Rattle.std.proofs.Common.{◌≡◌, ℕ, suc, ◌+◌, Bool, true, false, not, ◌&&◌, cond, eqb, List, [], ◌∷◌, ◌++◌, length, ltb, Option, Some, None, Result, Ok, Err, refl, sym, ap, subst, ◌∙◌, append_assoc, arith}
use Rattle.std.specs.Str.{bytes_eq}
use Rattle.std.specs.List.{flat_map, join_with_byte, slice_split, list_any}
use Rattle.std.proofs.lemmas.Slice.Eq.{bytes_eq-Decides}
use Rattle.std.proofs.lemmas.Bool.Decides.{Decides-eqb}
use Rattle.std.proofs.lemmas.List.{append-nil, flat_map_more, nil_from_length}
use Rattle.std.proofs.lemmas.List.Splits.{join_with_byte-slice_split}
use Rattle.brl_cert.specs.declared.fault.CertFaultKind.{CertFaultKind}
use Rattle.brl_cert.specs.declared.fault.CertFaultKind.TheVariants.{Syntax, NotCanonical, DuplicateState, DuplicatePair, NoSuchState, WrongCount, Version}
use Rattle.brl_pairs.specs.Body.{BodyView, NumberPair, same_pair}
use Rattle.std.specs.Cmp.{first_so, second_so}
use Rattle.std.proofs.lemmas.Bool.{eqb-true, not-false}
use Rattle.brl_cert.specs.declared.line.Line.{Line}
use Rattle.brl_cert.specs.declared.line.Line.TheVariants.{State, Pair, End}
use Rattle.brl_cert.specs.Lines.{at_line, StateFormat, placed, ◌>>>◌, spelled_line, whole_line, spelled_body, strict_line, line_of, may_follow, lenient_line, is_end, add_line, one_line, body_of}
use Rattle.brl_cert.specs.Dues.{dues_format, word_format}
use Rattle.brl_cert.specs.Reading.{spelling, reading, certificate_of, spelled_header, strict_header, header_of, lenient_header, empty_body, version_of, written_so}
use Rattle.brl_states.specs.declared.cert.Cert.TheVariants.{Dues, Window, Word}
use Rattle.brl_states.specs.declared.cert.Cert.{Cert as Certificate}
use Rattle.brl_cert.specs.Window.{window_format}

-- the value of a step that did not fail
pub then_ok : {A B E : Type 0} (r : Result A E) (f : A → Result B E) (y : B) → (r >>> f) ≡ Ok y → (x : A) × (r ≡ Ok x) × (f x ≡ Ok y)
then_ok (Ok x) f y e = (x, refl, e)
then_ok (Err d) f y e = absurd cc

pub placed_ok : {A : Type 0} (n : ℕ) (r : Result A CertFaultKind) (x : A) → placed n r ≡ Ok x → r ≡ Ok x
placed_ok n (Ok y) x e = cc
placed_ok n (Err d) x e = absurd cc

-- a test that did not fail
pub guard_ok : {A E : Type 0} (b : Bool) (d : E) (r : Result A E) (y : A) → cond b (Err d) r ≡ Ok y → (b ≡ false) × (r ≡ Ok y)
guard_ok true d r y e = absurd cc
guard_ok false d r y e = (refl, e)

pub need_ok : {A E : Type 0} (b : Bool) (d : E) (r : Result A E) (y : A) → cond b r (Err d) ≡ Ok y → (b ≡ true) × (r ≡ Ok y)
need_ok true d r y e = (refl, e)
need_ok false d r y e = absurd cc

abbrev pub done : {A E : Type 0} → A → Result A E
done x = Ok x

pub ok_is : {A E : Type 0} (x y : A) → done {E = E} x ≡ done y → x ≡ y
ok_is x y e = cc

module _ {S : Type 0} (form : StateFormat S) where
  strict_is : (body : BodyView S) (bytes : List ℕ) (o : Option (Line S)) (line : Line S) → strict_line form body bytes o ≡ Ok line → (may_follow body line ≡ true) × (spelled_line form line ≡ bytes)
  strict_is body bytes None line e = absurd cc
  strict_is body bytes (Some x) line e =
      let a = guard_ok (not (may_follow body x)) Syntax (cond (bytes_eq (spelled_line form x) bytes) (Ok x) (Err NotCanonical)) line e in
      let b = need_ok (bytes_eq (spelled_line form x) bytes) NotCanonical (Ok x) line a.1 in
      let same : x ≡ line = ok_is x line b.1 in
      subst (λ (z : Line S). (may_follow body z ≡ true) × (spelled_line form z ≡ bytes)) same (not-false (may_follow body x) a.0, (bytes_eq-Decides (spelled_line form x) bytes).0 b.0)

  -- the lines of the body, without the end line
  abbrev pub front : BodyView S → List ℕ
  front body = flat_map (λ s. whole_line form (State s)) body.states ++ flat_map (λ p. whole_line form (Pair p)) body.pairs

  -- the bytes of the line are its spelling, in its place
  line_is : (body : BodyView S) (bytes : List ℕ) (line : Line S) → line_of form body bytes ≡ Ok line → (may_follow body line ≡ true) × (spelled_line form line ≡ bytes)
  line_is body bytes line e = strict_is body bytes (lenient_line form (slice_split (λ b. eqb b 32) bytes)) line e

  -- what a line adds
  adds : (body : BodyView S) (line : Line S) (longer : BodyView S) → may_follow body line ≡ true → add_line form body line ≡ Ok longer → is_end line ≡ false → front longer ≡ front body ++ whole_line form line
  adds body (State s) longer not_false e open_ =
      let a = guard_ok (list_any (form.same s) body.states) DuplicateState (Ok (record { states = body.states ++ s ∷ []; pairs = body.pairs })) longer e in
      let none : body.pairs ≡ [] = nil_from_length body.pairs (eqb-true (length body.pairs) 0 not_false) in
      let more : front (record { states = body.states ++ s ∷ []; pairs = body.pairs }) ≡ front body ++ whole_line form (State s) = rw none (append-nil _ ∙ sym (flat_map_more (λ (x : S). whole_line form (State x)) [] body.states s) ∙ ap (λ (b : List ℕ). b ++ whole_line form (State s)) (sym (append-nil _))) in
      subst (λ (z : BodyView S). front z ≡ front body ++ whole_line form (State s)) (ok_is _ longer a.1) more
  adds body (Pair p) longer not_false e open_ =
      let a = guard_ok (not (ltb p.ahead (length body.states) && ltb p.behind (length body.states))) NoSuchState (cond (list_any (same_pair p) body.pairs) (Err DuplicatePair) (Ok (record { states = body.states; pairs = body.pairs ++ p ∷ [] }))) longer e in
      let b = guard_ok (list_any (same_pair p) body.pairs) DuplicatePair (Ok (record { states = body.states; pairs = body.pairs ++ p ∷ [] })) longer a.1 in
      let more : front (record { states = body.states; pairs = body.pairs ++ p ∷ [] }) ≡ front body ++ whole_line form (Pair p) = sym (flat_map_more (λ (x : NumberPair). whole_line form (Pair x)) (flat_map (λ s. whole_line form (State s)) body.states) body.pairs p) in
      subst (λ (z : BodyView S). front z ≡ front body ++ whole_line form (Pair p)) (ok_is _ longer b.1) more
  adds body (End s p) longer not_false e open_ = cc

  closes : (body : BodyView S) (line : Line S) (longer : BodyView S) → add_line form body line ≡ Ok longer → is_end line ≡ true → front body ++ whole_line form line ≡ spelled_body form longer
  closes body (State s) longer e end = cc
  closes body (Pair p) longer e end = cc
  closes body (End s p) longer e end =
      let a = need_ok ((eqb (length body.states) s) && (eqb (length body.pairs) p)) WrongCount (Ok body) longer e in
      let n : length body.states ≡ s = (Decides-eqb (length body.states) s).0 (first_so _ _ a.0) in
      let m : length body.pairs ≡ p = (Decides-eqb (length body.pairs) p).0 (second_so (eqb (length body.states) s) _ a.0) in
      subst (λ (z : BodyView S). front body ++ whole_line form (End s p) ≡ spelled_body form z) (ok_is body longer a.1)
      (subst (λ (x : ℕ). front body ++ whole_line form (End x p) ≡ spelled_body form body) n
      (subst (λ (y : ℕ). front body ++ whole_line form (End (length body.states) y) ≡ spelled_body form body) m
      refl))

  regroup : (a line rest whole : List ℕ) → (a ++ (line ++ 10 ∷ [])) ++ rest ≡ whole → a ++ (line ++ (10 ∷ rest)) ≡ whole
  regroup a line rest whole e = ap (λ (x : List ℕ). a ++ x) (sym (append_assoc line (10 ∷ []) rest)) ∙ sym (append_assoc a (line ++ 10 ∷ []) rest) ∙ e

  nothing_behind : (next : List ℕ) (more : List (List ℕ)) → eqb (length next + length more) 0 ≡ true → join_with_byte 10 (next ∷ more) ≡ []
  nothing_behind [] [] h = refl
  nothing_behind [] (x ∷ more) h = absurd (omega (arith, (Decides-eqb (0 + length (x ∷ more)) 0).0 h))
  nothing_behind (x ∷ next) more h = absurd (omega (arith, (Decides-eqb (length (x ∷ next) + length more) 0).0 h))

  pub body_found : (n : ℕ) (body : BodyView S) (parts : List (List ℕ)) (out : BodyView S) → body_of form n body parts ≡ Ok out → front body ++ join_with_byte 10 parts ≡ spelled_body form out
  body_found n body [] out e = absurd cc
  body_found n body (last ∷ []) out e = absurd cc
  body_found n body (bytes ∷ next ∷ more) out e =
      let a = then_ok (placed n (one_line form body bytes)) (λ x. cond (not x.0) (body_of form (suc n) x.1 (next ∷ more)) (cond (eqb (length next + length more) 0) (Ok x.1) (Err (at_line (suc n) Syntax)))) out e in
      let b = then_ok (line_of form body bytes) (λ line. add_line form body line >>> λ longer. Ok (is_end line, longer)) a.0 (placed_ok n (one_line form body bytes) a.0 a.1) in
      let c = then_ok (add_line form body b.0) (λ longer. Ok (is_end b.0, longer)) a.0 b.2 in
      let line = line_is body bytes b.0 b.1 in
      let same : (is_end b.0, c.0) ≡ a.0 = ok_is _ a.0 c.2 in
      let last_ : cond (not (is_end b.0)) (body_of form (suc n) c.0 (next ∷ more)) (cond (eqb (length next + length more) 0) (Ok c.0) (Err (at_line (suc n) Syntax))) ≡ Ok out = subst (λ (x : Bool × BodyView S). cond (not x.0) (body_of form (suc n) x.1 (next ∷ more)) (cond (eqb (length next + length more) 0) (Ok x.1) (Err (at_line (suc n) Syntax))) ≡ Ok out) (sym same) a.2 in
      subst (λ (bs : List ℕ). front body ++ (bs ++ (10 ∷ join_with_byte 10 (next ∷ more))) ≡ spelled_body form out) line.1
      (regroup (front body) (spelled_line form b.0) (join_with_byte 10 (next ∷ more)) (spelled_body form out) (one_step (λ longer h. body_found (suc n) longer (next ∷ more) out h) (is_end b.0) c.0 b.0 refl line.0 c.1 last_))
    where
      one_step : ((longer : BodyView S) → body_of form (suc n) longer (next ∷ more) ≡ Ok out → front longer ++ join_with_byte 10 (next ∷ more) ≡ spelled_body form out) → (ends : Bool) (longer : BodyView S) (line : Line S) → is_end line ≡ ends → may_follow body line ≡ true → add_line form body line ≡ Ok longer
          → cond (not ends) (body_of form (suc n) longer (next ∷ more)) (cond (eqb (length next + length more) 0) (Ok longer) (Err (at_line (suc n) Syntax))) ≡ Ok out
          → (front body ++ whole_line form line) ++ join_with_byte 10 (next ∷ more) ≡ spelled_body form out
      one_step go false longer line is not_false added rest =
          ap (λ (b : List ℕ). b ++ join_with_byte 10 (next ∷ more)) (sym (adds body line longer not_false added is)) ∙ go longer rest
      one_step go true longer line is not_false added rest =
          let a = need_ok (eqb (length next + length more) 0) (at_line (suc n) Syntax) (Ok longer) out rest in
          ap (λ (b : List ℕ). (front body ++ whole_line form line) ++ b) (nothing_behind next more a.0) ∙ append-nil _ ∙ closes body line longer added is ∙ ap (λ (z : BodyView S). spelled_body form z) (ok_is longer out a.1)

header_is : (bytes : List ℕ) (o : Option ℕ) (n : ℕ) → strict_header bytes o ≡ Ok n → spelled_header n ≡ bytes
header_is bytes None n e = absurd cc
header_is bytes (Some m) n e =
    let b = need_ok (bytes_eq (spelled_header m) bytes) NotCanonical (Ok m) n e in
    subst (λ (z : ℕ). spelled_header z ≡ bytes) (ok_is m n b.1) ((bytes_eq-Decides (spelled_header m) bytes).0 b.0)

-- lines after a header are those of its version
lines_found : {S : Type 0} (form : StateFormat S) (wrap : BodyView S → Certificate) (version n : ℕ) → ((body : BodyView S) → spelling (wrap body) ≡ spelled_header n ++ 10 ∷ spelled_body form body) → version ≡ n → (parts : List (List ℕ)) (c : Certificate)
    → written_so form wrap parts ≡ Ok c → spelling c ≡ spelled_header version ++ (10 ∷ join_with_byte 10 parts)
lines_found form wrap version n spelled is parts c e =
    let d = then_ok (body_of form 2 empty_body parts) (λ body. Ok (wrap body)) c e in
    let found : join_with_byte 10 parts ≡ spelled_body form d.0 = body_found form 2 empty_body parts d.0 d.1 in
    subst (λ (z : Certificate). spelling z ≡ spelled_header version ++ (10 ∷ join_with_byte 10 parts)) (ok_is (wrap d.0) c d.2)
    (spelled d.0 ∙ ap (λ (m : ℕ). spelled_header m ++ (10 ∷ spelled_body form d.0)) (sym is) ∙ ap (λ (x : List ℕ). spelled_header version ++ (10 ∷ x)) (sym found))

version_found : (version : ℕ) (parts : List (List ℕ)) (c : Certificate) → version_of version parts ≡ Ok c → spelling c ≡ spelled_header version ++ (10 ∷ join_with_byte 10 parts)
version_found version parts c e = by_first (eqb version 1) refl e
  where
    by_third : (b : Bool) → eqb version 3 ≡ b → cond b (written_so word_format Word parts) (Err (at_line 1 Version)) ≡ Ok c → spelling c ≡ spelled_header version ++ (10 ∷ join_with_byte 10 parts)
    by_third true is e = lines_found word_format Word version 3 (λ body. refl) ((Decides-eqb version 3).0 is) parts c e
    by_third false is e = absurd cc

    by_second : (b : Bool) → eqb version 2 ≡ b → cond b (written_so dues_format Dues parts) (cond (eqb version 3) (written_so word_format Word parts) (Err (at_line 1 Version))) ≡ Ok c
        → spelling c ≡ spelled_header version ++ (10 ∷ join_with_byte 10 parts)
    by_second true is e = lines_found dues_format Dues version 2 (λ body. refl) ((Decides-eqb version 2).0 is) parts c e
    by_second false is e = by_third (eqb version 3) refl e

    by_first : (b : Bool) → eqb version 1 ≡ b → cond b (written_so window_format Window parts) (cond (eqb version 2) (written_so dues_format Dues parts) (cond (eqb version 3) (written_so word_format Word parts) (Err (at_line 1 Version)))) ≡ Ok c
        → spelling c ≡ spelled_header version ++ (10 ∷ join_with_byte 10 parts)
    by_first true is e = lines_found window_format Window version 1 (λ body. refl) ((Decides-eqb version 1).0 is) parts c e
    by_first false is e = by_second (eqb version 2) refl e

certificate_found : (parts : List (List ℕ)) (c : Certificate) → certificate_of parts ≡ Ok c → spelling c ≡ join_with_byte 10 parts
certificate_found [] c e = absurd cc
certificate_found (last ∷ []) c e = absurd cc
certificate_found (header ∷ next ∷ more) c e =
    let a = then_ok (placed 1 (header_of header)) (λ version. version_of version (next ∷ more)) c e in
    let h : spelled_header a.0 ≡ header = header_is header (lenient_header (slice_split (λ b. eqb b 32) header)) a.0 (placed_ok 1 (header_of header) a.0 a.1) in
    version_found a.0 (next ∷ more) c a.2 ∙ ap (λ (x : List ℕ). x ++ (10 ∷ join_with_byte 10 (next ∷ more))) h

-- what is read is spelled so
pub read_is_spelled : (bytes : List ℕ) (c : Certificate) → reading bytes ≡ Ok c → spelling c ≡ bytes
read_is_spelled bytes c e = certificate_found (slice_split (λ b. eqb b 10) bytes) c e ∙ join_with_byte-slice_split 10 bytes
