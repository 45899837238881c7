-- What is read is a certificate.
use Rattle.std.proofs.Common.{◌≡◌, ℕ, suc, ◌+◌, ◌<◌, ◌≤◌, Bool, true, false, not, ◌&&◌, cond, eqb, ltb, leb, All, List, [], ◌∷◌, ◌++◌, length, Option, Some, None, Result, Ok, Err, refl, sym, ap, subst, arith}
use Rattle.std.specs.Prelude.{codes}
use Rattle.std.specs.Result.{result_ok}
use Rattle.std.specs.Str.{bytes_eq}
use Rattle.std.specs.Str.Parse.{digits_value}
use Rattle.std.specs.Char.{is_digit}
use Rattle.std.specs.Bool.{Decides}
use Rattle.std.specs.Cmp.{IsEquivalence, first_so, second_so}
use Rattle.std.specs.List.{slice_split, list_any, list_all, AllByRecursion, IsDistinct}
use Rattle.std.proofs.lemmas.Bool.Decides.{Decides-eqb, Decides-ltb, nat_tests}
use Rattle.std.proofs.lemmas.List.Elements.{All-from_recursion, All-nil, All-push}
use Rattle.std.proofs.lemmas.Map.Keys.{IsDistinct-push}
use Rattle.std.proofs.lemmas.List.{nil_from_length}
use Rattle.std.proofs.lemmas.Bool.{eqb-true, not-false}
use Rattle.brl_cells.specs.declared.fault.DotsFault.{DotsFault}
use Rattle.brl_cells.specs.declared.fault.DotsFault.TheVariants.{TooManyCells}
use Rattle.brl_cells.specs.Dots.{AreCells, cells_reading, parts, reading as dots_reading}
use Rattle.brl_cert.specs.declared.fault.CertFaultKind.TheVariants.{Syntax, NotCanonical, DuplicateState, DuplicatePair, NoSuchState, WrongCount, Version}
use Rattle.brl_pairs.specs.Body.{BodyView, IsPairOf, NumberPair, same_pair}
use Rattle.brl_lines.specs.Numbers.{lenient_number}
use Rattle.brl_cert.specs.Fields.{◌>>=◌, lenient_context, lenient_lead, is_char, lenient_char, lenient_chars, each, number, flag}
use Rattle.brl_cert.specs.declared.line.Line.{Line}
use Rattle.brl_cert.specs.declared.line.Line.TheVariants.{State, Pair, End}
use Rattle.brl_cert.specs.Lines.{at_line, StateFormat, ◌>>>◌, placed, count, spelled_line, lenient_line, lenient_pair, lenient_end, strict_line, line_of, may_follow, is_end, add_line, one_line, body_of}
use Rattle.brl_rules.specs.declared.context.Context.{Context}
use Rattle.brl_states.specs.declared.window_state.WindowState.{WindowState}
use Rattle.brl_states.specs.WindowContext.{state_in}
use Rattle.brl_cert.specs.Window.{window_format, lenient_window}
use Rattle.brl_cert.specs.Dues.{dues_format, word_format}
use Rattle.brl_cert.specs.Reading.{reading, certificate_of, version_of, header_of, empty_body, written_so}
use Rattle.brl_states.specs.declared.cert.Cert.TheVariants.{Dues, Window, Word}
use Rattle.brl_states.specs.declared.cert.Cert.{Cert as Certificate}
use Rattle.brl_cert.specs.Valid.{IsBody, IsCapsFree, IsWindowState, IsDuesState, IsCertificate}
use Rattle.brl_cert.proofs.Ascii.{limited}
use Rattle.brl_cert.proofs.Found.{then_ok, placed_ok, guard_ok, need_ok, ok_is}
use Rattle.brl_cert.proofs.Window.{NumberPair-Decides, WindowState-Decides, flips}

-- ---- The values of fields

pub then_some : {A B : Type 0} (o : Option A) (f : A → Option B) (y : B) → (o >>= f) ≡ Some y → (x : A) × (o ≡ Some x) × (f x ≡ Some y)
then_some (Some x) f y e = (x, refl, e)
then_some None f y e = absurd cc

pub some_if : {A : Type 0} (b : Bool) (o : Option A) (y : A) → cond b o None ≡ Some y → (b ≡ true) × (o ≡ Some y)
some_if true o y e = (refl, e)
some_if false o y e = absurd cc

pub lenient_number-small : (radix greatest : ℕ) (field : List ℕ) (n : ℕ) → lenient_number radix greatest field ≡ Some n → n ≤ greatest
lenient_number-small radix greatest field n e =
    let a = some_if (ltb 0 (length field) && list_all (λ c. is_digit c radix) field && leb (digits_value radix field) greatest) (Some (digits_value radix field)) n e in
    let small : leb (digits_value radix field) greatest ≡ true = second_so (ltb 0 (length field) && list_all (λ c. is_digit c radix) field) _ a.0 in
    let same : digits_value radix field ≡ n = (let f = a.1 in cc) in
    subst (λ (m : ℕ). m ≤ greatest) same (grind (arith, nat_tests))

char_valid : (field : List ℕ) (c : ℕ) → lenient_char field ≡ Some c → is_char c ≡ true
char_valid field c e =
    let a = then_some (lenient_number 16 0x10FFFF field) (λ n. cond (is_char n) (Some n) None) c e in
    let b = some_if (is_char a.0) (Some a.0) c a.2 in
    let same : a.0 ≡ c = (let f = b.1 in cc) in
    subst (λ (n : ℕ). is_char n ≡ true) same b.0

pub each_valid : (fields : List (List ℕ)) (cs : List ℕ) → each lenient_char fields ≡ Some cs → AllByRecursion (λ c. is_char c ≡ true) cs
each_valid [] cs e = (let same : [] ≡ cs = cc in subst (AllByRecursion (λ c. is_char c ≡ true)) same tt)
each_valid (field ∷ fields) cs e =
    let a = then_some (lenient_char field) (λ c. each lenient_char fields >>= λ ds. Some (c ∷ ds)) cs e in
    let b = then_some (each lenient_char fields) (λ ds. Some (a.0 ∷ ds)) cs a.2 in
    let same : a.0 ∷ b.0 ≡ cs = (let f = b.2 in cc) in
    subst (AllByRecursion (λ c. is_char c ≡ true)) same (char_valid field a.0 a.1, each_valid fields b.0 b.1)

pub chars_valid : (field : List ℕ) (cs : List ℕ) → lenient_chars field ≡ Some cs → All (λ c. is_char c ≡ true) cs
chars_valid field cs e = All-from_recursion (λ c. is_char c ≡ true) cs (by_test (bytes_eq field (codes "-")) e)
  where
    by_test : (t : Bool) → cond t (Some []) (each lenient_char (slice_split (λ b. eqb b 46) field)) ≡ Some cs → AllByRecursion (λ c. is_char c ≡ true) cs
    by_test true e = (let same : [] ≡ cs = cc in subst (AllByRecursion (λ c. is_char c ≡ true)) same tt)
    by_test false e = each_valid (slice_split (λ b. eqb b 46) field) cs e

-- the law of cells, as a lead needs it
abbrev pub ReadCells : Type 0
ReadCells = (most : ℕ) (bytes cells : List ℕ) → dots_reading most bytes ≡ Ok cells → AreCells cells

limited-short : (most : ℕ) (read : Result (List ℕ) DotsFault) (cells : List ℕ) → limited most read ≡ Ok cells → length cells ≤ most
limited-short most (Err fault) cells e = absurd cc
limited-short most (Ok read) cells e = by_test (leb (length read) most) refl e
  where
    by_test : (t : Bool) → leb (length read) most ≡ t → cond t (Ok read) (Err TooManyCells) ≡ Ok cells → length cells ≤ most
    by_test true h e = (let same : read ≡ cells = cc in subst (λ (cs : List ℕ). length cs ≤ most) same (grind (arith, nat_tests)))
    by_test false h e = absurd cc

ok_of : (read : Result (List ℕ) DotsFault) (cells : List ℕ) → result_ok read ≡ Some cells → read ≡ Ok cells
ok_of (Ok read) cells e = (let same : read ≡ cells = cc in ap (λ (cs : List ℕ). Ok cs) same)
ok_of (Err fault) cells e = absurd cc

pub lead_valid : ReadCells → (field cells : List ℕ) → lenient_lead field ≡ Some cells → (length cells ≤ 1024) × AreCells cells
lead_valid law field cells e = by_test (bytes_eq field (codes "-")) e
  where
    by_test : (t : Bool) → cond t (Some []) (result_ok (dots_reading 1024 field)) ≡ Some cells → (length cells ≤ 1024) × AreCells cells
    by_test true e = (let same : [] ≡ cells = cc in subst (λ (cs : List ℕ). (length cs ≤ 1024) × AreCells cs) same (omega arith, All-nil (λ c. c < 256)))
    by_test false e =
        let read = ok_of (dots_reading 1024 field) cells e in
        (limited-short 1024 (cells_reading (parts field)) cells read, law 1024 field cells read)

-- ---- Lines

-- the values of the fields of a line
pub record ReadsStates {S : Type 0} (form : StateFormat S) (IsState : S → Type 0) : Type 0 where
  pub valid : (fields : List (List ℕ)) (s : S) → form.lenient fields ≡ Some s → IsState s
  pub equal : IsEquivalence form.same

abbrev IsLine : {S : Type 0} → (S → Type 0) → Line S → Type 0
IsLine IsState (State s) = IsState s
IsLine IsState (Pair p) = (length p.lead ≤ 1024) × AreCells p.lead
IsLine IsState (End s p) = (s ≤ 4294967295) × (p ≤ 4294967295)

-- the body so far is in range and without repeats
record IsFront {S : Type 0} (form : StateFormat S) (IsState : S → Type 0) (body : BodyView S) : Type 0 where
  pub each_state : All IsState body.states
  pub each_pair : All (IsPairOf (length body.states)) body.pairs
  pub each_lead : All (λ pair. AreCells pair.lead) body.pairs
  pub states_differ : IsDistinct form.same body.states
  pub pairs_differ : IsDistinct same_pair body.pairs

module _ {S : Type 0} (form : StateFormat S) (IsState : S → Type 0) (cells : ReadCells) (reads : ReadsStates form IsState) (pairs_equal : IsEquivalence same_pair) where
  pair_valid : (fields : List (List ℕ)) (line : Line S) → lenient_pair form fields ≡ Some line → IsLine IsState line
  pair_valid (a ∷ b ∷ l ∷ []) line e =
      let x = then_some (count.lenient a) (λ ahead. count.lenient b >>= λ behind. lenient_lead l >>= λ found. Some (Pair (record { ahead = ahead; behind = behind; lead = found }))) line e in
      let y = then_some (count.lenient b) (λ behind. lenient_lead l >>= λ found. Some (Pair (record { ahead = x.0; behind = behind; lead = found }))) line x.2 in
      let z = then_some (lenient_lead l) (λ found. Some (Pair (record { ahead = x.0; behind = y.0; lead = found }))) line y.2 in
      let made : NumberPair = record { ahead = x.0; behind = y.0; lead = z.0 } in
      let same : Pair made ≡ line = (let f = z.2 in cc) in
      subst (IsLine IsState) same (lead_valid cells l z.0 z.1)
  pair_valid fields line e = absurd cc

  end_valid : (fields : List (List ℕ)) (line : Line S) → lenient_end form fields ≡ Some line → IsLine IsState line
  end_valid (a ∷ b ∷ []) line e =
      let x = then_some (count.lenient a) (λ n. count.lenient b >>= λ m. Some (End n m)) line e in
      let y = then_some (count.lenient b) (λ m. Some (End x.0 m)) line x.2 in
      let same : End x.0 y.0 ≡ line = (let f = y.2 in cc) in
      subst (IsLine IsState) same (lenient_number-small 10 4294967295 a x.0 x.1, lenient_number-small 10 4294967295 b y.0 y.1)
  end_valid fields line e = absurd cc

  state_valid : (fields : List (List ℕ)) (line : Line S) → (form.lenient fields >>= λ s. Some (State s)) ≡ Some line → IsLine IsState line
  state_valid fields line e =
      let x = then_some (form.lenient fields) (λ s. Some (State s)) line e in
      let same : State x.0 ≡ line = (let f = x.2 in cc) in
      subst (IsLine IsState) same (reads.valid fields x.0 x.1)

  line_valid : (fields : List (List ℕ)) (line : Line S) → lenient_line form fields ≡ Some line → IsLine IsState line
  line_valid [] line e = absurd cc
  line_valid (word ∷ fields) line e = by_state (bytes_eq word (codes "state")) e
    where
      by_end : (t : Bool) → cond t (lenient_end form fields) None ≡ Some line → IsLine IsState line
      by_end true e = end_valid fields line e
      by_end false e = absurd cc

      by_pair : (t : Bool) → cond t (lenient_pair form fields) (cond (bytes_eq word (codes "end")) (lenient_end form fields) None) ≡ Some line → IsLine IsState line
      by_pair true e = pair_valid fields line e
      by_pair false e = by_end (bytes_eq word (codes "end")) e

      by_state : (t : Bool) → cond t (form.lenient fields >>= λ s. Some (State s)) (cond (bytes_eq word (codes "pair")) (lenient_pair form fields) (cond (bytes_eq word (codes "end")) (lenient_end form fields) None)) ≡ Some line → IsLine IsState line
      by_state true e = state_valid fields line e
      by_state false e = by_pair (bytes_eq word (codes "pair")) e

  strict_valid : (body : BodyView S) (bytes : List ℕ) (o : Option (Line S)) (line : Line S) → ((read : Line S) → o ≡ Some read → IsLine IsState read) → strict_line form body bytes o ≡ Ok line → (may_follow body line ≡ true) × IsLine IsState line
  strict_valid body bytes None line valid e = absurd cc
  strict_valid body bytes (Some x) line valid e =
      let a = guard_ok (not (may_follow body x)) Syntax (cond (bytes_eq (spelled_line form x) bytes) (Ok x) (Err NotCanonical)) line e in
      let b = need_ok (bytes_eq (spelled_line form x) bytes) NotCanonical (Ok x) line a.1 in
      subst (λ (z : Line S). (may_follow body z ≡ true) × IsLine IsState z) (ok_is x line b.1) (not-false (may_follow body x) a.0, valid x refl)

  -- ---- Bodies

  -- it stays so after a line
  adds_valid : (body : BodyView S) (line : Line S) (longer : BodyView S) → IsFront form IsState body → may_follow body line ≡ true → IsLine IsState line → add_line form body line ≡ Ok longer → IsFront form IsState longer
  adds_valid body (State s) longer front not_false is e =
      let a = guard_ok (list_any (form.same s) body.states) DuplicateState (Ok (record { states = body.states ++ s ∷ []; pairs = body.pairs })) longer e in
      let none : body.pairs ≡ [] = nil_from_length body.pairs (eqb-true (length body.pairs) 0 not_false) in
      subst (IsFront form IsState) (ok_is _ longer a.1) record {
        each_state = All-push IsState body.states s front.each_state is;
        each_pair = subst (λ (ps : List NumberPair). All (IsPairOf (length (body.states ++ s ∷ []))) ps) (sym none) (All-nil (IsPairOf (length (body.states ++ s ∷ []))));
        each_lead = front.each_lead;
        states_differ = IsDistinct-push reads.equal body.states s front.states_differ a.0;
        pairs_differ = front.pairs_differ;
      }
  adds_valid body (Pair p) longer front not_false is e =
      let a = guard_ok (not (ltb p.ahead (length body.states) && ltb p.behind (length body.states))) NoSuchState (cond (list_any (same_pair p) body.pairs) (Err DuplicatePair) (Ok (record { states = body.states; pairs = body.pairs ++ p ∷ [] }))) longer e in
      let b = guard_ok (list_any (same_pair p) body.pairs) DuplicatePair (Ok (record { states = body.states; pairs = body.pairs ++ p ∷ [] })) longer a.1 in
      let within = both (ltb p.ahead (length body.states)) (ltb p.behind (length body.states)) a.0 in
      let one : IsPairOf (length body.states) p = record { ahead = (Decides-ltb p.ahead (length body.states)).0 within.0; behind = (Decides-ltb p.behind (length body.states)).0 within.1; lead = is.0 } in
      subst (IsFront form IsState) (ok_is _ longer b.1) record {
        each_state = front.each_state;
        each_pair = All-push (IsPairOf (length body.states)) body.pairs p front.each_pair one;
        each_lead = All-push (λ pair. AreCells pair.lead) body.pairs p front.each_lead is.1;
        states_differ = front.states_differ;
        pairs_differ = IsDistinct-push pairs_equal body.pairs p front.pairs_differ b.0;
      }
    where
      both : (a b : Bool) → not (a && b) ≡ false → (a ≡ true) × (b ≡ true)
      both true true h = (refl, refl)
      both true false h = absurd cc
      both false b h = absurd cc
  adds_valid body (End s p) longer front not_false is e =
      let a = need_ok ((eqb (length body.states) s) && (eqb (length body.pairs) p)) WrongCount (Ok body) longer e in
      subst (IsFront form IsState) (ok_is body longer a.1) front

  -- after an end line with the right counts nothing is missing
  closes_valid : (body : BodyView S) (line : Line S) (longer : BodyView S) → IsFront form IsState longer → IsLine IsState line → add_line form body line ≡ Ok longer → is_end line ≡ true → IsBody form IsState longer
  closes_valid body (State s) longer front is e end = absurd cc
  closes_valid body (Pair p) longer front is e end = absurd cc
  closes_valid body (End s p) longer front is e end =
      let a = need_ok ((eqb (length body.states) s) && (eqb (length body.pairs) p)) WrongCount (Ok body) longer e in
      let n : length body.states ≡ s = (Decides-eqb (length body.states) s).0 (first_so _ _ a.0) in
      let m : length body.pairs ≡ p = (Decides-eqb (length body.pairs) p).0 (second_so (eqb (length body.states) s) _ a.0) in
      let same : body ≡ longer = ok_is body longer a.1 in
      let few_states = subst (λ (z : BodyView S). length z.states ≤ 4294967295) same (omega (arith, is.0)) in
      let few_pairs = subst (λ (z : BodyView S). length z.pairs ≤ 4294967295) same (omega (arith, is.1)) in
      assumption (front, few_states, few_pairs)

  body_valid : (n : ℕ) (body : BodyView S) (parts : List (List ℕ)) (out : BodyView S) → IsFront form IsState body → body_of form n body parts ≡ Ok out → IsBody form IsState out
  body_valid n body [] out front e = absurd cc
  body_valid n body (last ∷ []) out front e = absurd cc
  body_valid n body (bytes ∷ next ∷ more) out front e =
      let a = then_ok (placed n (one_line form body bytes)) (λ x. cond (not x.0) (body_of form (suc n) x.1 (next ∷ more)) (cond (eqb (length next + length more) 0) (Ok x.1) (Err (at_line (suc n) Syntax)))) out e in
      let b = then_ok (line_of form body bytes) (λ line. add_line form body line >>> λ longer. Ok (is_end line, longer)) a.0 (placed_ok n (one_line form body bytes) a.0 a.1) in
      let c = then_ok (add_line form body b.0) (λ longer. Ok (is_end b.0, longer)) a.0 b.2 in
      let line = strict_valid body bytes (lenient_line form (slice_split (λ b. eqb b 32) bytes)) b.0 (line_valid (slice_split (λ b. eqb b 32) bytes)) b.1 in
      let behind : IsFront form IsState c.0 = adds_valid body b.0 c.0 front line.0 line.1 c.1 in
      let same : (is_end b.0, c.0) ≡ a.0 = ok_is (is_end b.0, c.0) a.0 c.2 in
      let last_ : cond (not (is_end b.0)) (body_of form (suc n) c.0 (next ∷ more)) (cond (eqb (length next + length more) 0) (Ok c.0) (Err (at_line (suc n) Syntax))) ≡ Ok out = subst (λ (x : Bool × BodyView S). cond (not x.0) (body_of form (suc n) x.1 (next ∷ more)) (cond (eqb (length next + length more) 0) (Ok x.1) (Err (at_line (suc n) Syntax))) ≡ Ok out) (sym same) a.2 in
      one_step b.0 (λ h. body_valid (suc n) c.0 (next ∷ more) out behind h) (closes_valid body b.0 c.0 behind line.1 c.1) (is_end b.0) refl last_
    where
      one_step : {longer : BodyView S} (line : Line S) → (body_of form (suc n) longer (next ∷ more) ≡ Ok out → IsBody form IsState out) → (is_end line ≡ true → IsBody form IsState longer) → (ends : Bool) → is_end line ≡ ends
          → cond (not ends) (body_of form (suc n) longer (next ∷ more)) (cond (eqb (length next + length more) 0) (Ok longer) (Err (at_line (suc n) Syntax))) ≡ Ok out → IsBody form IsState out
      one_step line go close false is rest = go rest
      one_step {longer} line go close true is rest =
          let a = need_ok (eqb (length next + length more) 0) (at_line (suc n) Syntax) (Ok longer) out rest in
          subst (IsBody form IsState) (ok_is longer out a.1) (close is)

  nothing_front : IsFront form IsState (record { states = []; pairs = [] })
  unfolding IsDistinct
  nothing_front = record {
    each_state = All-nil IsState;
    each_pair = All-nil (IsPairOf 0);
    each_lead = All-nil (λ pair. AreCells pair.lead);
    states_differ = tt;
    pairs_differ = tt;
  }

-- ---- Certificates

pub equal_from_decides : {X : Type 0} (e : X → X → Bool) → ((x y : X) → Decides (e x y) (x ≡ y)) → IsEquivalence e
equal_from_decides e decides = record {
  refl = λ x. (decides x x).1 refl;
  symm = flips e decides;
  congr = λ x y z h. ap (λ w. e w z) ((decides x y).0 h);
}

-- the context of lenient fields is in range, and has the run flag
pub context_valid : (b n : List ℕ) (run : Bool) (here : Context) → lenient_context b n run ≡ Some here → (here.classes.0 ≤ 255) × (here.run ≡ run)
context_valid b n run here e =
    let x = then_some ((number 255).lenient b) (λ before. flag.lenient n >>= λ numeric. Some (record { classes = record { 0 = before }; numeric = numeric; run = run })) here e in
    let y = then_some (flag.lenient n) (λ numeric. Some (record { classes = record { 0 = x.0 }; numeric = numeric; run = run })) here x.2 in
    let made : Context = record { classes = record { 0 = x.0 }; numeric = y.0; run = run } in
    let same : made ≡ here = (let g = y.2 in cc) in
    subst (λ (c : Context). (c.classes.0 ≤ 255) × (c.run ≡ run)) same (lenient_number-small 10 255 b x.0 x.1, refl)

window_valid : (fields : List (List ℕ)) (s : WindowState) → lenient_window fields ≡ Some s → IsCapsFree IsWindowState (λ z. z.run) s
window_valid (b ∷ n ∷ f ∷ c ∷ []) s e =
    let x = then_some (lenient_context b n false) (λ here. flag.lenient f >>= λ ended. lenient_chars c >>= λ coming. Some (state_in here ended coming)) s e in
    let y = then_some (flag.lenient f) (λ ended. lenient_chars c >>= λ coming. Some (state_in x.0 ended coming)) s x.2 in
    let z = then_some (lenient_chars c) (λ coming. Some (state_in x.0 y.0 coming)) s y.2 in
    let here = context_valid b n false x.0 x.1 in
    let made : WindowState = state_in x.0 y.0 z.0 in
    let same : made ≡ s = (let g = z.2 in cc) in
    let small = here.0 in
    subst (IsCapsFree IsWindowState (λ (s : WindowState). s.run)) same (record { before = omega (arith, small); coming = chars_valid c z.0 z.1 }, here.1)
window_valid fields s e = absurd cc

pub reads_windows : ReadsStates window_format (IsCapsFree IsWindowState (λ s. s.run))
reads_windows = record { valid = window_valid; equal = equal_from_decides window_format.same WindowState-Decides }

-- what is read by a version's form of states is a body in range
pub whole_body : {S : Type 0} (form : StateFormat S) (IsState : S → Type 0) → ReadCells → ReadsStates form IsState → (parts : List (List ℕ)) (body : BodyView S) → body_of form 2 empty_body parts ≡ Ok body → IsBody form IsState body
whole_body form IsState cells reads parts body e =
    let pairs_equal = equal_from_decides same_pair NumberPair-Decides in
    body_valid form IsState cells reads pairs_equal 2 empty_body parts body (nothing_front form IsState cells reads pairs_equal) e

-- so the certificate is one
lines_valid : {S : Type 0} (form : StateFormat S) (IsState : S → Type 0) → ReadCells → ReadsStates form IsState → (wrap : BodyView S → Certificate) → ((body : BodyView S) → IsBody form IsState body → IsCertificate (wrap body)) → (parts : List (List ℕ)) (c : Certificate)
    → written_so form wrap parts ≡ Ok c → IsCertificate c
lines_valid form IsState cells reads wrap is parts c e =
    let d = then_ok (body_of form 2 empty_body parts) (λ body. Ok (wrap body)) c e in
    subst IsCertificate (ok_is (wrap d.0) c d.2) (is d.0 (whole_body form IsState cells reads parts d.0 d.1))

module _ (cells : ReadCells) (reads_owing : ReadsStates dues_format (IsCapsFree IsDuesState (λ s. s.run))) (reads_word : ReadsStates word_format IsDuesState) where
  version_valid : (version : ℕ) (parts : List (List ℕ)) (c : Certificate) → version_of version parts ≡ Ok c → IsCertificate c
  version_valid version parts c e = by_first (eqb version 1) e
    where
      by_third : (b : Bool) → cond b (written_so word_format Word parts) (Err (at_line 1 Version)) ≡ Ok c → IsCertificate c
      by_third true e = lines_valid word_format IsDuesState cells reads_word Word (λ body h. h) parts c e
      by_third false e = absurd cc

      by_second : (b : Bool) → cond b (written_so dues_format Dues parts) (cond (eqb version 3) (written_so word_format Word parts) (Err (at_line 1 Version))) ≡ Ok c → IsCertificate c
      by_second true e = lines_valid dues_format (IsCapsFree IsDuesState (λ s. s.run)) cells reads_owing Dues (λ body h. h) parts c e
      by_second false e = by_third (eqb version 3) e

      by_first : (b : Bool) → cond b (written_so window_format Window parts) (cond (eqb version 2) (written_so dues_format Dues parts) (cond (eqb version 3) (written_so word_format Word parts) (Err (at_line 1 Version)))) ≡ Ok c → IsCertificate c
      by_first true e = lines_valid window_format (IsCapsFree IsWindowState (λ s. s.run)) cells reads_windows Window (λ body h. h) parts c e
      by_first false e = by_second (eqb version 2) e

  parts_valid : (parts : List (List ℕ)) (c : Certificate) → certificate_of parts ≡ Ok c → IsCertificate c
  parts_valid [] c e = absurd cc
  parts_valid (last ∷ []) c e = absurd cc
  parts_valid (header ∷ next ∷ more) c e =
      let a = then_ok (placed 1 (header_of header)) (λ version. version_of version (next ∷ more)) c e in
      version_valid a.0 (next ∷ more) c a.2

  -- what is read is a certificate
  pub read_is_certificate : (bytes : List ℕ) (c : Certificate) → reading bytes ≡ Ok c → IsCertificate c
  read_is_certificate bytes c e = parts_valid (slice_split (λ b. eqb b 10) bytes) c e
