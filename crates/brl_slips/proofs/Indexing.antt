-- The index of pieces by their characters.
use Rattle.std.proofs.Common.{◌≡◌, ◌≤◌, ◌<◌, ◌+◌, ℕ, Bool, true, false, cond, if◌then◌else◌, List, [], ◌∷◌, ◌++◌, All, Option, Some, None, refl, sym, ap, subst, ◌∙◌, arith, length, take, drop, get_or, append-nil, nat_eq, inl, inr, length-take, length-drop}
use Rattle.std.specs.List.{Contains}
use Rattle.std.specs.Option.{option_map_or}
use Rattle.std.specs.Global.{Vec}
use Rattle.std.specs.Cmp.Lexicographic.{bytes_decides, pointwise, nat_list_eq_equiv}
use Rattle.std.specs.Map.{lookup, IsKeyTest, AreApart, KeepsOthers}
use Rattle.std.specs.Str.{bytes_eq}
use Rattle.std.proofs.lemmas.Bool.{cases_Bool, cases_eq, cond-true, cond-false}
use Rattle.std.proofs.lemmas.List.Elements.{All-append, All-weaker, Contains-append_left, All-nil, All-cons, Contains-push}
use Rattle.indexmap.specs.IndexMap.{IndexMap, UpdatesBy, get_by}
use Rattle.brl_slips.specs.Pieces.{chars_at}
use Rattle.brl_slips.specs.Searching.{AreNumbered, IsIndex, IsNumberOf, IsPieceAt, numbers_at, numbers_of}
use Rattle.brl_slips.specs.declared.starts.Index.{Index}
use Rattle.brl_slips.proofs.Completing.{numbers_there}
use Rattle.std.proofs.lemmas.Option.{slice_get_past}
use Rattle.std.proofs.lemmas.List.{get_or_append_left, get_or_push, length_push}
use Rattle.brl_slips.specs.declared.lexicon.Piece.{Piece}

other_entries : {K X : Type 0} (eq : K → K → Bool) (test : K → Bool) (old new : List (K × X)) → KeepsOthers eq test old new → (other : K → Bool) → IsKeyTest eq other → AreApart test other → lookup other new ≡ lookup other old
unfolding KeepsOthers
other_entries eq test old new h = h

apart : (bs cs ks : List ℕ) → bytes_eq bs cs ≡ false → bytes_eq bs ks ≡ true → bytes_eq cs ks ≡ false
apart bs cs ks n y = nat_list_eq_equiv.symm cs ks ∙ sym (nat_list_eq_equiv.congr bs ks cs y) ∙ n

-- the test by which characters are looked up, and that by which keys are compared
abbrev is_key : List ℕ → Vec ℕ → Bool
is_key chars key = pointwise nat_eq chars key.items

abbrev are_keys : Vec ℕ → Vec ℕ → Bool
are_keys one other = pointwise nat_eq one.items other.items

-- after a change at some characters, an index has a number more for these
pub numbers-push : {S : Type 0} (chars : List ℕ) (m n : IndexMap (Vec ℕ) (Vec ℕ) S) (w : Vec ℕ) (number : ℕ)
    → UpdatesBy are_keys (is_key chars) m n (Some w) → w.items ≡ numbers_of m chars ++ number ∷ []
    → (other : List ℕ) → numbers_of n other ≡ numbers_of m other ++ (if pointwise nat_eq chars other then number ∷ [] else [])
numbers-push chars m n w number updates items other =
    let items_of : Option (Vec ℕ) → List ℕ = λ found. option_map_or (λ (v : Vec ℕ). v.items) found [] in
    elim (cases_Bool (bytes_eq chars other)) [
      | inl same ↦
          let e : chars ≡ other = (bytes_decides chars other).0 same in
          subst (λ l. numbers_of n l ≡ numbers_of m l ++ number ∷ []) e (ap items_of updates.1 ∙ items)
          ∙ ap (λ r. numbers_of m other ++ r) (sym (cond-true (bytes_eq chars other) (number ∷ []) [] same))
      | inr not ↦
          ap items_of (other_entries are_keys (is_key chars) m.entries n.entries updates.3 (is_key other)
          (λ x y. nat_list_eq_equiv.congr other x.items y.items) (λ k. apart chars other k.items not))
          ∙ sym (append-nil (numbers_of m other))
          ∙ ap (λ r. numbers_of m other ++ r) (sym (cond-false (bytes_eq chars other) (number ∷ []) [] not))
    ]

-- an index with a number more has that of one piece more
pub numbered-more : {S : Type 0} (pieces : List Piece) (end : ℕ) (m n : IndexMap (Vec ℕ) (Vec ℕ) S)
    → ((other : List ℕ) → numbers_of n other ≡ numbers_of m other ++ (if pointwise nat_eq (chars_at pieces end) other then end ∷ [] else []))
    → AreNumbered pieces end m → AreNumbered pieces (end + 1) n
numbered-more pieces end m n adds had =
    let chars = chars_at pieces end in
    let wider : (other : List ℕ) → All (IsNumberOf pieces (end + 1) other) (numbers_of m other) =
    λ other. All-weaker (IsNumberOf pieces end other) (IsNumberOf pieces (end + 1) other) (λ number is. (omega (arith, is.0), is.1)) (numbers_of m other) (had.sound other) in
    record {
      sound = λ other. subst (All (IsNumberOf pieces (end + 1) other)) (sym (adds other))
          (elim (cases_Bool (bytes_eq chars other)) [
            | inl same ↦ subst (λ l. All (IsNumberOf pieces (end + 1) other) (numbers_of m other ++ l)) (sym (cond-true (bytes_eq chars other) (end ∷ []) [] same))
                (All-append (IsNumberOf pieces (end + 1) other) (numbers_of m other) (end ∷ []) (wider other)
                (All-cons (IsNumberOf pieces (end + 1) other) end [] (omega arith, (bytes_decides chars other).0 same) (All-nil (IsNumberOf pieces (end + 1) other))))
            | inr not ↦ subst (λ l. All (IsNumberOf pieces (end + 1) other) (numbers_of m other ++ l)) (sym (cond-false (bytes_eq chars other) (end ∷ []) [] not))
                (All-append (IsNumberOf pieces (end + 1) other) (numbers_of m other) [] (wider other) (All-nil (IsNumberOf pieces (end + 1) other)))
          ]);
      whole = λ number lt. subst (λ l. Contains l number) (sym (adds (chars_at pieces number)))
          (elim (cases_eq number end) [
            | inl last ↦ subst (λ k. Contains (numbers_of m (chars_at pieces k) ++ (if pointwise nat_eq chars (chars_at pieces k) then end ∷ [] else [])) k) (sym last)
                (subst (λ l. Contains (numbers_of m chars ++ l) end) (sym (cond-true (bytes_eq chars chars) (end ∷ []) [] (nat_list_eq_equiv.refl chars)))
                (Contains-push (numbers_of m chars) end))
            | inr earlier ↦ Contains-append_left (numbers_of m (chars_at pieces number)) (if pointwise nat_eq chars (chars_at pieces number) then end ∷ [] else []) number
                (had.whole number (omega (arith, lt, earlier)))
          ]);
    }

-- no characters past the last piece
pub chars-past : (pieces : List Piece) (number : ℕ) → length pieces ≤ number → chars_at pieces number ≡ []
chars-past pieces number past = ap (λ found. option_map_or (λ (p : Piece). p.chars) found []) (slice_get_past pieces number past)

-- the numbers that an index has for what is at a place of a text are those of pieces there
pub found-sound : (pieces : List Piece) (index : Index) (text : List ℕ) (place size : ℕ) → IsIndex pieces index
    → 1 ≤ size → size < length text → place + size ≤ length text → All (IsPieceAt pieces text place) (numbers_of index.numbers (take size (drop place text)))
found-sound pieces index text place size is some shorter within =
    let chars = take size (drop place text) in
    let long : length chars ≡ size = omega (arith, length-take size (drop place text), length-drop place text, within) in
    All-weaker (IsNumberOf pieces (length pieces) chars) (IsPieceAt pieces text place)
    (λ number found. record {
      piece = record { there = found.0; some = omega (arith, ap length found.1, long, some); shorter = omega (arith, ap length found.1, long, shorter) };
      stands = ap (λ n. take n (drop place text)) (ap length found.1 ∙ long) ∙ sym found.1;
    }) (numbers_of index.numbers chars) (is.numbered.sound chars)

-- and they are all of these pieces with that number of characters
pub found-whole : (pieces : List Piece) (index : Index) (text : List ℕ) (place size number : ℕ) → IsIndex pieces index
    → IsPieceAt pieces text place number → length (chars_at pieces number) ≡ size → Contains (numbers_of index.numbers (take size (drop place text))) number
found-whole pieces index text place size number is at long =
    subst (λ chars. Contains (numbers_of index.numbers chars) number) (sym at.stands ∙ ap (λ n. take n (drop place text)) long) (is.numbered.whole number at.piece.there)

-- one place more
pub numbers-left : (starts : List (Vec ℕ)) (v : Vec ℕ) (k : ℕ) → k < length starts → numbers_at (starts ++ v ∷ []) k ≡ numbers_at starts k
numbers-left starts v k lt =
    numbers_there (starts ++ v ∷ []) k v (omega (arith, lt, length_push starts v)) ∙ (ap (λ (x : Vec ℕ). x.items) (get_or_append_left starts (v ∷ []) v k lt) ∙ sym (numbers_there starts k v lt))

pub numbers-last : (starts : List (Vec ℕ)) (v : Vec ℕ) (k : ℕ) → length starts ≡ k → numbers_at (starts ++ v ∷ []) k ≡ v.items
numbers-last starts v k end =
    numbers_there (starts ++ v ∷ []) k v (omega (arith, end, length_push starts v)) ∙ ap (λ (x : Vec ℕ). x.items) (get_or_push starts v v k end)

-- no numbers past the last place
pub numbers-past : (starts : List (Vec ℕ)) (k : ℕ) → length starts ≤ k → numbers_at starts k ≡ []
numbers-past starts k past = ap (λ found. option_map_or (λ (v : Vec ℕ). v.items) found []) (slice_get_past starts k past)
