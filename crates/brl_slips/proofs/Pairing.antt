-- Families of rules, and the twins in them.
use Rattle.std.proofs.Common.{◌≡◌, ◌≢◌, ◌≤◌, ◌<◌, ◌+◌, ◌++◌, ◌∷◌, ◌&&◌, ℕ, true, false, if◌then◌else◌, not, All, List, [], Option, Some, ap, subst, sym, refl, ◌∙◌, arith, append-nil, get_or, inl, inr, length, ltb, nat_eq, slice_get, take, true≢false}
use Rattle.std.specs.Cmp.Lexicographic.{bytes_decides, nat_list_eq_equiv, pointwise}
use Rattle.std.specs.Global.{Vec}
use Rattle.std.specs.List.{Contains, list_any}
use Rattle.std.specs.Option.{option_map_or}
use Rattle.std.proofs.lemmas.Bool.{and_cases, and_from, and_parts, cases_Bool, cases_eq, cases_lt, cond-false, cond-true, eq-eqb, eqb-true, false_from_ne_true, lt-ltb, ltb-true, true_from_ne_false}
use Rattle.std.proofs.lemmas.List.Elements.{All-contains, All-get_or, All-push, All-weaker, Contains-append_left, Contains-push}
use Rattle.std.proofs.lemmas.List.Folds.{Any-from_list_any, list_any_at}
use Rattle.std.proofs.lemmas.List.Quantifiers.{all_pairs_push}
use Rattle.std.proofs.lemmas.Option.{option_and_then_some, same_Some, slice_get_within}
use Rattle.indexmap.specs.IndexMap.{IndexMap, UpdatesBy}
use Rattle.brl_slips.specs.Pairing.{AreAll, AreFamilies, AreMembers, IsPairBelow, IsPairWith, IsSmallFamily, has_chars, is_family, members_of}
use Rattle.brl_slips.specs.Slips.{piece_of}
use Rattle.brl_slips.specs.Twins.{AreFew, IsCandidate, IsFirst, IsOfFamily, IsOneDifference, IsTwins}
use Rattle.brl_slips.specs.declared.lexicon.Entry.{Entry}
use Rattle.brl_slips.specs.declared.lexicon.Lexicon.{Lexicon}
use Rattle.brl_slips.specs.declared.lexicon.Piece.{Piece}
use Rattle.brl_slips.specs.declared.twins.Family.{Family}
use Rattle.brl_slips.specs.declared.twins.Twins.{Twins}
use Rattle.brl_slips.proofs.Once.{all-push, all-same, few-from_all, fresh_at, taken_cases, taken_new, taken_old}

-- ---- Twins

-- two texts have no other one difference
one_place : (left right : List ℕ) (p q : ℕ) → IsOneDifference left right p → IsOneDifference left right q → p ≡ q
one_place left right p q a b = elim (cases_eq p q) [
  | inl same ↦ same
  | inr other ↦ absurd (b.differ (a.same q (λ back. other (sym back))))
]

-- two rules are twins in one way
pub twins_same : (lexicon : Lexicon) (t u : Twins) → IsTwins lexicon t → IsTwins lexicon u → t.one ≡ u.one → t.other ≡ u.other → t ≡ u
twins_same lexicon t u a b one other =
    let left : a.left ≡ b.left = same_Some a.left b.left (sym a.one ∙ (ap (piece_of lexicon) one ∙ b.one)) in
    let right : a.right ≡ b.right = same_Some a.right b.right (sym a.other ∙ (ap (piece_of lexicon) other ∙ b.other)) in
    let moved : IsOneDifference a.left.chars a.right.chars u.place =
    subst (λ (l : Piece). IsOneDifference l.chars a.right.chars u.place) (sym left) (subst (λ (r : Piece). IsOneDifference b.left.chars r.chars u.place) (sym right) b.characters) in
    let place : t.place ≡ u.place = one_place a.left.chars a.right.chars t.place u.place a.characters moved in
    let long : t.length ≡ u.length = a.length ∙ (ap (λ (p : Piece). length p.cells) left ∙ sym b.length) in
    λ i. record { one = one i; other = other i; place = place i; length = long i }

-- a rule with a piece is one of the lexicon
pub entry_there : (lexicon : Lexicon) (entry : ℕ) (piece : Piece) → piece_of lexicon entry ≡ Some piece → entry < length lexicon.entries.items
entry_there lexicon entry piece is = option_and_then_some (λ (rule : Entry). slice_get lexicon.pieces.items rule.piece) (slice_get lexicon.entries.items entry) piece is
    (λ rule there _. slice_get_within lexicon.entries.items entry rule there)

-- ---- Families

pub family_same : (one other : Family) → is_family one other ≡ true → one ≡ other
family_same one other holds =
    let both = and_parts (pointwise nat_eq one.cells other.cells) (nat_eq one.characters other.characters) holds in
    let cells : one.cells ≡ other.cells = (bytes_decides one.cells other.cells).0 both.0 in
    let characters : one.characters ≡ other.characters = eqb-true one.characters other.characters both.1 in
    λ i. record { cells = cells i; characters = characters i }

pub same_family : (one other : Family) → one.cells ≡ other.cells → one.characters ≡ other.characters → is_family one other ≡ true
same_family one other cells characters =
    and_from (pointwise nat_eq one.cells other.cells) (nat_eq one.characters other.characters) ((bytes_decides one.cells other.cells).1 cells) (eq-eqb one.characters other.characters characters)

-- after a change at a family, a map has a rule more there
pub member-insert : {S : Type 0} (m n : IndexMap Family (Vec ℕ) S) (family : Family) (w : Vec ℕ) (entry : ℕ)
    → UpdatesBy is_family (is_family family) m n (Some w) → w.items ≡ members_of m family ++ entry ∷ []
    → (other : Family) → members_of n other ≡ members_of m other ++ (if is_family family other then entry ∷ [] else [])
member-insert m n family w entry updates items other =
    let items_of : Option (Vec ℕ) → List ℕ = λ found. option_map_or (λ (v : Vec ℕ). v.items) found [] in
    elim (cases_Bool (is_family family other)) [
      | inl same ↦
          ap items_of (updates.0 other ∙ cond-true (is_family family other) (Some w) _ same) ∙ items
          ∙ ap (λ f. members_of m f ++ entry ∷ []) (family_same family other same)
          ∙ ap (λ r. members_of m other ++ r) (sym (cond-true (is_family family other) (entry ∷ []) [] same))
      | inr apart ↦
          ap items_of (updates.0 other ∙ cond-false (is_family family other) (Some w) _ apart)
          ∙ sym (append-nil (members_of m other))
          ∙ ap (λ r. members_of m other ++ r) (sym (cond-false (is_family family other) (entry ∷ []) [] apart))
    ]

-- of rules that say the same just one is the first
first_same : (lexicon : Lexicon) (one other : ℕ) → IsFirst lexicon one → IsFirst lexicon other → piece_of lexicon one ≡ piece_of lexicon other → one ≡ other
first_same lexicon one other a b same = elim (cases_eq one other) [
  | inl is ↦ is
  | inr apart ↦ elim (cases_lt one other) [
    | inl before ↦ absurd (b one before same)
    | inr after ↦ absurd (a other (omega (arith, after, apart)) (sym same))
  ]
]

-- fewer than four members of all rules are the whole family
pub members-all : (lexicon : Lexicon) (end : ℕ) (family : Family) (members : List ℕ) → AreMembers lexicon end family members → length lexicon.entries.items ≤ end → length members < 4
    → AreAll (IsOfFamily lexicon family.cells family.characters) members
members-all lexicon end family members are past few = record {
  each = are.each;
  once = are.once;
  whole = λ entry is.
      let found = are.whole few entry is.piece (omega (arith, past, entry_there lexicon entry is.piece is.rule)) is.rule is.same_cells is.as_many in
      let first = (All-contains (IsOfFamily lexicon family.cells family.characters) members found.0 are.each found.1).first in
      subst (Contains members) (first_same lexicon found.0 entry first is.first found.2) found.1;
}

-- a rule more, which isn't added
pub members-more : (lexicon : Lexicon) (end : ℕ) (family : Family) (members : List ℕ) → AreMembers lexicon end family members
    → (length members < 4 → (piece : Piece) → piece_of lexicon end ≡ Some piece → piece.cells ≡ family.cells → length piece.chars ≡ family.characters → (member : ℕ) × Contains members member × (piece_of lexicon member ≡ piece_of lexicon end))
    → AreMembers lexicon (end + 1) family members
members-more lexicon end family members are same = record {
  each = are.each;
  below = All-weaker (λ m. m < end) (λ m. m < end + 1) (λ m lt. omega (arith, lt)) members are.below;
  once = are.once;
  whole = λ few entry piece lt rule cells characters. elim (cases_eq entry end) [
    | inl last ↦
        let found = same few piece (subst (λ n. piece_of lexicon n ≡ Some piece) last rule) cells characters in
        (found.0, found.1, found.2 ∙ ap (piece_of lexicon) (sym last))
    | inr earlier ↦ are.whole few entry piece (omega (arith, lt, earlier)) rule cells characters
  ];
}

-- a rule more, which is
pub members-push : (lexicon : Lexicon) (end : ℕ) (family : Family) (members : List ℕ) (piece : Piece) → AreMembers lexicon end family members
    → piece_of lexicon end ≡ Some piece → piece.cells ≡ family.cells → length piece.chars ≡ family.characters → length members < 4
    → All (λ m. piece_of lexicon m ≡ piece_of lexicon end → ⊥) members
    → AreMembers lexicon (end + 1) family (members ++ end ∷ [])
members-push lexicon end family members piece are rule cells characters few none =
    let Is = IsOfFamily lexicon family.cells family.characters in
    let new : Is end = record {
      piece = piece;
      rule = rule;
      same_cells = cells;
      as_many = characters;
      first = λ earlier lt same.
          let found = are.whole few earlier piece lt (same ∙ rule) cells characters in
          All-contains (λ m. piece_of lexicon m ≡ piece_of lexicon end → ⊥) members found.0 none found.1 (found.2 ∙ same);
    } in
    record {
      each = All-push Is members end are.each new;
      below = All-push (λ m. m < end + 1) members end (All-weaker (λ m. m < end) (λ m. m < end + 1) (λ m lt. omega (arith, lt)) members are.below) (omega arith);
      once = all_pairs_push (λ x y. x ≢ y) members end are.once (λ k d lt same. omega (arith, All-get_or (λ m. m < end) members k d lt are.below, same));
      whole = λ _ entry other lt rule' cells' characters'. elim (cases_eq entry end) [
        | inl last ↦ (end, Contains-push members end, ap (piece_of lexicon) (sym last))
        | inr earlier ↦
            let found = are.whole few entry other (omega (arith, lt, earlier)) rule' cells' characters' in
            (found.0, Contains-append_left members (end ∷ []) found.0 found.1, found.2)
      ];
    }

module _ (lexicon : Lexicon) (end : ℕ) (family : Family) (piece : Piece) (members : List ℕ) (rule : piece_of lexicon end ≡ Some piece)
    (cells : family.cells ≡ piece.cells) (characters : family.characters ≡ length piece.chars) where
  -- none of them says what the rule says
  unlike : list_any (has_chars lexicon piece.chars) members ≡ false → All (λ m. piece_of lexicon m ≡ piece_of lexicon end → ⊥) members
  unlike fails k d lt same =
      let holds : has_chars lexicon piece.chars (get_or members k d) ≡ true =
      ap (λ found. option_map_or (λ (p : Piece). pointwise nat_eq p.chars piece.chars) found false) (same ∙ rule) ∙ nat_list_eq_equiv.refl piece.chars in
      true≢false (sym (list_any_at (has_chars lexicon piece.chars) members k d lt holds) ∙ fails)

  -- one of them does
  alike : All (IsOfFamily lexicon family.cells family.characters) members → list_any (has_chars lexicon piece.chars) members ≡ true
      → (member : ℕ) × Contains members member × (piece_of lexicon member ≡ piece_of lexicon end)
  alike each holds =
      let found = Any-from_list_any (has_chars lexicon piece.chars) members holds in
      let member = found.1 in
      let has : Contains members member = (found.0, found.2, found.3) in
      let is = All-contains (IsOfFamily lexicon family.cells family.characters) members member each has in
      let same : pointwise nat_eq is.piece.chars piece.chars ≡ true =
      sym (ap (λ o. option_map_or (λ (p : Piece). pointwise nat_eq p.chars piece.chars) o false) is.rule) ∙ found.4 in
      let chars : is.piece.chars ≡ piece.chars = (bytes_decides is.piece.chars piece.chars).0 same in
      let cells_same : is.piece.cells ≡ piece.cells = is.same_cells ∙ cells in
      let pieces : is.piece ≡ piece = λ i. record { chars = chars i; cells = cells_same i } in
      (member, has, is.rule ∙ (ap Some pieces ∙ sym rule))

module _ {S : Type 0} (lexicon : Lexicon) (end : ℕ) where
  -- the next rule is added to its family
  pub families-push : (old new : IndexMap Family (Vec ℕ) S) (family : Family) (piece : Piece) → AreFamilies lexicon end old → piece_of lexicon end ≡ Some piece
      → family.cells ≡ piece.cells → family.characters ≡ length piece.chars
      → (ltb (length (members_of old family)) 4 && not (list_any (has_chars lexicon piece.chars) (members_of old family))) ≡ true
      → ((other : Family) → members_of new other ≡ members_of old other ++ (if is_family family other then end ∷ [] else []))
      → AreFamilies lexicon (end + 1) new
  families-push old new family piece are rule cells characters wanted adds other =
      let members = members_of old family in
      let test = list_any (has_chars lexicon piece.chars) members in
      let both = and_parts (ltb (length members) 4) (not test) wanted in
      let fails : test ≡ false = false_from_ne_true test (λ holds. true≢false (sym both.1 ∙ ap not holds)) in
      subst (AreMembers lexicon (end + 1) other) (sym (adds other)) (elim (cases_Bool (is_family family other)) [
        | inl same ↦
            subst (λ f. AreMembers lexicon (end + 1) f (members_of old f ++ (if is_family family f then end ∷ [] else []))) (family_same family other same)
            (subst (λ l. AreMembers lexicon (end + 1) family (members ++ l)) (sym (cond-true (is_family family family) (end ∷ []) [] (same_family family family refl refl)))
            (members-push lexicon end family members piece (are family) rule (sym cells) (sym characters) (ltb-true (length members) 4 both.0)
            (unlike lexicon end family piece members rule cells characters fails)))
        | inr apart ↦
            subst (λ l. AreMembers lexicon (end + 1) other (members_of old other ++ l)) (sym (cond-false (is_family family other) (end ∷ []) [] apart))
            (subst (AreMembers lexicon (end + 1) other) (sym (append-nil (members_of old other)))
            (members-more lexicon end other (members_of old other) (are other) (λ few p is cells' characters'.
            let p_is : p ≡ piece = same_Some p piece (sym is ∙ rule) in
            absurd (true≢false (sym (same_family family other (cells ∙ (ap (λ (q : Piece). q.cells) (sym p_is) ∙ cells')) (characters ∙ (ap (λ (q : Piece). length q.chars) (sym p_is) ∙ characters'))) ∙ apart)))))
      ])

  -- it isn't
  pub families-same : (old : IndexMap Family (Vec ℕ) S) (family : Family) (piece : Piece) → AreFamilies lexicon end old → piece_of lexicon end ≡ Some piece
      → family.cells ≡ piece.cells → family.characters ≡ length piece.chars
      → (ltb (length (members_of old family)) 4 && not (list_any (has_chars lexicon piece.chars) (members_of old family))) ≡ false
      → AreFamilies lexicon (end + 1) old
  families-same old family piece are rule cells characters wanted other =
      members-more lexicon end other (members_of old other) (are other) (λ few p is cells' characters'.
      let p_is : p ≡ piece = same_Some p piece (sym is ∙ rule) in
      let f_is : family ≡ other = family_same family other (same_family family other (cells ∙ (ap (λ (q : Piece). q.cells) (sym p_is) ∙ cells')) (characters ∙ (ap (λ (q : Piece). length q.chars) (sym p_is) ∙ characters'))) in
      let members = members_of old family in
      let test = list_any (has_chars lexicon piece.chars) members in
      let holds : test ≡ true = elim (and_cases (ltb (length members) 4) (not test) wanted) [
        | inl many ↦ absurd (true≢false (sym (lt-ltb (length members) 4 (subst (λ f. length (members_of old f) < 4) (sym f_is) few)) ∙ many))
        | inr has ↦ true_from_ne_false test (λ fails. true≢false (sym (ap not fails) ∙ has))
      ] in
      subst (λ f. (member : ℕ) × Contains (members_of old f) member × (piece_of lexicon member ≡ piece_of lexicon end)) f_is
      (alike lexicon end family piece members rule cells characters (are family).each holds))

-- ---- Pairs

module _ (lexicon : Lexicon) (other : ℕ) (members : List ℕ) (small : IsSmallFamily lexicon other members) where
  -- the piece of the later of twins
  right_is : (t : Twins) (are : IsTwins lexicon t) → t.other ≡ other → are.right ≡ small.piece
  right_is t are is = same_Some are.right small.piece (sym are.other ∙ (ap (piece_of lexicon) is ∙ small.rule))

  cells_are : (t : Twins) (are : IsTwins lexicon t) → t.other ≡ other → small.piece.cells ≡ are.left.cells
  cells_are t are is = sym (are.cells ∙ ap (λ (p : Piece). p.cells) (right_is t are is))

  characters_are : (t : Twins) (are : IsTwins lexicon t) → t.other ≡ other → length small.piece.chars ≡ length are.left.chars
  characters_are t are is = sym (are.characters.as_long ∙ ap (λ (p : Piece). length p.chars) (right_is t are is))

  -- twins of a small family
  candidate_from : (t : Twins) → IsTwins lexicon t → Contains members t.one → t.other ≡ other → IsCandidate lexicon t
  candidate_from t are has is =
      let Is = IsOfFamily lexicon small.piece.cells (length small.piece.chars) in
      record {
        are = are;
        one = (All-contains Is members t.one small.all.each has).first;
        other = subst (IsFirst lexicon) (sym is) (All-contains Is members other small.all.each small.there).first;
        family = subst (λ cs. AreFew (IsOfFamily lexicon cs (length are.left.chars))) (cells_are t are is)
            (subst (λ n. AreFew (IsOfFamily lexicon small.piece.cells n)) (characters_are t are is) (few-from_all Is members small.all small.few));
      }

  -- the earlier of twins is one of it
  member_from : (t : Twins) → IsCandidate lexicon t → t.other ≡ other → Contains members t.one
  member_from t is at = small.all.whole t.one (record {
    piece = is.are.left;
    rule = is.are.one;
    same_cells = sym (cells_are t is.are at);
    as_many = sym (characters_are t is.are at);
    first = is.one;
  })

  pub pairs-end : (pairs : List Twins) → AreAll (IsPairWith lexicon other members) pairs → AreAll (IsPairBelow lexicon (other + 1)) pairs
  pairs-end pairs are = all-same (IsPairWith lexicon other members) (IsPairBelow lexicon (other + 1)) pairs
      (λ t has. (has.0, elim has.1 [ inl lt ↦ omega (arith, lt) | inr at ↦ omega (arith, at.0) ]))
      (λ t has. (has.0, elim (cases_eq t.other other) [ inl at ↦ inr (at, member_from t has.0 at) | inr apart ↦ inl (omega (arith, has.1, apart)) ]))
      are

  module _ (i one : ℕ) (within : i < length members) (is : get_or members i one ≡ one) (pairs : List Twins) (so_far : AreAll (IsPairWith lexicon other (take i members)) pairs) where
    kept : (t : Twins) → IsPairWith lexicon other (take i members) t → IsPairWith lexicon other (take (i + 1) members) t
    kept t has = (has.0, elim has.1 [ inl lt ↦ inl lt | inr at ↦ inr (at.0, taken_old members i one within is t.one at.1) ])

    -- a rule more, with which it isn't twins
    pub pairs-none : ((t : Twins) → t.one ≡ one → t.other ≡ other → IsTwins lexicon t → ⊥) → AreAll (IsPairWith lexicon other (take (i + 1) members)) pairs
    pairs-none none = all-same (IsPairWith lexicon other (take i members)) (IsPairWith lexicon other (take (i + 1) members)) pairs kept
        (λ t has. (
          has.0,
          elim has.1 [
            | inl lt ↦ inl lt
            | inr at ↦ elim (taken_cases members i one within is t.one at.1) [
              | inl old ↦ inr (at.0, old)
              | inr same ↦ absurd (none t (sym same) at.0 has.0.are)
            ]
          ],
        ))
        so_far

    -- with which it is
    pub pairs-push : (t : Twins) → t.one ≡ one → t.other ≡ other → IsTwins lexicon t → AreAll (IsPairWith lexicon other (take (i + 1) members)) (pairs ++ t ∷ [])
    pairs-push t one_is other_is are =
        let here : Contains (take (i + 1) members) t.one = subst (Contains (take (i + 1) members)) (sym one_is) (taken_new members i one within is) in
        let has : Contains members t.one = (i, within, subst (λ n. get_or members i n ≡ n) (sym one_is) is) in
        all-push (IsPairWith lexicon other (take i members)) (IsPairWith lexicon other (take (i + 1) members)) pairs t
        (λ had. elim had.1 [ inl lt ↦ omega (arith, lt, other_is) | inr at ↦ fresh_at members i one within is small.all.once (subst (Contains (take i members)) one_is at.1) ])
        kept
        (candidate_from t are has other_is, inr (other_is, here))
        (λ y is_one. elim is_one.1 [
          | inl lt ↦ inl (is_one.0, inl lt)
          | inr at ↦ elim (taken_cases members i one within is y.one at.1) [
            | inl old ↦ inl (is_one.0, inr (at.0, old))
            | inr same ↦ inr (twins_same lexicon t y are is_one.0.are (one_is ∙ same) (other_is ∙ sym at.0))
          ]
        ])
        so_far

-- before the first rule
pub pairs-start : (lexicon : Lexicon) (other : ℕ) (pairs : List Twins) → AreAll (IsPairBelow lexicon other) pairs → AreAll (IsPairWith lexicon other []) pairs
pairs-start lexicon other pairs are = all-same (IsPairBelow lexicon other) (IsPairWith lexicon other []) pairs (λ t has. (has.0, inl has.1))
    (λ t has. (has.0, elim has.1 [ inl lt ↦ lt | inr at ↦ omega (arith, at.1.1) ])) are

-- a rule with which there are no twins
pub pairs-skip : (lexicon : Lexicon) (other : ℕ) (pairs : List Twins) → ((t : Twins) → IsCandidate lexicon t → t.other ≡ other → ⊥)
    → AreAll (IsPairBelow lexicon other) pairs → AreAll (IsPairBelow lexicon (other + 1)) pairs
pairs-skip lexicon other pairs none are = all-same (IsPairBelow lexicon other) (IsPairBelow lexicon (other + 1)) pairs (λ t has. (has.0, omega (arith, has.1)))
    (λ t has. (has.0, elim (cases_eq t.other other) [ inl at ↦ absurd (none t has.0 at) | inr apart ↦ omega (arith, has.1, apart) ])) are

-- all rules
pub pairs-whole : (lexicon : Lexicon) (end : ℕ) (pairs : List Twins) → length lexicon.entries.items ≤ end → AreAll (IsPairBelow lexicon end) pairs → AreAll (IsCandidate lexicon) pairs
pairs-whole lexicon end pairs past are = all-same (IsPairBelow lexicon end) (IsCandidate lexicon) pairs (λ t has. has.0)
    (λ t is. (is, omega (arith, past, entry_there lexicon t.other is.are.right is.are.other))) are

module _ (lexicon : Lexicon) (other : ℕ) (family : Family) (piece : Piece) (members : List ℕ) (rule : piece_of lexicon other ≡ Some piece)
    (cells : family.cells ≡ piece.cells) (characters : family.characters ≡ length piece.chars) (are : AreMembers lexicon (length lexicon.entries.items) family members) where
  at_piece : (Holds : List ℕ → ℕ → Type 0) → Holds family.cells family.characters → Holds piece.cells (length piece.chars)
  at_piece Holds h = subst (λ n. Holds piece.cells n) characters (subst (λ cs. Holds cs family.characters) cells h)

  -- the family of a rule, where it has fewer than four
  whole_family : length members < 4 → AreAll (IsOfFamily lexicon piece.cells (length piece.chars)) members
  whole_family few = at_piece (λ cs n. AreAll (IsOfFamily lexicon cs n) members) (members-all lexicon (length lexicon.entries.items) family members are (omega arith) few)

  pub small_from : length members < 4 → Contains members other → IsSmallFamily lexicon other members
  small_from few there = record { piece = piece; rule = rule; all = whole_family few; few = few; there = there }

  -- no twins where it has four
  pub none_of_many : 4 ≤ length members → (t : Twins) → IsCandidate lexicon t → t.other ≡ other → ⊥
  none_of_many many t is at =
      let right : piece ≡ is.are.right = same_Some piece is.are.right (sym rule ∙ (ap (piece_of lexicon) (sym at) ∙ is.are.other)) in
      let left_cells : piece.cells ≡ is.are.left.cells = ap (λ (p : Piece). p.cells) right ∙ sym is.are.cells in
      let left_characters : length piece.chars ≡ length is.are.left.chars = ap (λ (p : Piece). length p.chars) right ∙ sym is.are.characters.as_long in
      let each : All (IsOfFamily lexicon is.are.left.cells (length is.are.left.chars)) members =
      subst (λ n. All (IsOfFamily lexicon is.are.left.cells n) members) left_characters (subst (λ cs. All (IsOfFamily lexicon cs (length piece.chars)) members) left_cells
      (at_piece (λ cs n. All (IsOfFamily lexicon cs n) members) are.each)) in
      omega (arith, many, is.family members are.once each)

  -- or where it isn't the first with its characters
  pub none_of_later : length members < 4 → (Contains members other → ⊥) → (t : Twins) → IsCandidate lexicon t → t.other ≡ other → ⊥
  none_of_later few absent t is at = absent ((whole_family few).whole other (record { piece = piece; rule = rule; same_cells = refl; as_many = refl; first = subst (IsFirst lexicon) at is.other }))
