-- What is missing, where one more state is passed.
use Rattle.std.proofs.Common.{◌≡◌, ℕ, ◌+◌, ◌-◌, ◌<◌, ◌≤◌, ◌⊎◌, inl, inr, length, true, false, Option, Some, None, MatchOption, refl, sym, ◌∙◌, ap, subst, arith}
use Rattle.std.specs.Prelude.{is_some}
use Rattle.std.proofs.lemmas.Bool.{cases_eq}
use Rattle.std.proofs.lemmas.Option.{slice_get_within}
use Rattle.brl_closure.specs.Least.{IsLeast, IsLeastFound, IsLeastPair}
use Rattle.brl_closure.specs.Pass.{IsBehind, IsBehindFrom, IsLeastSplit, IsMissingBelow, IsPairFound, IsSplitFound, MissesNoSplitBelow, MissesPairBelow}
use Rattle.brl_closure.specs.Excusing.{HasNone, MissesUnexcused}
use Rattle.brl_closure.specs.Refusals.{MissesNoPair, MissesPair}
use Rattle.brl_closure.specs.declared.check.missing.MissingPair.{MissingPair}
use Rattle.brl_closure.specs.declared.check.missing.MissingSplit.{MissingSplit}
use Rattle.brl_closure.specs.declared.check.pass.Missing.{Missing}
use Rattle.brl_closure.proofs.LeastLaws.{least_here, same_least_pair, this_found_pair}
use Rattle.brl_closure.proofs.Closing.{split_within}
use Rattle.brl_closure.proofs.Numbers.{named_at}
use Rattle.brl_pairs.specs.Body.{BodyView, NumberPair}
use Rattle.brl_pairs.specs.declared.excused.Excused.{Excused}
use Rattle.brl_pairs.specs.Runs.{Behaviour}
use Rattle.brl_pairs.proofs.Lists.{same_place}

-- how many pairs are left from this place of a chain on
abbrev pub left_from : ℕ → Option ℕ → ℕ
left_from count None = 0
left_from count (Some number) = count - number

module _ {S : Type 0} (m : Behaviour S) (body : BodyView S) (state : ℕ) where
  -- ---- Along the chain of a state

  -- the place of the chain is a pair of the state
  abbrev pub IsAt : Option ℕ → Type 0
  IsAt place = MatchOption place (Unit {0}) (IsBehind body.pairs state)

  -- the pairs of the state that miss one are not before this place
  abbrev pub AreFrom : Option ℕ → Type 0
  AreFrom place = (number rule : ℕ) → IsBehind body.pairs state number → MissesPair m body number rule → MatchOption place ⊥ (λ low. low ≤ number)

  -- the least pair of the state from a number on, where none before that number misses a pair
  from_least : (low : ℕ) → ((number rule : ℕ) → IsBehind body.pairs state number → MissesPair m body number rule → low ≤ number)
      → (place : Option ℕ) → IsLeastFound (IsBehindFrom body.pairs state low) place → IsAt place × AreFrom place
  from_least low above None none = (tt, λ number rule behind misses. none number (above number rule behind misses, behind))
  from_least low above (Some first) least = (least.has.1, λ number rule behind misses. least.below_all number (above number rule behind misses, behind))

  pub from_first : (place : Option ℕ) → IsLeastFound (IsBehindFrom body.pairs state 0) place → IsAt place × AreFrom place
  from_first place least = from_least 0 (λ number rule behind misses. omega arith) place least

  pub from_next : (number : ℕ) → AreFrom (Some number) → ((rule : ℕ) → MissesPair m body number rule → ⊥)
      → (place : Option ℕ) → IsLeastFound (IsBehindFrom body.pairs state (number + 1)) place → IsAt place × AreFrom place
  from_next number from without place least = from_least (number + 1) above place least
    where
      above : (k rule : ℕ) → IsBehind body.pairs state k → MissesPair m body k rule → number + 1 ≤ k
      above k rule behind misses = elim (cases_eq k number) [
        | inl here ↦ absurd (without rule (subst (λ (n : ℕ). MissesPair m body n rule) here misses))
        | inr apart ↦ (let le : number ≤ k = from k rule behind misses in omega arith)
      ]

  -- after the last place there is none
  pub none_from_end : (place : Option ℕ) → ((number : ℕ) → place ≡ Some number → ⊥) → AreFrom place → (k rule : ℕ) → IsBehind body.pairs state k → MissesPair m body k rule → ⊥
  none_from_end None apart from = from
  none_from_end (Some number) apart from = absurd (apart number refl)

  pub fewer_left : (number : ℕ) → IsBehind body.pairs state number → (place : Option ℕ) → IsLeastFound (IsBehindFrom body.pairs state (number + 1)) place → left_from (length body.pairs) place < left_from (length body.pairs) (Some number)
  fewer_left number behind None none = (let within = slice_get_within body.pairs number behind.pair behind.at in omega (arith, within))
  fewer_left number behind (Some low) least = (let within = slice_get_within body.pairs number behind.pair behind.at in omega (arith, within, least.has.0))

  -- ---- The least missing pair

  wider : (number rule : ℕ) → MissesPairBelow m body state number rule → MissesPairBelow m body (state + 1) number rule
  wider number rule h = record { misses = h.misses; state = h.state; below = (let lt : h.state < state = h.below in omega arith); behind = h.behind }

  -- a pair at one of the states before, or at this one
  at_or_before : (number rule : ℕ) → MissesPairBelow m body (state + 1) number rule → MissesPairBelow m body state number rule ⊎ IsBehind body.pairs state number
  at_or_before number rule h = elim (cases_eq h.state state) [
    | inl here ↦ inr (record { pair = h.behind.pair; at = h.behind.at; behind = h.behind.behind ∙ here })
    | inr there ↦ inl (record { misses = h.misses; state = h.state; below = (let lt : h.state < state + 1 = h.below in omega arith); behind = h.behind })
  ]

  -- a pair is at one state
  one_state : (number rule : ℕ) → MissesPairBelow m body state number rule → IsBehind body.pairs state number → ⊥
  one_state number rule h behind =
      let same : h.behind.pair.behind ≡ behind.pair.behind = ap (λ (z : NumberPair). z.behind) (same_place body.pairs number h.behind.pair behind.pair h.behind.at behind.at) in
      let lt : h.state < state = h.below in
      absurd (omega (arith, lt, h.behind.behind, behind.behind, same))

  -- what was the least stays it, where the pairs of this state that miss one come after it
  pub least_stays : (least : Option MissingPair) → ((number rule : ℕ) → IsBehind body.pairs state number → MissesPair m body number rule → MatchOption least ⊥ (λ missing. missing.pair ≤ number))
      → IsPairFound m body state least → IsPairFound m body (state + 1) least
  least_stays None beyond none = λ number rule h. elim (at_or_before number rule h) [ inl before ↦ none number rule before | inr here ↦ beyond number rule here h.misses ]
  least_stays (Some missing) beyond least = record {
    has = wider missing.pair missing.rule least.has;
    before_all = λ number rule h. elim (at_or_before number rule h) [
      | inl before ↦ least.before_all number rule before
      | inr here ↦ elim (cases_eq missing.pair number) [
        | inl same ↦ absurd (one_state number missing.rule (subst (λ (n : ℕ). MissesPairBelow m body state n missing.rule) same least.has) here)
        | inr apart ↦ inl (let le : missing.pair ≤ number = beyond number rule here h.misses in omega arith)
      ]
    ];
  }

  -- a lesser one is found
  pub lesser_found : (least : Option MissingPair) → IsPairFound m body state least → (number : ℕ) → MatchOption least (Unit {0}) (λ missing. number < missing.pair)
      → IsBehind body.pairs state number → AreFrom (Some number) → (rule : ℕ) → IsLeast (MissesPair m body number) rule → IsLeastPair (MissesPairBelow m body (state + 1)) (number, rule)
  lesser_found least found number first behind from rule is_least = record {
    has = record { misses = is_least.has; state = state; below = omega arith; behind = behind };
    before_all = λ k r h. elim (at_or_before k r h) [
      | inl before ↦ inl (below least found first k r before)
      | inr here ↦ elim (cases_eq number k) [
        | inl same ↦ inr (same, is_least.below_all r (subst (λ (n : ℕ). MissesPair m body n r) (sym same) h.misses))
        | inr apart ↦ inl (let le : number ≤ k = from k r here h.misses in omega arith)
      ]
    ];
  }
    where
      below : (least : Option MissingPair) → IsPairFound m body state least → MatchOption least (Unit {0}) (λ missing. number < missing.pair) → (k r : ℕ) → MissesPairBelow m body state k r → number < k
      below None none first k r h = absurd (none k r h)
      below (Some missing) least first k r h = elim (least.before_all k r h) [ inl lt ↦ omega (arith, lt, first) | inr same ↦ omega (arith, same.0, first) ]

  -- the pair doesn't come before the least one
  pub beyond_least : (least : Option MissingPair) (number : ℕ) → (MatchOption least (Unit {0}) (λ missing. number < missing.pair) → ⊥) → AreFrom (Some number)
      → (k rule : ℕ) → IsBehind body.pairs state k → MissesPair m body k rule → MatchOption least ⊥ (λ missing. missing.pair ≤ k)
  beyond_least None number beyond from k rule behind misses = beyond tt
  beyond_least (Some missing) number beyond from k rule behind misses = elim (order number missing.pair) [
    | inl lt ↦ absurd (beyond lt)
    | inr ge ↦ (let le : number ≤ k = from k rule behind misses in omega arith)
  ]
    where
      order : (a b : ℕ) → (a < b) ⊎ (b ≤ a)
      order a b = grind arith

  -- ---- Splits and pairs

  module _ (excused : Excused) where
    abbrev Misses : ℕ → ℕ → ℕ → Type 0
    Misses = MissesUnexcused m excused body

    -- none was missing so far
    pub none_so_far : (missing : Missing) → is_some missing.split ≡ false → IsMissingBelow m excused body state missing → MissesNoSplitBelow Misses state × IsPairFound m body state missing.pair
    none_so_far missing none h = by_split missing.split missing.pair none h
      where
        by_split : (split : Option MissingSplit) (pair : Option MissingPair) → is_some split ≡ false → MatchOption split (MissesNoSplitBelow Misses state × IsPairFound m body state pair) (IsLeastSplit Misses)
            → MissesNoSplitBelow Misses state × IsPairFound m body state pair
        by_split None pair none h = h
        by_split (Some split) pair none h = cc

    -- the first split is missing at this state
    pub split_found : (split : Option MissingSplit) (pair : Option MissingPair) → is_some split ≡ true → MissesNoSplitBelow Misses state → IsSplitFound Misses state split → IsMissingBelow m excused body (state + 1) (record { split = split; pair = pair })
    split_found None pair some before h = cc
    split_found (Some split) pair some before h =
        let at : split.state ≡ state = h.0 in
        let least = subst (λ (n : ℕ). IsLeastPair (Misses n) (split.lesser, split.greater)) (sym at) h.1 in
        let rules = this_found_pair (Misses split.state) (Some (split.lesser, split.greater)) (split.lesser, split.greater) refl least in
        record {
          state = least_here (λ n. (l g : ℕ) × Misses n l g) split.state (split.lesser, split.greater, least.has) (λ k lt gap. before k gap.0 gap.1 (omega (arith, lt, at)) gap.2);
          lesser = rules.0;
          greater = rules.1;
        }

    -- none is missing at this state
    pub none_found_here : (split : Option MissingSplit) (pair : Option MissingPair) → is_some split ≡ false → MissesNoSplitBelow Misses state → IsSplitFound Misses state split → IsPairFound m body (state + 1) pair
        → IsMissingBelow m excused body (state + 1) (record { split = split; pair = pair })
    none_found_here None pair none before h found = ((λ k l g lt gap. elim (cases_eq k state) [ inl here ↦ h l g (subst (λ (n : ℕ). Misses n l g) here gap) | inr apart ↦ before k l g (omega (arith, lt)) gap ]), found)
    none_found_here (Some split) pair none before h found = cc

-- ---- At the end of the pass

module _ {S : Type 0} (m : Behaviour S) (body : BodyView S) where
  -- each pair has its run behind in one of the states
  below_count : (number rule : ℕ) → MissesPair m body number rule → MissesPairBelow m body (length body.states) number rule
  below_count number rule h =
      let n = named_at body number h.pair h.is_pair in
      record {
        misses = h;
        state = n.numbers.behind;
        below = slice_get_within body.states n.numbers.behind h.pair.behind n.names.behind;
        behind = record { pair = n.numbers; at = n.at; behind = refl };
      }

  module _ (excused : Excused) where
    pub no_split_at_end : (missing : Missing) → ((split : MissingSplit) → missing.split ≡ Some split → ⊥) → IsMissingBelow m excused body (length body.states) missing → HasNone (MissesUnexcused m excused body) × IsPairFound m body (length body.states) missing.pair
    no_split_at_end missing apart h = by_split missing.split missing.pair apart h
      where
        by_split : (split : Option MissingSplit) (pair : Option MissingPair) → ((s : MissingSplit) → split ≡ Some s → ⊥)
            → MatchOption split (MissesNoSplitBelow (MissesUnexcused m excused body) (length body.states) × IsPairFound m body (length body.states) pair) (IsLeastSplit (MissesUnexcused m excused body)) → HasNone (MissesUnexcused m excused body) × IsPairFound m body (length body.states) pair
        by_split None pair apart h = ((λ number l g gap. h.0 number l g (split_within m excused body number (l, g, gap)) gap), h.1)
        by_split (Some split) pair apart h = absurd (apart split refl)

  pub no_pair_at_end : (found : Option MissingPair) → ((least : MissingPair) → found ≡ Some least → ⊥) → IsPairFound m body (length body.states) found → MissesNoPair m body
  no_pair_at_end None apart h = λ number rule gap. h number rule (below_count number rule gap)
  no_pair_at_end (Some least) apart h = absurd (apart least refl)

  pub pair_at_end : (found : Option MissingPair) (least : MissingPair) → found ≡ Some least → IsPairFound m body (length body.states) found
      → IsLeast (λ number. (r : ℕ) × MissesPair m body number r) least.pair × IsLeast (MissesPair m body least.pair) least.rule
  pair_at_end found least is h =
      let end = length body.states in
      let both : IsLeastPair (MissesPairBelow m body end) (least.pair, least.rule) = subst (IsPairFound m body end) is h in
      let all = same_least_pair (MissesPairBelow m body end) (MissesPair m body) (λ k r. ((λ gap. gap.misses), below_count k r)) (Some (least.pair, least.rule)) both in
      this_found_pair (MissesPair m body) (Some (least.pair, least.rule)) (least.pair, least.rule) refl all
