-- What a search of a table finds for what it is asked for, where pairs of rules may be accepted,
-- and others exchanged. These are this project's own choice.
use Rattle.std.specs.Prelude.{ℕ, ◌≡◌, ◌⊎◌, Bool, false, ◌||◌, List, [], ◌++◌, Option, None, Some, find, length, not}
use Rattle.brl_closure.specs.Answers.{IsWithin}
use Rattle.brl_closure.specs.Excusing.{IsRefusedUpTo}
use Rattle.brl_pairs.specs.Body.{BodyView}
use Rattle.brl_pairs.specs.Divergence.{has_rules}
use Rattle.brl_pairs.specs.Exchanges.{IsClosedUpTo}
use Rattle.brl_pairs.specs.Sets.{sets_of}
use Rattle.brl_pairs.specs.declared.excused.Excused.{Excused}
use Rattle.brl_rules.specs.TableView.{TableView}
use Rattle.brl_search.specs.Clashes.{AreRuleClashes, IsOverLimit, IsRuleClash, IsWholeList}
use Rattle.brl_search.specs.Searched.{State, machine_of}
use Rattle.brl_search.specs.Small.{IsSmallClash}
use Rattle.brl_search.specs.Found.{IfClashing, IsFoundWithout}
use Rattle.brl_search.specs.declared.scoped.Searched.{Searched}
use Rattle.brl_search.specs.declared.scoped.Searched.TheVariants.{Found, NotExchangeable}
use Rattle.brl_search.specs.declared.table_search.Found.TheVariants.{Certified, Clashing, Limit}
use Rattle.brl_search.specs.declared.table_clashes.RuleClash.{RuleClash}
use Rattle.brl_states.specs.declared.cert.Cert.TheVariants.{Dues, Window, Word}
use Rattle.brl_traces.specs.Exchanges.{TextsAgreeBut}
use Rattle.brl_traces.specs.Traces.{ClashesDivergeAtWithout}
use Rattle.brl_without.specs.Scope.{IsNothing}
use Rattle.brl_without.specs.Tables.{IsClashWithout}
use Rattle.brl_without.specs.Without.{without}
use Rattle.brl_closure.specs.declared.check.fault.AcceptFault.{AcceptFault}

-- whether the rules of a clash are a pair that is accepted, or that may be exchanged
abbrev pub is_excused : Excused → RuleClash → Bool
is_excused excused c = has_rules excused.accepted c.lesser c.greater || has_rules excused.exchanged c.lesser c.greater

-- States and pairs, at most `limit` of each, are closed but for what is excused. So any two texts
-- that use none of some characters and are translated to the same cells are the same step by step
-- but for exchanges, to their ends or up to a place where they diverge at an accepted pair of
-- rules.
pub record IsCertifiedUpTo (left_out : List ℕ) (excused : Excused) (t : TableView) (limit : ℕ) (body : BodyView State) : Type 0 where
  pub closed : IsClosedUpTo (without left_out (machine_of t)) excused.exchanged excused.accepted (sets_of body)
  pub agree : TextsAgreeBut left_out excused.exchanged excused.accepted t
  pub within : IsWithin limit body

-- the first of these clashes whose pair of rules isn't excused
abbrev pub first_unexcused : Excused → List RuleClash → Option RuleClash
first_unexcused excused list = find (λ (c : RuleClash). not (is_excused excused c)) list

-- A clash at a pair of rules that isn't excused, and the first such one of a list whose pairs
-- ascend. The list has all pairs at which texts diverge; or the limit was passed with it.
pub record IsLeastUnexcused (left_out : List ℕ) (excused : Excused) (t : TableView) (limit : ℕ) (c : RuleClash) : Type 0 where
  pub clash : IsRuleClash left_out t c
  pub unexcused : is_excused excused c ≡ false
  pub list : List RuleClash
  pub are : AreRuleClashes left_out t list
  pub least : first_unexcused excused list ≡ Some c
  pub whole : ((body : BodyView State) × IsWholeList left_out t limit list body) ⊎ ((states pairs : ℕ) × IsOverLimit left_out t limit (length list) states pairs)

-- Some pairs may be exchanged, and texts diverge at no pairs but these and those that are accepted.
-- States and pairs show it: they are closed but for all of these. But they are refused with this
-- fault where the first may only be exchanged.
pub record IsNotExchangeable (left_out : List ℕ) (excused : Excused) (t : TableView) (fault : AcceptFault) : Type 0 where
  pub some : excused.exchanged ≡ [] → ⊥
  pub no_other : ClashesDivergeAtWithout left_out (excused.accepted ++ excused.exchanged) t
  pub body : BodyView State
  pub shown : IsClosedUpTo (without left_out (machine_of t)) excused.exchanged (excused.accepted ++ excused.exchanged) (sets_of body)
  pub refused : IsRefusedUpTo (without left_out (machine_of t)) excused body fault

-- Texts diverge at no pairs of rules but those that are excused, and the states and pairs show it,
-- which are at most `limit` of each. Where none may be exchanged, they are closed but for the
-- accepted pairs.
pub record AreAllExcused (left_out : List ℕ) (excused : Excused) (t : TableView) (limit : ℕ) (body : BodyView State) : Type 0 where
  pub no_other : ClashesDivergeAtWithout left_out (excused.accepted ++ excused.exchanged) t
  pub within : IsWithin limit body
  pub shown : IsClosedUpTo (without left_out (machine_of t)) excused.exchanged (excused.accepted ++ excused.exchanged) (sets_of body)
  pub closed : excused.exchanged ≡ [] → IsClosedUpTo (without left_out (machine_of t)) excused.exchanged excused.accepted (sets_of body)

-- The limit was passed by the states, the pairs or the pairs of rules of a list, where texts clash
-- at each of the last. All of these are excused.
pub record IsUndecided (left_out : List ℕ) (excused : Excused) (t : TableView) (limit states pairs : ℕ) : Type 0 where
  pub list : List RuleClash
  pub are : AreRuleClashes left_out t list
  pub all_excused : first_unexcused excused list ≡ None
  pub over : IsOverLimit left_out t limit (length list) states pairs

-- What a search of this table with this limit finds for the texts that use none of some characters,
-- where this is excused. A clash is at a pair of rules that isn't, where something is.
abbrev pub IsFoundFor : List ℕ → Excused → TableView → ℕ → Searched → Type 0
IsFoundFor left_out excused t limit (Found (Certified (Word body))) = IsCertifiedUpTo left_out excused t limit body
IsFoundFor left_out excused t limit (Found (Certified (Dues body))) = ⊥
IsFoundFor left_out excused t limit (Found (Certified (Window body))) = ⊥
IsFoundFor left_out excused t limit (Found (Clashing clash)) =
    IsClashWithout left_out t clash.left clash.right clash.cells
    × ((IsNothing excused → ⊥) → (lesser greater : ℕ) × IsLeastUnexcused left_out excused t limit (record { lesser = lesser; greater = greater; clash = clash }))
IsFoundFor left_out excused t limit (Found (Limit states pairs)) = IsUndecided left_out excused t limit states pairs
IsFoundFor left_out excused t limit (NotExchangeable fault) = IsNotExchangeable left_out excused t fault

-- what such a search finds where nothing is excused
abbrev pub IsFoundPlainly : List ℕ → TableView → ℕ → Searched → Type 0
IsFoundPlainly left_out t limit (Found found) = IsFoundWithout left_out t limit found
IsFoundPlainly left_out t limit (NotExchangeable fault) = ⊥

-- no character can be left out of a clash that is found, where its texts aren't long
abbrev pub IsSmallFound : TableView → Searched → Type 0
IsSmallFound t (Found found) = IfClashing (IsSmallClash t) found
IsSmallFound t (NotExchangeable fault) = Unit {0}

-- what is found, with all that a search without excuses says of it where there are none
pub record IsSearched (left_out : List ℕ) (excused : Excused) (t : TableView) (limit : ℕ) (found : Searched) : Type 0 where
  pub found_for : IsFoundFor left_out excused t limit found
  pub plainly : IsNothing excused → IsFoundPlainly left_out t limit found
  pub small : IsNothing excused → IsSmallFound t found
