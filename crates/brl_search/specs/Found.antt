-- What a search of a table may answer. These are this project's own choice.
use Rattle.std.specs.Prelude.{ℕ, ◌+◌, ◌<◌, ◌≤◌, ◌⊎◌, List}
use Rattle.brl_pairs.specs.Body.{BodyView}
use Rattle.brl_states.specs.declared.cert.Cert.TheVariants.{Dues, Window, Word}
use Rattle.brl_forward.specs.ClashView.{ClashView}
use Rattle.brl_pairs.specs.Sets.{sets_of}
use Rattle.brl_pairs.specs.Pairs.{IsClosed}
use Rattle.brl_pairs.specs.Runs.{Behaviour}
use Rattle.brl_closure.specs.Answers.{AreInOrder, HasReachedPairs, HasReachedStates, IsWithin}
use Rattle.brl_closure.specs.Reached.{AtLeast, AtMost, Reached, ReachedPair, SamePair, SameState}
use Rattle.brl_search.specs.Searched.{State, machine_of}
use Rattle.brl_rules.specs.TableView.{TableView}
use Rattle.brl_rules.specs.Translation.{IsClash, IsUnambiguous}
use Rattle.brl_without.specs.Tables.{IsClashWithout, IsUnambiguousWithout}
use Rattle.brl_without.specs.Without.{without}
use Rattle.brl_search.specs.declared.table_search.Found.{Found}
use Rattle.brl_search.specs.declared.table_search.Found.TheVariants.{Certified, Clashing, Limit}

-- a fact of the certificate's body, if there is a certificate; it is of version 3
abbrev pub IfCertified : (BodyView State → Type 0) → Found → Type 0
IfCertified P (Certified (Word body)) = P body
IfCertified P (Certified (Dues body)) = ⊥
IfCertified P (Certified (Window body)) = ⊥
IfCertified P found = Unit {0}

-- a fact of the clash, if there is one
abbrev pub IfClashing : (ClashView → Type 0) → Found → Type 0
IfClashing P (Clashing clash) = P clash
IfClashing P found = Unit {0}

-- a fact of the two numbers, if the limit was passed
abbrev pub IfLimit : (ℕ → ℕ → Type 0) → Found → Type 0
IfLimit P (Limit states pairs) = P states pairs
IfLimit P found = Unit {0}

-- it is a certificate
abbrev pub IsCertificate : Found → Type 0
IsCertificate (Certified cert) = Unit {0}
IsCertificate found = ⊥

-- What a search of a machine with this limit finds. `IsSingle` says what a certificate proves, and
-- `IsShown` what is shown by a clash.
pub record IsFoundOver (m : Behaviour State) (IsSingle : Type 0) (IsShown : ClashView → Type 0) (limit : ℕ) (found : Found) : Type 0 where
  -- the states and pairs of a certificate are closed, so there is no clash
  pub closed : IfCertified (λ body. IsClosed m (sets_of body)) found
  pub unambiguous : IfCertified (λ _. IsSingle) found
  -- they are reached, and at most `limit` of each
  pub states : IfCertified (HasReachedStates m) found
  pub pairs : IfCertified (HasReachedPairs m) found
  pub within : IfCertified (IsWithin limit) found
  pub order : IfCertified (λ body. AreInOrder m body.states) found
  -- a clash is one of the table, with its cells
  pub clash : IfClashing IsShown found
  -- the limit was passed, by no more than one, and no more states or pairs are counted than are
  -- reached
  pub passed : IfLimit (λ states pairs. (limit < states) ⊎ (limit < pairs)) found
  pub by_one : IfLimit (λ states pairs. (states ≤ limit + 1) × (pairs ≤ limit + 1)) found
  pub states_reached : IfLimit (λ states _. AtLeast states SameState (Reached m)) found
  pub pairs_reached : IfLimit (λ _ pairs. AtLeast pairs SamePair (ReachedPair m)) found
  -- where at most `limit` states and pairs are reached, it decides
  pub decides : AtMost limit SameState (Reached m) → AtMost limit SamePair (ReachedPair m) → IfLimit (λ _ _. ⊥) found
  pub certifies : AtMost limit SameState (Reached m) → AtMost limit SamePair (ReachedPair m) → IsSingle → IsCertificate found

-- what a search of this table with this limit finds
abbrev pub IsFound : TableView → ℕ → Found → Type 0
IsFound t limit found = IsFoundOver (machine_of t) (IsUnambiguous t) (λ clash. IsClash t clash.left clash.right clash.cells) limit found

-- what such a search finds for the texts that use none of some characters
abbrev pub IsFoundWithout : List ℕ → TableView → ℕ → Found → Type 0
IsFoundWithout left_out t limit found =
    IsFoundOver (without left_out (machine_of t)) (IsUnambiguousWithout left_out t)
    (λ clash. IsClashWithout left_out t clash.left clash.right clash.cells) limit found
