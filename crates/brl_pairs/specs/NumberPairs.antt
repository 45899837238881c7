-- Listed pairs by the numbers of their states, and the pair that follows when the run behind takes
-- an edge. The project's own choice.
use Rattle.std.specs.Prelude.{◌≡◌, ◌≢◌, ℕ, List, [], ◌++◌, ◌⊎◌}
use Rattle.brl_pairs.specs.Body.{NumberPair}
use Rattle.brl_pairs.specs.declared.edge.Edge.{Edge}
use Rattle.brl_pairs.specs.Members.{IsMember}
use Rattle.brl_pairs.specs.Pairs.{InEitherOrder}

-- the pair is listed, in either order
abbrev pub IsThere : List NumberPair → ℕ → ℕ → List ℕ → Type 0
IsThere pairs ahead behind lead = InEitherOrder (IsMember pairs) (record { ahead = ahead; behind = behind; lead = lead })

-- the pair that follows when the run behind takes this edge is listed, if one follows
pub record IsFollowed (pairs : List NumberPair) (ahead : ℕ) (lead : List ℕ) (e : Edge) : Type 0 where
  pub still : (rest : List ℕ) → lead ≡ e.cells ++ rest → IsThere pairs ahead e.next rest
  pub swapped : (rest : List ℕ) → rest ≢ [] → e.cells ≡ lead ++ rest → IsThere pairs e.next ahead rest

-- taking this edge, the run behind stays behind, by a rest of the lead, and that pair isn't listed
pub record IsMissingStill (pairs : List NumberPair) (ahead : ℕ) (lead : List ℕ) (e : Edge) : Type 0 where
  pub rest : List ℕ
  pub longer : lead ≡ e.cells ++ rest
  pub missing : IsThere pairs ahead e.next rest → ⊥

-- taking this edge, the run behind gets ahead, by a rest of the cells, and that pair isn't listed
pub record IsMissingSwapped (pairs : List NumberPair) (ahead : ℕ) (lead : List ℕ) (e : Edge) : Type 0 where
  pub rest : List ℕ
  pub some : rest ≢ []
  pub shorter : e.cells ≡ lead ++ rest
  pub missing : IsThere pairs e.next ahead rest → ⊥

-- the pair that follows when the run behind takes this edge isn't listed
abbrev pub IsMissing : List NumberPair → ℕ → List ℕ → Edge → Type 0
IsMissing pairs ahead lead e = IsMissingStill pairs ahead lead e ⊎ IsMissingSwapped pairs ahead lead e
