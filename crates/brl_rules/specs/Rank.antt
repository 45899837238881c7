-- Rank: which of two rules is tried first. The manual, section "Translation Opcodes": of several
-- eligible entries the one with the longest character string is used, and of those for one string
-- the one defined first is tested first. That of rules of one length those with a place of their
-- own come before `always` rules, and that else the earlier line is first, also of other strings,
-- are this project's own choices: at one position rules of one length differ in case alone.
use Rattle.std.specs.Prelude.{◌≡◌, ◌&&◌, ◌||◌, ◌==◌, Bool, false, not, nat_lt, AllPairs, List, [], ◌∷◌, length, filter, if◌then◌else◌}
use Rattle.std.specs.List.Sorted.{ties}
use Rattle.brl_rules.specs.declared.rule.Rule.{Rule}
use Rattle.brl_rules.specs.Places.{is_placed}

-- a rule outranks another: it has more characters, or as many, and it is placed and the other isn't
abbrev pub outranks : Rule → Rule → Bool
outranks r s = nat_lt (length s.chars) (length r.chars) || ((length r.chars == length s.chars) && is_placed r.place && not (is_placed s.place))

-- no rule outranks one before it
abbrev pub IsInRank : List Rule → Type 0
IsInRank rules = AllPairs (λ r s. outranks s r ≡ false) rules

-- a ranking of rules: in rank, and rules of which neither outranks the other are in the order of
-- their lines
pub record IsRanking (lines ranked : List Rule) : Type 0 where
  pub higher_first : IsInRank ranked
  pub in_lines_order : (r : Rule) → filter (ties outranks r) ranked ≡ filter (ties outranks r) lines

-- the rules in rank, with this rule of an earlier line put before all that don't outrank it
abbrev pub put_in_rank : Rule → List Rule → List Rule
put_in_rank r [] = r ∷ []
put_in_rank r (s ∷ rules) = if outranks s r then s ∷ put_in_rank r rules else r ∷ s ∷ rules

-- the rules in rank, computed
abbrev pub in_rank : List Rule → List Rule
in_rank [] = []
in_rank (r ∷ rules) = put_in_rank r (in_rank rules)
