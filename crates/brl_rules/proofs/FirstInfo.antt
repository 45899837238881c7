-- What follows from the info of the first character of a rest.
use Rattle.std.proofs.Common.{ℕ, ◌+◌, ◌<◌, ◌≤◌, ◌≡◌, false, true, List, [], ◌∷◌, length, get_or, arith, refl, ◌∙◌, ap, subst, Option, Some, None, IsSome}
use Rattle.std.specs.Prelude.{All, slice_get}
use Rattle.std.specs.Option.{option_map_or}
use Rattle.std.proofs.lemmas.List.Elements.{All-get_or, All-head}
use Rattle.std.proofs.lemmas.Option.{get_or_from_slice_get, slice_get_within}
use Rattle.std.proofs.lemmas.Bool.{false_from_ne_true}
use Rattle.brl_rules.specs.declared.class.Class.{Class}
use Rattle.brl_rules.specs.declared.rule.Info.{Info}
use Rattle.brl_rules.specs.declared.rule.Rule.{Rule}
use Rattle.brl_rules.specs.TableView.{TableView, info_of}
use Rattle.brl_rules.specs.Infos.{first_info}
use Rattle.brl_rules.specs.Limits.{AreNumbered, IsAmong, IsRule, IsTable}
use Rattle.brl_rules.specs.Text.{fold_of, is_in_caps_run}
use Rattle.brl_rules.specs.Choice.{Choice, fits, own, chosen}
use Rattle.brl_rules.proofs.Compared.{behind_first}
use Rattle.brl_rules.proofs.EntryNumbers.{number_small}
use Rattle.brl_rules.proofs.TreeWalk.{position-none, fits-matches, front, chosen-none}
use Rattle.brl_rules.proofs.Facts.{some_is}

pub first_info-got : (t : TableView) (rest : List ℕ) (d : ℕ) → 0 < length rest → first_info t rest ≡ info_of t (get_or rest 0 d)
first_info-got t [] d some = absurd (omega arith)
first_info-got t (c ∷ rest) d some = refl

pub first_info-there : (t : TableView) (rest : List ℕ) (c : ℕ) → slice_get rest 0 ≡ Some c → first_info t rest ≡ info_of t c
first_info-there t [] c there = cc
first_info-there t (x ∷ rest) c there = ap (info_of t) (some_is x c there)

module _ (t : TableView) (info : Info) where
  pub some-characters : (rest : List ℕ) → first_info t rest ≡ Some info → 0 < length rest
  some-characters [] known = cc
  some-characters (c ∷ rest) known = omega arith

  pub own-known : (rest : List ℕ) → first_info t rest ≡ Some info → own t rest ≡ record { number = length t.rules + info.number; taken = 1; cells = info.cells }
  own-known [] known = cc
  own-known (c ∷ rest) known =
      let own_by : Option Info → Choice = λ found. record {
        number = length t.rules + option_map_or (λ (info : Info). info.number) found 0;
        taken = 1;
        cells = option_map_or (λ (info : Info). info.cells) found [];
      } in
      ap own_by known

  pub number-small : AreNumbered t.characters → length t.characters ≤ 1024 → (rest : List ℕ) → first_info t rest ≡ Some info → info.number < 1024
  number-small numbered few [] known = cc
  number-small numbered few (c ∷ rest) known = number_small t.characters numbered few c (Some info) known

-- ---- a first character that the table doesn't define

own-undefined : (t : TableView) (c : ℕ) (rest : List ℕ) → info_of t c ≡ None → own t (c ∷ rest) ≡ record { number = length t.rules; taken = 1; cells = [] }
own-undefined t c rest undefined =
    let own_by : Option Info → Choice = λ found. record {
      number = length t.rules + option_map_or (λ (info : Info). info.number) found 0;
      taken = 1;
      cells = option_map_or (λ (info : Info). info.cells) found [];
    } in
    let numbered : ℕ → Choice = λ n. record { number = n; taken = 1; cells = [] } in
    let none : length t.rules + 0 ≡ length t.rules = omega arith in
    ap own_by undefined ∙ ap numbered none

-- no rule begins with it
no_rule : (t : TableView) → IsTable t → (before : Class) (c : ℕ) (rest : List ℕ) → info_of t c ≡ None
    → (j : ℕ) (r : Rule) → slice_get t.rules j ≡ Some r → fits t before (c ∷ rest) r ≡ true → ⊥
no_rule t law before c rest undefined j r there does =
    let behind = behind_first t (is_in_caps_run t before (c ∷ rest)) rest in
    let begins = front t before (c ∷ rest) (fold_of t c) behind refl r.chars (fits-matches t before (c ∷ rest) (fold_of t c) behind refl r does) in
    let is-rule = All-get_or (IsRule t.characters (length t.files)) t.rules j r (slice_get_within t.rules j r there) law.parts.rules in
    let is = get_or_from_slice_get t.rules j r r there in
    let defined = subst (λ (s : Rule). All (IsAmong t.characters) s.chars) is is-rule.characters_defined in
    let first = All-head (IsAmong t.characters) (fold_of t c) begins.0 (subst (All (IsAmong t.characters)) begins.1 defined) in
    let itself : fold_of t c ≡ c = ap (λ found. option_map_or (λ (info : Info). info.fold) found c) undefined in
    let never : false ≡ true = subst (λ (found : Option Info). IsSome found) undefined (subst (IsAmong t.characters) itself first) in
    cc

pub chosen-undefined : (t : TableView) → IsTable t → (before : Class) (rest : List ℕ) (d : ℕ) → 0 < length rest → info_of t (get_or rest 0 d) ≡ None
    → chosen t before rest ≡ record { number = length t.rules; taken = 1; cells = [] }
chosen-undefined t law before [] d some undefined = absurd (omega arith)
chosen-undefined t law before (c ∷ rest) d some undefined =
    chosen-none t before (c ∷ rest)
    (position-none (fits t before (c ∷ rest)) 0 t.rules (λ j r there. false_from_ne_true (fits t before (c ∷ rest) r) (no_rule t law before c rest undefined j r there)))
    ∙ own-undefined t c rest undefined
