-- A table defines the characters of its rules.
use Rattle.std.proofs.Common.{ℕ, ◌≡◌, true, ◌&&◌, List, [], ◌∷◌, ap, ◌∙◌, refl}
use Rattle.std.specs.Prelude.{slice_index_or}
use Rattle.std.specs.List.{AllByRecursion}
use Rattle.brl_rules.specs.Limits.{IsAmong, IsTable}
use Rattle.brl_rules.specs.TableView.{TableView}
use Rattle.brl_rules.specs.Text.{is_text}
use Rattle.brl_rules.proofs.Facts.{each}
use Rattle.brl_dues.proofs.Exact.{AreKnown}

among-text : (t : TableView) (chars : List ℕ) → AllByRecursion (IsAmong t.characters) chars → is_text t chars ≡ true
among-text t [] h = refl
among-text t (c ∷ chars) h = ap (λ b. b && is_text t chars) h.0 ∙ among-text t chars h.1

pub known_of : (t : TableView) → IsTable t → AreKnown t
known_of t valid =
    each (λ r. is_text t r.chars ≡ true) t.rules
    (λ k d within. (let rule = valid.parts.rules k d within in among-text t (slice_index_or t.rules k d).chars (each (IsAmong t.characters) (slice_index_or t.rules k d).chars (λ i e less. rule.characters_defined i e less))))
