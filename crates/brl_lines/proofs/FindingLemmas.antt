-- The path at which a file is found.
use Rattle.std.proofs.Common.{◌≡◌, ◌≢◌, ◌∙◌, ℕ, zero, suc, ◌+◌, ◌<◌, ◌≤◌, Bool, true, false, cond, not, List, [], ◌∷◌, drop, get_or, length, map, take, refl, ap, sym, add-one, arith, Option, Some, Result, Err, string_bytes}
use Rattle.std.proofs.Math.Seq.{drop-cons}
use Rattle.std.proofs.lemmas.List.{drop_all}
use Rattle.std.specs.Global.{Global}
use Rattle.std.specs.Prelude.{String}
use Rattle.brl_failure.specs.Failure.{IfFault}
use Rattle.brl_failure.specs.declared.failure.Failure.{Failure}
use Rattle.brl_failure.specs.declared.failure.Failure.TheVariants.{Fault, Memory}
use Rattle.brl_lines.specs.Answer.{FileAnswer, FileAnswers, Missing, is_missing}
use Rattle.brl_lines.specs.Files.{Files, answers_of}
use Rattle.brl_lines.specs.Includes.{first_there}
use Rattle.brl_lines.specs.Lines.{LocationView, Refusal, answer_at, refusal, text_of}
use Rattle.brl_lines.specs.Steps.{Extends, Fails, FindsFirst, Grows, IsSeen, Sees, text_of_first}
use Rattle.brl_lines.specs.declared.fault.LoadFault.{LoadFault}
use Rattle.brl_lines.specs.declared.fault.LoadFaultKind.TheVariants as kinds
use Rattle.brl_lines.proofs.FileLemmas.{extends-older, grows-twice}

-- ---- one path after the other

-- the paths from a place on: the one there, and those after it
paths-left : (paths : List (String Global)) (i : ℕ) (path : String Global) → i < length paths → path ≡ get_or paths i path
    → map string_bytes (drop i paths) ≡ string_bytes path ∷ map string_bytes (drop (i + 1) paths)
paths-left paths i path within is =
    ap (map string_bytes) (drop-cons paths i path within ∙ ap (λ (x : String Global). x ∷ drop (suc i) paths) (sym is))
    ∙ ap (λ n. string_bytes path ∷ map string_bytes (drop n paths)) (sym (add-one i))

-- the two are one refusal
pub same_refusal : {A : Type 0} {r s : Refusal} → ◌≡◌ {A = Result A Refusal} (Err r) (Err s) → r ≡ s
same_refusal e = cc

-- a file whose text isn't refused as missing is there
pub there-by-text : (path : List ℕ) (place : Option LocationView) (a : Option FileAnswer) → text_of path place a ≢ Err (refusal kinds.NotFound path place)
    → is_missing a ≡ false
there-by-text path place (Some Missing) other = absurd (other refl)
there-by-text path place a other = refl

-- what is at a path stays known
seen-grows : (gives : FileAnswers) (old new : Files) → Grows gives old new → (path : List ℕ) → IsSeen old path → IsSeen new path
seen-grows gives old new grows path seen = (seen.0, extends-older gives old new grows (answer_at (answers_of new)) (λ p a e. e) path seen.0 seen.1)

first-is : (paths : List (String Global)) (other : List ℕ) → take 1 (map string_bytes paths) ≡ other ∷ [] → (path : String Global)
    → path ≡ get_or paths 0 path → string_bytes path ≡ other
first-is [] other first path is = absurd cc
first-is (one ∷ paths) other first path is = ap string_bytes is ∙ cc

module _ (gives : FileAnswers) (old : Files) (paths : List (String Global)) (other : List ℕ) where
  abbrev all : List (List ℕ)
  all = map string_bytes paths

  -- there is no file at the paths before a place
  pub record Skips (now : Files) (i : ℕ) : Type 0 where
    pub grows : Grows gives old now
    pub seen : 0 < i → IsSeen now other
    pub passed : (answer : List ℕ → Option FileAnswer) → Extends now answer → first_there answer all other ≡ first_there answer (map string_bytes (drop i paths)) other

  -- nor at any of them
  pub finds-none : take 1 (map string_bytes paths) ≡ other ∷ [] → (now : Files) (i : ℕ) → Skips now i → length paths ≤ i → (path : List ℕ) → path ≡ other
      → FindsFirst gives old now all other path
  finds-none first now i skips past path is =
      let seen = skips.seen (some paths first past) in
      record {
        grows = skips.grows;
        seen = (seen.0, ap (answer_at (answers_of now)) is ∙ seen.1);
        first_is = λ answer extends.
            skips.passed answer extends ∙ ap (λ (left : List (String Global)). first_there answer (map string_bytes left) other) (drop_all i paths past)
            ∙ sym is;
      }
    where
      some : (ps : List (String Global)) → take 1 (map string_bytes ps) ≡ other ∷ [] → length ps ≤ i → 0 < i
      some [] none less = absurd cc
      some (one ∷ ps) more less = omega arith

  module _ (now : Files) (i : ℕ) (skips : Skips now i) (path : String Global) (within : i < length paths) (is : path ≡ get_or paths i path)
      (first : take 1 (map string_bytes paths) ≡ other ∷ []) where
    abbrev next : (List ℕ → Option FileAnswer) → Bool → List ℕ
    next answer missing = cond missing (first_there answer (map string_bytes (drop (i + 1) paths)) other) (string_bytes path)

    by_next : (answer : List ℕ → Option FileAnswer) → Extends now answer → (missing : Bool) → is_missing (answer (string_bytes path)) ≡ missing → first_there answer all other ≡ next answer missing
    by_next answer extends missing e =
        skips.passed answer extends ∙ ap (λ (ps : List (List ℕ)). first_there answer ps other) (paths-left paths i path within is) ∙ ap (next answer) e

    module _ (new : Files) (there : Bool) (sees : Sees gives now new (string_bytes path) there) where
      both : Grows gives old new
      both = grows-twice gives old now new skips.grows sees.grows

      after : (answer : List ℕ → Option FileAnswer) → Extends new answer → first_there answer all other ≡ next answer (not there)
      after answer extends =
          by_next answer (extends-older gives now new sees.grows answer extends) (not there)
          (ap is_missing (extends (string_bytes path) sees.answer sees.known) ∙ sees.is)

      seen-now : (k : ℕ) → k ≡ i → IsSeen new other
      seen-now zero e =
          (sees.answer, ap (answer_at (answers_of new)) (sym (first-is paths other first path (is ∙ ap (λ j. get_or paths j path) (sym e)))) ∙ sees.known)
      seen-now (suc k) e = seen-grows gives now new sees.grows other (skips.seen (omega arith))

      pub skips-more : there ≡ false → Skips new (i + 1)
      skips-more e = record { grows = both; seen = λ some. seen-now i refl; passed = λ answer extends. after answer extends ∙ ap (λ b. next answer (not b)) e }

      pub finds-here : there ≡ true → (same : List ℕ) → same ≡ string_bytes path → FindsFirst gives old new all other same
      finds-here e same same_is = record {
        grows = both;
        seen = (sees.answer, ap (answer_at (answers_of new)) same_is ∙ sees.known);
        first_is = λ answer extends. after answer extends ∙ ap (λ b. next answer (not b)) e ∙ sym same_is;
      }

    -- the file there is refused
    pub refused-here : (place : Option LocationView) (failure : Failure LoadFault) → Fails gives now (λ answer. text_of (string_bytes path) place (answer (string_bytes path))) failure
        → IfFault (λ fault. fault.kind ≢ kinds.NotFound) failure → Fails gives old (text_of_first all other place) failure
    refused-here place Memory h k = tt
    refused-here place (Fault fault) h k =
        let answer = answer_at h.answers in
        let here =
        by_next answer h.extends false (there-by-text (string_bytes path) place (answer (string_bytes path))
        (λ no. k (ap (λ r. r.kind) (same_refusal (sym h.fails ∙ no))))) in
        record {
          answers = h.answers;
          given = h.given;
          extends = extends-older gives old now skips.grows answer h.extends;
          fails = ap (λ (p : List ℕ). text_of p place (answer p)) here ∙ h.fails;
          unreadable = h.unreadable;
        }
