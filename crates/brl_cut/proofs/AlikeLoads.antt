-- Files whose texts have the same lines give a table the same lines, but for the places of words.
use Rattle.std.proofs.Common.{◌≡◌, ◌∙◌, ◌++◌, ◌==◌, ℕ, zero, suc, Bool, true, false, cond, if◌then◌else◌, List, [], ◌∷◌, ap, map, refl, subst, subst₂, sym, Option, Some, None, Result, Ok, Err}
use Rattle.std.specs.Prelude.{bytes_eq, codes, option_map, slice_get, slice_index}
use Rattle.std.proofs.lemmas.List.{map-append}
use Rattle.brl_failure.specs.Failure.{◌>>=◌}
use Rattle.brl_lines.specs.Answer.{FileAnswer, is_missing}
use Rattle.brl_lines.specs.Includes.{first_there, found, included, last_part, name_of}
use Rattle.brl_lines.specs.Lines.{Follow, LocationView, Refusal, Take, Walk, WayView, apart, expanded, few, follow, lines_over, loaded_at, location_of, looked, no_way, on_way, replaced, taken, text_of, walk_from, walk_over, with_file, with_line}
use Rattle.brl_lines.specs.declared.way.Policy.TheVariants as policies
use Rattle.brl_lines.specs.Tokens.{LineView, TokenView, lines_in}
use Rattle.brl_cut.proofs.BareLines.{bare, word}

-- a walk is another but for the places of words in its lines
abbrev pub Alike : Walk → Walk → Type 0
Alike walk other = (map bare other.lines ≡ map bare walk.lines) × (other.way ≡ walk.way)

-- where the first gives a walk, the second gives one with the same words
abbrev pub Leads : Result Walk Refusal → Result Walk Refusal → Type 0
Leads one other = (e : Walk) → one ≡ Ok e → (d : Walk) × (other ≡ Ok d) × Alike e d

-- a walk that is refused leads nowhere
leads-refused : (why : Refusal) (other : Result Walk Refusal) → Leads (Err why) other
leads-refused why other e is = absurd cc

leads-ok : (e d : Walk) → Alike e d → Leads (Ok e) (Ok d)
leads-ok e d alike f is =
    let same : e ≡ f = cc in subst (λ (g : Walk). (h : Walk) × ◌≡◌ {A = Result Walk Refusal} (Ok d) (Ok h) × Alike g h) same (d, refl, alike)

-- one step after another
leads-then : (one other : Result Walk Refusal) (h k : Walk → Result Walk Refusal) → Leads one other → ((e d : Walk) → Alike e d → Leads (h e) (k d)) → Leads (one >>= h) (other >>= k)
leads-then (Ok e) other h k first next f is =
    let d = first e refl in
    subst (λ (r : Result Walk Refusal). (g : Walk) × ((r >>= k) ≡ Ok g) × Alike f g) (sym d.1) (next e d.0 d.2 f is)
leads-then (Err why) other h k first next f is = absurd cc

-- the name in an include line has no place
name-bare : (line : LineView) → name_of (bare line) ≡ name_of line
name-bare line = by_operands line.operands
  where
    by_operands : (operands : List TokenView)
        → (if bytes_eq line.opcode.text (codes "include") then option_map (λ t. t.text) (slice_get (map (λ token. word token.text) operands) 0) else None)
        ≡ (if bytes_eq line.opcode.text (codes "include") then option_map (λ t. t.text) (slice_get operands 0) else None)
    by_operands [] = refl
    by_operands (first ∷ others) = refl

same-name : (line other : LineView) → bare other ≡ bare line → name_of other ≡ name_of line
same-name line other e = sym (name-bare other) ∙ ap name_of e ∙ name-bare line

module _ (h k : Take) (takes : (place : LocationView) (name : List ℕ) (walk other : Walk) → Alike walk other → Leads (h place name walk) (k place name other)) where
  leads-replaced : (line other : LineView) → bare other ≡ bare line → (one two : Walk) → Alike one two → Leads (replaced h line (name_of line) one) (replaced k other (name_of other) two)
  leads-replaced line other e one two alike =
      subst (λ name. Leads (replaced h line (name_of line) one) (replaced k other name two)) (sym (same-name line other e)) (by_name (name_of line))
    where
      by_name : (name : Option (List ℕ)) → Leads (replaced h line name one) (replaced k other name two)
      by_name None =
          leads-ok (with_line line one) (with_line other two)
          (map-append bare two.lines (other ∷ []) ∙ (λ j. alike.0 j ++ e j ∷ []) ∙ sym (map-append bare one.lines (line ∷ [])), alike.1)
      by_name (Some name) = subst (λ (place : LocationView). Leads (h (location_of line) name one) (k place name two)) (ap location_of (sym e)) (takes (location_of line) name one two alike)

  leads-expanded : (lines others : List LineView) → map bare others ≡ map bare lines → (one two : Walk) → Alike one two → Leads (expanded h lines one) (expanded k others two)
  leads-expanded [] [] e one two alike = leads-ok one two alike
  leads-expanded [] (other ∷ others) e one two alike = absurd cc
  leads-expanded (line ∷ lines) [] e one two alike = absurd cc
  leads-expanded (line ∷ lines) (other ∷ others) e one two alike =
      let first : bare other ≡ bare line = cc in
      let rest : map bare others ≡ map bare lines = cc in
      leads-then (replaced h line (name_of line) one) (replaced k other (name_of other) two) (expanded h lines) (expanded k others) (leads-replaced line other first one two alike) (leads-expanded lines others rest)

-- a file is found at its usual path, where there are no folders
found-usual : (answer : List ℕ → Option FileAnswer) (usual name : List ℕ) → found [] answer usual name ≡ usual
found-usual answer usual name = by_slash (slice_index name 0 == 47) ∙ by_missing (is_missing (answer usual))
  where
    by_slash : (b : Bool) → first_there answer (usual ∷ cond b [] []) usual ≡ first_there answer (usual ∷ []) usual
    by_slash true = refl
    by_slash false = refl

    by_missing : (b : Bool) → cond b usual usual ≡ usual
    by_missing true = refl
    by_missing false = refl

-- Where a file's text is good by one answer, it is so by the other, and has the same lines.
module _ (f g : List ℕ → Option FileAnswer)
    (texts : (path : List ℕ) (place : Option LocationView) (text : List ℕ) → text_of path place (f path) ≡ Ok text
    → (other : List ℕ) × (text_of path place (g path) ≡ Ok other) × ((file : List ℕ) → map bare (lines_in file other) ≡ map bare (lines_in file text))) where
  -- what is done with the lines of a file
  leads-text : (path : List ℕ) (place : Option LocationView) (h k : List ℕ → Result Walk Refusal)
      → ((text other : List ℕ) → ((file : List ℕ) → map bare (lines_in file other) ≡ map bare (lines_in file text)) → Leads (h text) (k other))
      → Leads (text_of path place (f path) >>= h) (text_of path place (g path) >>= k)
  leads-text path place h k next = by_text (text_of path place (f path)) refl
    where
      by_text : (r : Result (List ℕ) Refusal) → text_of path place (f path) ≡ r → Leads (r >>= h) (text_of path place (g path) >>= k)
      by_text (Ok text) is =
          let there = texts path place text is in
          subst (λ (r : Result (List ℕ) Refusal). Leads (h text) (r >>= k)) (sym there.1) (next text there.0 there.2)
      by_text (Err why) is = leads-refused why (text_of path place (g path) >>= k)

  -- what is done after a test that reads no file
  leads-after : (test : Result (Unit {0}) Refusal) (h k : Result Walk Refusal) → Leads h k → Leads (test >>= λ _. h) (test >>= λ _. k)
  leads-after (Ok done) h k leads = leads
  leads-after (Err why) h k leads = leads-refused why (Err why)

  abbrev taken_by : (List ℕ → Option FileAnswer) → List ℕ → ℕ → Follow → List (List ℕ) → Take
  taken_by answer root = taken policies.Load [] answer root

  abbrev follow_by : (List ℕ → Option FileAnswer) → List ℕ → ℕ → List (List ℕ) → Follow
  follow_by answer root = follow policies.Load [] answer root

  module _ (root : List ℕ) (h k : Follow) (chain : List (List ℕ))
      (follows : (place : LocationView) (name path text other : List ℕ) → ((file : List ℕ) → map bare (lines_in file other) ≡ map bare (lines_in file text)) → (one two : Walk) → Alike one two
      → Leads (h place name path text one) (k place name path other two)) where
    leads-looked : (depth : ℕ) (place : LocationView) (name : List ℕ) (one two : Walk) → Alike one two
        → Leads (looked [] f root false depth h chain place name one) (looked [] g root false depth k chain place name two)
    leads-looked zero place name one two alike = leads-after (apart (included root name) place chain) (Err _) (Err _) (leads-refused _ _)
    leads-looked (suc depth) place name one two alike =
        let usual = included root name in
        subst₂ (λ (p q : List ℕ). Leads (loaded_at h f chain place name p one) (loaded_at k g chain place name q two)) (sym (found-usual f usual name)) (sym (found-usual g usual name))
        (leads-text usual (Some place) (λ text. apart usual place chain >>= λ _. h place name usual text one) (λ text. apart usual place chain >>= λ _. k place name usual text two)
        (λ text other same. leads-after (apart usual place chain) (h place name usual text one) (k place name usual other two) (follows place name usual text other same one two alike)))

    leads-taken : (depth : ℕ) (place : LocationView) (name : List ℕ) (one two : Walk) → Alike one two → Leads (taken_by f root depth h chain place name one) (taken_by g root depth k chain place name two)
    leads-taken depth place name one two alike =
        subst (λ (way : WayView). Leads (taken_by f root depth h chain place name one) (few (included root name) place way >>= λ _. looked [] g root false depth k chain place name two)) (sym alike.1)
        (leads-after (few (included root name) place one.way) (looked [] f root false depth h chain place name one) (looked [] g root false depth k chain place name two)
        (leads-looked depth place name one two alike))

  leads-follow : (root : List ℕ) (depth : ℕ) (chain : List (List ℕ)) (place : LocationView) (name path text other : List ℕ)
      → ((file : List ℕ) → map bare (lines_in file other) ≡ map bare (lines_in file text)) → (one two : Walk) → Alike one two
      → Leads (follow_by f root depth chain place name path text one) (follow_by g root depth chain place name path other two)
  unfolding follow
  leads-follow root zero chain place name path text other same one two alike = leads-refused _ _
  leads-follow root (suc depth) chain place name path text other same one two alike =
      let h = follow_by f root depth (path ∷ chain) in
      let k = follow_by g root depth (path ∷ chain) in
      leads-expanded (taken_by f root depth h (path ∷ chain)) (taken_by g root depth k (path ∷ chain))
      (leads-taken root h k (path ∷ chain) (leads-follow root depth (path ∷ chain)) depth) (lines_in path text) (lines_in path other) (same path)
      (on_way (with_file path name one.way) one) (on_way (with_file path name two.way) two) (alike.0, ap (with_file path name) alike.1)

  leads-root : (name root : List ℕ) → Leads (walk_from policies.Load [] f name root) (walk_from policies.Load [] g name root)
  leads-root name root =
      let h = follow_by f root 15 (root ∷ []) in
      let k = follow_by g root 15 (root ∷ []) in
      let start : Walk = record { lines = []; way = with_file root name no_way } in
      leads-text root None (λ text. expanded (taken_by f root 15 h (root ∷ [])) (lines_in root text) start) (λ text. expanded (taken_by g root 15 k (root ∷ [])) (lines_in root text) start)
      (λ text other same. leads-expanded (taken_by f root 15 h (root ∷ [])) (taken_by g root 15 k (root ∷ [])) (leads-taken root h k (root ∷ []) (leads-follow root 15 (root ∷ [])) 15)
      (lines_in root text) (lines_in root other) (same root) start start (refl, refl))

  -- the same lines, but for the places of words
  pub leads-lines : (root : List ℕ) (lines : List LineView) → lines_over [] f root ≡ Ok lines → (others : List LineView) × (lines_over [] g root ≡ Ok others) × (map bare others ≡ map bare lines)
  unfolding lines_over
  leads-lines root lines is = by_walk (walk_over policies.Load [] f root) refl is
    where
      moved : Leads (walk_over policies.Load [] f root) (walk_over policies.Load [] g root)
      moved =
          subst₂ (λ (p q : List ℕ). Leads (walk_from policies.Load [] f (last_part root) p) (walk_from policies.Load [] g (last_part root) q)) (sym (found-usual f root root)) (sym (found-usual g root root))
          (leads-root (last_part root) root)

      by_walk : (r : Result Walk Refusal) → walk_over policies.Load [] f root ≡ r → (r >>= λ walk. Ok walk.lines) ≡ Ok lines
          → (others : List LineView) × ((walk_over policies.Load [] g root >>= λ walk. Ok walk.lines) ≡ Ok others) × (map bare others ≡ map bare lines)
      by_walk (Ok e) first h =
          let d = moved e first in
          let same : e.lines ≡ lines = cc in
          (d.0.lines, ap (λ (r : Result Walk Refusal). r >>= λ walk. Ok walk.lines) d.1, d.2.0 ∙ ap (map bare) same)
      by_walk (Err why) first h = absurd cc
