-- What more answers change: nothing, unless a file was asked for that has no answer among the
-- fewer. Where that file can't be read, neither can the whole.
use Rattle.std.proofs.Common.{◌≡◌, ℕ, zero, suc, ◌⊎◌, inl, inr, Bool, true, false, cond, List, [], ◌∷◌, refl, ap, sym, ◌∙◌, subst, subst₂, Option, Some, None, Result, Ok, Err}
use Rattle.brl_failure.specs.Failure.{◌>>=◌}
use Rattle.brl_lines.specs.Answer.{FileAnswer, is_missing}
use Rattle.brl_lines.specs.Includes.{first_there, found, included, last_part, name_of, paths_in}
use Rattle.brl_lines.specs.Lines.{Follow, LocationView, Refusal, Take, Walk, apart, expanded, few, follow, lines_over, loaded_at, location_of, no_way, on_way, refusal, replaced, taken, text_of, with_file}
use Rattle.brl_lines.specs.Tokens.{LineView, lines_in}
use Rattle.brl_lines.specs.declared.fault.LoadFaultKind.TheVariants as kinds
use Rattle.brl_lines.specs.declared.way.Policy.TheVariants as policies
use Rattle.brl_lines.proofs.FindingLemmas.{same_refusal, there-by-text}

module _ (f g : List ℕ → Option FileAnswer) (extends : (path : List ℕ) (answer : FileAnswer) → f path ≡ Some answer → g path ≡ Some answer) where
  -- a file was asked for that has no answer in f; where it can't be read by g, so is the whole
  -- refused
  pub record Asks {X : Type 0} (r s : Result X Refusal) : Type 0 where
    pub path : List ℕ
    pub place : Option LocationView
    pub asked : r ≡ Err (refusal kinds.ReadFailed path place)
    pub refused : text_of path place (g path) ≡ Err (refusal kinds.ReadFailed path place) → s ≡ Err (refusal kinds.ReadFailed path place)

  -- the outcome stays, or a file was asked for
  abbrev pub StaysOrAsks : {X : Type 0} → Result X Refusal → Result X Refusal → Type 0
  StaysOrAsks r s = (s ≡ r) ⊎ Asks r s

  stays-bind : {X Y : Type 0} (r s : Result X Refusal) (h k : X → Result Y Refusal) → StaysOrAsks r s → ((x : X) → StaysOrAsks (h x) (k x)) → StaysOrAsks (r >>= h) (s >>= k)
  stays-bind {X} {Y} r s h k w stays =
      elim w [
        | inl same ↦ subst (λ (t : Result X Refusal). StaysOrAsks (r >>= h) (t >>= k)) (sym same) (by_first r)
        | inr asks ↦ inr (record {
          path = asks.path;
          place = asks.place;
          asked = ap (λ (t : Result X Refusal). t >>= h) asks.asked;
          refused = λ no. ap (λ (t : Result X Refusal). t >>= k) (asks.refused no);
        })
      ]
    where
      by_first : (t : Result X Refusal) → StaysOrAsks (t >>= h) (t >>= k)
      by_first (Ok x) = stays x
      by_first (Err e) = inl refl

  stays-text : (path : List ℕ) (place : Option LocationView) → StaysOrAsks (text_of path place (f path)) (text_of path place (g path))
  stays-text path place = by_answer (f path) refl
    where
      by_answer : (a : Option FileAnswer) → f path ≡ a → StaysOrAsks (text_of path place a) (text_of path place (g path))
      by_answer None unknown = inr (record { path = path; place = place; asked = refl; refused = λ no. no })
      by_answer (Some a) known = inl (ap (text_of path place) (extends path a known))

  module _ (h k : Take) (stays : (place : LocationView) (name : List ℕ) (walk : Walk) → StaysOrAsks (h place name walk) (k place name walk)) where
    stays-replaced : (line : LineView) (name : Option (List ℕ)) (walk : Walk) → StaysOrAsks (replaced h line name walk) (replaced k line name walk)
    stays-replaced line None walk = inl refl
    stays-replaced line (Some name) walk = stays (location_of line) name walk

    stays-expanded : (lines : List LineView) (walk : Walk) → StaysOrAsks (expanded h lines walk) (expanded k lines walk)
    stays-expanded [] walk = inl refl
    stays-expanded (line ∷ lines) walk =
        stays-bind (replaced h line (name_of line) walk) (replaced k line (name_of line) walk) (expanded h lines) (expanded k lines) (stays-replaced line (name_of line) walk) (stays-expanded lines)

  -- the path that is found stays, or a path was asked for that has no answer in f
  pub record FindsOrAsks (before after : List ℕ) : Type 0 where
    pub unknown : f before ≡ None
    pub there : is_missing (g before) ≡ false → after ≡ before

  finds-first : (paths : List (List ℕ)) (other : List ℕ) → (first_there g paths other ≡ first_there f paths other) ⊎ FindsOrAsks (first_there f paths other) (first_there g paths other)
  finds-first [] other = inl refl
  finds-first (path ∷ paths) other = by_answer (f path) refl (finds-first paths other)
    where
      one : Bool → List ℕ
      one b = cond b (first_there f paths other) path

      two : Bool → List ℕ
      two b = cond b (first_there g paths other) path

      by_known : (b : Bool) → (first_there g paths other ≡ first_there f paths other) ⊎ FindsOrAsks (first_there f paths other) (first_there g paths other)
          → (two b ≡ one b) ⊎ FindsOrAsks (one b) (two b)
      by_known true later = later
      by_known false later = inl refl

      by_answer : (a : Option FileAnswer) → f path ≡ a → (first_there g paths other ≡ first_there f paths other) ⊎ FindsOrAsks (first_there f paths other) (first_there g paths other)
          → (two (is_missing (g path)) ≡ one (is_missing a)) ⊎ FindsOrAsks (one (is_missing a)) (two (is_missing (g path)))
      by_answer None unknown later = inr (record { unknown = unknown; there = λ e. ap two e })
      by_answer (Some a) known later =
          subst (λ (b : Option FileAnswer). (two (is_missing b) ≡ one (is_missing (Some a))) ⊎ FindsOrAsks (one (is_missing (Some a))) (two (is_missing b))) (sym (extends path a known)) (by_known (is_missing (Some a)) later)

  unread-there : (path : List ℕ) (place : Option LocationView) (a : Option FileAnswer) → text_of path place a ≡ Err (refusal kinds.ReadFailed path place) → is_missing a ≡ false
  unread-there path place a e = there-by-text path place a (λ no. let kind = ap (λ r. r.kind) (same_refusal (sym e ∙ no)) in cc)

  -- what is done with the file that is found
  module _ {X : Type 0} (place : Option LocationView) (paths : List (List ℕ)) (other : List ℕ) (h k : List ℕ → Result X Refusal)
      (asked : (path : List ℕ) → f path ≡ None → h path ≡ Err (refusal kinds.ReadFailed path place))
      (unread : (path : List ℕ) → text_of path place (g path) ≡ Err (refusal kinds.ReadFailed path place) → k path ≡ Err (refusal kinds.ReadFailed path place))
      (stays : (path : List ℕ) → StaysOrAsks (h path) (k path)) where
    stays-first : StaysOrAsks (h (first_there f paths other)) (k (first_there g paths other))
    stays-first =
        elim (finds-first paths other) [
          | inl same ↦ subst (λ (p : List ℕ). StaysOrAsks (h (first_there f paths other)) (k p)) (sym same) (stays (first_there f paths other))
          | inr asks ↦ inr (record {
            path = first_there f paths other;
            place = place;
            asked = asked (first_there f paths other) asks.unknown;
            refused = λ no.
                ap k (asks.there (unread-there (first_there f paths other) place (g (first_there f paths other)) no)) ∙ unread (first_there f paths other) no;
          })
        ]

  module _ (folders : List (List ℕ)) where
    abbrev taken_by : (List ℕ → Option FileAnswer) → List ℕ → ℕ → Follow → List (List ℕ) → Take
    taken_by answer root = taken policies.Load folders answer root

    abbrev follow_by : (List ℕ → Option FileAnswer) → List ℕ → ℕ → List (List ℕ) → Follow
    follow_by answer root = follow policies.Load folders answer root

    module _ (root : List ℕ) (h k : Follow) (chain : List (List ℕ)) (stays : (place : LocationView) (name path text : List ℕ) (walk : Walk) → StaysOrAsks (h place name path text walk) (k place name path text walk)) where
      stays-loaded : (place : LocationView) (name path : List ℕ) (walk : Walk) → StaysOrAsks (loaded_at h f chain place name path walk) (loaded_at k g chain place name path walk)
      stays-loaded place name path walk =
          stays-bind (text_of path (Some place) (f path)) (text_of path (Some place) (g path))
          (λ text. apart path place chain >>= λ _. h place name path text walk) (λ text. apart path place chain >>= λ _. k place name path text walk)
          (stays-text path (Some place))
          (λ text. stays-bind (apart path place chain) (apart path place chain) (λ _. h place name path text walk) (λ _. k place name path text walk) (inl refl) (λ _. stays place name path text walk))

      stays-taken : (depth : ℕ) (place : LocationView) (name : List ℕ) (walk : Walk) → StaysOrAsks (taken_by f root depth h chain place name walk) (taken_by g root depth k chain place name walk)
      stays-taken zero place name walk = inl refl
      stays-taken (suc depth) place name walk =
          let usual = included root name in
          stays-bind (few usual place walk.way) (few usual place walk.way) (λ _. loaded_at h f chain place name (found folders f usual name) walk) (λ _. loaded_at k g chain place name (found folders g usual name) walk)
          (inl refl)
          (λ _. stays-first (Some place) (usual ∷ paths_in folders name) usual (λ path. loaded_at h f chain place name path walk) (λ path. loaded_at k g chain place name path walk)
          (λ path unknown. ap (λ (a : Option FileAnswer). text_of path (Some place) a >>= λ text. (apart path place chain >>= λ _. h place name path text walk)) unknown)
          (λ path no. ap (λ (r : Result (List ℕ) Refusal). r >>= λ text. (apart path place chain >>= λ _. k place name path text walk)) no)
          (λ path. stays-loaded place name path walk))

    stays-follow : (root : List ℕ) (depth : ℕ) (chain : List (List ℕ)) (place : LocationView) (name path text : List ℕ) (walk : Walk)
        → StaysOrAsks (follow_by f root depth chain place name path text walk) (follow_by g root depth chain place name path text walk)
    unfolding follow
    stays-follow root zero chain place name path text walk = inl refl
    stays-follow root (suc depth) chain place name path text walk =
        let h = follow_by f root depth (path ∷ chain) in
        let k = follow_by g root depth (path ∷ chain) in
        stays-expanded (taken_by f root depth h (path ∷ chain)) (taken_by g root depth k (path ∷ chain))
        (stays-taken root h k (path ∷ chain) (stays-follow root depth (path ∷ chain)) depth) (lines_in path text) (on_way (with_file path name walk.way) walk)

    module _ (name : List ℕ) where
      abbrev from_text : (List ℕ → Option FileAnswer) → List ℕ → List ℕ → Result (List LineView) Refusal
      from_text answer root text =
          expanded (taken_by answer root 15 (follow_by answer root 15 (root ∷ [])) (root ∷ [])) (lines_in root text) (record { lines = []; way = with_file root name no_way }) >>= λ walk. Ok walk.lines

      -- the lines from a root that was found
      abbrev from_root : (List ℕ → Option FileAnswer) → List ℕ → Result (List LineView) Refusal
      from_root answer root = text_of root None (answer root) >>= from_text answer root

      stays-from : (root : List ℕ) → StaysOrAsks (from_root f root) (from_root g root)
      stays-from root =
          let h = follow_by f root 15 (root ∷ []) in
          let k = follow_by g root 15 (root ∷ []) in
          let start : Walk = record { lines = []; way = with_file root name no_way } in
          stays-bind (text_of root None (f root)) (text_of root None (g root)) (from_text f root) (from_text g root) (stays-text root None)
          (λ text. stays-bind (expanded (taken_by f root 15 h (root ∷ [])) (lines_in root text) start) (expanded (taken_by g root 15 k (root ∷ [])) (lines_in root text) start)
          (λ walk. Ok walk.lines) (λ walk. Ok walk.lines)
          (stays-expanded (taken_by f root 15 h (root ∷ [])) (taken_by g root 15 k (root ∷ [])) (stays-taken root h k (root ∷ []) (stays-follow root 15 (root ∷ [])) 15) (lines_in root text) start) (λ walk. inl refl))

    lines-from : (answer : List ℕ → Option FileAnswer) (root : List ℕ) → lines_over folders answer root ≡ from_root (last_part root) answer (found folders answer root root)
    unfolding lines_over
    lines-from answer root = by_text (text_of top None (answer top))
      where
        top : List ℕ
        top = found folders answer root root

        by_text : (r : Result (List ℕ) Refusal)
            → ((r >>= λ text. expanded (taken_by answer top 15 (follow_by answer top 15 (top ∷ [])) (top ∷ [])) (lines_in top text) (record { lines = []; way = with_file top (last_part root) no_way })) >>= λ walk. Ok walk.lines)
            ≡ (r >>= from_text (last_part root) answer top)
        by_text (Ok text) = refl
        by_text (Err why) = refl

    stays-lines : (root : List ℕ) → StaysOrAsks (lines_over folders f root) (lines_over folders g root)
    stays-lines root =
        let name = last_part root in
        subst₂ (λ (r s : Result (List LineView) Refusal). StaysOrAsks r s) (sym (lines-from f root)) (sym (lines-from g root))
        (stays-first None (root ∷ paths_in folders root) root (from_root name f) (from_root name g)
        (λ path unknown. ap (λ (a : Option FileAnswer). text_of path None a >>= from_text name f path) unknown)
        (λ path no. ap (λ (r : Result (List ℕ) Refusal). r >>= from_text name g path) no)
        (stays-from name))

    module _ (root : List ℕ) where
      -- where no read failed, more answers change nothing
      pub lines_over-more : ((path : List ℕ) (place : Option LocationView) → lines_over folders f root ≡ Err (refusal kinds.ReadFailed path place) → ⊥) → lines_over folders g root ≡ lines_over folders f root
      lines_over-more calm =
          elim (stays-lines root) [
            | inl same ↦ same
            | inr asks ↦ absurd (calm asks.path asks.place asks.asked)
          ]

      -- where more answers give lines, fewer give them too, or ask for a file that the others can
      -- read
      pub lines_over-fewer : (lines : List LineView) → lines_over folders g root ≡ Ok lines → (path : List ℕ) (place : Option LocationView) → lines_over folders f root ≡ Err (refusal kinds.ReadFailed path place)
          → text_of path place (g path) ≡ Err (refusal kinds.ReadFailed path place) → ⊥
      lines_over-fewer lines found path place e unread =
          elim (stays-lines root) [
            | inl same ↦ let no = sym found ∙ same ∙ e in absurd cc
            | inr asks ↦
                (let one = same_refusal (sym asks.asked ∙ e) in
                let path_is : path ≡ asks.path = ap (λ r. r.path) (sym one) in
                let place_is : place ≡ asks.place = ap (λ r. r.place) (sym one) in
                let moved = subst (λ q. text_of asks.path q (g asks.path) ≡ Err (refusal kinds.ReadFailed asks.path q)) place_is
                (subst (λ p. text_of p place (g p) ≡ Err (refusal kinds.ReadFailed p place)) path_is unread) in
                let no = sym (asks.refused moved) ∙ found in absurd cc)
          ]
