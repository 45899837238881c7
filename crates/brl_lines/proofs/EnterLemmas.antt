-- The file that an include line leads to: it is refused, or its lines take the place of that line.
use Rattle.std.proofs.Common.{◌≡◌, ◌≢◌, ◌⊎◌, inl, inr, ℕ, zero, suc, ◌<◌, Bool, true, false, cond, nat_lt, List, ◌∷◌, add-one, ap, length, refl, subst, sym, ◌∙◌, arith, Option, Some, None, Result, Ok, Err}
use Rattle.std.specs.Global.{Global}
use Rattle.std.specs.List.{list_any}
use Rattle.std.specs.Prelude.{String, string_bytes}
use Rattle.std.specs.Str.{bytes_eq}
use Rattle.brl_failure.specs.Failure.{◌>>=◌, IfFault}
use Rattle.brl_failure.specs.declared.failure.Failure.{Failure}
use Rattle.brl_failure.specs.declared.failure.Failure.TheVariants.{Fault, Memory}
use Rattle.brl_lines.specs.Answer.{FileAnswer, FileAnswers, is_missing}
use Rattle.brl_lines.specs.Files.{answers_of, chain_of, path_at, text_at}
use Rattle.brl_lines.specs.Gathered.{walk_with, way_view}
use Rattle.brl_lines.specs.Includes.{found, included}
use Rattle.brl_lines.specs.Lines.{Follow, LocationView, Refusal, Walk, WayView, answer_at, apart, expanded, follow, gathers, looked, most_includes, on_way, passed, past, refusal, taken, text_of, unless_repeated, with_left}
use Rattle.brl_lines.specs.Outcome.{AreGiven}
use Rattle.brl_lines.specs.Steps.{Extends, Fails, FailsFrom, Finds, Locates, Opens, Takes, Wants, at_in, at_path, comes_again, enter_in, take_in, text_of_found, walk_in}
use Rattle.brl_lines.specs.Tokens.{LineView, lines_in}
use Rattle.brl_lines.specs.Views.{load_fault_view}
use Rattle.brl_lines.specs.declared.expand.Expansion.{Expansion}
use Rattle.brl_lines.specs.declared.fault.LoadFault.{LoadFault}
use Rattle.brl_lines.specs.declared.fault.LoadFaultKind.{LoadFaultKind}
use Rattle.brl_lines.specs.declared.fault.LoadFaultKind.TheVariants as kinds
use Rattle.brl_lines.specs.declared.open_file.OpenFile.{OpenFile}
use Rattle.brl_lines.specs.declared.way.IncludeReason.{IncludeReason}
use Rattle.brl_lines.specs.declared.way.IncludeReason.TheVariants as reasons
use Rattle.brl_lines.specs.declared.way.Policy.{Policy}
use Rattle.brl_lines.specs.declared.way.Way.{Way}
use Rattle.brl_lines.proofs.ExpandLemmas.{fails-as, fails-for, fails-later, fails-more}
use Rattle.brl_lines.proofs.FileLemmas.{extends-older, grows-none, grows-twice}
use Rattle.brl_lines.proofs.FindingLemmas.{same_refusal, there-by-text}

-- ---- The file is opened

module _ (policy : Policy) (folders : List (List ℕ)) (root : List ℕ) (file : OpenFile) where
  abbrev follows : (List ℕ → Option FileAnswer) → LocationView → List ℕ → List ℕ → List ℕ → Walk → Result Walk Refusal
  follows answer = follow policy folders answer root file.depth_left (chain_of file)

  follows-inside : (old new : Way) (name : List ℕ) (path : String Global) (index : ℕ) (inner : OpenFile) → Opens old new file name path index inner
      → (answer : List ℕ → Option FileAnswer) (place : LocationView) (text : List ℕ) (lines : List LineView)
      → follows answer place name (string_bytes path) text (walk_with lines old) ≡ walk_in policy folders root inner text answer (walk_with lines new)
  unfolding follow
  follows-inside old new name path index inner opens answer place text lines =
      ap (λ d. follow policy folders answer root d (chain_of file) place name (string_bytes path) text (walk_with lines old)) (opens.depth_is ∙ add-one inner.depth_left)
      ∙ (λ j. go (string_bytes (sym opens.path_is j)) (sym opens.chain_is j) (sym opens.way_is j))
    where
      go : List ℕ → List (List ℕ) → WayView → Result Walk Refusal
      go p chain way =
          expanded (taken policy folders answer root inner.depth_left (follow policy folders answer root inner.depth_left (p ∷ chain)) (p ∷ chain)) (lines_in p text) (record { lines = lines; way = way })

  pub follows-deep : file.depth_left ≡ 0 → (answer : List ℕ → Option FileAnswer) (place : LocationView) (name path text : List ℕ) (walk : Walk)
      → follows answer place name path text walk ≡ Err (refusal kinds.TooDeep path (Some place))
  unfolding follow
  follows-deep none answer place name path text walk = ap (λ d. follow policy folders answer root d (chain_of file) place name path text walk) none

module _ (gives : FileAnswers) (policy : Policy) (root : List ℕ) (file : OpenFile) (old : Expansion) (place : LocationView) (name : List ℕ) where
  abbrev next : (List ℕ → Option FileAnswer) → List ℕ → List ℕ → Walk → Result Walk Refusal
  next answer path text walk = follows policy gives.folders root file answer place name path text walk

  -- ---- The file is at a path

  module _ (path : List ℕ) where
    abbrev at : Wants
    at answer = at_in policy gives.folders root file path answer place name

    abbrev left_for : IncludeReason → Walk → Walk
    left_for reason walk = on_way (with_left place name reason walk.way) walk

    -- the line isn't followed
    abbrev pub stopped : Bool → IncludeReason → LoadFaultKind → Walk → Result Walk Refusal
    stopped gathered reason kind walk = cond gathered (Ok (left_for reason walk)) (Err (refusal kind path (Some place)))

    -- what comes of the text of the file
    abbrev on_text : Bool → (List ℕ → Option FileAnswer) → Walk → List ℕ → Result Walk Refusal
    on_text true answer walk text = unless_repeated (follows policy gives.folders root file answer) place name path text walk
    on_text false answer walk text = apart path place (chain_of file) >>= λ _. next answer path text walk

    -- a file that isn't missing
    at-there : (answer : List ℕ → Option FileAnswer) (walk : Walk) → is_missing (answer path) ≡ false
        → at answer walk ≡ (text_of path (Some place) (answer path) >>= on_text (gathers policy) answer walk)
    at-there answer walk there = by_policy (gathers policy)
      where
        by_policy : (b : Bool) → at_path b (follows policy gives.folders root file answer) answer (chain_of file) place name path walk
            ≡ (text_of path (Some place) (answer path) >>= on_text b answer walk)
        by_policy true = rw there refl
        by_policy false = refl

    -- one that was found, to which the walk came before or not
    module _ (index : ℕ) (finds : Finds old.files.entries path index) (again : Bool)
        (is : again ≡ comes_again (gathers policy) (way_view old.way) (chain_of file) path) where
      pub at-found : (answer : List ℕ → Option FileAnswer) → Extends old.files.entries answer → (lines : List LineView)
          → at answer (walk_with lines old.way)
          ≡ cond again (stopped (gathers policy) reasons.Repeated kinds.Cycle (walk_with lines old.way))
          (next answer path (text_at old.files.entries index) (walk_with lines old.way))
      at-found answer extends lines =
          let good = finds.text_is answer extends (Some place) in
          at-there answer (walk_with lines old.way) (there-by-text path (Some place) (answer path) (λ no. let same = sym good ∙ no in absurd cc))
          ∙ ap (λ (r : Result (List ℕ) Refusal). r >>= on_text (gathers policy) answer (walk_with lines old.way)) good
          ∙ by_policy (gathers policy)
          ∙ ap (λ b. cond b (stopped (gathers policy) reasons.Repeated kinds.Cycle (walk_with lines old.way))
          (next answer path (text_at old.files.entries index) (walk_with lines old.way))) (sym is)
        where
          by_policy : (b : Bool) → on_text b answer (walk_with lines old.way) (text_at old.files.entries index)
              ≡ cond (comes_again b (way_view old.way) (chain_of file) path) (stopped b reasons.Repeated kinds.Cycle (walk_with lines old.way))
              (next answer path (text_at old.files.entries index) (walk_with lines old.way))
          by_policy true = refl
          by_policy false = by_chain (list_any (bytes_eq path) (chain_of file))
            where
              by_chain : (again : Bool) → (cond again (Err (refusal kinds.Cycle path (Some place))) (Ok tt) >>= λ (_ : Unit {0}). next answer path
                  (text_at old.files.entries index) (walk_with lines old.way))
                  ≡ cond again (Err (refusal kinds.Cycle path (Some place))) (next answer path (text_at old.files.entries index) (walk_with lines old.way))
              by_chain true = refl
              by_chain false = refl

    -- it is refused
    pub at-refused : AreGiven gives (answers_of old.files.entries) → {P : Type 0} (kind : LoadFaultKind) → (kind ≡ kinds.ReadFailed → ⊥)
        → (P → (answer : List ℕ → Option FileAnswer) → Extends old.files.entries answer → (lines : List LineView)
        → at answer (walk_with lines old.way) ≡ Err (refusal kind path (Some place)))
        → (failure : Failure LoadFault) → IfFault (λ fault. P × (refusal kind path (Some place) ≡ load_fault_view fault)) failure
        → FailsFrom gives old at failure
    at-refused given kind other refuses Memory h lines = tt
    at-refused given kind other refuses (Fault fault) h lines =
        fails-for gives old.files.entries (λ answer. at answer (walk_with lines old.way)) (refusal kind path (Some place)) (Fault fault) given
        (refuses h.0 (answer_at (answers_of old.files.entries)) (λ p a e. e) lines) other h.1

  -- it is opened
  pub at-takes : AreGiven gives (answers_of old.files.entries) → (way : Way) (path : String Global) (index : ℕ)
      → Finds old.files.entries (string_bytes path) index
      → ((answer : List ℕ → Option FileAnswer) → Extends old.files.entries answer → (lines : List LineView)
      → at (string_bytes path) answer (walk_with lines old.way) ≡ next answer (string_bytes path) (text_at old.files.entries index) (walk_with lines old.way))
      → (inner : OpenFile) → Opens old.way way file name path index inner
      → Takes gives policy root file old (record { files = old.files; spans = old.spans; way = way }) (at (string_bytes path)) (Some inner)
  at-takes given way path index finds leads inner opens = record {
    grows = grows-none gives old.files.entries given;
    spans = refl;
    opened = (
      record {
        within = subst (λ i. i < length old.files.entries) (sym opens.index_is) finds.within;
        path = ap (path_at old.files.entries) opens.index_is ∙ finds.path_is ∙ ap string_bytes (sym opens.path_is);
      },
      (let depth = opens.depth_is in omega (arith, depth)),
    );
    goes = λ answer extends lines.
        leads answer extends lines
        ∙ follows-inside policy gives.folders root file old.way way name path index inner opens answer place (text_at old.files.entries index) lines
        ∙ ap (λ i. walk_in policy gives.folders root inner (text_at old.files.entries i) answer (walk_with lines way)) (sym opens.index_is);
  }

  -- ---- The file is looked for

  abbrev looks : Wants
  looks answer = enter_in policy gives.folders root file answer place name

  abbrev usual : List ℕ
  usual = included root name

  module _ (few : nat_lt most_includes (length (way_view old.way).paths) ≡ false) (deeper : (0 < file.depth_left) ⊎ (gathers policy ≡ true)) where
    -- the walk on from the path where it is found
    looks-at : (answer : List ℕ → Option FileAnswer) (lines : List LineView)
        → looks answer (walk_with lines old.way) ≡ at (found gives.folders answer usual name) answer (walk_with lines old.way)
    looks-at answer lines =
        ap (λ b. cond b (Err (refusal kinds.TooManyIncludes usual (Some place))) (Ok tt) >>= λ (_ : Unit {0}). looked gives.folders answer root
        (gathers policy) file.depth_left h (chain_of file) place name (walk_with lines old.way)) few
        ∙ by_depth (gathers policy) file.depth_left deeper h
      where
        h : Follow
        h = follows policy gives.folders root file answer

        by_depth : (b : Bool) (d : ℕ) → (0 < d) ⊎ (b ≡ true) → (h : Follow)
            → looked gives.folders answer root b d h (chain_of file) place name (walk_with lines old.way)
            ≡ at_path b h answer (chain_of file) place name (found gives.folders answer usual name) (walk_with lines old.way)
        by_depth true d way h = refl
        by_depth false zero way h = elim way [ inl some ↦ absurd (omega arith) | inr gathered ↦ absurd cc ]
        by_depth false (suc d) way h = refl

    -- it was found
    module _ (mid : Expansion) (path : List ℕ) (locates : Locates gives old.files.entries mid.files.entries usual name path)
        (same_way : mid.way ≡ old.way) where
      at-path : (answer : List ℕ → Option FileAnswer) → Extends mid.files.entries answer → (lines : List LineView)
          → looks answer (walk_with lines old.way) ≡ at path answer (walk_with lines mid.way)
      at-path answer extends lines = looks-at answer lines ∙ (λ j. at (locates.first_is answer extends j) answer (walk_with lines (sym same_way j)))

      pub found-takes : mid.spans ≡ old.spans → (new : Expansion) (inner : Option OpenFile) → Takes gives policy root file mid new (at path) inner
          → Takes gives policy root file old new looks inner
      found-takes spans new inner takes = record {
        grows = grows-twice gives old.files.entries mid.files.entries new.files.entries locates.grows takes.grows;
        spans = takes.spans ∙ spans;
        opened = takes.opened;
        goes = λ answer extends lines.
            at-path answer (extends-older gives mid.files.entries new.files.entries takes.grows answer extends) lines ∙ takes.goes answer extends lines;
      }

      pub found-refused : (failure : Failure LoadFault) → FailsFrom gives mid (at path) failure → FailsFrom gives old looks failure
      found-refused failure h lines =
          fails-later gives old.files.entries mid.files.entries locates.grows (λ answer. looks answer (walk_with lines old.way)) failure
          (fails-more gives mid.files.entries (λ answer. at path answer (walk_with lines mid.way)) (λ answer. looks answer (walk_with lines old.way)) failure
          (λ answer e extends no. at-path answer extends lines ∙ no) (h lines))

    -- its text is refused where it is looked for
    pub search-refused : (failure : Failure LoadFault) → Fails gives old.files.entries (text_of_found gives.folders usual name (Some place)) failure
        → IfFault (λ fault. fault.kind ≢ kinds.NotFound) failure → FailsFrom gives old looks failure
    search-refused Memory h there lines = tt
    search-refused (Fault fault) h there lines =
        fails-as gives old.files.entries (text_of_found gives.folders usual name (Some place)) (λ answer. looks answer (walk_with lines old.way)) (load_fault_view fault)
        (λ answer extends no.
        let path = found gives.folders answer usual name in
        looks-at answer lines
        ∙ at-there path answer (walk_with lines old.way) (there-by-text path (Some place) (answer path)
        (λ missing. there (ap (λ r. r.kind) (same_refusal (sym no ∙ missing)))))
        ∙ ap (λ (r : Result (List ℕ) Refusal). r >>= on_text path (gathers policy) answer (walk_with lines old.way)) no) h

  -- ---- The include line is taken

  abbrev wants : Wants
  wants answer = take_in policy gives.folders root file answer place name

-- it isn't passed
module _ (gives : FileAnswers) (policy : Policy) (root : List ℕ) (file : OpenFile) (old : Expansion) (place : LocationView) (name : List ℕ) (new : Way)
    (none : passed policy place name (way_view old.way) ≡ None) (same : way_view new ≡ way_view old.way) where
  abbrev table : Expansion
  table = record { files = old.files; spans = old.spans; way = new }

  unpassed : (answer : List ℕ → Option FileAnswer) (lines : List LineView)
      → wants gives policy root file old place name answer (walk_with lines old.way) ≡ looks gives policy root file old place name answer (walk_with lines new)
  unpassed answer lines =
      ap (λ (w : Option WayView). past w (walk_with lines old.way) (looks gives policy root file old place name answer (walk_with lines old.way))) none
      ∙ ap (λ (w : WayView). looks gives policy root file old place name answer (record { lines = lines; way = w })) (sym same)

  pub looks-refused : (failure : Failure LoadFault) → FailsFrom gives table (looks gives policy root file old place name) failure → FailsFrom gives old (wants gives policy root file old place name) failure
  looks-refused failure h lines =
      fails-more gives old.files.entries (λ answer. looks gives policy root file old place name answer (walk_with lines new)) (λ answer. wants gives policy root file old place name answer (walk_with lines old.way)) failure
      (λ answer e extends no. unpassed answer lines ∙ no) (h lines)
