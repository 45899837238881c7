-- Tests of lists of borrowed words, and of their pairs with characters.
use Rattle.std.proofs.Common.{◌≡◌, ◌∙◌, ◌||◌, ◌+◌, ◌<◌, ◌++◌, Bool, List, [], ◌∷◌, Some, None, ℕ, ap, cond, get_or, length, map, nat_lt, not, refl, sym, take}
use Rattle.std.specs.Borrow.{Bor}
use Rattle.std.specs.List.{list_any, position, prefix_len}
use Rattle.std.specs.Str.{bytes_eq}
use Rattle.std.proofs.lemmas.List.{length-map, map-append, take_more}
use Rattle.brl_rules.proofs.Facts.{or-assoc, or-false}
use Rattle.brl_acting.specs.Classes.{is_name_of}
use Rattle.brl_acting.specs.Sets.{pair_views}

pub list_any-map : {X Y : Type 0} (p : X → Bool) (h : Y → X) (ys : List Y) → list_any p (map h ys) ≡ list_any (λ y. p (h y)) ys
list_any-map p h [] = refl
list_any-map p h (y ∷ ys) = ap (λ b. p (h y) || b) (list_any-map p h ys)

-- the first item that passes a test, of a list and of what it comes of
prefix-map : {X Y : Type 0} (p : X → Bool) (h : Y → X) (ys : List Y) → prefix_len p (map h ys) ≡ prefix_len (λ y. p (h y)) ys
prefix-map p h [] = refl
prefix-map p h (y ∷ ys) = ap (λ n. cond (p (h y)) (1 + n) 0) (prefix-map p h ys)

pub position-map : {X Y : Type 0} (p : X → Bool) (h : Y → X) (ys : List Y) → position p (map h ys) ≡ position (λ y. p (h y)) ys
position-map p h ys = λ j.
    let first = prefix-map (λ x. not (p x)) h ys in
    cond (nat_lt (first j) (length-map ys h j)) (Some (first j)) None

-- the names of pairs, and of one more
name_more : (xs : List (Bor (List ℕ) × ℕ)) (y : Bor (List ℕ) × ℕ) (word : List ℕ)
    → is_name_of (pair_views (xs ++ y ∷ [])) word ≡ (is_name_of (pair_views xs) word || bytes_eq word y.0.now)
name_more [] y word = or-false (bytes_eq word y.0.now)
name_more (x ∷ xs) y word =
    ap (λ b. bytes_eq word x.0.now || b) (name_more xs y word)
    ∙ or-assoc (bytes_eq word x.0.now) (is_name_of (pair_views xs) word) (bytes_eq word y.0.now)

pub names_more : (pairs : List (Bor (List ℕ) × ℕ)) (i : ℕ) (word : List ℕ) (old new : Bool) (d : Bor (List ℕ) × ℕ)
    → i < length pairs → old ≡ is_name_of (pair_views (take i pairs)) word → new ≡ (old || bytes_eq word (get_or pairs i d).0.now)
    → new ≡ is_name_of (pair_views (take (i + 1) pairs)) word
names_more pairs i word old new d within so_far is =
    let pair = get_or pairs i d in
    is ∙ ap (λ b. b || bytes_eq word pair.0.now) so_far
    ∙ sym (ap (λ ps. is_name_of (pair_views ps) word) (take_more pairs i d within) ∙ name_more (take i pairs) pair word)

-- one more item of a list, by its view
pub mapped_more : {X Y Z W : Type 0} (view : Z → W) (f : Y → W) (g : X → Y) (xs : List X) (i : ℕ) (x : X) (old new : List Z) (z : Z) → i < length xs → x ≡ get_or xs i x
    → map view old ≡ map f (map g (take i xs)) → new ≡ old ++ z ∷ [] → view z ≡ f (g x) → map view new ≡ map f (map g (take (i + 1) xs))
mapped_more view f g xs i x old new z within is so_far pushed same =
    ap (map view) pushed ∙ map-append view old (z ∷ []) ∙ ap (λ ws. ws ++ view z ∷ []) so_far ∙ ap (λ w. map f (map g (take i xs)) ++ w ∷ []) same
    ∙ sym (ap (λ ys. map f (map g ys)) (take_more xs i x within ∙ ap (λ y. take i xs ++ y ∷ []) (sym is))
    ∙ ap (map f) (map-append g (take i xs) (x ∷ [])) ∙ map-append f (map g (take i xs)) (g x ∷ []))
