-- The first line of the bytes in a buffer, found by its line feed.
use Rattle.std.proofs.Common.{◌≡◌, ℕ, suc, ◌+◌, ◌-◌, ◌<◌, ◌≤◌, Bool, true, false, nat_eq, cond, List, [], ◌∷◌, ◌++◌, length, take, drop, get_or, refl, ap, sym, ◌∙◌, arith, take-append-drop, append-nil, add-one, inl, inr, length-drop, Option, Result, Ok, Err}
use Rattle.std.proofs.lemmas.List.{length-take-le, take-take, take_rest, get_or-take, get_or-drop}
use Rattle.std.proofs.lemmas.Bool.Decides.{eqb_tells}
use Rattle.std.proofs.lemmas.Bool.{eqb-true}
use Rattle.std.proofs.Math.Seq.{drop-cons, take-add, take-length}
use Rattle.std.specs.List.{list_any}
use Rattle.brl_stream.specs.InputLines.{is_feed, without_return}
use Rattle.brl_stream.specs.InputBuffer.{HasNoFeed, HasLine, HasLongLine, IsOpen, IsTail, ReadsNext, ReadsTail}
use Rattle.brl_stream.specs.declared.fault.LineFault.TheVariants as faults
use Rattle.brl_stream.specs.declared.fault.LineFault.{LineFault}
use Rattle.brl_stream.specs.declared.line.Next.{Next}
use Rattle.brl_stream.specs.declared.line.Next.TheVariants as nexts
use Rattle.brl_stream.proofs.LineLemmas.{le-without_return}
use Rattle.std.proofs.lemmas.List.Folds.{list_any-append}

-- no byte at any place is a line feed
pub plain-from_places : (bs : List ℕ) → ((k : ℕ) → k < length bs → nat_eq (get_or bs k 0) 10 ≡ true → ⊥) → HasNoFeed bs
plain-from_places [] none = refl
plain-from_places (b ∷ bs) none =
    let others = plain-from_places bs (λ k h e. none (suc k) (omega arith) e) in
    elim (eqb_tells b 10) [ inl x ↦ absurd (none 0 (omega arith) x.0) | inr x ↦ rw x.0 others ]

-- the bytes after the first `scanned`
abbrev unscanned : List ℕ → ℕ → List ℕ
unscanned bs scanned = take (length bs - scanned) (drop scanned bs)

module _ (bs : List ℕ) (scanned : ℕ) (plain : HasNoFeed (take scanned bs)) (within : scanned ≤ length bs) where
  -- no line feed comes among n more bytes
  plain_more : (n : ℕ) → n ≤ length (drop scanned bs) → ((k : ℕ) → k < n → nat_eq (get_or (drop scanned bs) k 0) 10 ≡ true → ⊥) → HasNoFeed (take (scanned + n) bs)
  plain_more n room none =
      let others : HasNoFeed (take n (drop scanned bs)) = plain-from_places (take n (drop scanned bs)) (λ k h e.
      let below : k < n = omega (arith, h, length-take-le n (drop scanned bs) room) in
      none k below (sym (ap (λ b. nat_eq b 10) (get_or-take n (drop scanned bs) k 0 below)) ∙ e)) in
      ap (list_any is_feed) (take-add scanned n bs) ∙ list_any-append is_feed (take scanned bs) (take n (drop scanned bs)) ∙ rw (plain, others) refl

  pub feed_none : ((k : ℕ) → 0 ≤ k → k < length (unscanned bs scanned) → nat_eq (get_or (unscanned bs scanned) k 0) 10 ≡ true → ⊥) → HasNoFeed bs
  feed_none none =
      let same : unscanned bs scanned ≡ drop scanned bs = take_rest bs scanned in
      let none_there : (k : ℕ) → 0 ≤ k → k < length (drop scanned bs) → nat_eq (get_or (drop scanned bs) k 0) 10 ≡ true → ⊥ = rw same at none in
      let whole : scanned + length (drop scanned bs) ≡ length bs = omega (arith, length-drop scanned bs) in
      sym (ap (list_any is_feed) (ap (λ n. take n bs) whole ∙ take-length bs)) ∙ plain_more (length (drop scanned bs)) (omega arith) (λ k h. none_there k (omega arith) h)

  pub feed_found : (ahead : ℕ) → ahead < length (unscanned bs scanned) → nat_eq (get_or (unscanned bs scanned) ahead 0) 10 ≡ true
      → ((k : ℕ) → 0 ≤ k → k < ahead → nat_eq (get_or (unscanned bs scanned) k 0) 10 ≡ true → ⊥)
      → (scanned + ahead < length bs) × (get_or bs (scanned + ahead) 0 ≡ 10) × HasNoFeed (take (scanned + ahead) bs)
  feed_found ahead low is none =
      let same : unscanned bs scanned ≡ drop scanned bs = take_rest bs scanned in
      let there : ahead < length (drop scanned bs) = rw same at low in
      let feed : nat_eq (get_or (drop scanned bs) ahead 0) 10 ≡ true = rw same at is in
      let none_there : (k : ℕ) → 0 ≤ k → k < ahead → nat_eq (get_or (drop scanned bs) k 0) 10 ≡ true → ⊥ = rw same at none in (
        omega (arith, there, length-drop scanned bs),
        sym (get_or-drop scanned bs ahead 0) ∙ eqb-true (get_or (drop scanned bs) ahead 0) 10 feed,
        plain_more ahead (omega (arith, there)) (λ k h. none_there k (omega arith) h),
      )

-- ---- the line at the start

parts : (bs : List ℕ) (i : ℕ) → i < length bs → get_or bs i 0 ≡ 10 → bs ≡ take i bs ++ 10 ∷ drop (i + 1) bs
parts bs i h e = sym (take-append-drop i bs) ∙ ap (λ l. take i bs ++ l) (drop-cons bs i 0 h ∙ rw (e, add-one i) refl)

stripped_length : (bs : List ℕ) (n : ℕ) → n ≤ length bs → take n bs ≡ without_return bs → length (without_return bs) ≡ n
stripped_length bs n h e = rw (← e) (length-take-le n bs h)

module _ (bs : List ℕ) (feed len : ℕ) (room : feed < length bs) (is : get_or bs feed 0 ≡ 10) (plain : HasNoFeed (take feed bs))
    (short : len ≤ length (take feed bs)) (strips : take len (take feed bs) ≡ without_return (take feed bs)) where
  pub front_line : len ≤ 65536 → HasLine bs len (feed + 1)
  front_line most =
      let within : len ≤ feed = omega (arith, short, length-take-le feed bs (omega (arith, room))) in
      (take feed bs, drop (feed + 1) bs, parts bs feed room is, plain, sym (take-take len feed bs within) ∙ strips, ap (λ n. n + 1) (sym (length-take-le feed bs (omega (arith, room)))), omega (arith, within), most)

  pub front_long : 65536 < len → HasLongLine bs
  front_long over = (take feed bs, 10 ∷ drop (feed + 1) bs, parts bs feed room is, plain, omega (arith, over, stripped_length (take feed bs) len short strips))

pub open_long : (bs : List ℕ) (len : ℕ) → HasNoFeed bs → len ≤ length bs → take len bs ≡ without_return bs → 65536 < len → HasLongLine bs
open_long bs len plain short strips over = (bs, [], sym (append-nil bs), plain, omega (arith, over, stripped_length bs len short strips))

pub open_short : (bs : List ℕ) (len : ℕ) → HasNoFeed bs → len ≤ length bs → take len bs ≡ without_return bs → len ≤ 65536 → IsOpen bs
open_short bs len plain short strips most = (plain, omega (arith, most, stripped_length bs len short strips))

-- ---- the end of the input

pub open-length : (bs : List ℕ) → IsOpen bs → length bs ≤ 65537
open-length bs open_line = let most = le-without_return bs in omega (arith, most, open_line.1)

pub not_longer : (b : Bool) (m n : ℕ) → n + cond b 1 0 ≡ m → m ≡ n → b ≡ false
not_longer true m n h e = absurd (omega (arith, h, e))
not_longer false m n h e = refl

pub tail-next : (bytes : List ℕ) (len : ℕ) (longer : Bool) (after : Option (List ℕ)) (r : Result Next LineFault) → IsTail bytes longer after → len ≡ length bytes → ReadsTail len r → ReadsNext bytes longer after r
tail-next bytes len longer after (Ok (nexts.Line short whole)) tail is t = absurd t
tail-next bytes len longer after (Ok (nexts.Last n)) tail is t = (tail, t.0 ∙ is, omega (arith, t.0, t.1), omega (arith, t.0, t.2))
tail-next bytes len longer after (Ok nexts.End) tail is t = (tail, sym is ∙ t)
tail-next bytes len longer after (Err faults.InputLineTooLong) tail is t = inr (tail, omega (arith, is, t))
tail-next bytes len longer after (Err (faults.UnknownChar position)) tail is t = absurd t
tail-next bytes len longer after (Err faults.NoAscii) tail is t = absurd t
tail-next bytes len longer after (Err faults.InputNotUtf8) tail is t = absurd t
tail-next bytes len longer after (Err faults.InputFailed) tail is t = absurd t
tail-next bytes len longer after (Err faults.OutputFailed) tail is t = absurd t
tail-next bytes len longer after (Err faults.InputTooLong) tail is t = absurd t
