-- Internal. The bytes that were read and not yet taken as lines, and the line at their start.
use Rattle.std.specs.Prelude.{ℕ, ◌≡◌, ◌≤◌, ◌<◌, ◌+◌, ◌⊎◌, Bool, true, false, List, ◌∷◌, ◌++◌, length, take, Option, Some, None, Result, Ok, Err}
use Rattle.std.specs.List.{list_any}
use Rattle.std.specs.Io.KnownBytes.{IsAtEnd}
use Rattle.brl_stream.specs.InputLines.{is_feed, without_return}
use Rattle.brl_stream.specs.declared.fault.LineFault.{LineFault}
use Rattle.brl_stream.specs.declared.fault.LineFault.TheVariants as faults
use Rattle.brl_stream.specs.declared.line.Next.{Next}
use Rattle.brl_stream.specs.declared.line.Next.TheVariants as nexts

-- the bytes in the buffer, the number of bytes that were read up to the limit, whether one after
-- the limit was read too, and for how many more there is room
pub record BufferView : Type 0 where
  pub bytes : List ℕ
  pub taken : ℕ
  pub longer : Bool
  pub room : ℕ

-- the bytes that follow the buffer: those that the reader has left, after the one that showed that
-- the input is longer than the limit
abbrev pub IsRest : Bool → Option (List ℕ) → List ℕ → Type 0
IsRest true remaining rest = (b : ℕ) × (left : List ℕ) × (remaining ≡ Some left) × (rest ≡ b ∷ left)
IsRest false remaining rest = remaining ≡ Some rest

-- bytes were added at the end of the buffer and none were taken; each was counted
pub record IsReadOn (old new : BufferView) (before after : Option (List ℕ)) : Type 0 where
  pub counted : new.taken + length old.bytes ≡ old.taken + length new.bytes
  pub same : (rest : List ℕ) → IsRest old.longer before rest
      → (later : List ℕ) × IsRest new.longer after later × (old.bytes ++ rest ≡ new.bytes ++ later)

-- at most 16,777,216 bytes were read, or that number and one after the limit
pub record IsWithin (w : BufferView) : Type 0 where
  pub few : length w.bytes ≤ w.taken
  pub limit : w.taken ≤ 16777216
  pub full : w.longer ≡ true → w.taken ≡ 16777216

-- ---- the line at the start

-- no byte is a line feed
abbrev pub HasNoFeed : List ℕ → Type 0
HasNoFeed bytes = list_any is_feed bytes ≡ false

-- the bytes begin with a line of `len` bytes, which has `whole` bytes with its end
abbrev pub HasLine : List ℕ → ℕ → ℕ → Type 0
HasLine bytes len whole = (row : List ℕ) × (more : List ℕ) × (bytes ≡ row ++ 10 ∷ more) × HasNoFeed row
    × (take len bytes ≡ without_return row) × (whole ≡ length row + 1) × (len < whole) × (len ≤ 65536)

-- the bytes begin with a line that is too long, whatever follows
abbrev pub HasLongLine : List ℕ → Type 0
HasLongLine bytes = (row : List ℕ) × (more : List ℕ) × (bytes ≡ row ++ more) × HasNoFeed row × (65536 < length (without_return row))

-- the bytes are a line without its end, which may be short enough
abbrev pub IsOpen : List ℕ → Type 0
IsOpen bytes = HasNoFeed bytes × (length (without_return bytes) ≤ 65536)

-- the line at the start of the bytes, which end at the limit where the input is longer
abbrev pub ReadsFront : List ℕ → Bool → Result (Option Next) LineFault → Type 0
ReadsFront bytes longer (Ok (Some (nexts.Line len whole))) = HasLine bytes len whole
ReadsFront bytes longer (Ok (Some other)) = ⊥
ReadsFront bytes longer (Ok None) = IsOpen bytes × (longer ≡ false)
ReadsFront bytes longer (Err faults.InputLineTooLong) = HasLongLine bytes
ReadsFront bytes longer (Err faults.InputTooLong) = IsOpen bytes × (longer ≡ true)
ReadsFront bytes longer (Err other) = ⊥

-- the last `len` bytes of an input, without a line feed, as a line
abbrev pub ReadsTail : ℕ → Result Next LineFault → Type 0
ReadsTail len (Ok (nexts.Line short whole)) = ⊥
ReadsTail len (Ok (nexts.Last bytes)) = (bytes ≡ len) × (0 < len) × (len ≤ 65536)
ReadsTail len (Ok nexts.End) = len ≡ 0
ReadsTail len (Err faults.InputLineTooLong) = 65536 < len
ReadsTail len (Err other) = ⊥

-- the input ends after these bytes, and none of them is a line feed
abbrev pub IsTail : List ℕ → Bool → Option (List ℕ) → Type 0
IsTail bytes longer after = HasNoFeed bytes × (longer ≡ false) × IsAtEnd after

-- the next line of an input that begins with these bytes
abbrev pub ReadsNext : List ℕ → Bool → Option (List ℕ) → Result Next LineFault → Type 0
ReadsNext bytes longer after (Ok (nexts.Line len whole)) = HasLine bytes len whole
ReadsNext bytes longer after (Ok (nexts.Last len)) = IsTail bytes longer after × (len ≡ length bytes) × (0 < len) × (len ≤ 65536)
ReadsNext bytes longer after (Ok nexts.End) = IsTail bytes longer after × (length bytes ≡ 0)
ReadsNext bytes longer after (Err faults.InputLineTooLong) = HasLongLine bytes ⊎ (IsTail bytes longer after × (65536 < length bytes))
ReadsNext bytes longer after (Err faults.InputTooLong) = IsOpen bytes × (longer ≡ true)
ReadsNext bytes longer after (Err faults.InputFailed) = IsOpen bytes × (longer ≡ false)
ReadsNext bytes longer after (Err other) = ⊥
