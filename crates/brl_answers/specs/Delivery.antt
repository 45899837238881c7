-- How an answer is delivered: its files first, and then its text. The project's own choice.
use Rattle.std.specs.Prelude.{ℕ, ◌≡◌, ◌≢◌, List, ◌++◌, Option, Result, Ok, Err, string_bytes}
use Rattle.std.specs.Io.KnownBytes.{Appends}
use Rattle.brl_lines.specs.Answer.{FileAnswers}
use Rattle.brl_answers.specs.Making.{ArePutInto, FilesAfter}
use Rattle.brl_answers.specs.Status.{status_of}
use Rattle.brl_answers.specs.declared.answer.Answer.{Answer}
use Rattle.brl_answers.specs.declared.run_fault.RunFault.{RunFault}
use Rattle.brl_answers.specs.declared.run_fault.RunFault.TheVariants.{OutputFailed}
use Rattle.brl_answers.specs.declared.status.Status.{Status}

-- the files and the output at one time
pub record World : Type 0 where
  -- what the files may give
  pub gives : FileAnswers
  -- how often the output failed so far
  pub failures : ℕ
  -- what was written to it so far, where that is known
  pub contents : Option (List ℕ)

-- the world with these
abbrev pub world : FileAnswers → ℕ → Option (List ℕ) → World
world gives failures contents = record { gives = gives; failures = failures; contents = contents }

-- no file changes
abbrev pub KeepsFiles : World → World → Type 0
KeepsFiles before after = after.gives ≡ before.gives

-- this text is written
abbrev pub Prints : World → World → List ℕ → Type 0
Prints before after text = Appends before.contents after.contents text

-- nothing is written
abbrev pub PrintsNothing : World → World → Type 0
PrintsNothing before after = after.contents ≡ before.contents

-- An answer was written: its files, and all of its text; or the output failed, and has some first
-- bytes of the text; or its files couldn't be written, and the output has nothing of it.
abbrev pub Writes : Answer → World → World → Result Status RunFault → Type 0
Writes answer before after (Ok status) =
    FilesAfter before.gives after.gives answer.files × Prints before after (string_bytes answer.text) × (status ≡ answer.status)
Writes answer before after (Err OutputFailed) =
    (after.failures ≢ before.failures) × FilesAfter before.gives after.gives answer.files
    × ((front rest : List ℕ) × (string_bytes answer.text ≡ front ++ rest) × Prints before after front)
Writes answer before after (Err fault) =
    PrintsNothing before after × ArePutInto answer.files before.gives after.gives (Err fault)

-- the status after work that ended so
abbrev pub status_after : Result Status RunFault → Status
status_after (Ok status) = status
status_after (Err fault) = status_of fault

-- What a command came to was delivered: an answer was written, or there is a fault, and nothing
-- was.
abbrev pub Delivers : Result Answer RunFault → World → World → Status → Type 0
Delivers (Ok answer) before after status =
    (written : Result Status RunFault) × Writes answer before after written × (status ≡ status_after written)
Delivers (Err fault) before after status = KeepsFiles before after × PrintsNothing before after × (status ≡ status_of fault)

-- a command came to what it promises, and that was delivered
abbrev pub IsDelivered : (Result Answer RunFault → Type 0) → World → World → Status → Type 0
IsDelivered promises before after status = (outcome : Result Answer RunFault) × promises outcome × Delivers outcome before after status
