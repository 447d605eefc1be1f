-- What a row of checks, a reading and a writing answer, in the paper's numbers and values (rules W1, W2, G3). Assumes nothing.
use Rattle.std.specs.Prelude.{◌≡◌, ℕ, ◌+◌, List, [], ◌∷◌, Option, None, Some, Result, Ok, Err, ⊤}
use Rattle.records.specs.Refusals.{No, no, refusal_of}
use Rattle.records.specs.declared.refusals.Refusal.{Refusal}
use Rattle.records.specs.declared.records.Record.{Record}
use Rattle.records.specs.declared.answers.Numbered.{Numbered}

-- no fault, or a refusal's number and place
pub data Fault : Type 0 where
  good : Fault
  fails : No → Fault

abbrev pub fault_of : Result ⊤ Refusal → Fault
fault_of (Ok _) = good
fault_of (Err x) = fails (refusal_of x)

-- the first check that finds a fault, with its number: the first of the list has number k
abbrev pub first_fault : ℕ → List (Option ℕ) → Fault
first_fault k [] = good
first_fault k (None ∷ spots) = first_fault (k + 1) spots
first_fault k (Some place ∷ spots) = fails (no k place)

-- a record with its number, or a refusal's number and place
pub data Answer : Type 0 where
  accepted : Record → ℕ → Answer
  refused : No → Answer

abbrev pub answer_of : Result Numbered Refusal → Answer
answer_of (Ok t) = accepted t.rec t.number
answer_of (Err x) = refused (refusal_of x)

-- the answer where no check finds a fault
abbrev pub unless : Fault → Answer → Answer
unless good answer = answer
unless (fails x) answer = refused x

-- a telegram of so many bytes, or a refusal's number and place
pub data Outcome : Type 0 where
  written : ℕ → Outcome
  refused : No → Outcome

abbrev pub outcome_of : Result ℕ Refusal → Outcome
outcome_of (Ok n) = written n
outcome_of (Err x) = refused (refusal_of x)

-- the outcome, and the output behind it
abbrev pub Write : Type 0
Write = Outcome × List ℕ

-- a promise through these definitions allows one answer only: of a row of checks, of reading, of writing
abbrev pub OneCheck : Type 0
OneCheck = (a b : Result ⊤ Refusal) → fault_of a ≡ fault_of b → a ≡ b

abbrev pub OneReading : Type 0
OneReading = (a b : Result Numbered Refusal) → answer_of a ≡ answer_of b → a ≡ b

abbrev pub OneWriting : Type 0
OneWriting = (a b : Result ℕ Refusal) → outcome_of a ≡ outcome_of b → a ≡ b
