-- The order in which the panel's calls refuse: tables of attempts (rules D2, D3, E1, E5, R17). Assumes nothing.
use Rattle.std.specs.Prelude.{◌≡◌, List, [], ◌∷◌, ◌++◌, map, ℕ, replicate}
use Prim.Native.Char.{code}
use Rattle.records.specs.Refusals.{no}
use Rattle.records.specs.declared.records.Record.{Record}
use Rattle.records.specs.declared.records.Record.TheVariants.{Approved, Stop}
use Rattle.desk.specs.Answers.{Done, refused}
use Rattle.desk.specs.State.{fresh}
use Rattle.desk.specs.Panel.{with_queue, with_key, queue_of, set_of, key_of}
use Rattle.desk.specs.declared.state.Desk.{Desk}

-- a desk, what the panel hands over, and the number of the refusal
pub record Attempt (A : Type 0) : Type 0 where
  pub desk : Desk
  pub given : A
  pub refusal : ℕ

abbrev pub tries : {A : Type 0} → Desk → A → ℕ → Attempt A
tries desk given refusal = record { desk = desk; given = given; refusal = refusal }

-- each attempt at a call is refused so, and leaves the desk as it was
abbrev pub InOrder : {A : Type 0} → (Desk → A → Desk × Done) → List (Attempt A) → Type 0
InOrder {A} call attempts = map (λ (a : Attempt A). call a.desk a.given) attempts ≡ map (λ (a : Attempt A). (a.desk, refused (no a.refusal 0))) attempts

-- a desk out of its ranges: its key is none of A, X and Y
abbrev pub spoiled : Desk → Desk
spoiled d = with_key d 0

-- on line 2 the slave's data type is 5, with + or -: an empty desk, and one with 8 records in its queue
abbrev pub empty : Desk
empty = fresh 2

abbrev pub stop : Record
stop = Stop (code "+")

abbrev pub full : Desk
full = with_queue empty (replicate 8 (record { rec = stop })) 8

-- 15, 12, 13 of a record: for each two refusals an attempt with the faults of both, and each alone
abbrev pub record_attempts : List (Attempt Record)
record_attempts =
    -- 15 before 12: A is not of the data type
    tries (spoiled empty) (Approved (code "A")) 15 ∷
    tries empty (Approved (code "A")) 12 ∷
    -- 15 before 13: 5 does not carry a space
    tries (spoiled empty) (Stop (code " ")) 15 ∷
    tries empty (Stop (code " ")) 13 ∷
    -- 12 before 13: 300 is no character
    tries empty (Approved 300) 12 ∷
    -- 15 alone
    tries (spoiled empty) stop 15 ∷
    []

-- 17 of a full queue, behind each of these and alone
abbrev pub full_attempts : List (Attempt Record)
full_attempts =
    -- 15 before 17
    tries (spoiled full) stop 15 ∷
    -- 12 before 17
    tries full (Approved (code "A")) 12 ∷
    -- 13 before 17
    tries full (Stop (code " ")) 13 ∷
    -- 17 alone
    tries full stop 17 ∷
    []

-- 15, 12, 13 of a key position: line 2 has none, and Z is none
abbrev pub key_attempts : List (Attempt ℕ)
key_attempts =
    -- 15 before 12
    tries (spoiled (fresh 2)) (code "A") 15 ∷
    tries (fresh 2) (code "A") 12 ∷
    -- 15 before 13
    tries (spoiled (fresh 3)) (code "Z") 15 ∷
    tries (fresh 3) (code "Z") 13 ∷
    -- 12 before 13
    tries (fresh 2) (code "Z") 12 ∷
    -- 15 alone
    tries (spoiled (fresh 3)) (code "X") 15 ∷
    []

-- queueing refuses 15, 12, 13, 17
abbrev pub QueuedInOrder : Type 0
QueuedInOrder = InOrder queue_of (record_attempts ++ full_attempts)

-- setting a record for r refuses 15, 12, 13
abbrev pub SetInOrder : Type 0
SetInOrder = InOrder set_of record_attempts

-- turning the key refuses 15, 12, 13
abbrev pub TurnedInOrder : Type 0
TurnedInOrder = InOrder key_of key_attempts
