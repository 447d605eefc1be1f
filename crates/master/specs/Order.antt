-- The order in which an offer refuses: a table of attempts (rules M2, E1, E4, E5). Assumes nothing.
use Rattle.std.specs.Prelude.{◌≡◌, true, List, [], ◌∷◌, map, ℕ, replicate}
use Prim.Native.Char.{code}
use Rattle.records.specs.Refusals.{no}
use Rattle.records.specs.declared.records.Record.{Record}
use Rattle.records.specs.declared.records.Record.TheVariants.{Approved, Position}
use Rattle.master.specs.Answers.{refused}
use Rattle.master.specs.State.{started, after_sending, with_operation}
use Rattle.master.specs.Sending.{offer_of}
use Rattle.master.specs.declared.state.Master.{Master}

-- a master, the record that is offered, an output, and the number of the refusal
pub record Attempt : Type 0 where
  pub master : Master
  pub rec : Record
  pub out : List ℕ
  pub refusal : ℕ

-- an output of so many bytes
abbrev pub tries : Master → Record → ℕ → ℕ → Attempt
tries master rec room refusal = record { master = master; rec = rec; out = replicate room (code "x"); refusal = refusal }

-- on line 1 the master sends F: a free master, and one that waits on a telegram
abbrev pub free : Master
free = started 1 0

abbrev pub place : Record
place = Position 7999

abbrev pub busy : Master
busy = after_sending free place 1 0

-- a master out of its ranges: the flag is on, and line 1 has one T0
abbrev pub spoiled : Master → Master
spoiled m = with_operation m true

-- for each two refusals an attempt with the faults of both, and each alone
abbrev pub attempts : List Attempt
attempts =
    -- 15 before 14
    tries (spoiled free) place 65 15 ∷
    tries free place 65 14 ∷
    -- 15 before 16
    tries (spoiled busy) place 66 15 ∷
    tries busy place 66 16 ∷
    -- 15 before 12: the slave sends A
    tries (spoiled free) (Approved (code "A")) 66 15 ∷
    tries free (Approved (code "A")) 66 12 ∷
    -- 15 before 13
    tries (spoiled free) (Position 8000) 66 15 ∷
    tries free (Position 8000) 66 13 ∷
    -- 14 before 16, 12 and 13
    tries busy place 65 14 ∷
    tries free (Approved (code "A")) 65 14 ∷
    tries free (Position 8000) 65 14 ∷
    -- 16 before 12 and 13
    tries busy (Approved (code "A")) 66 16 ∷
    tries busy (Position 8000) 66 16 ∷
    -- 12 before 13: 300 is no character
    tries free (Approved 300) 66 12 ∷
    -- 15 alone
    tries (spoiled free) place 66 15 ∷
    []

-- each offer is refused so, and leaves master and output as they were
abbrev pub OfferedInOrder : Type 0
OfferedInOrder =
    map (λ (a : Attempt). offer_of a.master 0 a.rec a.out) attempts
    ≡ map (λ (a : Attempt). (a.master, (refused (no a.refusal 0), a.out))) attempts
