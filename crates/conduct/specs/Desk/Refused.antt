-- A refused call of the desk changes neither state nor output, whatever the state (rule E5). Assumes nothing.
use Rattle.std.specs.Prelude.{◌≡◌, List, ℕ}
use Rattle.records.specs.declared.records.Record.{Record}
use Rattle.desk.specs.Answers.{Done}
use Rattle.desk.specs.Panel.{tick_of, queue_of, set_of, key_of}
use Rattle.desk.specs.Clearing.{clear_queue_of, clear_set_of}
use Rattle.desk.specs.Hearing.{Hearing, hear_of}
use Rattle.desk.specs.declared.state.Desk.{Desk}
use Rattle.conduct.specs.Desk.Calls.{did, heard, refused_by}

-- a call that hears nothing leaves this state where it is refused
abbrev pub Unmoved : Desk → Desk × Done → Type 0
Unmoved d s = ¬ (refused_by (did s.1) ≡ 0) → s.0 ≡ d

-- a hearing leaves this state and this output
abbrev pub Unheard : Desk → List ℕ → Hearing → Type 0
Unheard d out h = ¬ (refused_by (heard h.1 h.2) ≡ 0) → (h.0 ≡ d) × (h.2 ≡ out)

abbrev pub TickRefusedSame : Type 0
TickRefusedSame = (d : Desk) (at : ℕ) → Unmoved d (tick_of d at)

abbrev pub QueueRefusedSame : Type 0
QueueRefusedSame = (d : Desk) (rec : Record) → Unmoved d (queue_of d rec)

abbrev pub SetRefusedSame : Type 0
SetRefusedSame = (d : Desk) (rec : Record) → Unmoved d (set_of d rec)

abbrev pub KeyRefusedSame : Type 0
KeyRefusedSame = (d : Desk) (key : ℕ) → Unmoved d (key_of d key)

abbrev pub ClearQueueRefusedSame : Type 0
ClearQueueRefusedSame = (d : Desk) → Unmoved d (clear_queue_of d)

abbrev pub ClearSetRefusedSame : Type 0
ClearSetRefusedSame = (d : Desk) → Unmoved d (clear_set_of d)

abbrev pub HearRefusedSame : Type 0
HearRefusedSame = (d : Desk) (at : ℕ) (frame out : List ℕ) → Unheard d out (hear_of d at frame out)
