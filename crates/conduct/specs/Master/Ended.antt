-- How a telegram ends: given up, or by an answer of another kind (rules M13, M15). Assumes nothing.
use Rattle.std.specs.Prelude.{◌≡◌, Bool, true, ℕ}
use Rattle.clock.specs.Counters.{changed_of}
use Rattle.records.specs.Answers.{Answer}
use Rattle.master.specs.declared.state.Master.{Master}
use Rattle.master.specs.Answers.{Ground, other_kind, given_up}
use Rattle.master.specs.State.{is_free, in_ranges}
use Rattle.conduct.specs.Master.Calls.{Call, after, line_after}

-- free, with this number to send and this note of the line
pub record Freed (m : Master) (number : ℕ) (g : Bool) : Type 0 where
  pub free : is_free m ≡ true
  pub numbered : m.number.0 ≡ number
  pub line : m.good ≡ g

-- after a giving up the master is free with number 0, three sendings were made, and the line is lost by silence and good by N
abbrev pub AfterGivingUp : Type 0
AfterGivingUp =
    (m : Master) → in_ranges m ≡ true → (call : Call) (cause : Ground) (n : ℕ) → (after m call).1.0 ≡ given_up cause n
    → (n ≡ 3) × Freed (after m call).0 0 (line_after cause)

-- an answer of another kind ends the telegram: the master is free, the number changes and the line is good
abbrev pub AfterOtherKind : Type 0
AfterOtherKind =
    (m : Master) → in_ranges m ≡ true → (call : Call) (answer : Answer) (n : ℕ) → (after m call).1.0 ≡ other_kind answer n
    → Freed (after m call).0 (changed_of m.number.0) true
