-- T0 and T2 at their limits, in every state in its ranges and at every reading of the clock (rules M5 to M8, K4). Assumes nothing.
use Rattle.std.specs.Prelude.{◌≡◌, true, false, List, ℕ, ◌+◌, ◌^◌, ◌≤◌, ◌<◌, length, replicate}
use Prim.Native.Char.{code}
use Rattle.characters.specs.Marks.{longest}
use Rattle.records.specs.declared.records.Record.TheVariants.{Approved, Train}
use Rattle.master.specs.Rules.{poll_of}
use Rattle.master.specs.declared.state.Master.{Master}
use Rattle.master.specs.State.{is_free, in_ranges, started, with_line, given_up_state}
use Rattle.master.specs.Sending.{Behind, t0_limit, sending_of, offer_of, tick_of}
use Rattle.master.specs.Hearing.{hear_of}
use Rattle.master.specs.Answers as t
use Rattle.conduct.specs.Times.{clock_after}
use Rattle.conduct.specs.Master.Paper.{telegram}

-- a free master, in its ranges
pub record Free (m : Master) : Type 0 where
  pub ranged : in_ranges m ≡ true
  pub free : is_free m ≡ true
  -- T0's start is a reading of the clock
  pub start : m.t0 < 2 ^ 32

-- one that is not free
pub record Busy (m : Master) : Type 0 where
  pub ranged : in_ranges m ≡ true
  pub busy : is_free m ≡ false
  -- T2's start is a reading of the clock
  pub start : m.t2 < 2 ^ 32

-- a call that changes nothing and says so
abbrev pub Rests : Master → List ℕ → Behind → Type 0
Rests m out b = b ≡ (m, (t.nothing, out))

-- while free, before T0 has run out, a tick does nothing; from then on it sends the poll, with count 1
abbrev pub TicksBeforeT0 : Type 0
TicksBeforeT0 = (m : Master) → Free m → (out : List ℕ) → longest ≤ length out → (ms : ℕ) → ms < 2 ^ 32 → ms < t0_limit m → Rests m out (tick_of m (clock_after m.t0 ms) out)

abbrev pub TicksFromT0 : Type 0
TicksFromT0 =
    (m : Master) → Free m → (out : List ℕ) → longest ≤ length out → (ms : ℕ) → t0_limit m ≤ ms → ms < 2 ^ 32
    → tick_of m (clock_after m.t0 ms) out ≡ sending_of t.poll m (poll_of m.line) 1 (clock_after m.t0 ms) out

-- while not free, before T2 has run out, a tick does nothing
abbrev pub TicksBeforeT2 : Type 0
TicksBeforeT2 = (m : Master) → Busy m → (out : List ℕ) → longest ≤ length out → (ms : ℕ) → ms < 2000 → Rests m out (tick_of m (clock_after m.t2 ms) out)

-- from then on it sends the same record with the same number again and adds 1 to the count; at count 3 it gives up, and the line is lost
abbrev pub TicksFromT2 : Type 0
TicksFromT2 =
    (m : Master) → Busy m → (out : List ℕ) → longest ≤ length out → (ms : ℕ) → 2000 ≤ ms → ms < 2 ^ 32 → m.count < 3
    → tick_of m (clock_after m.t2 ms) out ≡ sending_of t.again m m.rec (m.count + 1) (clock_after m.t2 ms) out

abbrev pub GivesUpFromT2 : Type 0
GivesUpFromT2 =
    (m : Master) → Busy m → (out : List ℕ) → longest ≤ length out → (ms : ℕ) → 2000 ≤ ms → ms < 2 ^ 32 → m.count ≡ 3
    → tick_of m (clock_after m.t2 ms) out ≡ (given_up_state (with_line m false), (t.given_up t.silence 3, out))

-- and whatever it hears then is ignored
abbrev pub IgnoresFromT2 : Type 0
IgnoresFromT2 =
    (m : Master) → Busy m → (frame out : List ℕ) → longest ≤ length out → (ms : ℕ) → 2000 ≤ ms → ms < 2 ^ 32
    → hear_of m (clock_after m.t2 ms) frame out ≡ (m, (t.ignored t.run_out, out))

-- the bench cases, T2 at 1,999 hears, at 2,000 ignores: the room that a call needs
abbrev pub room : List ℕ
room = replicate longest 0

-- on line 3, behind an offer at 100 of train 123456
abbrev pub waiting : Master
waiting = (offer_of (started 3 0) 100 (Train 123456) room).0

-- A with number 0 and key A, case a
abbrev pub approved : List ℕ
approved = telegram "08A0AAA5"

abbrev pub HearsAt1999 : Type 0
HearsAt1999 = (hear_of waiting 2099 approved room).1.0 ≡ t.answered (Approved (code "A")) 1

abbrev pub IgnoresAt2000 : Type 0
IgnoresAt2000 = (hear_of waiting 2100 approved room).1.0 ≡ t.ignored t.run_out
