-- The answers of the master's offer and tick, one after the other. Assumes nothing.
use mathlib.Core.Path.{◌≡◌, refl, sym, ◌∙◌}
use mathlib.Core.Bool.{Bool, true, false, cond}
use mathlib.Core.List.{List}
use Prim.Native.Nat.{ℕ, ◌+◌, ◌≤◌, ◌<◌}
use lib.ListN.{length}
use borrow.Author.Tests.{eq-eqb, ne_eqb}
use Rattle.forms.specs.Forms.{by_master}
use Rattle.records.specs.Refusals.{no}
use Rattle.records.specs.Records.{type_of}
use Rattle.records.specs.declared.records.Record.{Record}
use Rattle.values.specs.Values.{permits_record}
use Rattle.records.specs.Answers.{good, fails}
use Rattle.writing.specs.Writing.{send_of}
use Rattle.writing.proofs.Trips.{sent-whole}
use Rattle.clock.specs.Clock.{run_out}
use Rattle.characters.specs.Marks.{longest}
use Rattle.master.specs.Rules.{poll_of}
use Rattle.master.specs.declared.state.Master.{Master}
use Rattle.master.specs.declared.state.Step.{Step}
use Rattle.master.specs.Answers.{Which, again, poll, Ground, silence, told_of, nothing, sent, given_up}
use Rattle.master.specs.State.{is_free, in_ranges, call_fault, after_sending, with_line, given_up_state}
use Rattle.master.specs.Sending.{Behind, t0_limit, t2_limit, sending_of, failed_of, fail_of, offer_fault, polling_of, waiting_of, tick_of}
use Rattle.master.proofs.Ranges.{no-pass, passes}

-- a step with the output behind it
abbrev pub stepped : Step → List ℕ → Behind
stepped s out = (s.master, (told_of s.answer, out))

-- what was written is the whole telegram, since there is room
pub sent_off : (which : Which) (m n : Master) (rec : Record) (count at number bytes : ℕ) (out new : List ℕ) → permits_record m.line rec ≡ true → m.number.0 < 2 → longest ≤ length out
    → n ≡ after_sending m rec count at → number ≡ m.number.0 → (bytes, new) ≡ send_of m.line rec number out → (n, (sent which count bytes, new)) ≡ sending_of which m rec count at out
unfolding sending_of
sent_off which m n rec count at number bytes out new p l room e q f =
    let g : (bytes, new) ≡ send_of m.line rec m.number.0 out = rw q at f in
    rw (e, ← (g ∙ sent-whole m.line rec m.number.0 out p l room))

module _ (cause : Ground) (g : Bool) (m : Master) (at : ℕ) (out : List ℕ) where
  pub gave-up : m.count ≡ 3 → (n : Master) → n ≡ given_up_state (with_line m g) → (n, (given_up cause m.count, out)) ≡ failed_of cause g m at out
  unfolding failed_of
  gave-up h n e = rw (e, eq-eqb m.count 3 h)

  pub sent-again : ¬ (m.count ≡ 3) → sending_of again m m.rec (m.count + 1) at out ≡ failed_of cause g m at out
  unfolding failed_of
  sent-again h = rw (ne_eqb m.count 3 h)

  -- a state that passes the checks and is not free
  pub fail-passed : in_ranges m ≡ true → is_free m ≡ false → longest ≤ length out → fail_of cause g m at out ≡ failed_of cause g m at out
  unfolding fail_of
  fail-passed h b room = rw (← (passes m (length out) h room), b)

-- an offer that is not refused is of a free state, and its record is one that the master may send
module _ (m : Master) (rec : Record) where
  pub offer_passed : good ≡ offer_fault m rec → (is_free m ≡ true) × ((by_master m.line (type_of rec) ≡ true) × (permits_record m.line rec ≡ true))
  unfolding offer_fault
  offer_passed h = go (is_free m) (by_master m.line (type_of rec)) (permits_record m.line rec) (sym h)
    where
      go : (f b p : Bool) → cond f (cond b (cond p good (fails (no 13 0))) (fails (no 12 0))) (fails (no 16 0)) ≡ good → (f ≡ true) × ((b ≡ true) × (p ≡ true))
      go true true true e = (refl, (refl, refl))
      go true true false e = no-pass e
      go true false p e = no-pass e
      go false b p e = no-pass e

module _ (m : Master) (at : ℕ) (out : List ℕ) where
  -- the poll, and the wait for an answer
  module _ (limit : ℕ) (e : limit ≡ t0_limit m) where
    pub no-poll : run_out at m.t0 limit ≡ false → (m, (nothing, out)) ≡ polling_of m at out
    unfolding polling_of
    no-poll h = rw (← e, h)

    pub polled : run_out at m.t0 limit ≡ true → (rec : Record) → rec ≡ poll_of m.line → sending_of poll m rec 1 at out ≡ polling_of m at out
    unfolding polling_of
    polled h rec q = rw (← e, h, q)

  pub waits : run_out at m.t2 t2_limit ≡ false → (m, (nothing, out)) ≡ waiting_of m at out
  unfolding waiting_of
  waits h = rw h

  pub silent : run_out at m.t2 t2_limit ≡ true → failed_of silence false m at out ≡ waiting_of m at out
  unfolding waiting_of
  silent h = rw h

  module _ (g : good ≡ call_fault m (length out)) where
    pub tick-free : m.count ≡ 0 → polling_of m at out ≡ tick_of m at out
    unfolding tick_of
    tick-free h = rw (← g, eq-eqb m.count 0 h)

    pub tick-busy : ¬ (m.count ≡ 0) → waiting_of m at out ≡ tick_of m at out
    unfolding tick_of
    tick-busy h = rw (← g, ne_eqb m.count 0 h)
