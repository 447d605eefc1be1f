-- A sending is the telegram of the offered record, or of the poll, with the number to send, and the same bytes each time until it ends (rules M17, E6). Assumes nothing.
use mathlib.Core.Path.{◌≡◌, refl, sym, ◌∙◌}
use mathlib.Core.Bool.{Bool, true, false}
use mathlib.Core.List.{List, [], ◌∷◌}
use Prim.Native.Nat.{ℕ, ◌+◌}
use lib.ListN.{length, take, drop}
use lib.Seq.{take_at, drop_at}
use Rattle.laws.proofs.Truths.{clash}
use Rattle.records.specs.declared.records.Record.{Record}
use Rattle.writing.specs.Writing.{telegram_of, sent_of}
use Rattle.master.specs.declared.state.Master.{Master}
use Rattle.master.specs.Answers.{Which, again, Told}
use Rattle.master.specs.State.{is_free, in_ranges, with_line, started}
use Rattle.master.specs.Sending.{Behind, sending_of}
use Rattle.conduct.specs.Master.Calls.{Call, call_time, output_of, after}
use Rattle.conduct.specs.Master.Same.{first, same, Leaves, last_sent, Sent, SameBytes}
use Rattle.conduct.proofs.Master.Calls.{Quiet, barred, idle, unheard, Ends, permitted, strange, Does, stays, begins, repeats, ends, gives_up, does}
use Rattle.conduct.proofs.Master.Kept.{keeps, start-ranged}

-- while not free the bytes of the last sending are the telegram of the state's record and number
abbrev Holds : List ℕ → Master → Type 0
Holds held m = is_free m ≡ false → held ≡ telegram_of m.line m.rec m.number.0

-- the front of what a sending leaves, and the bytes behind it
module _ (which : Which) (m : Master) (rec : Record) (count at : ℕ) (out : List ℕ) where
  abbrev bytes : List ℕ
  bytes = telegram_of m.line rec m.number.0

  pub front : take (length bytes) (sending_of which m rec count at out).1.1 ≡ bytes
  unfolding sending_of sent_of
  front = take_at bytes (drop (length bytes) out) (length bytes) refl

  behind : drop (length bytes) (sending_of which m rec count at out).1.1 ≡ drop (length bytes) out
  unfolding sending_of sent_of
  behind = drop_at bytes (drop (length bytes) out) (length bytes) refl

module _ (m : Master) (held : List ℕ) (k : Holds held m) (call : Call) where
  -- what a turn leaves, and what holds behind it
  abbrev Step : Behind → Type 0
  Step turn = Leaves held m call turn.1.0 turn.1.1 × Holds (last_sent held turn.1.0 turn.1.1) turn.0

  quiet : (told : Told) → Quiet told → Step (m, (told, output_of call))
  quiet told (barred x) = (refl, k)
  quiet told idle = (refl, k)
  quiet told unheard = (refl, k)

  over : (told : Told) (b : Bool) (n : Master) → is_free n ≡ true → Ends m told b → Step (n, (told, output_of call))
  over told b n f permitted = (refl, λ q. clash (sym q ∙ f))
  over told b n f strange = (refl, λ q. clash (sym q ∙ f))

  step : (turn : Behind) → Does m call turn → Step turn
  unfolding sending_of sent_of
  step turn (stays told q) = quiet told q
  step turn (begins which rec f free s r) =
      let e = front which m rec 1 (call_time call) (output_of call) in
      ((first f e, behind which m rec 1 (call_time call) (output_of call)), λ _. e)
  step turn (repeats g f x r) =
      let e = front again (with_line m g) m.rec (m.count + 1) (call_time call) (output_of call) in
      ((same refl (e ∙ sym (k f)), behind again (with_line m g) m.rec (m.count + 1) (call_time call) (output_of call)), λ _. e)
  step turn (ends told o e f b) = over told o turn.0 refl e
  step turn (gives_up ground f c) = (refl, λ q. clash (sym q))

all-sent : (held : List ℕ) (m : Master) → in_ranges m ≡ true → Holds held m → (calls : List Call) → Sent held m calls
all-sent held m h k [] = tt
all-sent held m h k (call ∷ calls) =
    let s = step m held k call (after m call) (does m h call) in
    (s.0, all-sent (last_sent held (after m call).1.0 (after m call).1.1) (after m call).0 (keeps m h call) s.1 calls)

pub same-bytes : SameBytes
same-bytes line at h calls = all-sent [] (started line at) (start-ranged line at h) (λ q. clash (sym q)) calls
