-- A handled t takes exactly the oldest queued record, and no other hearing takes one (rules D11, D13). Assumes nothing.
use Rattle.std.specs.Prelude.{Option, None, Some}
use mathlib.Core.Path.{◌≡◌, refl, sym, ap, ◌∙◌}
use mathlib.Core.Bool.{Bool, true, false, cond}
use mathlib.Core.List.{List, [], ◌∷◌}
use Prim.Native.Nat.{ℕ, ◌-◌, ◌≤◌}
use Prim.Native.Char.{code}
use native.Mathlib.Omega.{arith}
use lib.Dec.{leb, eqb}
use lib.ListN.{length, get_or, take}
use borrow.Author.Tests.{leb-true, leb-false, eq-eqb, ne_eqb, eqb-true}
use Rattle.laws.proofs.Passes.{on_test}
use Rattle.forms.specs.Lines.{line_of}
use Rattle.forms.specs.Forms.{by_master}
use Rattle.records.specs.Records.{type_of}
use Rattle.records.specs.declared.records.Record.{Record}
use Rattle.records.specs.declared.records.Record.TheVariants.{Approved}
use Rattle.records.specs.Answers.{accepted}
use Rattle.reading.specs.Reading.{reading_of}
use Rattle.writing.specs.Writing.{sent_of}
use Rattle.characters.specs.Marks.{longest}
use Rattle.desk.specs.Deciding.{Ruling, silent, fault, repeat, handle, What, contents, not_master, request, poll, other, matter_in}
use Rattle.desk.proofs.Rulings.{a-poll, good-handled, when-accepted}
use Rattle.desk.specs.Replying.{queue, key, asked_of, key_on, polled_of}
use Rattle.desk.specs.Waiting.{blank, shifted}
use Rattle.desk.specs.Panel.{loses_line, noted_of}
use Rattle.desk.specs.Queue.{oldest, reply_to, taken_by}
use Rattle.desk.specs.Hearing.{Hearing, faulted_of, repeated_of, handled_of, applied_of, ruling, hear_of}
use Rattle.desk.specs.declared.waiting.Waiting.{Waiting}
use Rattle.desk.specs.declared.state.Desk.{Desk}
use Rattle.conduct.specs.Desk.Calls.{noted, Fine}
use Rattle.conduct.specs.Desk.Polls.{waiting, Answers, Same, PollsByT, TPolls, PollOldest, PollEmpty, KeyByLine, OthersLeave}
use Rattle.conduct.proofs.Desk.Waiting.{oldest-taken, oldest-first}
use Rattle.desk.proofs.Sendings.{hear-room, hear-applied}
use Rattle.conduct.proofs.Desk.Steps.{never}
use Rattle.conduct.proofs.Desk.Kept.{fits}
use Rattle.conduct.proofs.Desk.Handled.{sends-t, HandledAs, read, unread, handled-heard}

-- a poll heard, after the first rule
module _ (d : Desk) (f : Fine d) (at n : ℕ) (out : List ℕ) where
  abbrev pub polled : Bool → Hearing
  polled b = handled_of (noted_of d b) b at n (reply_to (noted_of d b) poll) out

  oldest-leaves : ¬ (d.queued ≡ 0) → waiting d ≡ get_or d.queue 0 blank ∷ take (d.queued - 1) (shifted d.queue)
  oldest-leaves q =
      oldest-first d.queue d.queued f.holds (omega arith)
      ∙ ap (λ (x : List Waiting). get_or d.queue 0 blank ∷ x) (sym (oldest-taken d.queue d.queued f.holds (fits d f).few))

  pub takes-oldest : (b : Bool) → ¬ (d.queued ≡ 0)
      → (waiting d ≡ get_or d.queue 0 blank ∷ waiting (polled b).0) × Answers d.line (oldest d) n b queue out (polled b)
  unfolding handled_of sent_of polled_of noted_of
  takes-oldest true q = rw (ne_eqb d.queued 0 q) (oldest-leaves q, (refl, refl))
  takes-oldest false q = rw (ne_eqb d.queued 0 q) (oldest-leaves q, (refl, refl))

  none-wait : d.queued ≡ 0 → waiting d ≡ []
  none-wait q = ap (λ (k : ℕ). take k d.queue) q

  pub answers-key : (b : Bool) → d.queued ≡ 0
      → (waiting d ≡ []) × (waiting (polled b).0 ≡ [])
      × Answers d.line (Approved (key_on d.line d.key)) n b (key (key_on d.line d.key)) out (polled b)
  unfolding handled_of sent_of polled_of noted_of key_on
  answers-key true q = rw (eq-eqb d.queued 0 q) (none-wait q, none-wait q, (refl, refl))
  answers-key false q = rw (eq-eqb d.queued 0 q) (none-wait q, none-wait q, (refl, refl))

pub key-by-line : KeyByLine
unfolding line_of key_on
key-by-line position = refl

-- the first rule leaves the queue as it was
noted-queue : (d : Desk) (b : Bool) → Same d (noted_of d b)
unfolding noted_of
noted-queue d true = (refl, refl)
noted-queue d false = (refl, refl)

-- so does the answer to any other telegram
reply-queue : (d : Desk) (what : What) → ¬ (what ≡ poll) → Same d (taken_by d (reply_to d what).1)
reply-queue d (contents x) h = (refl, refl)
reply-queue d not_master h = (refl, refl)
reply-queue d request h = asked d.requested
  where
    asked : (w : Option Record) → Same d (taken_by d (asked_of w).1)
    asked None = (refl, refl)
    asked (Some rec) = (refl, refl)
reply-queue d poll h = absurd (h refl)
reply-queue d (other rec) h = (refl, refl)

ruled-queue : (d : Desk) (b : Bool) (at : ℕ) (r : Ruling) (out : List ℕ) → ((n : ℕ) → ¬ (r ≡ handle n poll)) → Same d (applied_of d b at r out).0
unfolding faulted_of repeated_of handled_of
ruled-queue d b at (silent x) out h = (refl, refl)
ruled-queue d b at (fault x n) out h = (refl, refl)
ruled-queue d b at (repeat n what) out h = (refl, refl)
ruled-queue d b at (handle n what) out h = reply-queue d what (λ e. h n (ap (handle n) e))

-- only a frame read as t polls
module _ (line : ℕ) (frame : List ℕ) where
  matter-poll : (rec : Record) → matter_in line rec ≡ poll → type_of rec ≡ code "t"
  unfolding matter_in
  matter-poll rec e = go (by_master line (type_of rec)) (eqb (type_of rec) (code "r")) (eqb (type_of rec) (code "t")) (eqb-true (type_of rec) (code "t")) e
    where
      go : (m r t : Bool) → (t ≡ true → type_of rec ≡ code "t") → cond m (cond r request (cond t poll (other rec))) not_master ≡ poll → type_of rec ≡ code "t"
      go true true t k e = never (cc)
      go true false true k e = k refl
      go true false false k e = never (cc)
      go false r t k e = never (cc)

  heard-poll : (k : ℕ) (what : What) → HandledAs line frame k what → what ≡ poll → (rec : Record) × (reading_of line frame ≡ accepted rec k) × (type_of rec ≡ code "t")
  heard-poll k what (read {rec} q) e = (rec, q, matter-poll rec e)
  heard-poll k what (unread q a b) e = never (cc)

pub polls-by-t : PollsByT
polls-by-t line good last n frame e = heard-poll line frame n poll (handled-heard line good last n poll frame e).0 refl

pub t-polls : TPolls
t-polls line good last l frame rec n r t h =
    let m = a-poll line rec (code "t") (sym t) (sends-t line l) (λ q. omega arith) refl in
    sym (ap (handle n) m ∙ good-handled good last n (matter_in line rec) h ∙ when-accepted line good last frame rec n (sym r))

by-reply : (d : Desk) → Fine d → (at : ℕ) (frame out : List ℕ) → longest ≤ length out → (n : ℕ) (what : What) → ruling (noted d at) frame ≡ handle n what
    → handled_of (noted d at) (loses_line d at) at n (reply_to (noted d at) what) out ≡ hear_of d at frame out
by-reply d f at frame out room n what e = hear-applied d at frame out f.ranged room (loses_line d at) refl (noted d at) refl (handle n what) (sym e)

pub poll-oldest : PollOldest
poll-oldest d f at frame out room n e q = rw (← (by-reply d f at frame out room n poll e)) (takes-oldest d f at n out (loses_line d at) q)

pub poll-empty : PollEmpty
poll-empty d f at frame out room n e q = rw (← (by-reply d f at frame out room n poll e)) (answers-key d f at n out (loses_line d at) q)

pub others-leave : OthersLeave
others-leave d f at frame out h =
    on_test (leb longest (length out))
    (λ b.
    let e = hear-applied d at frame out f.ranged (leb-true longest (length out) b) (loses_line d at) refl (noted d at) refl (ruling (noted d at) frame) refl in
    let x = noted-queue d (loses_line d at) in
    let y = ruled-queue (noted d at) (loses_line d at) at (ruling (noted d at) frame) out h in
    rw (← e) (y.0 ∙ x.0, y.1 ∙ x.1))
    (λ b. rw (← (hear-room d at frame out f.ranged (leb-false longest (length out) b))) (refl, refl))
