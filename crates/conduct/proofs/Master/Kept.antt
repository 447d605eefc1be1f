-- From the start, under any calls in any order with any inputs, the master's state is in its ranges (rules E3, E11). Assumes nothing.
use mathlib.Core.Path.{◌≡◌, refl, ap, ◌∙◌}
use mathlib.Core.Bool.{Bool, true, false, cond}
use mathlib.Core.List.{List, [], ◌∷◌}
use Prim.Native.Nat.{ℕ, ◌<◌}
use native.Mathlib.Omega.{arith}
use lib.Dec.{eqb}
use borrow.Author.Tests.{lt-ltb}
use Rattle.laws.specs.Truth.{either}
use Rattle.laws.proofs.Truths.{clash}
use Rattle.records.specs.Refusals.{No}
use Rattle.records.specs.Records.{type_of}
use Rattle.forms.specs.Lines.{is_line}
use Rattle.master.specs.Times.{operation_fits}
use Rattle.master.proofs.Positions.{after-fits}
use Rattle.clock.specs.Counters.{changed_of}
use Rattle.master.specs.declared.state.Master.{Master}
use Rattle.master.specs.Answers.{Told, refused}
use Rattle.master.specs.State.{is_free, sendable, fits_free, in_ranges, started}
use Rattle.master.specs.Sending.{Behind, sending_of}
use Rattle.master.proofs.Ranges.{lined, numbered, flagged, counted, sends}
use Rattle.conduct.specs.Master.Calls.{Call, after, run}
use Rattle.conduct.specs.Master.Kept.{Never15}
use Rattle.conduct.proofs.Master.Calls.{Quiet, barred, idle, unheard, Ends, permitted, strange, Does, stays, begins, repeats, ends, gives_up, does}

-- the start is in range
pub start-ranged : (line at : ℕ) → is_line line ≡ true → in_ranges (started line at) ≡ true
unfolding operation_fits fits_free in_ranges
start-ranged line at h = rw h

-- free on a line with a number and a flag in range
free-ranged : (m : Master) → is_line m.line ≡ true → m.number.0 < 2 → operation_fits m.line m.operation ≡ true → m.count ≡ 0 → in_ranges m ≡ true
unfolding fits_free in_ranges
free-ranged m l n o f = rw (l, lt-ltb m.number.0 2 n, o, f)

-- not free, with a record that the master may send
busy-ranged : (m : Master) → is_line m.line ≡ true → m.number.0 < 2 → operation_fits m.line m.operation ≡ true → m.count < 4 → sendable m.line m.rec ≡ true
    → in_ranges m ≡ true
unfolding fits_free in_ranges
busy-ranged m l n o c s = rw (l, lt-ltb m.number.0 2 n, o, lt-ltb m.count 4 c, s) (either_true (is_free m))
  where
    either_true : (b : Bool) → either b true ≡ true
    either_true true = refl
    either_true false = refl

-- a changed number is 0 or 1
changed-small : (n : ℕ) → changed_of n < 2
changed-small n = go (eqb n 0)
  where
    go : (b : Bool) → cond b 1 0 < 2
    go true = omega arith
    go false = omega arith

-- each call keeps the ranges
pub keeps : (m : Master) → in_ranges m ≡ true → (call : Call) → in_ranges (after m call).0 ≡ true
unfolding sending_of
keeps m h call = go (after m call) (does m h call)
  where
    ended-flag : (told : Told) (o : Bool) → Ends m told o → operation_fits m.line o ≡ true
    ended-flag told o (permitted {rec = rec}) = after-fits m.line (type_of m.rec) rec m.operation (flagged m h)
    ended-flag told o strange = flagged m h

    go : (turn : Behind) → Does m call turn → in_ranges turn.0 ≡ true
    go turn (stays told q) = h
    go turn (begins which rec f free s r) = busy-ranged turn.0 (lined m h) (numbered m h) (flagged m h) (omega arith) s
    go turn (repeats g f n r) =
        busy-ranged turn.0 (lined m h) (numbered m h) (flagged m h) (omega (arith, counted m h f)) (sends m h f)
    go turn (ends told o e f b) = free-ranged turn.0 (lined m h) (changed-small m.number.0) (ended-flag told o e) refl
    go turn (gives_up ground f c) = free-ranged turn.0 (lined m h) (omega arith) (flagged m h) refl

-- under any calls the state is in its ranges
pub stays-ranged : (m : Master) → in_ranges m ≡ true → (calls : List Call) → in_ranges (run m calls) ≡ true
stays-ranged m h [] = h
stays-ranged m h (call ∷ calls) = stays-ranged (after m call).0 (keeps m h call) calls

-- in its ranges a state is not refused 15
pub not-15 : (m : Master) → in_ranges m ≡ true → (call : Call) (x : No) → (after m call).1.0 ≡ refused x → ¬ (x.number ≡ 15)
unfolding sending_of
not-15 m h call x e = go (after m call) (does m h call) e
  where
    quiet : (told : Told) → Quiet told → told ≡ refused x → ¬ (x.number ≡ 15)
    quiet told (barred {x = y} n) q k = let z : y ≡ x = cc in n (ap (λ (w : No). w.number) z ∙ k)
    quiet told idle q k = clash (cc)
    quiet told unheard q k = clash (cc)

    over : (told : Told) (b : Bool) → Ends m told b → told ≡ refused x → ¬ (x.number ≡ 15)
    over told b permitted q = clash (cc)
    over told b strange q = clash (cc)

    go : (turn : Behind) → Does m call turn → turn.1.0 ≡ refused x → ¬ (x.number ≡ 15)
    go turn (stays told n) q = quiet told n q
    go turn (begins which rec f free s r) q = clash (cc)
    go turn (repeats g f n r) q = clash (cc)
    go turn (ends told o n f b) q = over told o n q
    go turn (gives_up ground f c) q = clash (cc)

pub never-15 : Never15
never-15 line at h calls call =
    let k = stays-ranged (started line at) (start-ranged line at h) calls in
    (k, not-15 (run (started line at) calls) k call)
