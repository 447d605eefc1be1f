-- T1 at its limit, in every state and at every reading of the clock (rules D4, K4). Assumes nothing.
use mathlib.Core.Path.{◌≡◌, refl, sym, ◌∙◌}
use mathlib.Core.Bool.{true, false}
use Prim.Native.Nat.{ℕ, ◌^◌, ◌≤◌, ◌<◌}
use native.Mathlib.Omega.{arith}
use Rattle.desk.specs.Deciding.{matter_in}
use Rattle.desk.proofs.Rulings.{no-repeat, good-handled, when-accepted}
use Rattle.desk.specs.Panel.{t1_limit, with_good, loses_line, noted_of}
use Rattle.desk.specs.declared.state.Desk.{Desk}
use Rattle.desk.proofs.Calls.{tick-lost, tick-done}
use Rattle.conduct.specs.Times.{clock_after}
use Rattle.conduct.specs.Desk.Timed.{TicksBeforeT1, HearsBeforeT1, TicksFromT1, HearsFromT1, TicksLost, TicksAt27999, TicksAt28000, HearsAt27999, HearsAt28000}
use Rattle.conduct.proofs.Times.{still-runs, has-run-out}
use Rattle.conduct.proofs.Desk.Repeats.{read-again}

-- so long after T1's start, on a good line
module _ (d : Desk) (good : d.good ≡ true) (start : d.t1 < 2 ^ 32) (ms : ℕ) where
  keeps_line : ms < 28000 → loses_line d (clock_after d.t1 ms) ≡ false
  unfolding loses_line
  keeps_line h = rw (good, still-runs d.t1 ms t1_limit start (omega arith) h)

  loses-line : 28000 ≤ ms → ms < 2 ^ 32 → loses_line d (clock_after d.t1 ms) ≡ true
  unfolding loses_line
  loses-line h k = rw (good, has-run-out d.t1 ms t1_limit start k h)

pub ticks-before-t1 : TicksBeforeT1
ticks-before-t1 ms h d f good start = sym (tick-done d _ f.ranged (keeps_line d good start ms h) d (unfold noted_of in refl))

pub hears-before-t1 : HearsBeforeT1
hears-before-t1 ms h d f good start frame rec r = read-again d _ frame rec r good (keeps_line d good start ms h)

pub ticks-from-t1 : TicksFromT1
ticks-from-t1 ms h k d f good start = sym (tick-lost d _ f.ranged (loses-line d good start ms h k) (with_good d false) (unfold noted_of in refl))

pub hears-from-t1 : HearsFromT1
unfolding noted_of
hears-from-t1 ms h k d f good start frame rec r =
    let last = d.last.0 in
    rw (loses-line d good start ms h k)
    (sym (good-handled false last last (matter_in d.line rec) (sym (no-repeat false last last refl)) ∙ when-accepted d.line false last frame rec last (sym r)))

stays-lost : (d : Desk) (at : ℕ) → d.good ≡ false → loses_line d at ≡ false
unfolding loses_line
stays-lost d at bad = rw bad

pub ticks-lost : TicksLost
ticks-lost d f bad at = sym (tick-done d at f.ranged (stays-lost d at bad) d (unfold noted_of in refl))

pub ticks-at-27999 : TicksAt27999
ticks-at-27999 = ticks-before-t1 27999 (omega arith)

pub ticks-at-28000 : TicksAt28000
ticks-at-28000 = ticks-from-t1 28000 (omega arith) (omega arith)

pub hears-at-27999 : HearsAt27999
hears-at-27999 = hears-before-t1 27999 (omega arith)

pub hears-at-28000 : HearsAt28000
hears-at-28000 = hears-from-t1 28000 (omega arith) (omega arith)
