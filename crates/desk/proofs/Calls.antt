-- What the clock's tick answers, a lemma for each of its returns. Assumes nothing.
use mathlib.Core.Path.{◌≡◌}
use mathlib.Core.Bool.{true, false}
use Prim.Native.Nat.{ℕ}
use Rattle.records.specs.Refusals.{no}
use Rattle.desk.specs.Answers.{done, lost, refused}
use Rattle.desk.specs.State.{in_ranges}
use Rattle.desk.specs.Panel.{loses_line, noted_of, tick_of}
use Rattle.desk.specs.declared.state.Desk.{Desk}

module _ (d : Desk) (at : ℕ) where
  pub tick-refused : in_ranges d ≡ false → (d, refused (no 15 0)) ≡ tick_of d at
  unfolding tick_of
  tick-refused h = rw h

  pub tick-lost : in_ranges d ≡ true → loses_line d at ≡ true → (e : Desk) → e ≡ noted_of d true → (e, lost) ≡ tick_of d at
  unfolding tick_of
  tick-lost h k e g = rw (h, k, g)

  pub tick-done : in_ranges d ≡ true → loses_line d at ≡ false → (e : Desk) → e ≡ noted_of d false → (e, done) ≡ tick_of d at
  unfolding tick_of
  tick-done h k e g = rw (h, k, g)
