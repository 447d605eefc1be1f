-- What a state in its ranges says of each part. Assumes nothing.
use mathlib.Core.Path.{◌≡◌}
use mathlib.Core.Bool.{Bool, true, false, not}
use Prim.Native.Nat.{ℕ, ◌≤◌}
use lib.Dec.{leb, eqb}
use lib.ListN.{take}
use native.Mathlib.Omega.{arith}
use borrow.Author.Tests.{le-leb, leb-true, eqb-true}
use Rattle.laws.specs.Truth.{from, every}
use Rattle.laws.proofs.Truths.{both_left, both_right, both_true}
use Rattle.laws.proofs.Passes.{on_test, on-cond, from-bounds}
use Rattle.forms.specs.Lines.{is_line}
use Rattle.clock.specs.Counters.{in_range}
use Rattle.characters.specs.Marks.{shortest, longest}
use Rattle.desk.specs.declared.state.Desk.{Desk}
use Rattle.desk.specs.Panel.{noted_of}
use Rattle.desk.specs.Fitting.{key_fits, wanted_fits}
use Rattle.desk.specs.Waiting.{waiting_fits, kept_fits}
use Rattle.desk.specs.State.{numbers_fit, records_fit, in_ranges}

-- what a state in its ranges says of each part
pub record Fits (d : Desk) : Type 0 where
  pub lined : is_line d.line ≡ true
  pub numbered : in_range d.last.0 ≡ true
  pub few : d.queued ≤ 8
  pub keyed : key_fits d.line d.key ≡ true
  pub stocked : kept_fits d.good d.kept ≡ true
  pub wanted : wanted_fits d.line d.requested ≡ true
  pub waiting : every (waiting_fits d.line) (take d.queued d.queue) ≡ true

pub ranges-parts : (d : Desk) → in_ranges d ≡ true → Fits d
unfolding in_ranges numbers_fit records_fit
ranges-parts d h =
    let n = both_left (numbers_fit d) (records_fit d) h in
    let r = both_right (numbers_fit d) (records_fit d) h in
    let n2 = both_right (is_line d.line) _ n in
    let n3 = both_right (in_range d.last.0) _ n2 in
    let r2 = both_right (kept_fits d.good d.kept) _ r in
    record {
      lined = both_left (is_line d.line) _ n;
      numbered = both_left (in_range d.last.0) _ n2;
      few = leb-true d.queued 8 (both_left (leb d.queued 8) _ n3);
      keyed = both_right (leb d.queued 8) _ n3;
      stocked = both_left (kept_fits d.good d.kept) _ r;
      wanted = both_left (wanted_fits d.line d.requested) _ r2;
      waiting = both_right (wanted_fits d.line d.requested) _ r2;
    }

pub parts-ranges : (d : Desk) → Fits d → in_ranges d ≡ true
unfolding in_ranges numbers_fit records_fit
parts-ranges d f =
    both_true (numbers_fit d) (records_fit d)
    (rw (f.lined, f.numbered, le-leb d.queued 8 f.few) f.keyed)
    (rw (f.stocked, f.wanted) f.waiting)

-- a stored answer has at most 66 bytes
pub kept-most : (good : Bool) (kept : ℕ) → kept_fits good kept ≡ true → kept ≤ longest
unfolding kept_fits
kept-most good kept h =
    on-cond (eqb kept 0) (not good) (from shortest longest kept) h (λ e _. omega (arith, eqb-true kept 0 e)) (λ _ k. (from-bounds shortest longest kept k).1)

-- a line noted lost keeps the ranges
lost-fits : (good : Bool) (kept : ℕ) → kept_fits good kept ≡ true → kept_fits false kept ≡ true
unfolding kept_fits
lost-fits good kept h = on_test (eqb kept 0) (λ e. rw e) (λ e. rw e (rw e at h))

noted-fits : (d : Desk) (lost : Bool) → Fits d → Fits (noted_of d lost)
unfolding noted_of
noted-fits d true f =
    record { lined = f.lined; numbered = f.numbered; few = f.few; keyed = f.keyed; stocked = lost-fits d.good d.kept f.stocked; wanted = f.wanted; waiting = f.waiting }
noted-fits d false f = f

pub noted_ranges : (d : Desk) (lost : Bool) → in_ranges d ≡ true → in_ranges (noted_of d lost) ≡ true
noted_ranges d lost h = parts-ranges (noted_of d lost) (noted-fits d lost (ranges-parts d h))
