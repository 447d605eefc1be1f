-- `gather_byte` is a byte's step of the gatherer that is loaded from the block; the index that the byte's turn names lies in it. Assumes nothing.
use Rattle.std.proofs.Common.{◌≡◌, refl, sym, arith, rules, Err}
use Rattle.records.specs.declared.refusals.Refusal.TheVariants.{State}
use Rattle.cutting.proofs.Cases.{joins_at, ends_at}
use Rattle.blocks.proofs.InPlace.{whole, joins-in, ends-in, drops-in, refused-in}
use Rattle.blocks.proofs.gatherers.gather_byte.Goals as goal

pub returns-in_err-len : goal.returns-in_err-len
returns-in_err-len c =
    let e : c.from_residual.result ≡ Err State = search rules in
    rw e (refused-in _ _ _ refl c.in_err-len.ensures.many.1)

pub overflow_add-at : goal.overflow_add-at
overflow_add-at c = omega (arith, c.in_ok-len.ensures.few.1, (joins_at _ _ _ (sym c.in-Joins.ensures)).1)

pub overflow_cast-at : goal.overflow_cast-at
overflow_cast-at c = omega (arith, c.in_ok-len.ensures.few.1, (joins_at _ _ _ (sym c.in-Joins.ensures)).1)

pub put-requires : goal.put-requires
put-requires c = omega (arith, whole _ _ c.in_ok-len.ensures.few.0 c.in_ok-len.ensures.few.1, (joins_at _ _ _ (sym c.in-Joins.ensures)).1)

pub put-requires-in-Ends : goal.put-requires-in-Ends
put-requires-in-Ends c =
    omega (arith, whole _ _ c.in_ok-len.ensures.few.0 c.in_ok-len.ensures.few.1, c.in_ok-len.ensures.few.1, ends_at _ _ _ (sym c.in-Ends.ensures))

pub overflow_add-result : goal.overflow_add-result
overflow_add-result c = omega (arith, c.in_ok-len.ensures.few.1, ends_at _ _ _ (sym c.in-Ends.ensures))

pub bounds-block-4 : goal.bounds-block-4
bounds-block-4 c = omega (arith, whole _ _ c.in_ok-len.ensures.few.0 c.in_ok-len.ensures.few.1)

pub returns-in-Joins : goal.returns-in-Joins
returns-in-Joins c = joins-in _ _ _ c.in_ok-len.ensures.few.0 c.in_ok-len.ensures.few.1 _ _ (sym c.in-Joins.ensures) c.put.ensures

pub returns-in-Ends : goal.returns-in-Ends
returns-in-Ends c = ends-in _ _ _ c.in_ok-len.ensures.few.0 c.in_ok-len.ensures.few.1 _ _ (sym c.in-Ends.ensures) c.put-in-Ends.ensures

pub returns-in-Drops : goal.returns-in-Drops
returns-in-Drops c = drops-in _ _ _ c.in_ok-len.ensures.few.0 c.in_ok-len.ensures.few.1 _ (sym c.in-Drops.ensures) refl
