-- `gather_hit` is a hit on the gatherer that is loaded from the block. Assumes nothing.
use Rattle.std.proofs.Common.{◌≡◌, refl, arith, rules, Err}
use Rattle.records.specs.declared.refusals.Refusal.TheVariants.{State}
use Rattle.blocks.proofs.InPlace.{whole, hit-in, refused-in}
use Rattle.blocks.proofs.gatherers.gather_hit.Goals as goal

pub returns-in_err-gathered_in : goal.returns-in_err-gathered_in
returns-in_err-gathered_in c =
    let e : c.from_residual.result ≡ Err State = search rules in
    rw e (refused-in _ _ _ refl c.in_err-gathered_in.ensures.many.1)

pub bounds-block-4 : goal.bounds-block-4
bounds-block-4 c = omega (arith, whole _ _ c.in_ok-gathered_in.ensures.few.0 c.in_ok-gathered_in.ensures.few.1)

pub returns : goal.returns
returns c = hit-in _ _ _ c.in_ok-gathered_in.ensures.few.0 c.in_ok-gathered_in.ensures.few.1 refl
