-- `span_of` goes from CR to CR: no telegram ends before the loop's place.
use Rattle.std.proofs.Common.{◌≡◌, ◌-◌, length, arith}
use Rattle.cutting.proofs.Looked.{no-telegram, no-telegram-ends, first_ends, cr-passed}
use Rattle.cutting.proofs.search.span_of.Goals as goal

pub returns-in_err-end : goal.returns-in_err-end
returns-in_err-end c =
    let s = c.args.s.now in
    let l = c.loop-place in
    rw c.from_residual.ensures (no-telegram-ends s c.args.from l.place (length s) l.invariant c.in_err-end.ensures (omega arith))

pub returns-in-Some : goal.returns-in-Some
returns-in-Some c =
    let s = c.args.s.now in
    let l = c.loop-place in
    let end = c.in_ok-end.end in
    let b : end - (end - c.in-Some.start) ≡ c.in-Some.start = omega (arith, c.in-Some.ensures.0) in
    rw b at (first_ends s c.args.from l.place end (end - c.in-Some.start) l.invariant c.in_ok-end.ensures.1 c.in_ok-end.ensures.0 c.in-Some.ensures.1 (omega (arith, c.in-Some.ensures.0)))

pub loop-place-preserved : goal.loop-place-preserved
loop-place-preserved c =
    let l = c.loop-place in
    cr-passed c.args.s.now c.args.from l.place _ l.invariant c.in_ok-end.ensures.1 c.in_ok-end.ensures.0 c.in_default.ensures

pub returns : goal.returns
returns c = no-telegram c.args.s.now c.args.from c.loop-place.place c.loop-place.invariant c.loop-place-test.false
