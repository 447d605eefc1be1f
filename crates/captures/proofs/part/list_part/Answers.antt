-- `list_part`: each line goes on with what is left of the output. Assumes nothing.
use Rattle.std.proofs.Common.{refl, ap, ◌∙◌, arith}
use Rattle.std.specs.Prelude.{Ok}
use Rattle.captures.specs.Part.{next_of, list_part}
use Rattle.captures.proofs.Listed.{told}
use Rattle.captures.proofs.part.list_part.Goals as goal

pub loop-found-init : goal.loop-found-init
unfolding list_part
loop-found-init c = (omega arith, refl)

pub overflow_add-filled : goal.overflow_add-filled
overflow_add-filled c =
    let l = c.loop-found in
    let a = l.at in
    let t = told a.line a.ordinal a.base c.args.s.now a.next l.out l.filled l.invariant.0 _ _ _ c.put_next.ensures (ap next_of (c.in-Ok.is ∙ ap Ok c.in-Some.is)) in
    omega (arith, t.2 c.put_next.auto.out)

pub loop-found-smaller : goal.loop-found-smaller
loop-found-smaller c =
    let l = c.loop-found in
    let a = l.at in
    let t = told a.line a.ordinal a.base c.args.s.now a.next l.out l.filled l.invariant.0 _ _ _ c.put_next.ensures (ap next_of (c.in-Ok.is ∙ ap Ok c.in-Some.is)) in
    omega (arith, t.0, t.1)

pub loop-found-preserved : goal.loop-found-preserved
loop-found-preserved c =
    let l = c.loop-found in
    let a = l.at in
    let t = told a.line a.ordinal a.base c.args.s.now a.next l.out l.filled l.invariant.0 _ _ _ c.put_next.ensures (ap next_of (c.in-Ok.is ∙ ap Ok c.in-Some.is)) in
    (omega (arith, t.2 c.put_next.auto.out), rw c.wrapping_add_u64.ensures.value (t.3 ∙ l.invariant.1))

pub returns-in_default-found : goal.returns-in_default-found
returns-in_default-found c =
    let l = c.loop-found in
    let a = l.at in
    told a.line a.ordinal a.base c.args.s.now a.next l.out l.filled l.invariant.0 _ _ _ c.put_next.ensures (ap next_of (c.in-Ok.is ∙ ap Ok c.in_default-found.is)) ∙ l.invariant.1

pub returns : goal.returns
returns c =
    let l = c.loop-found in
    let a = l.at in
    told a.line a.ordinal a.base c.args.s.now a.next l.out l.filled l.invariant.0 _ _ _ c.put_next.ensures (ap next_of c.in_default.is) ∙ l.invariant.1
