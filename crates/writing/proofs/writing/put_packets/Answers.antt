-- `writing::writing::put_packets` meets its contract.
use Rattle.std.proofs.Common.{◌≡◌, ◌-◌, [], sym, ◌∙◌, take, drop, arith}
use mathlib.Core.List.{append-nil}
use native.Mathlib.Nat.{zero-add}
use lib.Seq.{take_all}
use Rattle.forms.specs.Forms.{width_in, width_of, slots_in, slots_of}
use Rattle.forms.proofs.Slots.{count_small, slots_end, width-here}
use Rattle.reading.specs.Contents.{data_of}
use Rattle.writing.proofs.Put.{packet-here}
use Rattle.writing.proofs.writing.put_packets.Goals as goal

pub loop-j-init : goal.loop-j-init
unfolding width_of slots_of
loop-j-init c =
    let n = c.count_of-count.result in
    let z : n - 0 ≡ n = omega arith in
    (omega (arith, c.count_of-count.ensures, count_small c.args.form), omega arith, rw (z, zero-add, c.count_of-count.ensures) (sym c.requires), rw z)

pub slice_bounds-put_packet-end : goal.slice_bounds-put_packet-end
slice_bounds-put_packet-end c =
    let a = c.args in
    omega (arith, width-here a.form.letters a.form.lens c.count_of-count.result c.loop-j.j c.loop-j-test.true, c.wide.ensures.0)

pub loop-j-preserved : goal.loop-j-preserved
loop-j-preserved c =
    let a = c.args in
    let l = c.loop-j in
    let w = c.wide in
    let n = c.count_of-count.result in
    let k = width-here a.form.letters a.form.lens n l.j c.loop-j-test.true in (
      l.invariant.0,
      omega arith,
      omega (arith, w.ensures.0),
      packet-here a.form.letters a.form.lens a.values n l.j c.loop-j-test.true l.field _ _ l.at w.result w.ensures.0
          (omega (arith, w.ensures.0)) c.put_packet.auto.part c.put_packet.ensures l.invariant.3,
    )

pub returns : goal.returns
unfolding slots_of data_of width_in
returns c =
    let a = c.args in
    let l = c.loop-j in
    let n = c.count_of-count.result in
    let e : slots_in (n - l.j) (drop l.j a.form.letters) (drop l.j a.form.lens) ≡ [] =
    slots_end (drop l.j a.form.letters) (drop l.j a.form.lens) n l.j c.loop-j-test.false in
    let k = rw e at l.invariant.2 in
    let t : take l.at l.field ≡ l.field = take_all l.at l.field (omega arith) in
    (rw (e, t, append-nil) at l.invariant.3) ∙ rw c.count_of-count.ensures
