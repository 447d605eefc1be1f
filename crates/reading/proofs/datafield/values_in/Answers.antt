-- `reading::datafield::values_in` meets its contract.
use Rattle.std.proofs.Common.{◌≡◌, ℕ, suc, ◌+◌, ◌-◌, List, [], refl, ap, ◌∙◌, get_or, take, drop, arith}
use lib.ListN.{length-set}
use Rattle.laws.specs.Truth.{pad}
use Rattle.forms.specs.Forms.{slots_in, slots_of}
use Rattle.forms.proofs.Slots.{count_small, slots_end}
use Rattle.values.specs.Values.{value_of}
use Rattle.reading.proofs.Filled.{filled-step, behind-step, filled-end}
use Rattle.reading.proofs.Walk.{value-here}
use Rattle.reading.proofs.datafield.values_in.Goals as goal

pub loop-j-init : goal.loop-j-init
loop-j-init c =
    let n = c.count_of-count.result in
    let z : n - 0 ≡ n = omega arith in
    (omega (arith, c.count_of-count.ensures, count_small c.args.form), omega arith, omega arith, refl, refl, rw z)

pub loop-j-preserved : goal.loop-j-preserved
loop-j-preserved c =
    let a = c.args in
    let l = c.loop-j in
    let w = c.wide-len in
    let k : 10 - l.j ≡ suc (10 - (l.j + 1)) = omega arith in
    let t = take w.result (drop (l.at + 1) a.field.now) in
    let x : c.value_of.result ≡ value_of (get_or a.form.letters l.j 0) t =
    c.value_of.ensures ∙ ap (λ (u : List ℕ). value_of (get_or a.form.letters l.j 0) u) c.part.ensures in
    let n = c.count_of-count.result in
    let h = value-here a.form.letters a.form.lens a.field.now n l.j l.at c.loop-j-test.true (10 - (l.j + 1)) w.result w.ensures.0 in
    let g = rw (k, h, ← x) at l.invariant.5 in (
      l.invariant.0,
      omega arith,
      omega (arith, w.ensures.1),
      simp length-set l.invariant.3,
      behind-step l.values (pad 10 []) l.j c.value_of.result l.invariant.4,
      filled-step l.values l.j c.value_of.result _ _ (omega arith) g,
    )

pub returns : goal.returns
unfolding slots_of
returns c =
    let a = c.args in
    let l = c.loop-j in
    let n = c.count_of-count.result in
    let e : slots_in (n - l.j) (drop l.j a.form.letters) (drop l.j a.form.lens) ≡ [] =
    slots_end (drop l.j a.form.letters) (drop l.j a.form.lens) n l.j c.loop-j-test.false in
    filled-end l.values l.j (drop l.at a.field.now) _ (omega arith) l.invariant.4 (rw e at l.invariant.5) ∙ rw c.count_of-count.ensures
