-- `reading::datafield::first_packet` meets its contract.
use Rattle.std.proofs.Common.{rules, ◌≡◌, ◌+◌, ◌-◌, ◌≤◌, [], ◌∷◌, ◌++◌, length, length-append, length-take-le, sym, ◌∙◌, drop, arith}
use Rattle.forms.specs.Forms.{slots_in, slots_of}
use Rattle.forms.proofs.Slots.{count_small, slots_end}
use Rattle.reading.specs.DataField.{first_packet}
use Rattle.reading.proofs.Walk.{turn, all_turns, packet-right, packet-wrong}
use Rattle.reading.proofs.datafield.first_packet.Goals as goal

pub slice_bounds-iter-end : goal.slice_bounds-iter-end
slice_bounds-iter-end g c = sym (length-take-le _ c.args.form.letters (omega (arith, c.count_of-count.ensures, count_small c.args.form)))

pub slice_bounds-zip-end : goal.slice_bounds-zip-end
slice_bounds-zip-end g c = sym (length-take-le _ c.args.form.lens (omega (arith, c.count_of-count.ensures, count_small c.args.form)))

pub loop-letter-init : goal.loop-letter-init
loop-letter-init g c =
    let n = c.count_of-count.result in
    let z : n - 0 ≡ n = omega arith in
    (omega (arith, c.count_of-count.ensures, count_small c.args.form), omega arith, omega arith, λ test k. rw z)

pub returns-then-not-fits : goal.returns-then-not-fits
unfolding slots_of
returns-then-not-fits g c =
    let f = c.args.form in
    let l = c.loop-letter in
    let p = turn f.letters f.lens c.count_of-count.result l.yielded c.into_iter-letter-iterator.result l.letter-iterator c.next.new.self c.next.result (search rules) (search rules) l.yielded_by c.next.ensures.steps _ c.in-Some.is in
    λ test k.
    sym (packet-wrong f.letters f.lens c.args.field.now c.count_of-count.result (length l.yielded) l.at p.0 test c.wide-width.result (c.wide-width.ensures.0 ∙ p.2)
    (rw (← p.1, ← c.part.ensures) (sym (k _ _ _ c.fits.ensures) ∙ c.if-not-fits.true)))
    ∙ l.invariant.3 test k ∙ rw c.count_of-count.ensures

pub overflow_add-at : goal.overflow_add-at
overflow_add-at g c = omega (arith, c.wide-width.ensures.1)

pub loop-letter-preserved : goal.loop-letter-preserved
loop-letter-preserved g c =
    let f = c.args.form in
    let l = c.loop-letter in
    let p = turn f.letters f.lens c.count_of-count.result l.yielded c.into_iter-letter-iterator.result l.letter-iterator c.next.new.self c.next.result (search rules) (search rules) l.yielded_by c.next.ensures.steps _ c.in-Some.is in
    let q : length (l.yielded ++ ((c.in-Some.letter, c.in-Some.len) ∷ [])) ≡ length l.yielded + 1 = length-append _ _ in
    rw q (
      l.invariant.0,
      omega (arith, p.0),
      omega (arith, c.wide-width.ensures.1),
      λ test k.
          sym (packet-right f.letters f.lens c.args.field.now c.count_of-count.result (length l.yielded) l.at p.0 test c.wide-width.result (c.wide-width.ensures.0 ∙ p.2)
          (rw (← p.1, ← c.part.ensures) (sym (k _ _ _ c.fits.ensures) ∙ c.if-not-fits.false)))
          ∙ l.invariant.3 test k,
    )

pub returns : goal.returns
unfolding slots_of first_packet
returns g c =
    let f = c.args.form in
    let l = c.loop-letter in
    let n = c.count_of-count.result in
    let ten : n ≤ 10 = omega (arith, c.count_of-count.ensures, count_small f) in
    let some : n ≤ length f.letters = omega arith in
    let more : n ≤ length f.lens = omega arith in
    let end = all_turns f.letters f.lens n l.yielded c.into_iter-letter-iterator.result l.letter-iterator c.next.new.self c.next.result (search rules) (search rules) l.yielded_by c.next.ensures.steps some more c.in-None.is in
    let e : slots_in (n - length l.yielded) (drop (length l.yielded) f.letters) (drop (length l.yielded) f.lens) ≡ [] =
    slots_end (drop (length l.yielded) f.letters) (drop (length l.yielded) f.lens) n (length l.yielded) end in
    λ test k. let q = l.invariant.3 test k in (rw e at q) ∙ rw c.count_of-count.ensures
