-- `put_answer` puts the parts of each of the two texts one behind the other. Assumes nothing.
use Rattle.std.proofs.Common.{arith, rules}
use Rattle.records.specs.Refusals.{refusal_of}
use Rattle.text.proofs.Puts.{then}
use Rattle.captures.proofs.Puts.{ok-room, no_room, as-no}
use Rattle.captures.proofs.listing.put_answer.Goals as goal

pub returns-in-Ok : goal.returns-in-Ok
returns-in-Ok c =
    rw (c.in-Ok.is, ← c.type_of.ensures) (
      then _ _ _ _ _ _ _ _ c.put_text-a.ensures (then _ _ _ _ _ _ _ _ c.put_byte-b.ensures (then _ _ _ _ _ _ _ _ c.put_byte-c.ensures
          (then _ _ _ _ _ _ _ _ c.put_number-d.ensures c.put_byte.ensures))),
      ok-room c.in-Ok.field-0.rec c.in-Ok.field-0.number (search rules),
    )

pub returns-in-Err : goal.returns-in-Err
returns-in-Err c =
    let x = c.in-Err.refusal in
    rw c.in-Err.is (
      then _ _ _ _ _ _ _ _ c.put_byte-a.ensures (then _ _ _ _ _ _ _ _ (as-no (refusal_of x) _ _ _ _ _ _ c.number_of.ensures c.place_of.ensures c.put_no-b.ensures)
          c.put_byte-in-Err.ensures),
      no_room (refusal_of x) (omega (arith, c.number_of.ensures)) (omega (arith, c.place_of.ensures)),
    )
