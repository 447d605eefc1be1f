-- `in656_desk_hear` is the call by value on the state that is loaded; without a block there is no room. Assumes nothing.
use Rattle.std.proofs.Common.{ne_eqb}
use Rattle.in656.specs.Desks.{desk_hear}
use Rattle.in656.proofs.Calls.{desk-hears}
use Rattle.in656.proofs.desks.in656_desk_hear.Goals as goal

pub returns-then-block-ne-RECORD_LENGTH : goal.returns-then-block-ne-RECORD_LENGTH
unfolding desk_hear
returns-then-block-ne-RECORD_LENGTH c =
    rw (ne_eqb _ _ c.if-block-ne-RECORD_LENGTH.true, ← c.load-desk.ensures, ← c.hear.ensures, c.from.ensures)

pub returns : goal.returns
returns c =
    desk-hears _ _ _ _ _ _ _ _ _ _ _ _ _ c.load-desk.ensures c.if-block-ne-RECORD_LENGTH.false c.hear-hearing.ensures c.close_hearing-r.ensures c.desk_frame.ensures
