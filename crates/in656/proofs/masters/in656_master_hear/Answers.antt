-- `in656_master_hear` is the call by value on the state that is loaded; without a block there is no room. Assumes nothing.
use Rattle.std.proofs.Common.{ne_eqb}
use Rattle.in656.specs.Masters.{master_hear}
use Rattle.in656.proofs.Calls.{master-hears}
use Rattle.in656.proofs.masters.in656_master_hear.Goals as goal

pub returns-then-block-ne-RECORD_LENGTH : goal.returns-then-block-ne-RECORD_LENGTH
unfolding master_hear
returns-then-block-ne-RECORD_LENGTH c =
    rw (ne_eqb _ _ c.if-block-ne-RECORD_LENGTH.true, ← c.load-master.ensures, ← c.hear.ensures, c.from.ensures)

pub returns : goal.returns
returns c =
    master-hears _ _ _ _ _ _ _ _ _ _ _ _ _ c.load-master.ensures c.if-block-ne-RECORD_LENGTH.false c.hear-step.ensures c.close-r.ensures c.put_answer.ensures c.master_frame.ensures
