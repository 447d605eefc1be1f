-- `in656_master_look` makes the tests of its definition in order. Assumes nothing.
use Rattle.in656.proofs.Looking.{not_seen, all_seen}
use Rattle.in656.proofs.looks.in656_master_look.Goals as goal

pub returns-in-Err : goal.returns-in-Err
returns-in-Err c = rw (← c.load-master.ensures) (not_seen _ _ c.in_ranges.ensures _ _ _ _ c.in-Err.ensures c.refuse.ensures)

pub returns : goal.returns
returns c = rw (← c.load-master.ensures) (all_seen _ _ c.in_ranges.ensures _ _ _ c.in_default.ensures c.show_master.ensures)
