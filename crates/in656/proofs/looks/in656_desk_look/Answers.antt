-- `in656_desk_look` makes the tests of its definition in order. Assumes nothing.
use Rattle.desk.proofs.Ranges.{ranges-parts}
use Rattle.in656.proofs.Looking.{not_seen, all_seen, it_fits}
use Rattle.in656.proofs.looks.in656_desk_look.Goals as goal

pub returns-in-Err : goal.returns-in-Err
returns-in-Err c = rw (← c.load-desk.ensures) (not_seen _ _ c.in_ranges.ensures _ _ _ _ c.in-Err.ensures c.refuse.ensures)

pub desk_seen-requires : goal.desk_seen-requires
desk_seen-requires c = (ranges-parts _ (it_fits _ _ c.in_ranges.ensures _ c.in_default.ensures)).few

pub returns : goal.returns
returns c = rw (← c.load-desk.ensures) (all_seen _ _ c.in_ranges.ensures _ _ _ c.in_default.ensures (rw (← c.desk_seen.ensures) c.show_set.ensures))
