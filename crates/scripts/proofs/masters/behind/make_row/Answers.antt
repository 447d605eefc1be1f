-- `make_row` lends as much room as the row gives. Assumes nothing.
use Rattle.std.proofs.Common.{refl}
use Rattle.scripts.specs.Masters.Behind.{make_row}
use Rattle.scripts.proofs.Meant.{within, lent_length, lent}
use Rattle.scripts.proofs.masters.behind.make_row.Goals as goal

pub slice_bounds-output-end : goal.slice_bounds-output-end
slice_bounds-output-end c = within _ c.room.ensures

pub slice_bounds-make_in-end : goal.slice_bounds-make_in-end
slice_bounds-make_in-end c = lent_length _ _ c.room.ensures refl

pub returns : goal.returns
unfolding make_row
returns c = rw (c.make_in.ensures, lent _ c.room.ensures)
