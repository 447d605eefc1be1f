-- `hear` lends as much room as the row gives. Assumes nothing.
use Rattle.std.proofs.Common.{refl}
use Rattle.scripts.specs.Desks.Behind.{hear_row}
use Rattle.scripts.proofs.Meant.{meant-front, within, lent_length, lent}
use Rattle.scripts.proofs.desks.behind.hear.Goals as goal

pub slice_bounds-output-end : goal.slice_bounds-output-end
slice_bounds-output-end c = within _ c.room.ensures

pub slice_bounds-hear_frame-end : goal.slice_bounds-hear_frame-end
slice_bounds-hear_frame-end c = lent_length _ _ c.room.ensures refl

pub returns : goal.returns
unfolding hear_row
returns c = rw (c.hear_frame.ensures, c.part.ensures, meant-front 4 _ _ _ _ refl c.meant-n.ensures, lent _ c.room.ensures)
