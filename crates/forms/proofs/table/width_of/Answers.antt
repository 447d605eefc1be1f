-- The lengths of as many packets as a form has. Assumes nothing.
use Rattle.std.proofs.Common.{sym, arith, length-take-le}
use Rattle.forms.proofs.Slots.{count_small}
use Rattle.forms.proofs.table.width_of.Goals as goal

pub slice_bounds-width_by-end : goal.slice_bounds-width_by-end
slice_bounds-width_by-end c = sym (length-take-le _ c.args.form.lens (omega (arith, c.count_of-count.ensures, count_small c.args.form)))
