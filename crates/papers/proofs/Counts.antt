-- The table of forms has the byte counts of the paper, computed. Assumes nothing.
use mathlib.Core.Path.{refl}
use Rattle.forms.specs.Forms.{forms, slots_in, count_of, slots_of, width_in, width_of}
use Rattle.papers.specs.Counts.{SameCounts}

pub same-counts : SameCounts
unfolding forms slots_in count_of slots_of width_in width_of
same-counts = refl
