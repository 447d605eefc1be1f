-- `list_part` goes from telegram to telegram: what the lines come to from the loop's place on is what they come to from the first. Assumes nothing.
use Rattle.std.proofs.Common.{◌≡◌, ◌-◌, ◌≤◌, length}
use Rattle.captures.specs.Part.{spans_of, listed_in, list_part}
use Rattle.captures.proofs.part.list_part.Given as goal

abbrev pub invariant-loop-found : goal.invariant-loop-found
invariant-loop-found l =
    (l.filled ≤ length l.out)
    × (listed_in l.at.line l.at.base l.s (spans_of l.s l.at.next) l.at.next l.at.ordinal l.filled l.out ≡ list_part l.fn.lister.line l.fn.lister.ordinal l.fn.lister.base l.s l.fn.lister.next l.fn.out)

abbrev pub decreases-loop-found : goal.decreases-loop-found
decreases-loop-found l = length l.s - l.at.next
