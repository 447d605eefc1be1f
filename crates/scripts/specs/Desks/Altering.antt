-- The desk's state with one of its numbers as a row says, which may be out of its range (docs/SCENES.md). Assumes nothing.
use Rattle.std.specs.Prelude.{not, ℕ, ◌%◌, eqb}
use Rattle.desk.specs.declared.state.Desk.{Desk}
use Rattle.desk.specs.Panel.{with_good, with_queue, with_key}
use Rattle.scripts.specs.declared.desks.calls.Field as f

abbrev pub with_line : Desk → ℕ → Desk
with_line d n = record { line = n; good = d.good; last = d.last; t1 = d.t1; kept = d.kept; stored = d.stored; requested = d.requested; queued = d.queued; queue = d.queue; key = d.key }

abbrev pub with_last : Desk → ℕ → Desk
with_last d n = record { line = d.line; good = d.good; last = record { 0 = n }; t1 = d.t1; kept = d.kept; stored = d.stored; requested = d.requested; queued = d.queued; queue = d.queue; key = d.key }

abbrev pub with_kept : Desk → ℕ → Desk
with_kept d n = record { line = d.line; good = d.good; last = d.last; t1 = d.t1; kept = n; stored = d.stored; requested = d.requested; queued = d.queued; queue = d.queue; key = d.key }

-- line, last number and key position are kept in a byte; the line is good where the number is not 0
abbrev pub altered_of : Desk → f.Field → ℕ → Desk
altered_of d f.TheVariants.Line n = with_line d (n % 256)
altered_of d f.TheVariants.Good n = with_good d (not (eqb n 0))
altered_of d f.TheVariants.Last n = with_last d (n % 256)
altered_of d f.TheVariants.Kept n = with_kept d n
altered_of d f.TheVariants.Queued n = with_queue d d.queue n
altered_of d f.TheVariants.Key n = with_key d (n % 256)
