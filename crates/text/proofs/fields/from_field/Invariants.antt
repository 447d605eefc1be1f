-- So many fields are still to be passed. Assumes nothing.
use Rattle.std.proofs.Common.{◌≡◌, ◌-◌, ◌≤◌}
use Rattle.text.specs.Fields.{from_field}
use Rattle.text.proofs.fields.from_field.Given as goal

abbrev pub invariant-loop : goal.invariant-loop
invariant-loop l = (l.counter ≤ l.number) × (from_field l.separator (l.number - l.counter) l.rest ≡ from_field l.separator l.number l.s)
