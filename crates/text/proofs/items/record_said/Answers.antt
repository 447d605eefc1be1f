-- `record_said` is the record of the type and the values behind it. Assumes nothing.
use Rattle.std.proofs.Common.{ap, ◌∙◌, ap₂}
use Rattle.records.specs.Records.{record_of}
use Rattle.text.specs.Items.{word_values, record_said}
use Rattle.text.proofs.items.record_said.Goals as goal

pub returns : goal.returns
unfolding record_said
returns c = c.record_of.ensures ∙ ap₂ record_of c.byte_at.ensures (c.word_values.ensures ∙ ap word_values c.from_field.ensures)
