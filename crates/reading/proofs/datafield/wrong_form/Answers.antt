-- `reading::datafield::wrong_form` meets its contract.
use borrow.Author.Tests.{eq-eqb, ne_eqb}
use Rattle.reading.specs.DataField.{misshapen}
use Rattle.reading.proofs.datafield.wrong_form.Goals as goal

pub returns-then-field-width_of : goal.returns-then-field-width_of
unfolding misshapen
returns-then-field-width_of c = rw (← c.width_of.ensures.0, eq-eqb _ _ c.if-field-width_of.true) c.wrong_letter.ensures

pub returns-else-field-width_of : goal.returns-else-field-width_of
unfolding misshapen
returns-else-field-width_of c = rw (← c.width_of.ensures.0, ne_eqb _ _ c.if-field-width_of.false)
