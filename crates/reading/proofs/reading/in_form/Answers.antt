-- `reading::reading::in_form` meets its contract.
use Rattle.reading.specs.Reading.{in_form}
use Rattle.reading.proofs.reading.in_form.Goals as goal

pub returns-in-Some : goal.returns-in-Some
unfolding in_form
returns-in-Some c = rw (← c.in-Some.ensures)

pub returns-in-Some-bad_value : goal.returns-in-Some-bad_value
unfolding in_form
returns-in-Some-bad_value c = rw (← c.in_default.ensures, ← c.in-Some-bad_value.ensures)

pub returns : goal.returns
unfolding in_form
returns c =
    rw (← c.in_default.ensures, ← c.in_default-bad_value.ensures, c.record_of.ensures, c.values_in.ensures)
