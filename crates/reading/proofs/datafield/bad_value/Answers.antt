-- `reading::datafield::bad_value` meets its contract.
use Rattle.std.proofs.Common.{rules, ◌∙◌}
use lib.ListN.{drop}
use Rattle.forms.specs.Forms.{slots_of}
use Rattle.values.specs.Values.{permitted}
use Rattle.reading.proofs.Walk.{value_walk}
use Rattle.reading.proofs.datafield.bad_value.Goals as goal

pub returns : goal.returns
returns c =
    let a = c.args in
    c.first_packet.ensures (λ letter packet. permitted a.line a.kind letter (drop 1 packet)) (λ letter packet b h. search rules)
    ∙ value_walk a.line a.kind 5 (slots_of a.form) a.field.now
