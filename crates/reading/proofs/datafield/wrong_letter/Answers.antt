-- `reading::datafield::wrong_letter` meets its contract.
use Rattle.std.proofs.Common.{rules, ◌∙◌}
use lib.Dec.{eqb}
use lib.ListN.{get_or}
use Rattle.forms.specs.Forms.{slots_of}
use Rattle.reading.proofs.Walk.{letter_walk}
use Rattle.reading.proofs.datafield.wrong_letter.Goals as goal

pub returns : goal.returns
returns c =
    c.first_packet.ensures (λ letter packet. eqb (get_or packet 0 0) letter) (λ letter packet b h. search rules) ∙ letter_walk 5 (slots_of c.args.form) c.args.field.now
