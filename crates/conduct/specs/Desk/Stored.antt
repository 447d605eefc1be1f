-- A stored answer is the telegram of a permitted record that the slave sends on the line, with the last number taken (rules D8, D14). Assumes nothing.
use Rattle.std.specs.Prelude.{◌≡◌, Bool, true, List, ℕ, ◌≤◌, length, take}
use Rattle.forms.specs.Lines.{is_line}
use Rattle.forms.specs.Forms.{by_slave}
use Rattle.records.specs.Records.{type_of}
use Rattle.records.specs.declared.records.Record.{Record}
use Rattle.values.specs.Values.{permits_record}
use Rattle.writing.specs.Writing.{telegram_of}
use Rattle.characters.specs.Marks.{shortest, longest}
use Rattle.desk.specs.Replying.{Origin}
use Rattle.desk.specs.Heard.{handled}
use Rattle.desk.specs.State.{stored_of, start_of}
use Rattle.desk.specs.Hearing.{hear_of}
use Rattle.desk.specs.declared.state.Desk.{Desk}
use Rattle.conduct.specs.Desk.Calls.{Call, run, Fine}

-- the bytes are the telegram of a record that the slave sends on the line, with permitted values, and this number; they are 10 to 66
pub record Holding (line number : ℕ) (bytes : List ℕ) : Type 0 where
  pub rec : Record
  pub of_slave : by_slave line (type_of rec) ≡ true
  pub permitted : permits_record line rec ≡ true
  pub telegram : bytes ≡ telegram_of line rec number
  pub least : shortest ≤ length bytes
  pub most : length bytes ≤ longest

-- whatever calls are made from the start, a stored answer is such with the last number taken
abbrev pub StoredTelegram : Type 0
StoredTelegram =
    (line : ℕ) → is_line line ≡ true → (calls : List Call) (d : Desk) → d ≡ run (start_of line).0 calls → ¬ (d.kept ≡ 0)
    → (d.kept ≡ length (stored_of d)) × Holding line d.last.0 (stored_of d)

-- the answer to a handled telegram is stored as it was sent
abbrev pub StoredAsSent : Type 0
StoredAsSent =
    (d : Desk) → Fine d → (at : ℕ) (frame out : List ℕ) (noting : Bool) (origin : Origin) (n : ℕ) → (hear_of d at frame out).1 ≡ handled noting origin n
    → ((hear_of d at frame out).0.kept ≡ n) × (stored_of (hear_of d at frame out).0 ≡ take n (hear_of d at frame out).2)
