-- Which records and key positions may answer on a line (rules D2, D3, E10). Assumes nothing.
use Rattle.std.specs.Prelude.{ℕ, Bool, true, cond, eqb, Option, None, Some}
use Prim.Native.Char.{code}
use Rattle.laws.specs.Truth.{both}
use Rattle.forms.specs.Lines.{line_of, is_key}
use Rattle.forms.specs.Forms.{data_type}
use Rattle.records.specs.Records.{type_of}
use Rattle.records.specs.declared.records.Record.{Record}
use Rattle.values.specs.Values.{permits_record}

-- a record of the slave's data type on a line, with permitted values
unfoldable pub may_reply : ℕ → Record → Bool
may_reply line rec = both (eqb (type_of rec) (data_type line)) (permits_record line rec)

-- a key position is A, X or Y where A carries it (on line 3), on the other lines A
unfoldable pub key_fits : ℕ → ℕ → Bool
key_fits line key = cond (line_of line).keyed (is_key key) (eqb key (code "A"))

-- the record set for r, where one is set
unfoldable pub wanted_fits : ℕ → Option Record → Bool
wanted_fits line None = true
wanted_fits line (Some rec) = may_reply line rec
