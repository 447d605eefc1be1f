-- T0's limit, and what an answer makes of it (rules K4, M18; 001 sections 7.3, 8.6). Assumes nothing.
use Rattle.std.specs.Prelude.{ℕ, Bool, false, cond, ltb, eqb, get_or}
use Prim.Native.Char.{code}
use Rattle.laws.specs.Truth.{implies}
use Rattle.forms.specs.Lines.{line_of}
use Rattle.records.specs.Records.{type_of, values_of}
use Rattle.records.specs.declared.records.Record.{Record}

-- on line 3 T0 is reduced from 20 seconds to 10 so long as the key is not known to be in position Operation; lines 1 and 2 have one T0 (001 section 8.6)
unfoldable pub reduces : ℕ → Bool
reduces line = ltb (line_of line).reduced (line_of line).t0

-- the flag 'in position Operation' has one value where T0 is never reduced
unfoldable pub operation_fits : ℕ → Bool → Bool
operation_fits line operation = implies operation (reduces line)

-- T0: 20,000 on line 1, 5,000 on line 2; on line 3 10,000, and 20,000 in position Operation
unfoldable pub t0_of : ℕ → Bool → ℕ
t0_of line operation = cond operation (line_of line).t0 (line_of line).reduced

-- an A that answers t tells the key position: X is Operation, any other value is not (001 sections 8.6, 8.8); no other answer tells it.
-- The line, the type that was sent, the permitted answer, and the flag before
unfoldable pub operation_after : ℕ → ℕ → Record → Bool → Bool
operation_after line sent rec before =
    cond (eqb sent (code "t"))
    (cond (eqb (type_of rec) (code "A"))
    (cond (eqb (get_or (values_of rec) 0 0) (code "X")) (reduces line)
    false)
    before)
    before
