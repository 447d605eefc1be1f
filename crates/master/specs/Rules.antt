-- The poll, failed sendings and the permitted answers (rules M7, M10, M12). Assumes nothing.
use Rattle.std.specs.Prelude.{ℕ, Bool, cond, List, ◌∷◌, eqb, get_or}
use Prim.Native.Char.{code}
use Rattle.laws.specs.Truth.{both, one_of}
use Rattle.laws.specs.Text.{codes}
use Rattle.forms.specs.Lines.{line_of}
use Rattle.forms.specs.Forms.{data_type}
use Rattle.records.specs.Records.{type_of, values_of}
use Rattle.records.specs.declared.records.Record.{Record}
use Rattle.records.specs.declared.records.Record.TheVariants.{Request, Idling}

-- the poll, by the row of the line: t, or r for the slave's data type, which is B on line 1 and 5 on line 2 (001 sections 6.2, 7.3, 8.6)
unfoldable pub poll_of : ℕ → Record
poll_of line = cond (eqb (line_of line).poll (code "r")) (Request (data_type line)) (Idling (code "t"))

-- N with 1 or 2 is a failed sending
unfoldable pub is_failure : Record → Bool
is_failure rec = both (eqb (type_of rec) (code "N")) (one_of (codes "12") (get_or (values_of rec) 0 0))

-- permitted: to r the wanted type or N; to t the slave's data type, A or N; to others A or N.
-- 'MSR3 will not answer this telegram with "approved" but with Telegram 5' (001 section 7.3): to line 2's poll an A is an answer of another kind
unfoldable pub answers_to : ℕ → ℕ → List ℕ
answers_to line sent =
    cond (eqb sent (code "r")) (data_type line ∷ codes "N")
    (cond (eqb sent (code "t")) (data_type line ∷ codes "AN")
    (codes "AN"))

unfoldable pub permitted_answer : ℕ → ℕ → ℕ → Bool
permitted_answer line sent got = one_of (answers_to line sent) got
