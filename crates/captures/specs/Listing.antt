-- The lines of the listing (rules P2, P10). Assumes nothing.
use Rattle.std.specs.Prelude.{ℕ, cond, List, [], ◌∷◌, ◌++◌, length, drop, nat_le}
use Rattle.records.specs.Refusals.{no}
use Rattle.laws.specs.Text.{codes}
use Rattle.records.specs.Records.{type_of}
use Rattle.records.specs.Answers.{Answer, accepted, refused, written, Write}
use Rattle.characters.specs.Marks.{lf}
use Rattle.text.specs.Numbers.{decimal_text}
use Rattle.text.specs.Items.{refusal_text}

-- `ok`, type, number, or `no`, refusal, place; the type is printed as its byte
abbrev pub answer_text : Answer → List ℕ
answer_text (accepted rec number) = codes " ok " ++ ((type_of rec ∷ []) ++ (codes " " ++ (decimal_text number ++ (lf ∷ []))))
answer_text (refused x) = codes " " ++ (refusal_text x ++ (lf ∷ []))

-- ordinal, offset and what the telegram reads as
unfoldable pub line_text : ℕ → ℕ → Answer → List ℕ
line_text ordinal offset answer = decimal_text ordinal ++ (codes " " ++ (decimal_text offset ++ answer_text answer))

-- room for what any telegram reads as: two numbers of at most 20 digits, and 6 other bytes
abbrev pub answer_room : ℕ
answer_room = 46

-- room for any line: two such numbers more, and the space between them
abbrev pub line_room : ℕ
line_room = 87

-- text from the front of an output with room for any line, with what lies behind it kept; else 14, and nothing is written
unfoldable pub putting : List ℕ → List ℕ → Write
putting text out = cond (nat_le line_room (length out)) (written (length text), text ++ drop (length text) out) (refused (no 14 0), out)

abbrev pub line_put : ℕ → ℕ → Answer → List ℕ → Write
line_put ordinal offset answer = putting (line_text ordinal offset answer)
