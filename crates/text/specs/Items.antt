-- Refusals and records as rows write them (rule P9; docs/SCENES.md). Assumes nothing.
use Rattle.std.specs.Prelude.{ℕ, zero, suc, List, [], ◌∷◌, ◌++◌, slice_index}
use Prim.Native.Char.{code}
use Rattle.laws.specs.Text.{codes}
use Rattle.records.specs.declared.records.Record.{Record}
use Rattle.records.specs.Refusals.{No}
use Rattle.records.specs.Records.{type_of, fields_of, record_of}
use Rattle.text.specs.Numbers.{decimal_text}
use Rattle.text.specs.Fields.{from_field, word_value}

-- `no`, the refusal's number and its place
unfoldable pub refusal_text : No → List ℕ
refusal_text x = codes "no " ++ (decimal_text x.number ++ (codes " " ++ decimal_text x.place))

-- a value behind a space
unfoldable pub value_text : ℕ → List ℕ
value_text n = codes " " ++ decimal_text n

unfoldable pub values_text : List ℕ → List ℕ
values_text [] = []
values_text (n ∷ ns) = value_text n ++ values_text ns

-- a record's type, and a value for each packet of its form
unfoldable pub record_text : Record → List ℕ
record_text rec = type_of rec ∷ values_text (fields_of rec)

-- the numbers of k words from the n-th on
unfoldable pub word_values_on : ℕ → ℕ → List ℕ → List ℕ
word_values_on zero n s = []
word_values_on (suc k) n s = word_value n s ∷ word_values_on k (suc n) s

-- as many as the longest form has
unfoldable pub word_values : List ℕ → List ℕ
word_values s = word_values_on 10 0 s

-- the record that a type and the words behind it say
unfoldable pub record_said : List ℕ → Record
record_said s = record_of (slice_index s 0) (word_values (from_field (code " ") 1 s))
