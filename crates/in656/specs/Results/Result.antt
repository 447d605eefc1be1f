-- The result of a call of the C face, as the header says it (include/in656.h). Assumes nothing.
use Rattle.std.specs.Prelude.{ℕ, Bool, cond, List}
use Rattle.records.specs.Refusals.{No}
use Rattle.in656.specs.declared.results.result.In656Result.{In656Result}
use Rattle.in656.specs.declared.results.result.Later.{Later}

-- how many bytes it has: sixteen fields of four and two of eight
abbrev pub result_size : ℕ
result_size = 80

-- a result by its fields, in their order
abbrev pub result : ℕ → ℕ → ℕ → ℕ → ℕ → ℕ → ℕ → ℕ → ℕ → ℕ → Later → In656Result
result refusal outcome detail contents place written number count lost filled later =
    record {
      refusal = refusal;
      outcome = outcome;
      detail = detail;
      contents = contents;
      place = place;
      written = written;
      number = number;
      count = count;
      lost = lost;
      filled = filled;
      later = later;
    }

-- the fields for later libraries of the edition
abbrev pub none_later : Later
none_later = record { sum = 0; found = 0; unsent = 0; reserved1 = 0; reserved2 = 0; reserved3 = 0; reserved4 = 0; reserved5 = 0 }

-- an outcome and more of it; a field that a call does not use is 0
abbrev pub saying : ℕ → ℕ → In656Result
saying outcome detail = result 0 outcome detail 0 0 0 0 0 0 0 none_later

abbrev pub zeros : In656Result
zeros = saying 0 0

-- a refused call: its number and place, and no other field
abbrev pub refusing : No → In656Result
refusing x = result x.number 0 0 0 x.place 0 0 0 0 0 none_later

-- with the refusal of a frame that was heard
abbrev pub with_contents : In656Result → No → In656Result
with_contents r x = result r.refusal r.outcome r.detail x.number x.place r.written r.number r.count r.lost r.filled r.later

-- with a place: of a search, where the telegram begins
abbrev pub with_place : In656Result → ℕ → In656Result
with_place r place = result r.refusal r.outcome r.detail r.contents place r.written r.number r.count r.lost r.filled r.later

-- with how many bytes were written, or how many a telegram has
abbrev pub with_written : In656Result → ℕ → In656Result
with_written r n = result r.refusal r.outcome r.detail r.contents r.place n r.number r.count r.lost r.filled r.later

-- with the telegram's number
abbrev pub with_number : In656Result → ℕ → In656Result
with_number r number = result r.refusal r.outcome r.detail r.contents r.place r.written number r.count r.lost r.filled r.later

-- with the master's sending count
abbrev pub with_count : In656Result → ℕ → In656Result
with_count r count = result r.refusal r.outcome r.detail r.contents r.place r.written r.number count r.lost r.filled r.later

-- 1 where the call noted the line lost
abbrev pub with_lost : In656Result → Bool → In656Result
with_lost r noted = result r.refusal r.outcome r.detail r.contents r.place r.written r.number r.count (cond noted 1 0) r.filled r.later

-- the record block was filled
abbrev pub with_record : In656Result → In656Result
with_record r = result r.refusal r.outcome r.detail r.contents r.place r.written r.number r.count r.lost 1 r.later

-- a result, and a lent part behind the call
abbrev pub Call : Type 0
Call = In656Result × List ℕ
