-- The paper's numbers and places tell the reader's answers apart (rule G3). Assumes nothing.
use Rattle.std.specs.Prelude.{Option, None, Some, Result, Ok, Err}
use mathlib.Core.Path.{◌≡◌, refl, sym, ap, ◌∙◌}
use Rattle.records.specs.declared.refusals.Refusal.{Refusal}
use Rattle.records.proofs.Apart.{back_of, refusal-back}
use Rattle.logs.specs.declared.reader.Entry.{Entry}
use Rattle.logs.specs.Reader.{Found, found, end, refused, next_of, OneNext}

-- the answer of what stands at a place
abbrev next_back : Found → Result (Option Entry) Refusal
next_back (found mark time start behind) = Ok (Some (record { mark = mark; time = time; start = start; end = behind }))
next_back end = Ok None
next_back (refused x) = Err (back_of x)

next-back : (x : Result (Option Entry) Refusal) → next_back (next_of x) ≡ x
next-back (Ok (Some e)) = refl
next-back (Ok None) = refl
next-back (Err x) = ap Err (refusal-back x)

pub one-next : OneNext
one-next a b e = sym (next-back a) ∙ ap next_back e ∙ next-back b
