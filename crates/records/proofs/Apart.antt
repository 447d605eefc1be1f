-- The paper's number and place tell the refusals apart, and the answers that hold one. Assumes nothing.
use mathlib.Core.Path.{◌≡◌, refl, sym, ap, ◌∙◌}
use mathlib.Core.Bool.{cond}
use lib.Dec.{eqb}
use Rattle.records.specs.Refusals.{No, refusal_of, OneRefusal}
use Rattle.records.specs.declared.refusals.Refusal.{Refusal}
use Rattle.records.specs.declared.refusals.Refusal.TheVariants.{Short, Long, NoStart, Count, NoEnd, Checksum, Number, Kind, Character, Form, Value, NotSent, Range, NoRoom, State, Busy, Full, Mark, Length, CutOff}
use Rattle.std.specs.Prelude.{Result, Ok, Err}
use Rattle.records.specs.declared.answers.Numbered.{Numbered}
use Rattle.records.specs.Answers.{Answer, accepted, refused, answer_of, OneCheck, OneReading, OneWriting}

-- the refusal of a number and place
abbrev pub back_of : No → Refusal
back_of x =
    cond (eqb x.number 1) Short
    (cond (eqb x.number 2) Long
    (cond (eqb x.number 3) NoStart
    (cond (eqb x.number 4) Count
    (cond (eqb x.number 5) (NoEnd x.place)
    (cond (eqb x.number 6) (Checksum x.place)
    (cond (eqb x.number 7) Number
    (cond (eqb x.number 8) Kind
    (cond (eqb x.number 9) (Character x.place)
    (cond (eqb x.number 10) (Form x.place)
    (cond (eqb x.number 11) (Value x.place)
    (cond (eqb x.number 12) NotSent
    (cond (eqb x.number 13) Range
    (cond (eqb x.number 14) NoRoom
    (cond (eqb x.number 15) State
    (cond (eqb x.number 16) Busy
    (cond (eqb x.number 17) Full
    (cond (eqb x.number 18) (Mark x.place)
    (cond (eqb x.number 19) (Length x.place) (CutOff x.place)))))))))))))))))))

-- each refusal comes back from its number and place
pub refusal-back : (x : Refusal) → back_of (refusal_of x) ≡ x
refusal-back Short = refl
refusal-back Long = refl
refusal-back NoStart = refl
refusal-back Count = refl
refusal-back (NoEnd place) = refl
refusal-back (Checksum place) = refl
refusal-back Number = refl
refusal-back Kind = refl
refusal-back (Character place) = refl
refusal-back (Form place) = refl
refusal-back (Value place) = refl
refusal-back NotSent = refl
refusal-back Range = refl
refusal-back NoRoom = refl
refusal-back State = refl
refusal-back Busy = refl
refusal-back Full = refl
refusal-back (Mark place) = refl
refusal-back (Length place) = refl
refusal-back (CutOff place) = refl

-- so two refusals of one number and place are one
pub one-refusal : OneRefusal
one-refusal x y h = sym (refusal-back x) ∙ (ap back_of h ∙ refusal-back y)

-- a promise of a row of checks, of reading or of writing allows one answer only
pub one-check : OneCheck
one-check (Ok x) (Ok y) h = refl
one-check (Ok x) (Err y) h = cc
one-check (Err x) (Ok y) h = cc
one-check (Err x) (Err y) h = let e : x ≡ y = one-refusal x y (cc) in cc

-- each reading comes back from its answer
abbrev reading_back : Answer → Result Numbered Refusal
reading_back (accepted rec n) = Ok (record { rec = rec; number = n })
reading_back (refused x) = Err (back_of x)

reading-back : (a : Result Numbered Refusal) → reading_back (answer_of a) ≡ a
reading-back (Ok t) = refl
reading-back (Err x) = ap Err (refusal-back x)

pub one-reading : OneReading
one-reading a b h = sym (reading-back a) ∙ (ap reading_back h ∙ reading-back b)

pub one-writing : OneWriting
one-writing (Ok m) (Ok n) h = cc
one-writing (Ok m) (Err y) h = cc
one-writing (Err x) (Ok n) h = cc
one-writing (Err x) (Err y) h = let e : x ≡ y = one-refusal x y (cc) in cc
