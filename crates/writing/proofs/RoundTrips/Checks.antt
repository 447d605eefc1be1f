-- Reading accepts bytes just where checks 1 to 11 find no fault in them. Assumes nothing.
use Rattle.std.specs.Prelude.{None}
use mathlib.Core.Path.{◌≡◌}
use mathlib.Core.Bool.{true}
use mathlib.Core.List.{List}
use Prim.Native.Nat.{ℕ, ◌-◌}
use Prim.Native.Char.{code}
use lib.Dec.{eqb}
use lib.ListN.{length, get_or}
use borrow.Author.Tests.{eqb-true, eq-eqb}
use Rattle.forms.specs.Lines.{is_line}
use Rattle.forms.specs.Forms.{slots_of, width_of}
use Rattle.records.specs.declared.records.Record.{Record}
use Rattle.forms.proofs.Found.{found-line}
use Rattle.records.specs.Answers.{first_fault, accepted}
use Rattle.reading.specs.Frame.{field_of, frame_checks}
use Rattle.reading.specs.Contents.{row_in, outside, wrong_letter, misshapen, field_checks}
use Rattle.reading.specs.Reading.{record_in, checks, reading_of}
use Rattle.writing.proofs.RoundTrips.Faults.{Faultless, faultless-append, faultless-parts, needs-held, no-fault, faultless-good, good-faultless, accepted-good}
use Rattle.writing.proofs.RoundTrips.Fields.{Clear}
use Rattle.writing.proofs.RoundTrips.Frames.{Framed, framed-faultless, faultless-framed}

module _ (line : ℕ) (s : List ℕ) where
  -- what checks 8 to 11 ask
  pub record Carried : Type 0 where
    pub found : (row_in line s).found ≡ true
    pub inside : outside 5 (field_of s) ≡ None
    pub clear : Clear line (get_or s 3 0) 5 (slots_of (row_in line s).form) (field_of s)

  -- they find no fault just where it holds
  carried-faultless : Carried → Faultless (field_checks line s)
  unfolding field_checks misshapen width_of
  carried-faultless c = (rw c.found, (c.inside, (rw (eq-eqb _ _ c.clear.filled) c.clear.letters, (c.clear.values, tt))))

  faultless-carried : Faultless (field_checks line s) → Carried
  unfolding field_checks misshapen width_of
  faultless-carried a =
      let m = no-fault (eqb (length (field_of s)) (width_of (row_in line s).form)) 5 (wrong_letter 5 (slots_of (row_in line s).form) (field_of s)) a.1.1.0 in
      record {
        found = needs-held _ _ a.0;
        inside = a.1.0;
        clear = record { filled = eqb-true _ _ m.0; letters = m.1; values = a.1.1.1.0 };
      }

  -- bytes that pass the checks are accepted
  pub passes-accepted : Framed s → Carried → reading_of line s ≡ accepted (record_in line s) (get_or s 4 0 - code "0")
  unfolding reading_of checks
  passes-accepted f c =
      rw (
        found-line line (get_or s 3 0) (get_or s 5 0) c.found,
        faultless-good 1 (checks line s) (faultless-append (frame_checks s) (field_checks line s) (framed-faultless s f) (carried-faultless c)),
      )

  -- what an acceptance says: the bytes pass the checks and carry what they are accepted as
  pub record Accepted (rec : Record) (number : ℕ) : Type 0 where
    pub faultless : Faultless (checks line s)
    pub framed : Framed s
    pub carried : Carried
    pub carries : record_in line s ≡ rec
    pub numbered : get_or s 4 0 - code "0" ≡ number

  pub accepted-only : (rec : Record) (number : ℕ) → reading_of line s ≡ accepted rec number → Accepted rec number
  unfolding reading_of checks
  accepted-only rec number h =
      let a = accepted-good (is_line line) (first_fault 1 (checks line s)) (record_in line s) rec (get_or s 4 0 - code "0") number h in
      let f = good-faultless 1 (checks line s) a.0 in
      let b = faultless-parts (frame_checks s) (field_checks line s) f in
      record { faultless = f; framed = faultless-framed s b.0; carried = faultless-carried b.1; carries = a.1; numbered = a.2 }
