-- What the desk answers to a frame refused 1 to 7: N with 1 to a checksum fault with number byte '0' or '1', else nothing (rules D5, D6). Assumes nothing.
use mathlib.Core.Path.{◌≡◌, refl, sym, ◌∙◌}
use mathlib.Core.Bool.{true}
use mathlib.Core.List.{List, ◌++◌}
use Prim.Native.Nat.{ℕ, ◌≤◌}
use Prim.Native.Char.{code}
use native.Mathlib.Omega.{arith}
use lib.Dec.{eqb}
use lib.ListN.{length, get_or, drop}
use Rattle.laws.proofs.Passes.{on_test}
use borrow.Author.Tests.{eqb-true, eqb-false}
use Rattle.records.specs.declared.records.Record.TheVariants.{Rejected}
use Rattle.records.specs.Refusals.{No}
use Rattle.records.specs.Answers.{accepted}
use Rattle.records.specs.Answers as w
use Rattle.reading.specs.Reading.{reading_of}
use Rattle.writing.specs.Writing.{sent_of}
use Rattle.writing.proofs.Trips.{written-reads}
use Rattle.characters.specs.Marks.{longest}
use Rattle.clock.specs.Counters.{is_number, number_in}
use Rattle.desk.specs.Deciding.{Ruling, bad_frame}
use Rattle.desk.specs.Deciding as r
use Rattle.desk.proofs.Rulings.{bad_sum, bad-sum-byte, bad-low, when-refused}
use Rattle.desk.proofs.Numbers.{ruling_number}
use Rattle.desk.proofs.Permitted.{fault-permitted}
use Rattle.desk.specs.Heard.{fault}
use Rattle.desk.specs.Panel.{loses_line}
use Rattle.desk.specs.Hearing.{faulted_of, applied_of, ruling, hear_of}
use Rattle.desk.specs.declared.state.Desk.{Desk}
use Rattle.desk.proofs.Sendings.{hear-applied}
use Rattle.conduct.specs.Desk.Calls.{noted, Fine}
use Rattle.conduct.specs.Desk.Faults.{fault_answer, SumAnswers, SumReads, OthersSilent}
use Rattle.conduct.proofs.Desk.Kept.{fits, noted-keeps}

module _ (d : Desk) (f : Fine d) (at : ℕ) (frame out : List ℕ) (room : longest ≤ length out) where
  -- the first rule keeps the line
  same_line : (noted d at).line ≡ d.line
  same_line = (noted-keeps d f (loses_line d at)).line

  -- the ruling of a frame with this refusal
  refused-ruling : (x : No) → reading_of d.line frame ≡ w.refused x → bad_frame (noted d at).good (noted d at).last.0 x (get_or frame 4 0) ≡ ruling (noted d at) frame
  refused-ruling x q = when-refused (noted d at).line (noted d at).good (noted d at).last.0 frame x (get_or frame 4 0) (rw same_line (sym q)) refl

  by-ruling : (s : Ruling) → s ≡ ruling (noted d at) frame → hear_of d at frame out ≡ applied_of (noted d at) (loses_line d at) at s out
  by-ruling s e = sym (hear-applied d at frame out f.ranged room (loses_line d at) refl (noted d at) refl s e)

  module _ (x : No) (k : x.number ≡ 6) (q : reading_of d.line frame ≡ w.refused x) (n : is_number (get_or frame 4 0) ≡ true) where
    ruled : r.fault x (number_in (get_or frame 4 0)) ≡ ruling (noted d at) frame
    ruled = bad_sum (noted d at).good (noted d at).last.0 x (get_or frame 4 0) k n (number_in (get_or frame 4 0)) refl ∙ refused-ruling x q

    sum_told : hear_of d at frame out ≡ (noted d at, fault (loses_line d at) (code "1") (length (fault_answer d frame)), fault_answer d frame ++ drop (length (fault_answer d frame)) out)
    unfolding faulted_of sent_of
    sum_told = by-ruling (r.fault x (number_in (get_or frame 4 0))) ruled ∙ rw same_line

    sum-read : reading_of d.line (fault_answer d frame) ≡ accepted (Rejected (code "1")) (number_in (get_or frame 4 0))
    sum-read =
        written-reads d.line (Rejected (code "1")) (number_in (get_or frame 4 0)) (fault-permitted d.line (fits d f).lined)
        (rw (← ruled) at (ruling_number (noted d at).line (noted d at).good (noted d at).last.0 frame))

pub sum-answers : SumAnswers
sum-answers d f at frame out room x k q n = sum_told d f at frame out room x k q n

pub sum-reads : SumReads
sum-reads d f at frame out room x k q n = sum-read d f at frame out room x k q n

pub others-silent : OthersSilent
others-silent d f at frame out room x q b n =
    by-ruling d f at frame out room (r.silent x)
    (on_test (eqb x.number 6)
    (λ e. let k = eqb-true x.number 6 e in bad-sum-byte (noted d at).good (noted d at).last.0 x (get_or frame 4 0) k (n k))
    (λ e. bad-low (noted d at).good (noted d at).last.0 x (get_or frame 4 0) (eqb-false x.number 6 e) (omega arith))
    ∙ refused-ruling d f at frame out room x q)
