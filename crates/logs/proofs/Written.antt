-- What the writer's tests say of the definition. Assumes nothing.
use mathlib.Core.Path.{◌≡◌, refl, ap, ◌∙◌}
use mathlib.Core.Bool.{true}
use mathlib.Core.List.{List}
use Prim.Native.Nat.{ℕ, ◌+◌, ◌≤◌, ◌<◌}
use native.Mathlib.Omega.{arith}
use native.Mathlib.Nat.{zero-add}
use lib.ListN.{length, length-append}
use borrow.Author.Tests.{le-leb, leb-true, eqb-true}
use Rattle.records.specs.Answers.{Outcome, written}
use Rattle.text.specs.Putting.{puts, placed}
use Rattle.text.proofs.Puts.{with-room}
use Rattle.text.proofs.FourBytes.{four-length}
use Rattle.logs.specs.declared.marks.Mark.{Mark}
use Rattle.logs.specs.declared.marks.Mark.TheVariants.{Master, Slave, Hit}
use Rattle.logs.specs.Marks.{mark_bytes, may_have}
use Rattle.logs.specs.Records.{LogRecord, head, record_bytes}
use Rattle.logs.specs.Writer.{write_of}

mark-length : (mark : Mark) → length (mark_bytes mark) ≡ 2
mark-length Master = refl
mark-length Slave = refl
mark-length Hit = refl

-- a record is its head and its bytes
pub record-length : (r : LogRecord) → length (record_bytes r) ≡ head + length r.bytes
unfolding record_bytes
record-length r = simp length-append (omega (arith, mark-length r.mark, four-length r.time))

-- a length that a record may have is a byte
pub byte_long : (mark : Mark) (n : ℕ) → may_have mark n ≡ true → n < 256
byte_long Master n h = omega (arith, leb-true n 66 h)
byte_long Slave n h = omega (arith, leb-true n 66 h)
byte_long Hit n h = omega (arith, eqb-true n 0 h)

module _ (r : LogRecord) (out : List ℕ) where
  pub whole : may_have r.mark (length r.bytes) ≡ true → head + length r.bytes ≤ length out → (k : ℕ) (x : List ℕ) → (k, x) ≡ puts (record_bytes r) 0 out → (written k, x) ≡ write_of r out
  unfolding write_of placed
  whole h l k x e =
      let p = e ∙ with-room (record_bytes r) 0 out (omega (arith, record-length r)) in
      rw (h, le-leb (head + length r.bytes) (length out) l, ← (record-length r))
      (rw (zero-add (length (record_bytes r))) at (ap {B = Outcome × List ℕ} (λ (y : ℕ × List ℕ). (written y.0, y.1)) p))
