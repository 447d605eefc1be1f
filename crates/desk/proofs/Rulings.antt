-- Which rule settles a hearing, a lemma for each return. Assumes nothing.
use mathlib.Core.Path.{◌≡◌, sym, ap, ◌∙◌}
use mathlib.Core.Bool.{Bool, true, false}
use mathlib.Core.List.{List}
use Prim.Native.Nat.{ℕ, ◌≤◌, ◌<◌}
use Prim.Native.Char.{code}
use native.Mathlib.Omega.{arith}
use lib.ListN.{get_or}
use borrow.Author.Tests.{eq-eqb, ne_eqb, le-ltb, lt-ltb}
use Rattle.forms.specs.Forms.{by_master}
use Rattle.records.specs.Records.{type_of}
use Rattle.records.specs.declared.records.Record.{Record}
use Rattle.records.specs.Answers.{accepted, refused}
use Rattle.reading.specs.Reading.{reading_of}
use Rattle.clock.specs.Counters.{same_number, is_number, number_in}
use Rattle.records.specs.Refusals.{No}
use Rattle.desk.specs.Deciding.{What, contents, not_master, request, poll, other, silent, fault, repeat, handle, repeats, matter_in, good_frame, bad_frame, ruling_in}

module _ (line : ℕ) (rec : Record) (t : ℕ) (e : t ≡ type_of rec) where
  at-type : by_master line t ≡ by_master line (type_of rec)
  at-type = ap (by_master line) e

  pub not-master : by_master line t ≡ false → not_master ≡ matter_in line rec
  unfolding matter_in
  not-master h = rw (sym at-type ∙ h)

  module _ (h : by_master line t ≡ true) where
    pub a-request : t ≡ code "r" → request ≡ matter_in line rec
    unfolding matter_in
    a-request k = rw (sym at-type ∙ h, eq-eqb (type_of rec) (code "r") (sym e ∙ k))

    pub a-poll : (t ≡ code "r" → ⊥) → t ≡ code "t" → poll ≡ matter_in line rec
    unfolding matter_in
    a-poll k l = rw (sym at-type ∙ h, ne_eqb (type_of rec) (code "r") (λ q. k (e ∙ q)), eq-eqb (type_of rec) (code "t") (sym e ∙ l))

    pub another : (t ≡ code "r" → ⊥) → (t ≡ code "t" → ⊥) → other rec ≡ matter_in line rec
    unfolding matter_in
    another k l = rw (sym at-type ∙ h, ne_eqb (type_of rec) (code "r") (λ q. k (e ∙ q)), ne_eqb (type_of rec) (code "t") (λ q. l (e ∙ q)))

module _ (good : Bool) (last number : ℕ) where
  pub no-repeat : good ≡ false → false ≡ repeats good last number
  unfolding repeats
  no-repeat h = rw h

  pub by_number : good ≡ true → same_number last number ≡ repeats good last number
  unfolding repeats
  by_number h = rw h

  module _ (what : What) where
    pub good-repeat : repeats good last number ≡ true → repeat number what ≡ good_frame good last number what
    unfolding good_frame
    good-repeat h = rw h

    pub good-handled : repeats good last number ≡ false → handle number what ≡ good_frame good last number what
    unfolding good_frame
    good-handled h = rw h

-- a frame with this refusal, whose number byte is this
module _ (good : Bool) (last : ℕ) (x : No) (byte : ℕ) where
  pub bad_sum : x.number ≡ 6 → is_number byte ≡ true → (n : ℕ) → n ≡ number_in byte → fault x n ≡ bad_frame good last x byte
  unfolding bad_frame
  bad_sum h k n e = rw (e, eq-eqb x.number 6 h, k)

  pub bad-sum-byte : x.number ≡ 6 → is_number byte ≡ false → silent x ≡ bad_frame good last x byte
  unfolding bad_frame
  bad-sum-byte h k = rw (eq-eqb x.number 6 h, k)

  pub bad-low : (x.number ≡ 6 → ⊥) → x.number < 8 → silent x ≡ bad_frame good last x byte
  unfolding bad_frame
  bad-low h k = rw (ne_eqb x.number 6 h, lt-ltb x.number 8 k)

  pub bad-high : (x.number ≡ 6 → ⊥) → 12 ≤ x.number → silent x ≡ bad_frame good last x byte
  unfolding bad_frame
  bad-high h k = rw (ne_eqb x.number 6 h, le-ltb x.number 8 (omega arith), le-ltb x.number 12 k)

  pub bad-contents : (x.number ≡ 6 → ⊥) → 8 ≤ x.number → x.number < 12 → (n : ℕ) → n ≡ number_in byte → good_frame good last n (contents x) ≡ bad_frame good last x byte
  unfolding bad_frame
  bad-contents h k l n e = rw (e, ne_eqb x.number 6 h, le-ltb x.number 8 k, lt-ltb x.number 12 l)

module _ (line : ℕ) (good : Bool) (last : ℕ) (frame : List ℕ) where
  pub when-accepted : (rec : Record) (number : ℕ) → accepted rec number ≡ reading_of line frame → good_frame good last number (matter_in line rec) ≡ ruling_in line good last frame
  unfolding ruling_in
  when-accepted rec number h = rw (← h)

  pub when-refused : (x : No) (byte : ℕ) → refused x ≡ reading_of line frame → byte ≡ get_or frame 4 0 → bad_frame good last x byte ≡ ruling_in line good last frame
  unfolding ruling_in
  when-refused x byte h e = rw (← h, e)
