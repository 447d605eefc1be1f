-- The reader refuses by the first test that holds, the writer as its attempts say. Assumes nothing.
use mathlib.Core.Path.{◌≡◌, refl, sym, ap, ◌∙◌}
use mathlib.Core.Bool.{Bool, true, false, cond}
use mathlib.Core.List.{List, [], ◌∷◌}
use Prim.Native.Nat.{ℕ, zero, suc, ◌+◌, ◌-◌}
use Prim.Native.Char.{code}
use native.Mathlib.Omega.{arith}
use lib.Dec.{ltb, leb, eqb}
use lib.ListN.{length, get_or}
use borrow.Author.Tests.{lt-ltb, le-ltb, ne_eqb, ltb-true, ltb-false, leb-true, leb-false, eqb-true}
use Rattle.laws.specs.Truth.{either}
use Rattle.laws.proofs.Passes.{on_test, both-off}
use Rattle.characters.specs.Marks.{longest}
use Rattle.records.specs.Refusals.{no}
use Rattle.records.specs.Answers.{Fault}
use Rattle.logs.specs.declared.marks.Mark.{Mark}
use Rattle.logs.specs.declared.marks.Mark.TheVariants.{Master, Slave, Hit}
use Rattle.logs.specs.Marks.{mark_of, may_have}
use Rattle.logs.specs.Records.{head}
use Rattle.logs.specs.Reader.{known_in, marked_in, record_in}
use Rattle.logs.specs.Writer.{write_of}
use Rattle.logs.specs.Order.{unmarked, bad_length, first_of, refusal_in, FirstThatHolds, WrittenInOrder}

module _ (at : ℕ) (s : List ℕ) where
  -- the tests behind the mark
  abbrev later : Bool → Fault
  later bad = first_of ((ltb (length s) 7, no 20 at) ∷ (bad, no 19 at) ∷ (ltb (length s) (7 + get_or s 6 0), no 20 at) ∷ [])

  known-order : (m : Mark) (bad : Bool) → bad ≡ cond (may_have m (get_or s 6 0)) false true → refusal_in (known_in m at s) ≡ later bad
  unfolding known_in
  known-order m bad e =
      on_test (ltb (length s) head)
      (λ l. rw l)
      (λ l.
      on_test (may_have m (get_or s 6 0))
      (λ p.
      let b : bad ≡ false = e ∙ ap (λ (x : Bool). cond x false true) p in
      on_test (ltb (length s - head) (get_or s 6 0))
      (λ k.
      let r : ltb (length s) (7 + get_or s 6 0) ≡ true = lt-ltb (length s) (7 + get_or s 6 0) (omega (arith, ltb-true (length s - head) (get_or s 6 0) k, ltb-false (length s) head l)) in
      rw (l, p, k, b, r))
      (λ k.
      let r : ltb (length s) (7 + get_or s 6 0) ≡ false = le-ltb (length s) (7 + get_or s 6 0) (omega (arith, ltb-false (length s - head) (get_or s 6 0) k, ltb-false (length s) head l)) in
      rw (l, p, k, b, r)))
      (λ p. let b : bad ≡ true = e ∙ ap (λ (x : Bool). cond x false true) p in rw (l, p, b)))

  -- a length is bad that a record may not have
  over-most : (n : ℕ) → ltb longest n ≡ cond (leb n longest) false true
  over-most n =
      on_test (leb n longest)
      (λ l. le-ltb longest n (leb-true n longest l) ∙ rw l)
      (λ l. lt-ltb longest n (leb-false n longest l) ∙ rw l)

  plain-length : (n : ℕ) → either (ltb longest n) false ≡ cond (leb n longest) false true
  plain-length n = on_test (ltb longest n) (λ k. rw k (sym k ∙ over-most n)) (λ k. rw k (sym k ∙ over-most n))

  hit-length : (n : ℕ) → either (ltb longest n) (ltb 0 n) ≡ cond (eqb n 0) false true
  hit-length zero = refl
  hit-length (suc n) =
      let z : eqb (suc n) 0 ≡ false = ne_eqb (suc n) 0 (λ e. omega (arith, e)) in
      let l : ltb 0 (suc n) ≡ true = lt-ltb 0 (suc n) (omega arith) in
      on_test (ltb longest (suc n)) (λ k. rw (k, z)) (λ k. rw (k, z, l))

  -- behind the first test
  abbrev behind : Fault
  behind = first_of ((unmarked s, no 18 at) ∷ (ltb (length s) 7, no 20 at) ∷ (bad_length s, no 19 at) ∷ (ltb (length s) (7 + get_or s 6 0), no 20 at) ∷ [])

  marked-order : refusal_in (marked_in (mark_of (get_or s 0 0) (get_or s 1 0)) at s) ≡ behind
  unfolding mark_of
  marked-order =
      on_test (eqb (get_or s 1 0) (code ">"))
      (λ a.
      let v : get_or s 1 0 ≡ code ">" = eqb-true (get_or s 1 0) (code ">") a in
      on_test (eqb (get_or s 0 0) (code "M"))
      (λ b. let u : get_or s 0 0 ≡ code "M" = eqb-true (get_or s 0 0) (code "M") b in rw (u, v) (known-order Master _ (plain-length (get_or s 6 0))))
      (λ b.
      on_test (eqb (get_or s 0 0) (code "S"))
      (λ c. let u : get_or s 0 0 ≡ code "S" = eqb-true (get_or s 0 0) (code "S") c in rw (u, v) (known-order Slave _ (plain-length (get_or s 6 0))))
      (λ c. rw (v, both-off (eqb (get_or s 0 0) (code "H")) (eqb (code ">") (code "!")) refl, b, c))))
      (λ a.
      on_test (eqb (get_or s 1 0) (code "!"))
      (λ b.
      let v : get_or s 1 0 ≡ code "!" = eqb-true (get_or s 1 0) (code "!") b in
      on_test (eqb (get_or s 0 0) (code "H"))
      (λ c. let u : get_or s 0 0 ≡ code "H" = eqb-true (get_or s 0 0) (code "H") c in rw (u, v) (known-order Hit _ (hit-length (get_or s 6 0))))
      (λ c. rw (v, both-off (eqb (get_or s 0 0) (code "M")) (eqb (code "!") (code ">")) refl, both-off (eqb (get_or s 0 0) (code "S")) (eqb (code "!") (code ">")) refl, c)))
      (λ b.
      rw (
        both-off (eqb (get_or s 0 0) (code "M")) (eqb (get_or s 1 0) (code ">")) a,
        both-off (eqb (get_or s 0 0) (code "S")) (eqb (get_or s 1 0) (code ">")) a,
        both-off (eqb (get_or s 0 0) (code "H")) (eqb (get_or s 1 0) (code "!")) b,
        a,
        b,
      )))

pub first-that-holds : FirstThatHolds
unfolding record_in
first-that-holds at s h =
    let z : eqb (length s) 0 ≡ false = ne_eqb (length s) 0 (λ e. omega (arith, e, h)) in
    on_test (eqb (length s) 1) (λ e. rw (z, e)) (λ e. rw (z, e) (marked-order at s))

pub written-in-order : WrittenInOrder
unfolding write_of
written-in-order = refl
