-- What is left of a log where no record stands in it: nothing, or a record cut off. Assumes nothing.
use Rattle.std.specs.Prelude.{Option, None, Some}
use mathlib.Core.Path.{◌≡◌, refl, sym, ap, ◌∙◌}
use mathlib.Core.Bool.{Bool, true, false}
use mathlib.Core.List.{List, [], ◌∷◌}
use Prim.Native.Nat.{ℕ, suc, ◌-◌, ◌<◌}
use native.Mathlib.Omega.{arith}
use lib.Dec.{ltb, eqb}
use lib.ListN.{length, get_or, drop}
use borrow.Author.Tests.{eqb-true}
use Rattle.laws.proofs.Passes.{on_test}
use Rattle.laws.proofs.Truths.{clash}
use Rattle.logs.specs.declared.marks.Mark.{Mark}
use Rattle.logs.specs.Marks.{mark_of, may_have}
use Rattle.logs.specs.Records.{head}
use Rattle.logs.specs.Reader.{Found, found, end, refused, known_in, marked_in, record_in}
use Rattle.logs.specs.Inside.{waits}
use Rattle.logs.specs.Whole.{Log, over, refusal, log_of, waits_at, Left, WhatIsLeft}
use Rattle.logs.proofs.Inside.{few-wait}
use Rattle.logs.proofs.Pieces.{on-found, on-end, on-refused}

abbrev is_end : Found → Bool
is_end (found mark time start behind) = false
is_end end = true
is_end (refused x) = false

-- the end stands behind the last byte only
module _ (at : ℕ) (s : List ℕ) where
  known-not : (m : Mark) → is_end (known_in m at s) ≡ false
  unfolding known_in
  known-not m =
      on_test (ltb (length s) head)
      (λ l. rw l)
      (λ l.
      on_test (may_have m (get_or s 6 0))
      (λ p. on_test (ltb (length s - head) (get_or s 6 0)) (λ k. rw (l, p, k)) (λ k. rw (l, p, k)))
      (λ p. rw (l, p)))

  marked-not : (m : Option Mark) → is_end (marked_in m at s) ≡ false
  marked-not None = refl
  marked-not (Some m) = known-not m

  pub end_none : record_in at s ≡ end → length s ≡ 0
  unfolding record_in
  end_none h =
      on_test (eqb (length s) 0)
      (λ e. eqb-true (length s) 0 e)
      (λ e.
      on_test (eqb (length s) 1)
      (λ f. clash (ap is_end (rw (e, f) at h)))
      (λ f. clash (sym (marked-not (mark_of (get_or s 0 0) (get_or s 1 0))) ∙ ap is_end (rw (e, f) at h))))

none_end : (s : List ℕ) → length s ≡ 0 → record_in 0 s ≡ end
unfolding record_in
none_end [] h = refl
none_end (x ∷ s) h = let z : ⊥ = omega (arith, h) in absurd z

pub what-is-left : WhatIsLeft
what-is-left s z w = go (record_in 0 s) refl
  where
    left : waits (record_in 0 s) ≡ true → (0 < length s → log_of s ≡ ([], refusal 20)) → Left s
    left k c = record { few = few-wait 0 s k; none = λ e. on-end s (none_end s e); cut_off = c }

    go : (f : Found) → record_in 0 s ≡ f → Left s
    go (found mark time start behind) e =
        let q : length (log_of s).0 ≡ suc (length (log_of (drop behind s)).0) = ap (λ (y : Log). length y.0) (on-found s mark time start behind e) in
        let y : ⊥ = omega (arith, q, ap length z) in absurd y
    go end e = left (ap waits e) (λ l. let y : ⊥ = omega (arith, l, end_none 0 s e) in absurd y)
    go (refused x) e =
        let o = on-refused s x e in
        let n : eqb x.number 20 ≡ true = sym (ap (λ (y : Log). waits_at y.1) o) ∙ w in
        left (ap waits e ∙ n) (λ l. o ∙ ap (λ (i : ℕ). ([], refusal i)) (eqb-true x.number 20 n))

-- a log of nothing is over
pub empty-log : log_of [] ≡ ([], over)
empty-log = on-end [] (none_end [] refl)
