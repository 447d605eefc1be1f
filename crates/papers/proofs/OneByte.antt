-- A telegram with one byte replaced by another is refused by checks 1 to 7: two that pass and differ in one place at most are the same. Assumes nothing.
use mathlib.Core.Path.{◌≡◌, refl, sym, ap, ◌∙◌}
use mathlib.Core.List.{List, [], ◌∷◌}
use Prim.Native.Nat.{ℕ, zero, suc, ◌+◌, ◌-◌, ◌≤◌, ◌<◌}
use native.Mathlib.Omega.{arith}
use lib.ListN.{length, drop, get_or, set, length-set, length-take, length-drop, get_or-eq_default}
use lib.Seq.{get_or-take, get_or-drop, get_or-set_same, get_or-set_other}
use Rattle.laws.proofs.Passes.{order}
use Rattle.characters.specs.Checksum.{total, checksum_of, check_text}
use Rattle.reading.specs.Frame.{frame_checks, summed_of}
use Rattle.writing.proofs.RoundTrips.Faults.{good-faultless}
use Rattle.writing.proofs.RoundTrips.Frames.{Framed, two-are, faultless-framed}
use Rattle.papers.specs.Receiver.{received_sum}
use Rattle.papers.specs.OneByte.{OneByteFound}
use Rattle.papers.proofs.Receiver.{telegram-sums-to-zero}

-- two lists of one length agree in all places but one: their sums differ by what stands there
apart : (u v : List ℕ) (k : ℕ) → length u ≡ length v → ((j : ℕ) → (j ≡ k → ⊥) → get_or u j 0 ≡ get_or v j 0) → total u + get_or v k 0 ≡ total v + get_or u k 0
unfolding total
apart [] [] k l same = refl
apart [] (y ∷ v) k l same = absurd (omega (arith, l))
apart (x ∷ u) [] k l same = absurd (omega (arith, l))
apart (x ∷ u) (y ∷ v) zero l same =
    let past : get_or u (length u) 0 ≡ 0 = get_or-eq_default u 0 {n = length u} (omega arith) in
    let past' : get_or v (length u) 0 ≡ 0 = get_or-eq_default v 0 {n = length u} (omega (arith, l)) in
    let r = apart u v (length u) (omega (arith, l)) (λ j _. same (suc j) (λ e. omega arith)) in
    omega (arith, r, past, past')
apart (x ∷ u) (y ∷ v) (suc k) l same =
    let r = apart u v k (omega (arith, l)) (λ j n. same (suc j) (λ e. n (omega (arith, e)))) in
    omega (arith, r, same 0 (λ e. omega (arith, e)))

-- the bytes that are summed, by their places in the telegram
summed_at : (s : List ℕ) (j : ℕ) → j < length s - 4 → get_or (summed_of s) j 0 ≡ get_or s (1 + j) 0
unfolding summed_of
summed_at s j h = get_or-take (length s - 4) (drop 1 s) j 0 h ∙ get_or-drop 1 s j 0

summed-length : (s : List ℕ) → 10 ≤ length s → length (summed_of s) ≡ length s - 4
unfolding summed_of
summed-length s h = omega (arith, length-take (length s - 4) (drop 1 s), length-drop 1 s)

summed-past : (s : List ℕ) (j : ℕ) → 10 ≤ length s → length s - 4 ≤ j → get_or (summed_of s) j 0 ≡ 0
summed-past s j long h = get_or-eq_default (summed_of s) 0 {n = j} (omega (arith, summed-length s long))

-- two telegrams of one length that pass, and agree in all places but one
module _ (s t : List ℕ) (f : Framed s) (g : Framed t) (l : length s ≡ length t) (i : ℕ) (same : (j : ℕ) → (j ≡ i → ⊥) → get_or s j 0 ≡ get_or t j 0) where
  summed_same : (j : ℕ) → (j < length s - 4 → 1 + j ≡ i → ⊥) → get_or (summed_of s) j 0 ≡ get_or (summed_of t) j 0
  summed_same j n =
      order j (length s - 4)
      (λ h. summed_at s j h ∙ (same (1 + j) (n h) ∙ sym (summed_at t j (omega (arith, l)))))
      (λ h. summed-past s j f.long h ∙ sym (summed-past t j g.long (omega (arith, l))))

  lengths : length (summed_of s) ≡ length (summed_of t)
  lengths = omega (arith, l, summed-length s f.long, summed-length t g.long)

  -- a byte that is summed: the checksum behind it is the same, so the sums are, modulo 256
  by-sum : (k : ℕ) → i ≡ 1 + k → k < length s - 4 → get_or s (1 + k) 0 < 256 → get_or t (1 + k) 0 < 256 → get_or s (1 + k) 0 ≡ get_or t (1 + k) 0
  by-sum k e h x y =
      let a = apart (summed_of s) (summed_of t) k lengths (λ j n. summed_same j (λ _ q. n (omega (arith, q, e)))) in
      let p : get_or s (length s - 3) 0 ≡ get_or t (length s - 3) 0 = same (length s - 3) (λ q. omega (arith, q, e)) in
      let q : get_or s (length s - 2) 0 ≡ get_or t (length s - 2) 0 = same (length s - 2) (λ q. omega (arith, q, e)) in
      let w : received_sum s ≡ received_sum t = rw (← l, p, q) in
      omega (arith, a, w, telegram-sums-to-zero s f.long f.sum, telegram-sums-to-zero t g.long g.sum, summed_at s k h, summed_at t k (omega (arith, l)), x, y)

  -- a byte behind those: the sums are the same, and so is what stands for them
  same_sum : length s - 4 < i → checksum_of (summed_of s) ≡ checksum_of (summed_of t)
  unfolding checksum_of
  same_sum h =
      let a = apart (summed_of s) (summed_of t) (length s) lengths (λ j n. summed_same j (λ b q. omega (arith, q))) in
      omega (arith, a, summed-past s (length s) f.long (omega arith), summed-past t (length s) g.long (omega (arith, l)))

  by-text : length s - 4 < i → (get_or s (length s - 3) 0 ≡ get_or t (length s - 3) 0) × (get_or s (length s - 3 + 1) 0 ≡ get_or t (length s - 3 + 1) 0)
  by-text h =
      let a = two-are s (length s - 3) (check_text (checksum_of (summed_of s))) f.sum in
      let b = two-are t (length t - 3) (check_text (checksum_of (summed_of t))) g.sum in
      (a.0 ∙ (ap (λ (n : ℕ). get_or (check_text n) 0 0) (same_sum h) ∙ sym (rw l b.0)), a.1 ∙ (ap (λ (n : ℕ). get_or (check_text n) 1 0) (same_sum h) ∙ sym (rw l b.1)))

  at_place : (k : ℕ) → i ≡ k → get_or s k 0 ≡ get_or t k 0 → get_or s i 0 ≡ get_or t i 0
  at_place k e h = rw e h

  one_place : get_or s i 0 < 256 → get_or t i 0 < 256 → get_or s i 0 ≡ get_or t i 0
  one_place x y =
      order i 1
      (λ h. at_place 0 (omega arith) (f.starts ∙ sym g.starts))
      (λ h.
      order i (length s - 3)
      (λ k. let e : i ≡ 1 + (i - 1) = omega arith in at_place (1 + (i - 1)) e (by-sum (i - 1) e (omega arith) (rw e at x) (rw e at y)))
      (λ k.
      order i (length s - 2)
      (λ m. at_place (length s - 3) (omega arith) (by-text (omega arith)).0)
      (λ m.
      order i (length s - 1)
      (λ n. at_place (length s - 3 + 1) (omega arith) (by-text (omega arith)).1)
      (λ n.
      order i (length s)
      (λ o. at_place (length s - 1) (omega arith) (f.ends ∙ sym (rw l g.ends)))
      (λ o. get_or-eq_default s 0 {n = i} o ∙ sym (get_or-eq_default t 0 {n = i} (omega (arith, l))))))))

pub one-byte-found : OneByteFound
one-byte-found s p i b h x y n q =
    let f = faultless-framed s (good-faultless 1 (frame_checks s) p) in
    let g = faultless-framed (set s i b) (good-faultless 1 (frame_checks (set s i b)) q) in
    let e = get_or-set_same s i b 0 h in
    n (one_place s (set s i b) f g (sym (length-set s i b)) i (λ j o. sym (get_or-set_other s i j b 0 o)) x (rw e (omega (arith, y))) ∙ e)
