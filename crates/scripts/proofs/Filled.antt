-- The bytes of an output up to the last that is not #. Assumes nothing.
use Rattle.std.proofs.Common.{◌≡◌, ℕ, zero, suc, ◌+◌, ◌<◌, List, length, get_or, refl, add-one, arith, eq-eqb, ne_eqb}
use Rattle.laws.proofs.Passes.{order}
use Rattle.scripts.specs.Printing.{filled_in, filled_of}

-- the bytes behind a place are #
filled_to : (s : List ℕ) (i n : ℕ) → i < n → (get_or s i 0 ≡ 35 → ⊥) → ((k : ℕ) → i < k → k < n → get_or s k 0 ≡ 35) → suc i ≡ filled_in n s
unfolding filled_in
filled_to s i zero l h g = let z : ⊥ = omega arith in absurd z
filled_to s i (suc n) l h g =
    order i n (λ m. rw (eq-eqb (get_or s n 0) 35 (g n m (omega arith))) (filled_to s i n m h (λ k p q. g k p (omega arith))))
    (λ m. let e : n ≡ i = omega arith in rw (e, ne_eqb (get_or s i 0) 35 h))

none_to : (s : List ℕ) (n : ℕ) → ((k : ℕ) → k < n → get_or s k 0 ≡ 35) → 0 ≡ filled_in n s
unfolding filled_in
none_to s zero g = refl
none_to s (suc n) g = rw (eq-eqb (get_or s n 0) 35 (g n (omega arith))) (none_to s n (λ k p. g k (omega arith)))

pub filled_at : (s : List ℕ) (i : ℕ) → i < length s → (get_or s i 0 ≡ 35 → ⊥) → ((k : ℕ) → i < k → k < length s → get_or s k 0 ≡ 35) → i + 1 ≡ filled_of s
unfolding filled_of
filled_at s i l h g = rw (add-one i) (filled_to s i (length s) l h g)

pub filled_none : (s : List ℕ) → ((k : ℕ) → k < length s → get_or s k 0 ≡ 35) → 0 ≡ filled_of s
unfolding filled_of
filled_none s g = none_to s (length s) g
