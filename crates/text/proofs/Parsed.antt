-- What digits say, one after the other. Assumes nothing.
use Rattle.std.proofs.Common.{◌≡◌, ℕ, ◌+◌, ◌-◌, ◌*◌, ◌%◌, ◌^◌, ◌<◌, true, List, [], ◌∷◌, sym, refl, ◌∙◌, ap₂, arith}
use native.Mathlib.Nat.{add-mod, mod-mod}
use Rattle.std.specs.List.{fold}
use Rattle.laws.specs.Numerals.{number_on}
use Rattle.text.specs.Numbers.{number_said}

-- sums of numbers that agree modulo m agree
sums : (m a b x y : ℕ) → a % m ≡ x % m → b % m ≡ y % m → (a + b) % m ≡ (x + y) % m
sums m a b x y h k = add-mod a b m ∙ ap₂ (λ (i j : ℕ). (i + j) % m) h k ∙ sym (add-mod x y m)

-- numbers that agree modulo m agree behind the same digits
agree : (s : List ℕ) (m a b : ℕ) → a % m ≡ b % m → number_on true a s % m ≡ number_on true b s % m
unfolding number_on
agree [] m a b h = h
agree (d ∷ s) m a b h =
    let two = sums m a a b b h h in
    let four = sums m (a + a) (a + a) (b + b) (b + b) two two in
    let eight = sums m (a + a + (a + a)) (a + a + (a + a)) (b + b + (b + b)) (b + b + (b + b)) four four in
    let ten = sums m (a + a + (a + a) + (a + a + (a + a))) (a + a) (b + b + (b + b) + (b + b + (b + b))) (b + b) eight two in
    let p : a * 10 ≡ a + a + (a + a) + (a + a + (a + a)) + (a + a) = omega arith in
    let q : b * 10 ≡ b + b + (b + b) + (b + b + (b + b)) + (b + b) = omega arith in
    agree s m (a * 10 + (d - 48) % 10) (b * 10 + (d - 48) % 10) (sums m (a * 10) ((d - 48) % 10) (b * 10) ((d - 48) % 10) (rw (p, q) ten) refl)

-- the number is what the digits give one by one
digits-on : (s : List ℕ) (n : ℕ) → n < 2 ^ 64 → number_on true n s % 2 ^ 64 ≡ fold (λ m b. (m * 10 + (b - 48) % 10) % 2 ^ 64) n s
unfolding number_on
digits-on [] n l = omega arith
digits-on (d ∷ s) n l =
    agree s (2 ^ 64) (n * 10 + (d - 48) % 10) ((n * 10 + (d - 48) % 10) % 2 ^ 64) (sym (mod-mod (n * 10 + (d - 48) % 10) (2 ^ 64)))
    ∙ digits-on s ((n * 10 + (d - 48) % 10) % 2 ^ 64) (omega arith)

pub number_is : (s : List ℕ) → number_said s ≡ fold (λ m b. (m * 10 + (b - 48) % 10) % 2 ^ 64) 0 s
unfolding number_said
number_is s = digits-on s 0 (omega arith)
