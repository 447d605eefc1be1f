-- The characters of a number are permitted, asked from the last to the first. Assumes nothing.
use mathlib.Core.Path.{◌≡◌, refl, sym, ap, ◌∙◌}
use mathlib.Core.Bool.{Bool, true, false}
use mathlib.Core.List.{List, [], ◌∷◌}
use Prim.Native.Nat.{ℕ, zero, suc, ◌+◌, ◌-◌, ◌/◌, ◌%◌, ◌<◌}
use native.Mathlib.Omega.{arith}
use native.Mathlib.Nat.{add-zero}
use Rattle.laws.specs.Truth.{both}
use Rattle.laws.proofs.Passes.{both-off}
use Rattle.laws.specs.Numerals.{base, nought, numeral_on, numeral}
use Rattle.values.specs.Packets.{permits}
use Rattle.values.specs.Values.{permitted_from}

-- two tests, and a third behind them
grouped : (a b c : Bool) → both a (both b c) ≡ both (both a (both b true)) c
grouped true true c = refl
grouped true false c = refl
grouped false b c = refl

whole : (a : Bool) → both a true ≡ a
whole true = refl
whole false = refl

module _ (line kind letter at : ℕ) (decimal : Bool) where
  -- a number's characters in front of others are permitted just where both are
  in-front : (w n : ℕ) (t : List ℕ)
      → permitted_from line kind letter at (numeral_on decimal w n t)
      ≡ both (permitted_from line kind letter at (numeral decimal w n)) (permitted_from line kind letter (at + w) t)
  unfolding numeral_on permitted_from
  in-front zero n t = rw (add-zero at)
  in-front (suc w) n t =
      let x = nought decimal + n % base decimal in
      let m = n / base decimal in
      let e : at + w + 1 ≡ at + suc w = omega arith in
      in-front w m (x ∷ t) ∙ rw e (grouped (permitted_from line kind letter at (numeral decimal w m)) (permits line kind letter (at + w) x) (permitted_from line kind letter (at + suc w) t))
      ∙ ap (λ (b : Bool). both b (permitted_from line kind letter (at + suc w) t)) (sym (in-front w m (x ∷ [])))

  -- the last digit decides, or the digits before it do
  module _ (i m x : ℕ) (h : 0 < i) (d : x ≡ nought decimal + m % base decimal) where
    last : permitted_from line kind letter at (numeral decimal i m)
        ≡ both (permitted_from line kind letter at (numeral decimal (i - 1) (m / base decimal))) (both (permits line kind letter (at + (i - 1)) x) true)
    unfolding numeral_on permitted_from
    last = go i h
      where
        go : (k : ℕ) → 0 < k → permitted_from line kind letter at (numeral decimal k m)
            ≡ both (permitted_from line kind letter at (numeral decimal (k - 1) (m / base decimal))) (both (permits line kind letter (at + (k - 1)) x) true)
        go zero z = let y : ⊥ = omega arith in absurd y
        go (suc w) z = let k : suc w - 1 ≡ w = omega arith in rw (k, d) (in-front w (m / base decimal) ((nought decimal + m % base decimal) ∷ []))

    pub last_good : (q : ℕ) → q ≡ m / base decimal → permits line kind letter (at + (i - 1)) x ≡ true
        → permitted_from line kind letter at (numeral decimal i m) ≡ permitted_from line kind letter at (numeral decimal (i - 1) q)
    last_good q e g = last ∙ rw (g, e) (whole (permitted_from line kind letter at (numeral decimal (i - 1) (m / base decimal))))

    pub last_bad : permits line kind letter (at + (i - 1)) x ≡ false → permitted_from line kind letter at (numeral decimal i m) ≡ false
    last_bad g = last ∙ rw g (both-off (permitted_from line kind letter at (numeral decimal (i - 1) (m / base decimal))) false refl)
