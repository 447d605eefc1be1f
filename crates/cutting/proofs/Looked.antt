-- The next CR with an LF near before it ends the first telegram. Assumes nothing.
use mathlib.Core.Path.{◌≡◌, refl, sym}
use mathlib.Core.List.{List}
use Prim.Native.Nat.{ℕ, ◌+◌, ◌-◌, ◌≤◌, ◌<◌}
use native.Mathlib.Omega.{arith}
use lib.ListN.{length, get_or}
use Rattle.laws.proofs.Passes.{order}
use Rattle.cutting.specs.Search.{Found, Nothing, span_of}
use Rattle.cutting.specs.Looks.{NextCr, NearLf}
use Rattle.cutting.specs.Turns.{Plain}
use Rattle.cutting.specs.Telegrams.{Telegram}
use Rattle.cutting.proofs.Cases.{apart}
use Rattle.cutting.proofs.First.{search-answers}

-- every telegram from a place on begins at i or behind it
abbrev pub Passed : List ℕ → ℕ → ℕ → Type 0
Passed s from i = (from ≤ i) × ((o e : ℕ) → from ≤ o → Telegram s o e → i ≤ o)

module _ (s : List ℕ) (from : ℕ) where
  -- a telegram from i on ends behind the next CR
  ends-behind : (i c o e : ℕ) → NextCr s i c → i ≤ o → Telegram s o e → c + 1 ≤ e
  ends-behind i c o e n h t =
      order c e (λ l. omega arith) (λ m. absurd (n.none (e - 1) (omega (arith, t.long)) (omega (arith, t.long)) t.ends))

  pub no-telegram : (i : ℕ) → Passed s from i → length s ≤ i → Nothing ≡ span_of s from
  no-telegram i p h = sym ((search-answers s from Nothing).1 (λ o e f t. let z : ⊥ = omega (arith, p.1 o e f t, t.long, t.within) in absurd z))

  pub no-telegram-ends : (i c : ℕ) → Passed s from i → NextCr s i c → length s ≤ c → Nothing ≡ span_of s from
  no-telegram-ends i c p n h =
      sym ((search-answers s from Nothing).1 (λ o e f t. let z : ⊥ = omega (arith, ends-behind i c o e n (p.1 o e f t) t, t.within) in absurd z))

  pub first_ends : (i c back : ℕ) → Passed s from i → NextCr s i c → c < length s → NearLf s i c back → 0 < back → Found (c - back) (c + 1) ≡ span_of s from
  first_ends i c back p n h l z =
      sym
      ((search-answers s from (Found (c - back) (c + 1))).1
      (omega (arith, p.0, (l.stands z).2), telegram, λ o e f t. ends-behind i c o e n (p.1 o e f t) t))
    where
      between : (k : ℕ) → c - back < k → k < c + 1 - 1 → Plain (get_or s k 0)
      between k a b =
          let q : c - (c - k) ≡ k = omega arith in
          (rw q at (l.nearest (c - k) (omega arith) (omega arith)), n.none k (omega (arith, (l.stands z).2)) (omega arith))

      telegram : Telegram s (c - back) (c + 1)
      telegram =
          let q : c + 1 - 1 ≡ c = omega arith in
          record {
            begins = (l.stands z).0;
            ends = rw q (n.stands h);
            long = omega (arith, (l.stands z).2);
            short = omega (arith, (l.stands z).1, (l.stands z).2);
            within = omega arith;
            between = between;
          }

  -- where no LF is near before the next CR, no telegram ends there, and none goes on over it
  pub cr-passed : (i c : ℕ) → Passed s from i → NextCr s i c → c < length s → NearLf s i c 0 → Passed s from (c + 1)
  cr-passed i c p n h l = (omega (arith, p.0, n.onwards), behind)
    where
      ends-here : (o e : ℕ) → i ≤ o → o < c → c + 1 ≤ e → Telegram s o e → ⊥
      ends-here o e g b m t =
          order c (e - 1)
          (λ x. (t.between c b x).1 (n.stands h))
          (λ x. let q : c - (c - o) ≡ o = omega arith in l.none refl (c - o) (omega arith) (omega (arith, t.short)) (omega arith) (rw q t.begins))

      behind : (o e : ℕ) → from ≤ o → Telegram s o e → c + 1 ≤ o
      behind o e f t =
          let g = p.1 o e f t in
          order c o (λ x. omega arith)
          (λ x. order o c (λ y. absurd (ends-here o e g y (ends-behind i c o e n g t) t)) (λ y. let q : o ≡ c = omega arith in apart (rw q at t.begins) (n.stands h)))
