-- The search answers the first telegram from its place on. Assumes nothing.
use mathlib.Core.Path.{◌≡◌, refl, sym, ap}
use mathlib.Core.Logic.{⊎_elim}
use mathlib.Core.List.{List, []}
use Prim.Native.Nat.{ℕ, zero, suc, ◌+◌, ◌-◌, ◌≤◌, ◌<◌}
use native.Mathlib.Omega.{arith}
use lib.ListN.{length, drop, get_or, length-drop}
use lib.Seq.{length-take-le}
use Rattle.laws.proofs.Passes.{order}
use Rattle.characters.specs.Marks.{lf, cr, unfinished}
use Rattle.cutting.specs.declared.turns.Turn.{Turn}
use Rattle.cutting.specs.Turns.{Plain, turn_of}
use Rattle.cutting.specs.Search.{Span, Found, Nothing, cut_from, span_of, part_of}
use Rattle.cutting.specs.Telegrams.{Telegram, FirstTelegram, SearchAnswers, PartLength, EmptyPart}
use Rattle.cutting.proofs.Cases.{apart, Case, begins, skips, ends, drops, joins, turn-case}
use Rattle.cutting.proofs.Steps.{none_left, on-ends, on-joins, on-drops}
use Rattle.cutting.proofs.Openings.{Opening, opening_of, telegram-of, one-opening, begun-at, longer, came}

-- where the search stands at i with len bytes gathered: the openings there, and no telegram passed
record Gathers (s : List ℕ) (from i len : ℕ) : Type 0 where
  reach : from + len ≤ i
  only : (o : ℕ) → from ≤ o → Opening s o i → o + len ≡ i
  begun : 0 < len → Opening s (i - len) i
  passed : (o e : ℕ) → from ≤ o → Telegram s o e → i < e

module _ (s : List ℕ) (from : ℕ) where
  -- a telegram does not end with a byte that is no CR
  not-cr : (i : ℕ) → ¬ (get_or s i 0 ≡ cr) → ((o e : ℕ) → from ≤ o → Telegram s o e → i < e) → (o e : ℕ) → from ≤ o → Telegram s o e → i + 1 < e
  not-cr i c p o e f t =
      order (i + 1) e (λ l. l)
      (λ m. let l = p o e f t in let q : e - 1 ≡ i = omega arith in absurd (c (rw q at t.ends)))

  -- where it stands behind each turn of the byte at i
  at-begins : (i len : ℕ) → Gathers s from i len → get_or s i 0 ≡ lf → Gathers s from (i + 1) 1
  at-begins i len g l = record { reach = omega (arith, g.reach); only = only; begun = λ _. rw q (begun-at s i l); passed = not-cr i (λ c. apart l c) g.passed }
    where
      q : i + 1 - 1 ≡ i
      q = omega arith

      only : (o : ℕ) → from ≤ o → Opening s o (i + 1) → o + 1 ≡ i + 1
      only o f p = ⊎_elim (λ e. omega arith) (λ w. absurd (w.1.0 l)) (came s o i p)

  at-skips : (i : ℕ) → Gathers s from i 0 → ¬ (get_or s i 0 ≡ lf) → Gathers s from (i + 1) 0
  at-skips i g l = record { reach = omega (arith, g.reach); only = only; begun = λ h. let z : ⊥ = omega arith in absurd z; passed = passed }
    where
      none : {A : Type 0} (o : ℕ) → from ≤ o → Opening s o i → A
      none o f p = let q = g.only o f p in let z : ⊥ = omega (arith, p.before) in absurd z

      only : (o : ℕ) → from ≤ o → Opening s o (i + 1) → o + 0 ≡ i + 1
      only o f p = ⊎_elim (λ e. absurd (l (rw e at p.begins))) (λ w. none o f w.0) (came s o i p)

      passed : (o e : ℕ) → from ≤ o → Telegram s o e → i + 1 < e
      passed o e f t =
          order (i + 1) e (λ m. m)
          (λ m. let k = g.passed o e f t in let q : e - 1 ≡ i = omega arith in none o f (rw q at (opening_of s o e t)))

  at-drops : (i len : ℕ) → Gathers s from i len → Plain (get_or s i 0) → unfinished ≤ len → Gathers s from (i + 1) 0
  at-drops i len g b h = record { reach = omega (arith, g.reach); only = only; begun = λ k. let z : ⊥ = omega arith in absurd z; passed = not-cr i b.1 g.passed }
    where
      only : (o : ℕ) → from ≤ o → Opening s o (i + 1) → o + 0 ≡ i + 1
      only o f p =
          ⊎_elim (λ e. absurd (b.0 (rw e at p.begins)))
          (λ w. let q = g.only o f w.0 in let z : ⊥ = omega (arith, w.2) in absurd z) (came s o i p)

  at-joins : (i len : ℕ) → Gathers s from i len → Plain (get_or s i 0) → 0 < len → len < unfinished → Gathers s from (i + 1) (len + 1)
  at-joins i len g b z h =
      record {
        reach = omega (arith, g.reach);
        only = only;
        begun = λ _. rw q (longer s (i - len) i (g.begun z) b (omega (arith, g.reach)));
        passed = not-cr i b.1 g.passed;
      }
    where
      q : i + 1 - (len + 1) ≡ i - len
      q = omega arith

      only : (o : ℕ) → from ≤ o → Opening s o (i + 1) → o + (len + 1) ≡ i + 1
      only o f p =
          ⊎_elim (λ e. absurd (b.0 (rw e at p.begins)))
          (λ w. let q = g.only o f w.0 in omega arith) (came s o i p)

  -- what it answers at a CR that ends a telegram, and at the end
  found : (i len : ℕ) → Gathers s from i len → i < length s → get_or s i 0 ≡ cr → 0 < len → FirstTelegram s from (Found (i - len) (i + 1))
  found i len g h c z =
      (omega (arith, g.reach), telegram-of s (i - len) i (g.begun z) h c, λ o e f t. let k = g.passed o e f t in omega arith)

  at-end : (i len : ℕ) → Gathers s from i len → length s ≤ i → FirstTelegram s from (cut_from (drop i s) len i)
  at-end i len g h = rw (none_left s len i h) (λ o e f t. let k = g.passed o e f t in omega (arith, t.within))

  -- the search's answer from any place where it may stand; k bounds what is left
  onwards : (k i len : ℕ) → length s ≤ i + k → Gathers s from i len → FirstTelegram s from (cut_from (drop i s) len i)
  onwards zero i len h g = at-end i len g (omega arith)
  onwards (suc k) i len h g =
      order i (length s) (λ l. turn l (turn_of len (get_or s i 0)) (turn-case len (get_or s i 0)) refl (λ n g'. onwards k (i + 1) n (omega arith) g')) (at-end i len g)
    where
      turn : i < length s → (t : Turn) → Case len (get_or s i 0) t → turn_of len (get_or s i 0) ≡ t
          → ((n : ℕ) → Gathers s from (i + 1) n → FirstTelegram s from (cut_from (drop (i + 1) s) n (i + 1))) → FirstTelegram s from (cut_from (drop i s) len i)
      turn l t (begins b) e go = rw (on-joins s len i 0 l e) (go 1 (at-begins i len g b))
      turn l t (skips b z) e go = rw (on-drops s len i l e) (go 0 (at-skips i (rw z at g) b))
      turn l t (ends c z) e go = rw (on-ends s len i len l e) (found i len g l c z)
      turn l t (drops b c m) e go = rw (on-drops s len i l e) (go 0 (at-drops i len g (b, c) m))
      turn l t (joins b c z m) e go = rw (on-joins s len i len l e) (go (len + 1) (at-joins i len g (b, c) z m))

  -- what the search finds is the first
  pub span-first : FirstTelegram s from (span_of s from)
  unfolding span_of
  span-first =
      onwards (length s) from 0 (omega arith)
      record { reach = omega arith; only = λ o f p. let z : ⊥ = omega (arith, p.before) in absurd z; begun = λ h. let z : ⊥ = omega arith in absurd z; passed = λ o e f t. omega (arith, t.long) }

  -- the first is one
  one-first : (p q : Span) → FirstTelegram s from p → FirstTelegram s from q → p ≡ q
  one-first (Found o e) (Found o' e') (f, t, first) (f', t', first') =
      let x : e ≡ e' = omega (arith, first o' e' f' t', first' o e f t) in
      let y : o ≡ o' = one-opening s o o' (e - 1) (opening_of s o e t) (rw (sym x) at (opening_of s o' e' t')) in
      cc
  one-first (Found o e) Nothing (f, t, first) none = absurd (none o e f t)
  one-first Nothing (Found o e) none (f, t, first) = absurd (none o e f t)
  one-first Nothing Nothing none none' = refl

-- the search answers a span just where that span is the first
pub search-answers : SearchAnswers
search-answers s from p = (λ e. rw e at (span-first s from), λ f. one-first s from (span_of s from) p (span-first s from) f)

-- the part found is as long as its span
pub part_length : PartLength
part_length s from o e h =
    let f : FirstTelegram s from (Found o e) = rw h at (span-first s from) in
    length-take-le (e - o) (drop o s) (omega (arith, f.1.within, length-drop o s))

-- so it is empty just where none is left
pub empty-part : EmptyPart
empty-part s from = (λ h. told (span_of s from) refl h, λ h. rw h)
  where
    told : (p : Span) → span_of s from ≡ p → part_of s p ≡ [] → p ≡ Nothing
    told Nothing e h = refl
    told (Found o e) q h =
        let f : FirstTelegram s from (Found o e) = rw q at (span-first s from) in
        let z : ⊥ = omega (arith, part_length s from o e q, ap length h, f.1.long) in
        absurd z
