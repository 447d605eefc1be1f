-- What the demand says of the runs. Assumes nothing.
use mathlib.Core.Path.{◌≡◌, refl, ap}
use mathlib.Core.Bool.{true}
use mathlib.Core.List.Memᴰ
use mathlib.Core.List.{List, [], ◌∷◌, Memᴰ}
use mathlib.Core.Logic.{◌⊎◌, inl, inr}
use Prim.Native.Nat.{ℕ}
use native.Mathlib.Omega.{arith}
use lib.ListN.{length, get_or}
use Rattle.laws.specs.Truth.{All}
use Rattle.forms.specs.Lines.{is_line}
use Rattle.protocol.specs.History.{Tel, over, handled, again}
use Rattle.protocol.specs.Demand.{NoLostInside, Promise, Sub, UpToLast, now, all, but_last}
use Rattle.demand3.specs.Runs.{Run, Happens, kept_runs, place, poll, approved}
use Rattle.demand3.specs.Outside.{late_sending_history, late_answer_history, desk_restart_history, master_restart_history, spoilt_passes_history, first_place, spoilt_place}
use Rattle.demand3.specs.Verdicts.{Promises, NotSupposed, NotPromised, OutsideTwice, OutsideAnswered, OutsideUnsent, StaleNot}
use Rattle.protocol.proofs.Stepwise.{Held, of-held}
use Rattle.demand3.proofs.Theorem.{demand3}
use Rattle.demand3.proofs.Runs.{runs}

-- where runs make their histories, the supposition gives the promise
promised : (rs : List Run) → All (λ r. is_line r.line ≡ true) rs → All Happens rs → All (λ r. Held r.history) rs →
    All (λ r. NoLostInside r.history × Promise r.history) rs
promised [] l e k = tt
promised (r ∷ rs) l e k =
    let s = of-held r.history k.0 in
    ((s, rw e.0 at (demand3 r.line l.0 r.from r.events (rw e.0 s))), promised rs l.1 e.1 k.1)

-- no lost line was noted before a sending was over
unlost : ⊥ → ⊥
unlost q = q

pub promises : Promises
promises =
    promised kept_runs (refl, (refl, (refl, (refl, (refl, (refl, (refl, (refl, (refl, tt))))))))) runs.0 (
      (unlost, (unlost, (unlost, (unlost, (unlost, (unlost, tt)))))),
      (
        (unlost, (unlost, (unlost, tt))),
        (
          (unlost, (unlost, (unlost, tt))),
          (
            (unlost, (unlost, tt)),
            (
              (unlost, (unlost, (unlost, tt))),
              ((unlost, (unlost, (unlost, tt))), ((unlost, (unlost, (unlost, (unlost, tt)))), ((unlost, (unlost, tt)), ((unlost, (unlost, tt)), tt)))),
            ),
          ),
        ),
      ),
    )

pub not-supposed : NotSupposed
not-supposed = (
  (
    λ k. k (over poll ∷ handled poll approved ∷ []) _ poll refl (inl refl) now,
    (λ k. k (over poll ∷ handled poll approved ∷ again poll ∷ []) _ poll refl (inl refl) now, tt),
  ),
  λ k. k (over poll ∷ handled poll approved ∷ []) _ poll refl (inl refl) now,
)

-- the ordinals do not rise
pub not-promised : NotPromised
not-promised = ((λ p. omega (arith, p.1.0), (λ p. omega (arith, p.1.0), tt)), λ p. omega (arith, p.1.0))

pub outside-twice : OutsideTwice
outside-twice = (
  (of-held late_sending_history (unlost, (unlost, (unlost, tt))), λ p. omega (arith, p.1.0)),
  ((of-held desk_restart_history (unlost, (unlost, tt)), λ p. omega (arith, p.1.0)), tt),
)

-- a telegram with its answer
abbrev Entry : Type 0
Entry = Tel (List ℕ) × List ℕ

-- one with another ordinal is not among these
absent : {z y : Entry} {l : List Entry} → (z.0.0 ≡ y.0.0 → ⊥) → (Memᴰ z l → ⊥) → Memᴰ z (y ∷ l) → ⊥
absent {z = z} {y = y} {l = l} n f m = go (Memᴰ.cases_cons m)
  where
    go : (z ≡ y) ⊎ Memᴰ z l → ⊥
    go (inl e) = n (ap (λ (x : Entry). x.0.0) e)
    go (inr k) = f k

pub outside-answered : OutsideAnswered
outside-answered = (
  (of-held late_answer_history (unlost, (unlost, (unlost, tt))), λ p. absent (λ q. omega (arith, q)) (absent (λ q. omega (arith, q)) Memᴰ.not-nil) (p.0 tt)),
  ((of-held master_restart_history (unlost, (unlost, tt)), λ p. absent (λ q. omega (arith, q)) Memᴰ.not-nil (p.0 tt)), tt),
)

-- of lists of one entry each, the one with some entries left out has the other's
one_left : {X : Type 0} {x y : X} → Sub (x ∷ []) (y ∷ []) → x ≡ y
one_left (Sub.take s) = refl
one_left (Sub.skip s) = elim s [ ]

pub outside-unsent : OutsideUnsent
outside-unsent = (of-held spoilt_passes_history (unlost, tt), λ s. let q : get_or spoilt_place.1 6 0 ≡ get_or first_place.1 6 0 = ap (λ (x : Tel (List ℕ)). get_or x.1 6 0) (one_left s) in omega (arith, q))

-- lists of one length that are equal up to the last are equal
as_long : {X : Type 0} {k l : List X} → UpToLast k l → length k ≡ length l → k ≡ l
as_long all q = refl
as_long (but_last {l = l}) q = absurd (omega (arith, q))

-- the ordinal of the newest
abbrev newest : List Entry → ℕ
newest [] = 0
newest (z ∷ l) = z.0.0

pub stale-not : StaleNot
stale-not = (λ f. unhandled (f place approved (Memᴰ.head refl)), λ u. let q : ◌≡◌ {A = ℕ} 1 0 = ap newest (as_long u refl) in omega (arith, q))
  where
    unhandled : (place ≡ poll) ⊎ ⊥ → ⊥
    unhandled (inl e) = let q = ap (λ (z : Tel (List ℕ)). z.0) e in omega (arith, q)
    unhandled (inr k) = k
