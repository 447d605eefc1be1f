-- The supposition as the proof carries it, step by step, and that it says what the demand's words say. Assumes nothing.
use mathlib.Core.Path.{◌≡◌, refl, ap}
use mathlib.Core.List.{List, [], ◌∷◌, ◌++◌}
use mathlib.Core.Logic.{◌⊎◌, inl, inr}
use Prim.Native.Nat.{ℕ, suc, ◌≤◌}
use native.Mathlib.Omega.{arith}
use lib.ListN.{length}
use Rattle.protocol.specs.History.{Tel, Item, Hist, sent, again, noted, handled, over, answered, gave_up}
use Rattle.protocol.specs.Demand.{Was, Over, NoLostInside, Sub, Counted, Falling, now, before, none, skip, take}

module _ {T A : Type 0} where
  -- the desk noted a lost line after it handled x
  abbrev pub LostSince : Tel T → Hist T A → Type 0
  LostSince x [] = ⊥
  LostSince x (sent y ∷ h) = LostSince x h
  LostSince x (again y ∷ h) = LostSince x h
  LostSince x (noted ∷ h) = Was x h ⊎ LostSince x h
  LostSince x (handled y a ∷ h) = LostSince x h
  LostSince x (over y ∷ h) = LostSince x h
  LostSince x (answered y a k ∷ h) = LostSince x h
  LostSince x (gave_up y k ∷ h) = LostSince x h

  -- whenever a sending of x was lost, or the desk is done hearing it, no lost line was noted since x was handled
  abbrev pub Held : Hist T A → Type 0
  Held [] = Unit {0}
  Held (sent x ∷ h) = Held h
  Held (again x ∷ h) = Held h
  Held (noted ∷ h) = Held h
  Held (handled x a ∷ h) = Held h
  Held (over x ∷ h) = (LostSince x h → ⊥) × Held h
  Held (answered x a k ∷ h) = Held h
  Held (gave_up x k ∷ h) = Held h

  abbrev Split : Tel T → Hist T A → Type 0
  Split x h = (newer : Hist T A) × (older : Hist T A) × (h ≡ newer ++ (noted ∷ older)) × Was x older

  more : (e : Item T A) {x : Tel T} {h : Hist T A} → Split x h → Split x (e ∷ h)
  more e p = (e ∷ p.0, p.1, ap (λ k. e ∷ k) p.2, p.3)

  lost-split : (x : Tel T) (h : Hist T A) → LostSince x h → Split x h
  lost-split x [] p = absurd p
  lost-split x (sent y ∷ h) p = more (sent y) (lost-split x h p)
  lost-split x (again y ∷ h) p = more (again y) (lost-split x h p)
  lost-split x (noted ∷ h) (inl p) = ([], h, refl, p)
  lost-split x (noted ∷ h) (inr p) = more noted (lost-split x h p)
  lost-split x (handled y a ∷ h) p = more (handled y a) (lost-split x h p)
  lost-split x (over y ∷ h) p = more (over y) (lost-split x h p)
  lost-split x (answered y a k ∷ h) p = more (answered y a k) (lost-split x h p)
  lost-split x (gave_up y k ∷ h) p = more (gave_up y k) (lost-split x h p)

  no-lost-before : (e : Item T A) (h : Hist T A) → NoLostInside (e ∷ h) → NoLostInside h
  no-lost-before e h f newer older x p w o = f (e ∷ newer) older x (ap (λ k. e ∷ k) p) w (before o)

  -- the demand's supposition gives the stepwise one
  pub held_of : (h : Hist T A) → NoLostInside h → Held h
  held_of [] f = tt
  held_of (sent y ∷ h) f = held_of h (no-lost-before (sent y) h f)
  held_of (again y ∷ h) f = held_of h (no-lost-before (again y) h f)
  held_of (noted ∷ h) f = held_of h (no-lost-before noted h f)
  held_of (handled y a ∷ h) f = held_of h (no-lost-before (handled y a) h f)
  held_of (over y ∷ h) f =
      (λ p. let s = lost-split y h p in f (over y ∷ s.0) s.1 y (ap (λ k. over y ∷ k) s.2) s.3 now, held_of h (no-lost-before (over y) h f))
  held_of (answered y a k ∷ h) f = held_of h (no-lost-before (answered y a k) h f)
  held_of (gave_up y k ∷ h) f = held_of h (no-lost-before (gave_up y k) h f)

  lost-in : (newer older : Hist T A) (x : Tel T) → Was x older → LostSince x (newer ++ (noted ∷ older))
  lost-in [] older x w = inl w
  lost-in (sent y ∷ n) older x w = lost-in n older x w
  lost-in (again y ∷ n) older x w = lost-in n older x w
  lost-in (noted ∷ n) older x w = inr (lost-in n older x w)
  lost-in (handled y a ∷ n) older x w = lost-in n older x w
  lost-in (over y ∷ n) older x w = lost-in n older x w
  lost-in (answered y a k ∷ n) older x w = lost-in n older x w
  lost-in (gave_up y k ∷ n) older x w = lost-in n older x w

  held-tail : (e : Item T A) (h : Hist T A) → Held (e ∷ h) → Held h
  held-tail (sent y) h k = k
  held-tail (again y) h k = k
  held-tail noted h k = k
  held-tail (handled y a) h k = k
  held-tail (over y) h k = k.1
  held-tail (answered y a n) h k = k
  held-tail (gave_up y n) h k = k

  held-inside : (older : Hist T A) (x : Tel T) {newer : Hist T A} → Over x newer → Held (newer ++ (noted ∷ older)) → Was x older → ⊥
  held-inside older x (now {h = n}) k w = k.0 (lost-in n older x w)
  held-inside older x (before {e = e} {h = n} o) k w = held-inside older x o (held-tail e (n ++ (noted ∷ older)) k) w

  -- and the other way: the two say one thing
  pub of-held : (h : Hist T A) → Held h → NoLostInside h
  of-held h k newer older x p w o = held-inside older x o (rw p at k) w

module _ {T : Type 0} where
  falling-up : (a b : ℕ) (l : List (Tel T)) → a ≤ b → Falling a l → Falling b l
  falling-up a b [] p i = tt
  falling-up a b (x ∷ l) p i = (omega (arith, i.0), i.1)

  -- none of a list is twice in it, where it is a part of one that counts up
  pub falling : {k l : List (Tel T)} → Sub k l → Counted l → Falling (length l) k
  falling none c = tt
  falling (skip {k = k} {l = l} s) c = falling-up (length l) (suc (length l)) k (omega arith) (falling s c.1)
  falling (take {x = x} {k = k} s) c = rw c.0 (omega arith, falling s c.1)
