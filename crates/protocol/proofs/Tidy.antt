-- What needs no supposition: reported counts are the sendings made, and both ends say only what they may. Assumes nothing.
use mathlib.Core.Path.{◌≡◌, refl, sym, ◌∙◌}
use mathlib.Core.Bool.{Bool, false}
use mathlib.Core.List.{[], ◌∷◌}
use Prim.Native.Nat.{ℕ, suc, ◌+◌, ◌<◌}
use native.Mathlib.Omega.{arith}
use lib.Dec.{T as So}
use lib.ListN.{length}
use borrow.Author.Tests.{eq-eqb, ne_eqb}
use Rattle.laws.proofs.Truths.{clash}
use Rattle.protocol.specs.History.{Tel, Hist, sent, again, noted, handled, over, answered, gave_up, sents, sendings}
use Rattle.protocol.specs.Demand.{Reported, Spoken}
use Rattle.protocol.specs.Ends.{Did, Said, Line, empty, there, back, line_after, tel_after, hist_after, noting, line_said, hist_said}
use Rattle.protocol.specs.Rules.{Reading, MView, DView, First, MActs, MHears, DHears, bad, frame, free, waits, view}

module _ {T A : Type 0} where
  -- the ordinals of all sendings are below b
  abbrev Below : ℕ → Hist T A → Type 0
  Below b [] = Unit {0}
  Below b (sent x ∷ h) = (x.0 < b) × Below b h
  Below b (again x ∷ h) = (x.0 < b) × Below b h
  Below b (noted ∷ h) = Below b h
  Below b (handled x a ∷ h) = Below b h
  Below b (over x ∷ h) = Below b h
  Below b (answered x a k ∷ h) = Below b h
  Below b (gave_up x k ∷ h) = Below b h

  below_up : (b : ℕ) (h : Hist T A) → Below b h → Below (suc b) h
  below_up b [] i = tt
  below_up b (sent x ∷ h) i = (omega (arith, i.0), below_up b h i.1)
  below_up b (again x ∷ h) i = (omega (arith, i.0), below_up b h i.1)
  below_up b (noted ∷ h) i = below_up b h i
  below_up b (handled x a ∷ h) i = below_up b h i
  below_up b (over x ∷ h) i = below_up b h i
  below_up b (answered x a k ∷ h) i = below_up b h i
  below_up b (gave_up x k ∷ h) i = below_up b h i

  -- so none of them is of b
  unsent : (b : ℕ) (h : Hist T A) → Below b h → sendings b h ≡ 0
  unsent b [] i = refl
  unsent b (sent x ∷ h) i = rw (ne_eqb x.0 b (λ q. omega (arith, i.0, q))) (unsent b h i.1)
  unsent b (again x ∷ h) i = rw (ne_eqb x.0 b (λ q. omega (arith, i.0, q))) (unsent b h i.1)
  unsent b (noted ∷ h) i = unsent b h i
  unsent b (handled x a ∷ h) i = unsent b h i
  unsent b (over x ∷ h) i = unsent b h i
  unsent b (answered x a k ∷ h) i = unsent b h i
  unsent b (gave_up x k ∷ h) i = unsent b h i

-- a good frame can be heeded
abbrev pub Heeded : Reading → Type 0
Heeded bad = ⊥
Heeded (frame n) = Unit {0}

module _ {F : Type 0} (nak : F → Bool) (P Q : F → Type 0) where
  -- while the master waits, its count is the sendings made of the newest telegram
  abbrev Tallied : MView F → Tel F → Hist F F → Type 0
  Tallied (free n) x h = Unit {0}
  Tallied (waits n f k) x h = (k ≡ sendings x.0 h) × (x.0 < length (sents h))

  -- while the desk's line is good, Q holds of its stored answer
  abbrev Stocked : DView F → Type 0
  Stocked (view g l a) = So g → Q a

  -- an answer on the line that is no N with 1 or 2 is one that the desk made
  abbrev Bears : Line F → Type 0
  Bears empty = Unit {0}
  Bears (there f) = Unit {0}
  Bears (back f) = nak f ≡ false → Q f

  abbrev pub Tidy : MView F → DView F → Line F → Tel F → Hist F F → Type 0
  Tidy v u w x h = record {
    reported : Reported h;
    spoken : Spoken P Q h;
    below : Below (length (sents h)) h;
    tallied : Tallied v x h;
    stocked : Stocked u;
    bears : Bears w;
  }

  one_more : (i : ℕ) (f : F) (h : Hist F F) → sendings i (again (i, f) ∷ h) ≡ suc (sendings i h)
  one_more i f h = rw (eq-eqb i i refl) refl

  pub tidy-acts : {read : F → Reading} {v v' : MView F} {o : Did F} → MActs read P v o v' → (u : DView F) (w : Line F) (x : Tel F) (h : Hist F F) → Tidy v u w x h →
      Tidy v' u (line_after o w) (tel_after o x h) (hist_after o x h)
  tidy-acts MActs.rests u w x h i = i
  tidy-acts (MActs.sends {f = f} e p) u w x h i =
      let b = length (sents h) in
      let c : 1 ≡ sendings b (sent (b, f) ∷ h) = rw (eq-eqb b b refl, unsent b h i.below) refl in
      record { reported = i.reported; spoken = (p, i.spoken); below = (omega arith, below_up b h i.below); tallied = (c, omega arith); stocked = i.stocked; bears = tt }
  tidy-acts (MActs.resends {f = f} {k = k}) u w x h i =
      let c : k + 1 ≡ sendings x.0 (again (x.0, f) ∷ h) = omega (arith, i.tallied.0, one_more x.0 f h) in
      record { reported = i.reported; spoken = i.spoken; below = (i.tallied.1, i.below); tallied = (c, i.tallied.1); stocked = i.stocked; bears = tt }
  tidy-acts MActs.gives u w x h i =
      record { reported = (i.tallied.0, i.reported); spoken = i.spoken; below = i.below; tallied = tt; stocked = i.stocked; bears = tt }

  -- the master hears g
  pub tidy-hears : {v v' : MView F} {g : F} {o : Did F} {r : Reading} → MHears nak g r v o v' → (u : DView F) (w : Line F) (x : Tel F) (h : Hist F F) →
      (Heeded r → nak g ≡ false → Q g) → Tidy v u w x h → Tidy v' u (line_after o empty) (tel_after o x h) (hist_after o x h)
  tidy-hears MHears.ignores u w x h q i =
      record { reported = i.reported; spoken = i.spoken; below = i.below; tallied = i.tallied; stocked = i.stocked; bears = tt }
  tidy-hears (MHears.resends {f = f} {k = k}) u w x h q i =
      let c : k + 1 ≡ sendings x.0 (again (x.0, f) ∷ h) = omega (arith, i.tallied.0, one_more x.0 f h) in
      record { reported = i.reported; spoken = i.spoken; below = (i.tallied.1, i.below); tallied = (c, i.tallied.1); stocked = i.stocked; bears = tt }
  tidy-hears MHears.gives u w x h q i =
      record { reported = (i.tallied.0, i.reported); spoken = i.spoken; below = i.below; tallied = tt; stocked = i.stocked; bears = tt }
  tidy-hears (MHears.takes e) u w x h q i =
      record { reported = (i.tallied.0, i.reported); spoken = (q tt e, i.spoken); below = i.below; tallied = tt; stocked = i.stocked; bears = tt }

  -- the tally does not see what the desk does
  noted-tally : (v : MView F) (x : Tel F) (h : Hist F F) → Tallied v x h → Tallied v x (noted ∷ h)
  noted-tally (free n) x h i = tt
  noted-tally (waits n f k) x h i = i

  over-tally : (v : MView F) (x : Tel F) (h : Hist F F) → Tallied v x h → Tallied v x (over x ∷ h)
  over-tally (free n) x h i = tt
  over-tally (waits n f k) x h i = i

  handled-tally : (v : MView F) (x : Tel F) (g f : F) (h : Hist F F) → Tallied v x h → Tallied v x (over x ∷ (handled (x.0, g) f ∷ h))
  handled-tally (free n) x g f h i = tt
  handled-tally (waits n z k) x g f h i = i

  pub tidy-first : {u u' : DView F} {z : Bool} → First u z u' → (v : MView F) (w : Line F) (x : Tel F) (h : Hist F F) → Tidy v u w x h → Tidy v u' w x (noting z h)
  tidy-first First.stays v w x h i = i
  tidy-first First.loses v w x h i =
      record { reported = i.reported; spoken = i.spoken; below = i.below; tallied = noted-tally v x h i.tallied; stocked = λ q. absurd q; bears = i.bears }

  -- a sending is over
  pub tidy-over : (v : MView F) (u : DView F) (w : Line F) (x : Tel F) (h : Hist F F) → Tidy v u w x h → Tidy v u empty x (over x ∷ h)
  tidy-over v u w x h i =
      record { reported = i.reported; spoken = i.spoken; below = i.below; tallied = over-tally v x h i.tallied; stocked = i.stocked; bears = tt }

  pub tidy-empty : (v : MView F) (u : DView F) (w : Line F) (x : Tel F) (h : Hist F F) → Tidy v u w x h → Tidy v u empty x h
  tidy-empty v u w x h i =
      record { reported = i.reported; spoken = i.spoken; below = i.below; tallied = i.tallied; stocked = i.stocked; bears = tt }

  -- the desk hears g
  pub tidy-dhears : {u u' : DView F} {g : F} {q : Said F} {r : Reading} → DHears nak Q g r u q u' → (v : MView F) (w : Line F) (x : Tel F) (h : Hist F F) → Tidy v u w x h →
      Tidy v u' (line_said q) x (hist_said q x h)
  tidy-dhears {u = u} DHears.mute v w x h i = tidy-over v u w x h i
  tidy-dhears (DHears.faults k) v w x h i =
      record { reported = i.reported; spoken = i.spoken; below = i.below; tallied = over-tally v x h i.tallied; stocked = i.stocked; bears = λ e. clash (sym e ∙ k) }
  tidy-dhears (DHears.repeats z r) v w x h i =
      record { reported = i.reported; spoken = i.spoken; below = i.below; tallied = over-tally v x h i.tallied; stocked = i.stocked; bears = λ e. i.stocked r }
  tidy-dhears {g = g} (DHears.takes {f = f} k p) v w x h i =
      record { reported = i.reported; spoken = (p, i.spoken); below = i.below; tallied = handled-tally v x g f h i.tallied; stocked = λ q. p; bears = λ e. p }
