-- The steps of a live line, seen of the two ends without bytes and panel: when the newest telegram was first sent, when T1 started, and that no
-- lost line is noted while a sending of it may still be over. Assumes nothing.
use mathlib.Core.Path.{◌≡◌, refl, ap}
use mathlib.Core.Bool.{Bool, true, false, not, cond}
use mathlib.Core.List.{[], ◌∷◌}
use mathlib.Core.Logic.{◌⊎◌, inl, inr}
use Prim.Native.Nat.{ℕ, suc, ◌+◌, ◌≤◌, ◌<◌}
use native.Mathlib.Omega.{arith}
use lib.Dec.{T as So, eqb}
use lib.ListN.{length}
use borrow.Author.Tests.{eq-eqb, ne_eqb}
use Rattle.laws.specs.Truth.{implies}
use Rattle.laws.proofs.Truths.{clash}
use Rattle.clock.specs.Clock.{elapsed_of}
use Rattle.conduct.specs.Times.{clock_after}
use Rattle.desk.specs.Panel.{t1_limit}
use Rattle.protocol.specs.History.{Tel, Hist, sent, again, noted, handled, over, answered, gave_up, sents, all_sendings, unended}
use Rattle.protocol.specs.Demand.{Was}
use Rattle.protocol.specs.Ends.{Did, Said, Line, nothing, first, resent, got, gave, silent, says, handles, empty, there, back}
use Rattle.protocol.specs.Ends.{line_after, tel_after, hist_after, noting, line_said, hist_said}
use Rattle.protocol.specs.Rules.{Reading, MView, DView, First, MActs, MHears, DHears, free, waits, view}
use Rattle.protocol.proofs.Stepwise.{LostSince, Held}
use Rattle.demand3.specs.Live.{holds}

-- a timer that has run out was started so long ago, whatever the clock reads and however often it passed zero
pub run_long : (o a b : ℕ) → a ≤ b → t1_limit ≤ elapsed_of (clock_after o b) (clock_after o a) → a + t1_limit ≤ b
run_long o a b l e = omega arith

-- a test that holds, and one that holds where another does
pub true-so : (b : Bool) → b ≡ true → So b
true-so true p = tt
true-so false p = clash p

pub implied : (a b : Bool) → implies a b ≡ true → So a → b ≡ true
implied true b e q = e
implied false b e q = absurd q

pub implies-so : (a b : Bool) → (So a → b ≡ true) → implies a b ≡ true
implies-so true b f = f tt
implies-so false b f = refl

module _ {T A : Type 0} where
  -- a lost line noted after the handling of x: x was handled
  lost-was : (x : Tel T) (h : Hist T A) → LostSince x h → Was x h
  lost-was x [] p = p
  lost-was x (sent y ∷ h) p = lost-was x h p
  lost-was x (again y ∷ h) p = lost-was x h p
  lost-was x (noted ∷ h) (inl p) = p
  lost-was x (noted ∷ h) (inr p) = lost-was x h p
  lost-was x (handled y a ∷ h) p = inr (lost-was x h p)
  lost-was x (over y ∷ h) p = lost-was x h p
  lost-was x (answered y a k ∷ h) p = lost-was x h p
  lost-was x (gave_up y k ∷ h) p = lost-was x h p

  -- every telegram that was handled was sent before
  abbrev pub Sooner : Hist T A → Type 0
  Sooner h = (y : Tel T) → Was y h → y.0 < length (sents h)

-- The true times of the sendings of a telegram: p is the longest from one to the next, k how many there were, `begun` the first, `since` the newest.
pub record Sendings (p k now since begun : ℕ) : Type 0 where
  pub some : 1 ≤ k
  pub one : k ≤ 1 → since ≤ begun
  pub two : k ≤ 2 → since ≤ begun + p
  pub three : k ≤ 3 → since ≤ begun + p + p
  pub older : begun ≤ since
  pub past : since ≤ now

module _ {F : Type 0} where
  abbrev pub good_of : DView F → Bool
  good_of (view g l a) = g

  -- the true time of the newest sending, behind what happened
  abbrev pub since_in : ℕ → ℕ → Hist F F → Hist F F → ℕ
  since_in since at h h' = cond (not (eqb (all_sendings h') (all_sendings h))) at since

  -- While the master is not free: x is its telegram and h what happened, u what is seen of the desk, and `t1` the true time of T1's start. Where x
  -- was handled T1 started after x was first sent, and so a lost line was noted only when T1 had run out since then.
  pub record Waiting (p k now since begun t1 : ℕ) (u : DView F) (x : Tel F) (h : Hist F F) : Type 0 where
    pub times : Sendings p k now since begun
    pub counted : x.0 < length (sents h)
    pub waits : So (unended h)
    pub started : Was x h → So (good_of u) → begun ≤ t1
    pub noticed : LostSince x h → begun + t1_limit ≤ now

  -- free with nothing on the line, or not free
  pub data Busy (p : ℕ) : MView F → Line F → ℕ → ℕ → ℕ → ℕ → DView F → Tel F → Hist F F → Type 0 where
    rests : {n : Bool} {now since begun t1 : ℕ} {u : DView F} {x : Tel F} {h : Hist F F} → Busy p (free n) empty now since begun t1 u x h
    works : {n : Bool} {f : F} {k now since begun t1 : ℕ} {w : Line F} {u : DView F} {x : Tel F} {h : Hist F F} → Waiting p k now since begun t1 u x h
        → Busy p (waits n f k) w now since begun t1 u x h

  -- time passes
  later-waiting : {p k now at since begun t1 : ℕ} {u : DView F} {x : Tel F} {h : Hist F F} → now ≤ at → Waiting p k now since begun t1 u x h → Waiting p k at since begun t1 u x h
  later-waiting l b = record {
    times = record {
      some = b.times.some;
      one = b.times.one;
      two = b.times.two;
      three = b.times.three;
      older = b.times.older;
      past = omega (arith, b.times.past);
    };
    counted = b.counted;
    waits = b.waits;
    started = b.started;
    noticed = λ q. omega (arith, b.noticed q);
  }

  pub later : {p now at since begun t1 : ℕ} {v : MView F} {w : Line F} {u : DView F} {x : Tel F} {h : Hist F F} → now ≤ at →
      Busy p v w now since begun t1 u x h → Busy p v w at since begun t1 u x h
  later l rests = rests
  later l (works b) = works (later-waiting l b)

  -- nothing was sent, or something was
  pub same-since : (since at : ℕ) (h h' : Hist F F) → all_sendings h' ≡ all_sendings h → since_in since at h h' ≡ since
  same-since since at h h' e = rw (eq-eqb (all_sendings h') (all_sendings h) e)

  pub new-since : (since at : ℕ) (h h' : Hist F F) → all_sendings h' ≡ suc (all_sendings h) → since_in since at h h' ≡ at
  new-since since at h h' e = rw (ne_eqb (all_sendings h') (all_sendings h) (λ q. omega (arith, q, e)))

  -- behind an event: when the first sending was, and the rest
  pub record Behind (p : ℕ) (v : MView F) (w : Line F) (at since t1 : ℕ) (u : DView F) (x : Tel F) (h : Hist F F) : Type 0 where
    pub begun : ℕ
    pub busy : Busy p v w at since begun t1 u x h

  -- a sending again, and a first one
  again-waiting : {p k now at since begun t1 : ℕ} {u : DView F} {x : Tel F} {h : Hist F F} (g : F) → now ≤ at → (So (unended h) → at ≤ since + p)
      → Waiting p k now since begun t1 u x h → Waiting p (k + 1) at at begun t1 u x (again (x.0, g) ∷ h)
  again-waiting g l i b = record {
    times = record {
      some = omega arith;
      one = λ q. omega (arith, q, b.times.some);
      two = λ q. omega (arith, q, i b.waits, b.times.one (omega (arith, q)));
      three = λ q. omega (arith, q, i b.waits, b.times.two (omega (arith, q)));
      older = omega (arith, l, b.times.older, b.times.past);
      past = omega arith;
    };
    counted = b.counted;
    waits = tt;
    started = b.started;
    noticed = λ q. omega (arith, l, b.noticed q);
  }

  first-waiting : (p at t1 : ℕ) (u : DView F) (f : F) (h : Hist F F) → Sooner h → Waiting p 1 at at at t1 u (length (sents h), f) (sent (length (sents h), f) ∷ h)
  first-waiting p at t1 u f h s =
      let x : Tel F = (length (sents h), f) in
      let no : Was x h → ⊥ = λ z. omega (arith, s x z) in
      record {
        times = record {
          some = omega arith;
          one = λ z. omega arith;
          two = λ z. omega arith;
          three = λ z. omega arith;
          older = omega arith;
          past = omega arith;
        };
        counted = omega arith;
        waits = tt;
        started = λ z y. absurd (no z);
        noticed = λ z. absurd (no (lost-was x h z));
      }

  module _ (p : ℕ) (read : F → Reading) (P : F → Type 0) (nak : F → Bool) where
    -- the master acts
    pub acts : {v v' : MView F} {o : Did F} {w : Line F} {now since begun t1 : ℕ} {u : DView F} {x : Tel F} {h : Hist F F} (at : ℕ) → MActs read P v o v' → now ≤ at
        → (So (unended h) → at ≤ since + p) → Sooner h → Busy p v w now since begun t1 u x h
        → Behind p v' (line_after o w) at (since_in since at h (hist_after o x h)) t1 u (tel_after o x h) (hist_after o x h)
    acts {since = since} {begun = begun} {h = h} at MActs.rests l i s b = record { begun = begun; busy = rw (same-since since at h h refl) (later l b) }
    acts {since = since} {t1 = t1} {u = u} {h = h} at (MActs.sends {f = f} e q) l i s rests =
        record { begun = at; busy = rw (new-since since at h (sent (length (sents h), f) ∷ h) refl) (works (first-waiting p at t1 u f h s)) }
    acts {since = since} {begun = begun} {x = x} {h = h} at (MActs.resends {f = f}) l i s (works b) =
        record { begun = begun; busy = rw (new-since since at h (again (x.0, f) ∷ h) refl) (works (again-waiting f l i b)) }
    acts at MActs.gives l i s (works b) = record { begun = at; busy = rests }

    -- the master hears what is on the line
    pub hears : {v v' : MView F} {g : F} {o : Did F} {r : Reading} {w : Line F} {now since begun t1 : ℕ} {u : DView F} {x : Tel F} {h : Hist F F} (at : ℕ) → MHears nak g r v o v'
        → now ≤ at → (So (unended h) → at ≤ since + p) → Busy p v w now since begun t1 u x h
        → Behind p v' (line_after o empty) at (since_in since at h (hist_after o x h)) t1 u (tel_after o x h) (hist_after o x h)
    hears {since = since} {h = h} at MHears.ignores l i rests = record { begun = at; busy = rw (same-since since at h h refl) rests }
    hears {since = since} {begun = begun} {h = h} at MHears.ignores l i (works b) =
        record { begun = begun; busy = rw (same-since since at h h refl) (works (later-waiting l b)) }
    hears {since = since} {begun = begun} {x = x} {h = h} at (MHears.resends {f = f}) l i (works b) =
        record { begun = begun; busy = rw (new-since since at h (again (x.0, f) ∷ h) refl) (works (again-waiting f l i b)) }
    hears at MHears.gives l i (works b) = record { begun = at; busy = rests }
    hears at (MHears.takes e) l i (works b) = record { begun = at; busy = rests }

-- nothing was handled
abbrev pub Untaken : {F : Type 0} → Said F → Type 0
Untaken silent = Unit {0}
Untaken (says f) = Unit {0}
Untaken (handles g f) = ⊥

-- T1's start behind a hearing: as it was, where nothing is handled, or the hearing's time
pub data Starts {F : Type 0} (t1 at : ℕ) : Said F → ℕ → Type 0 where
  same : {q : Said F} → Untaken q → Starts t1 at q t1
  anew : {q : Said F} → Starts t1 at q at

module _ {F : Type 0} where
  -- the sending count is at most 3
  abbrev pub Few : MView F → Type 0
  Few (free n) = Unit {0}
  Few (waits n f k) = k ≤ 3

  -- the desk's first rule
  noted-waiting : {p k at since begun t1 : ℕ} {u u' : DView F} {z : Bool} {x : Tel F} {h : Hist F F} → First u z u' → (z ≡ true → t1 + t1_limit ≤ at)
      → Waiting p k at since begun t1 u x h → Waiting p k at since begun t1 u' x (noting z h)
  noted-waiting First.stays e b = b
  noted-waiting {at = at} {begun = begun} {x = x} {h = h} First.loses e b = record {
    times = b.times;
    counted = b.counted;
    waits = b.waits;
    started = λ q r. absurd r;
    noticed = go;
  }
    where
      go : Was x h ⊎ LostSince x h → begun + t1_limit ≤ at
      go (inl q) = omega (arith, e refl, b.started q tt)
      go (inr q) = b.noticed q

  -- no lost line was noted since the telegram was handled, as long as a sending of it may still be over
  unlost : (quick : ℕ) {p k at since begun t1 : ℕ} {u : DView F} {x : Tel F} {h : Hist F F} → Waiting p k at since begun t1 u x h → k ≤ 3 → at < since + quick
      → p + p + quick ≤ t1_limit → LostSince x h → ⊥
  unlost quick b f l q n = omega (arith, f, l, q, b.times.three f, b.noticed n)

  starts-or : {t1 at t1' : ℕ} {q : Said F} → Starts t1 at q t1' → (t1' ≡ t1) ⊎ (t1' ≡ at)
  starts-or (same e) = inl refl
  starts-or anew = inr refl

  starts-anew : {t1 at t1' : ℕ} {g f : F} → Starts t1 at (handles g f) t1' → t1' ≡ at
  starts-anew (same e) = absurd e
  starts-anew anew = refl

  -- a sending is over, and nothing was handled
  over-waiting : {p k at since begun t1 t1' : ℕ} {u u' : DView F} {x : Tel F} {h : Hist F F} → (t1' ≡ t1) ⊎ (t1' ≡ at) → (So (good_of u') → So (good_of u))
      → Waiting p k at since begun t1 u x h → Waiting p k at since begun t1' u' x (over x ∷ h)
  over-waiting {at = at} {begun = begun} {t1 = t1} {t1' = t1'} s g b = record {
    times = b.times;
    counted = b.counted;
    waits = b.waits;
    started = λ q r. go s (b.started q (g r));
    noticed = b.noticed;
  }
    where
      go : (t1' ≡ t1) ⊎ (t1' ≡ at) → begun ≤ t1 → begun ≤ t1'
      go (inl e) l = omega (arith, e)
      go (inr e) l = omega (arith, e, b.times.older, b.times.past)

  -- it is handled
  taken-waiting : {p k at since begun t1 t1' : ℕ} {u u' : DView F} {x : Tel F} {h : Hist F F} (g f : F) → t1' ≡ at
      → Waiting p k at since begun t1 u x h → Waiting p k at since begun t1' u' x (over x ∷ (handled (x.0, g) f ∷ h))
  taken-waiting g f e b = record {
    times = b.times;
    counted = b.counted;
    waits = b.waits;
    started = λ q r. omega (arith, e, b.times.older, b.times.past);
    noticed = b.noticed;
  }

  -- what the desk hears
  said-waiting : {nak : F → Bool} {Q : F → Type 0} {g : F} {r : Reading} {p k at since begun t1 t1' : ℕ} {u u' : DView F} {q : Said F} {x : Tel F} {h : Hist F F}
      → DHears nak Q g r u q u' → Starts t1 at q t1' → Waiting p k at since begun t1 u x h → Waiting p k at since begun t1' u' x (hist_said q x h)
  said-waiting DHears.mute s b = over-waiting (starts-or s) (λ y. y) b
  said-waiting (DHears.faults e) s b = over-waiting (starts-or s) (λ y. y) b
  said-waiting (DHears.repeats z m) s b = over-waiting (starts-or s) (λ y. y) b
  said-waiting {g = g} (DHears.takes {f = f} m q) s b = taken-waiting g f (starts-anew s) b

  -- where T1 was not restarted, a line that is good behind a hearing was good before it
  pub kept-good : {nak : F → Bool} {Q : F → Type 0} {g : F} {r : Reading} {z : Bool} {u v u' : DView F} {q : Said F} → First u z v → DHears nak Q g r v q u' → Untaken q
      → So (good_of u') → So (good_of u)
  kept-good First.stays DHears.mute t y = y
  kept-good First.stays (DHears.faults e) t y = y
  kept-good First.stays (DHears.repeats z m) t y = y
  kept-good First.stays (DHears.takes m q) t y = absurd t
  kept-good First.loses DHears.mute t y = tt
  kept-good First.loses (DHears.faults e) t y = tt
  kept-good First.loses (DHears.repeats z m) t y = tt
  kept-good First.loses (DHears.takes m q) t y = absurd t

  -- the supposition, step by step
  pub held-said : (x : Tel F) (h : Hist F F) (q : Said F) → (LostSince x h → ⊥) → Held h → Held (hist_said q x h)
  held-said x h silent n k = (n, k)
  held-said x h (says f) n k = (n, k)
  held-said x h (handles g f) n k = (n, k)

  pub held-noted : (z : Bool) (h : Hist F F) → Held h → Held (noting z h)
  held-noted true h k = k
  held-noted false h k = k

  pub sooner-noted : (z : Bool) (h : Hist F F) → Sooner h → Sooner (noting z h)
  sooner-noted true h s = s
  sooner-noted false h s = s

  pub sooner-said : (x : Tel F) (h : Hist F F) (q : Said F) → x.0 < length (sents h) → Sooner h → Sooner (hist_said q x h)
  sooner-said x h silent l s = s
  sooner-said x h (says f) l s = s
  sooner-said x h (handles g f) l s = λ y w. go y w
    where
      go : (y : Tel F) → (y ≡ (x.0, g)) ⊎ Was y h → y.0 < length (sents h)
      go y (inl e) = rw (ap (λ (z : Tel F). z.0) e) l
      go y (inr w) = s y w

  pub sooner-after : (o : Did F) (x : Tel F) (h : Hist F F) → Sooner h → Sooner (hist_after o x h)
  sooner-after nothing x h s = s
  sooner-after (first f) x h s = λ y w. omega (arith, s y w)
  sooner-after (resent f) x h s = s
  sooner-after (got f k) x h s = s
  sooner-after (gave k) x h s = s

  pub held_after : (o : Did F) (x : Tel F) (h : Hist F F) → Held h → Held (hist_after o x h)
  held_after nothing x h k = k
  held_after (first f) x h k = k
  held_after (resent f) x h k = k
  held_after (got f j) x h k = k
  held_after (gave j) x h k = k

  pub all_noted : (z : Bool) (h : Hist F F) → all_sendings (noting z h) ≡ all_sendings h
  all_noted true h = refl
  all_noted false h = refl

  pub all_said : (x : Tel F) (h : Hist F F) (q : Said F) → all_sendings (hist_said q x h) ≡ all_sendings h
  all_said x h silent = refl
  all_said x h (says f) = refl
  all_said x h (handles g f) = refl

  -- the same of what the master does or waits for
  pub noted-busy : {p at since begun t1 : ℕ} {v : MView F} {w : Line F} {u u' : DView F} {z : Bool} {x : Tel F} {h : Hist F F} → First u z u' → (z ≡ true → t1 + t1_limit ≤ at)
      → Busy p v w at since begun t1 u x h → Busy p v w at since begun t1 u' x (noting z h)
  noted-busy f e rests = rests
  noted-busy f e (works b) = works (noted-waiting f e b)

  -- the sending on the line is heard: no lost line was noted, and
  pub said-busy : {nak : F → Bool} {Q : F → Type 0} {g f : F} {r : Reading} {p at since begun t1 t1' : ℕ} {v : MView F} {u u' : DView F} {q : Said F} {x : Tel F} {h : Hist F F}
      → DHears nak Q g r u q u' → Starts t1 at q t1' → Busy p v (there f) at since begun t1 u x h → Busy p v (line_said q) at since begun t1' u' x (hist_said q x h)
  said-busy d s (works b) = works (said-waiting d s b)

  pub over-busy : (quick : ℕ) {p at since begun t1 : ℕ} {v : MView F} {f : F} {u : DView F} {x : Tel F} {h : Hist F F} → Few v → at < since + quick → p + p + quick ≤ t1_limit
      → Busy p v (there f) at since begun t1 u x h → (LostSince x h → ⊥) × (x.0 < length (sents h)) × Busy p v empty at since begun t1 u x (over x ∷ h)
  over-busy quick k l q (works b) = (unlost quick b k l q, b.counted, works (over-waiting (inl refl) (λ y. y) b))

  pub dropped-busy : {p at since begun t1 : ℕ} {v : MView F} {f : F} {u : DView F} {x : Tel F} {h : Hist F F} → Busy p v (back f) at since begun t1 u x h → Busy p v empty at since begun t1 u x h
  dropped-busy (works b) = works b

  -- while something is on the line, the newest telegram has not ended
  pub busy-unended : {p now since begun t1 : ℕ} {v : MView F} {w : Line F} {u : DView F} {x : Tel F} {h : Hist F F} → Busy p v w now since begun t1 u x h → So (holds w) → So (unended h)
  busy-unended rests y = absurd y
  busy-unended (works b) y = b.waits
