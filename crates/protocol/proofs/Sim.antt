-- Ends that keep the laws do as the protocol allows: demand 3 of them. Assumes nothing.
use mathlib.Core.Path.{◌≡◌, refl}
use mathlib.Core.Bool.{Bool, true, false}
use mathlib.Core.List.{List, [], ◌∷◌}
use Prim.Native.Nat.{ℕ}
use Rattle.laws.proofs.Truths.{clash}
use Rattle.protocol.specs.History.{Tel, Hist, over, again}
use Rattle.protocol.specs.Demand.{Promise, Reported, Spoken}
use Rattle.protocol.specs.Ends.{Did, Said, Ends, Line, Ev, Sys, silent, says, handles, empty, there, back, sys, line_after, tel_after, hist_after, noting, line_said, hist_said, mdo, ddo, if_refused, step, run, start, ran, happened}
use Rattle.protocol.specs.Rules.{Reading, MView, DView, First, MActs, MHears, DHears, bad, frame, free, waits, view, repeated_answer}
use Rattle.protocol.proofs.Stepwise.{Held}
use Rattle.protocol.proofs.Protocol.{Way, Phase, St, Step, Steps, Safe, hist_of, safe-steps, safe-start, promised, stop, then, st, quiet, going, coming, idle, busy}
use Rattle.protocol.proofs.Laws.{Laws}
use Rattle.protocol.proofs.Tidy.{Heeded, Tidy, tidy-acts, tidy-hears, tidy-first, tidy-over, tidy-empty, tidy-dhears}

-- what is refused is no good frame
unheeded : {X : Type 0} {n : Bool} → frame n ≡ bad → X
unheeded e = clash (cc)

module _ {F : Type 0} where
  abbrev way_back : Bool → F → Way F
  way_back true f = quiet
  way_back false f = coming f

  abbrev way : (F → Bool) → Line F → Way F
  way nak empty = quiet
  way nak (there f) = going
  way nak (back f) = way_back (nak f) f

  abbrev phase : (F → Bool) → MView F → Line F → Tel F → Phase F F
  phase nak (free n) w x = idle n
  phase nak (waits n f k) w x = busy n x (way nak w)

  abbrev st_of : Phase F F → DView F → Hist F F → St F F
  st_of p (view g l a) h = st p g l a h

  -- the newest sending is the newest telegram
  abbrev OnWay : Line F → Tel F → Type 0
  OnWay empty x = Unit {0}
  OnWay (there f) x = f ≡ x.1
  OnWay (back f) x = Unit {0}

  -- what the master sends again is the newest telegram, with its number; while it is free nothing is on the line
  abbrev Side : (F → Reading) → MView F → Line F → Tel F → Type 0
  Side read (free n) empty x = Unit {0}
  Side read (free n) (there f) x = ⊥
  Side read (free n) (back f) x = ⊥
  Side read (waits n f k) w x = (read f ≡ frame n) × (f ≡ x.1) × OnWay w x

  -- an answer that would be taken for a failed sending is as good as none
  back_some : {n g l : Bool} {x : Tel F} {a f : F} {h : Hist F F} (z : Bool) → Steps (st (busy n x (coming f)) g l a h) (st (busy n x (way_back z f)) g l a h)
  back_some true = then Step.drop stop
  back_some false = stop

  -- the master sends the newest telegram again
  resent-sim : {n g l : Bool} {x : Tel F} {w : Way F} {a f : F} {h : Hist F F} → f ≡ x.1 → Steps (st (busy n x w) g l a h) (st (busy n x going) g l a (again (x.0, f) ∷ h))
  resent-sim e = rw e (then Step.resend stop)

  module _ (read : F → Reading) (nak : F → Bool) (P Q : F → Type 0) where
    acts-sim : {v v' : MView F} {o : Did F} → MActs read P v o v' → (u : DView F) (w : Line F) (x : Tel F) (h : Hist F F) → Side read v w x →
        Steps (st_of (phase nak v w x) u h) (st_of (phase nak v' (line_after o w) (tel_after o x h)) u (hist_after o x h)) × Side read v' (line_after o w) (tel_after o x h)
    acts-sim MActs.rests u w x h i = (stop, i)
    acts-sim (MActs.sends {f = f} e p) (view g l a) w x h i = (then (Step.send f) stop, (e, refl, refl))
    acts-sim MActs.resends (view g l a) w x h i = (resent-sim i.1, (i.0, i.1, i.1))
    acts-sim (MActs.gives {k = k}) (view g l a) w x h i = (then (Step.give_up k) stop, tt)

    -- the master hears the answer as it was sent
    whole-sim : {v v' : MView F} {g : F} {o : Did F} {r : Reading} → MHears nak g r v o v' → (u : DView F) (x : Tel F) (h : Hist F F) → Side read v (back g) x →
        Steps (st_of (phase nak v (back g) x) u h) (st_of (phase nak v' (line_after o empty) (tel_after o x h)) u (hist_after o x h)) × Side read v' (line_after o empty) (tel_after o x h)
    whole-sim {v = free n} MHears.ignores u x h i = (stop, tt)
    whole-sim {v = waits n f k} MHears.ignores (view g l a) x h i = (then Step.drop stop, (i.0, i.1, tt))
    whole-sim MHears.resends (view g l a) x h i = (resent-sim i.1, (i.0, i.1, i.1))
    whole-sim (MHears.gives {k = k}) (view g l a) x h i = (then (Step.give_up k) stop, tt)
    whole-sim (MHears.takes {k = k} e) (view g l a) x h i = (rw e (then (Step.answer k) stop), tt)

    -- or as other bytes, which are refused
    spoilt-sim : {v v' : MView F} {g : F} {o : Did F} {r : Reading} → MHears nak g r v o v' → r ≡ bad → (b : F) (u : DView F) (x : Tel F) (h : Hist F F) → Side read v (back b) x →
        Steps (st_of (phase nak v (back b) x) u h) (st_of (phase nak v' (line_after o empty) (tel_after o x h)) u (hist_after o x h)) × Side read v' (line_after o empty) (tel_after o x h)
    spoilt-sim {v = free n} MHears.ignores q b u x h i = (stop, tt)
    spoilt-sim {v = waits n f k} MHears.ignores q b (view g l a) x h i = (then Step.drop stop, (i.0, i.1, tt))
    spoilt-sim MHears.resends q b (view g l a) x h i = (resent-sim i.1, (i.0, i.1, i.1))
    spoilt-sim (MHears.gives {k = k}) q b (view g l a) x h i = (then (Step.give_up k) stop, tt)
    spoilt-sim (MHears.takes k) q b u x h i = unheeded q

    first-sim : {u v : DView F} {z : Bool} → First u z v → (p : Phase F F) (h : Hist F F) → Steps (st_of p u h) (st_of p v (noting z h))
    first-sim First.stays p h = stop
    first-sim First.loses p h = then Step.note stop

    -- the desk hears the sending that was made
    dwhole-sim : {u v : DView F} {f : F} {q : Said F} {n : Bool} → DHears nak Q f (frame n) u q v → (x : Tel F) (h : Hist F F) → f ≡ x.1 →
        Steps (st_of (busy n x going) u h) (st_of (busy n x (way nak (line_said q))) v (hist_said q x h))
    dwhole-sim {u = view g l a} DHears.mute x h e = then Step.lose stop
    dwhole-sim (DHears.faults {f = f} k) x h e = rw k (then (Step.fault f) stop)
    dwhole-sim (DHears.repeats {a = a} z r) x h e = then (Step.repeat z r) (back_some (nak (repeated_answer a z)))
    dwhole-sim (DHears.takes {f = b} k p) x h e = rw e (then (Step.handle b k) (back_some (nak b)))

    -- or other bytes, which are refused
    dspoilt-sim : {u v : DView F} {g : F} {q : Said F} {r : Reading} → DHears nak Q g r u q v → r ≡ bad → (n : Bool) (x : Tel F) (h : Hist F F) →
        Steps (st_of (busy n x going) u h) (st_of (busy n x (way nak (line_said q))) v (hist_said q x h))
    dspoilt-sim {u = view g l a} DHears.mute e n x h = then Step.lose stop
    dspoilt-sim (DHears.faults {f = f} k) e n x h = rw k (then (Step.fault f) stop)
    dspoilt-sim (DHears.repeats z r) e n x h = unheeded e
    dspoilt-sim (DHears.takes k p) e n x h = unheeded e

    said-side : (x : Tel F) (q : Said F) → OnWay (line_said q) x
    said-side x silent = tt
    said-side x (says f) = tt
    said-side x (handles g f) = tt

    lost-sim : (v : MView F) (u : DView F) (f : F) (x : Tel F) (h : Hist F F) → Side read v (there f) x →
        Steps (st_of (phase nak v (there f) x) u h) (st_of (phase nak v empty x) u (over x ∷ h)) × Side read v empty x
    lost-sim (free n) u f x h i = absurd i
    lost-sim (waits n z k) (view g l a) f x h i = (then Step.lose stop, (i.0, i.1, tt))

    dropped-sim : (v : MView F) (u : DView F) (f : F) (x : Tel F) (h : Hist F F) → Side read v (back f) x →
        Steps (st_of (phase nak v (back f) x) u h) (st_of (phase nak v empty x) u h) × Side read v empty x
    dropped-sim (free n) u f x h i = absurd i
    dropped-sim (waits n z k) (view g l a) f x h i = (then Step.drop stop, (i.0, i.1, tt))

    heard-whole : (v : MView F) {u u' u'' : DView F} {z : Bool} {q : Said F} → (f : F) (x : Tel F) (h : Hist F F) → Side read v (there f) x →
        First u z u' → DHears nak Q f (read f) u' q u'' → Safe (st_of (phase nak v (there f) x) u h) →
        Safe (st_of (phase nak v (line_said q) x) u'' (hist_said q x (noting z h))) × Side read v (line_said q) x
    heard-whole (free n) f x h i p d s = absurd i
    heard-whole (waits n c k) {q = q} f x h i p d s =
        let e : read f ≡ frame n = rw (i.2, ← i.1) i.0 in
        (safe-steps (dwhole-sim (rw e at d) x _ i.2) (safe-steps (first-sim p _ h) s), (i.0, i.1, said-side x q))

    heard-spoilt : (v : MView F) {u u' u'' : DView F} {z : Bool} {q : Said F} {g : F} {r : Reading} → (f : F) (x : Tel F) (h : Hist F F) → Side read v (there f) x →
        First u z u' → DHears nak Q g r u' q u'' → r ≡ bad → Safe (st_of (phase nak v (there f) x) u h) →
        Safe (st_of (phase nak v (line_said q) x) u'' (hist_said q x (noting z h))) × Side read v (line_said q) x
    heard-spoilt (free n) f x h i p d e s = absurd i
    heard-spoilt (waits n c k) {q = q} f x h i p d e s =
        (safe-steps (dspoilt-sim d e n x _) (safe-steps (first-sim p _ h) s), (i.0, i.1, said-side x q))

by : {T A : Type 0} {s s' : St T A} {X Y Z : Type 0} → Safe s → Y → Z → Steps s s' × X → Safe s' × X × Y × Z
by i y z p = (safe-steps p.0 i, p.1, y, z)

module _ (E : Ends) (L : Laws E) where
  open L use {read, nak, Sends, Makes, mview, dview}

  abbrev seen : Sys E → St E.F E.F
  seen (sys m d w x h) = st_of (phase nak (mview m) w x) (dview d) h

  abbrev side : Sys E → Type 0
  side (sys m d w x h) = Side read (mview m) w x

  abbrev fine : Sys E → Type 0
  fine (sys m d w x h) = L.mfine m × L.dfine d

  abbrev tidy : Sys E → Type 0
  tidy (sys m d w x h) = Tidy nak Sends Makes (mview m) (dview d) w x h

  abbrev Good : Sys E → Type 0
  Good s = Safe (seen s) × side s × fine s × tidy s

  if-refused : (b : Bool) (s s' : Sys E) → Good s → (b ≡ true → Good s') → Good (if_refused b s s')
  if-refused true s s' i f = f refl
  if-refused false s s' i f = i

  -- the master acts, or hears what is on the line; the desk hears it
  acted : (m m' : E.M) (d : E.D) (w : Line E.F) (x : Tel E.F) (h : Hist E.F E.F) (o : Did E.F) →
      L.mfine m' × MActs read Sends (mview m) o (mview m') → Good (sys m d w x h) → Good (sys m' d (line_after o w) (tel_after o x h) (hist_after o x h))
  acted m m' d w x h o p i =
      by i.0 (p.0, i.2.1) (tidy-acts nak Sends Makes p.1 (dview d) w x h i.3) (acts-sim read nak Sends Makes p.1 (dview d) w x h i.1)

  good-step : (e : Ev E) (s : Sys E) → Good s → Good (step e s)
  good-step (Ev.offer t o r) (sys m d w x h) i = acted m _ d w x h _ (L.offers m t o r i.2.0) i
  good-step (Ev.mtick t r) (sys m d w x h) i = acted m _ d w x h _ (L.mticks m t r i.2.0) i
  good-step (Ev.dtick t) (sys m d w x h) i =
      let p = L.dticks d t i.2.1 in
      (safe-steps (first-sim read nak Sends Makes p.1 _ h) i.0, i.1, (i.2.0, p.0), tidy-first nak Sends Makes p.1 (mview m) w x h i.3)
  good-step (Ev.act a) (sys m d w x h) i =
      let p = L.acts d a i.2.1 in
      (rw p.1 i.0, i.1, (i.2.0, p.0), rw p.1 i.3)
  good-step Ev.lost (sys m d empty x h) i = i
  good-step Ev.lost (sys m d (there f) x h) i =
      by i.0 i.2 (tidy-over nak Sends Makes (mview m) (dview d) (there f) x h i.3) (lost-sim read nak Sends Makes (mview m) (dview d) f x h i.1)
  good-step Ev.lost (sys m d (back f) x h) i =
      by i.0 i.2 (tidy-empty nak Sends Makes (mview m) (dview d) (back f) x h i.3) (dropped-sim read nak Sends Makes (mview m) (dview d) f x h i.1)
  good-step (Ev.whole t r) (sys m d empty x h) i = i
  good-step (Ev.whole t r) (sys m d (there f) x h) i =
      let p = L.dhears d t f r i.2.1 in
      let q = heard-whole read nak Sends Makes (mview m) f x h i.1 p.1.1 p.1.2 i.0 in
      (q.0, q.1, (i.2.0, p.0), tidy-dhears nak Sends Makes p.1.2 (mview m) (there f) x _ (tidy-first nak Sends Makes p.1.1 (mview m) (there f) x h i.3))
  good-step (Ev.whole t r) (sys m d (back f) x h) i =
      let p = L.mhears m t f r i.2.0 in
      by i.0 (p.0, i.2.1) (tidy-hears nak Sends Makes p.1 (dview d) (back f) x h (λ _. i.3.bears) i.3) (whole-sim read nak Sends Makes p.1 (dview d) x h i.1)
  good-step (Ev.spoilt t g r) (sys m d empty x h) i = i
  good-step (Ev.spoilt t g r) (sys m d (there f) x h) i =
      if-refused (E.refused g) (sys m d (there f) x h) (ddo (E.dhear d t g r) m x h) i λ e.
      let p = L.dhears d t g r i.2.1 in
      let q = heard-spoilt read nak Sends Makes (mview m) f x h i.1 p.1.1 p.1.2 (L.refuses g e) i.0 in
      (q.0, q.1, (i.2.0, p.0), tidy-dhears nak Sends Makes p.1.2 (mview m) (there f) x _ (tidy-first nak Sends Makes p.1.1 (mview m) (there f) x h i.3))
  good-step (Ev.spoilt t g r) (sys m d (back f) x h) i =
      if-refused (E.refused g) (sys m d (back f) x h) (mdo (E.mhear m t g r) d empty x h) i λ e.
      let p = L.mhears m t g r i.2.0 in
      let b : Heeded (read g) → ⊥ = rw (L.refuses g e) (λ q. q) in
      by i.0 (p.0, i.2.1) (tidy-hears nak Sends Makes p.1 (dview d) (back f) x h (λ q. absurd (b q)) i.3) (spoilt-sim read nak Sends Makes p.1 (L.refuses g e) f (dview d) x h i.1)

  good-run : (s : Sys E) (es : List (Ev E)) → Good s → Good (run s es)
  good-run s [] i = i
  good-run s (e ∷ es) i = good-run (step e s) es (good-step e s i)

  good_start : (t : ℕ) (f : E.F) → Good (start E t f)
  good_start t f =
      let m = L.mstarts t in
      let v = L.dstarts in
      rw (m.1, v.1.2) (
        safe-start (st (idle false) false v.1.0 v.1.1 []) v.1.0 v.1.1 refl,
        tt,
        (m.0, v.0),
        record { reported = tt; spoken = tt; below = tt; tallied = tt; stocked = λ q. absurd q; bears = tt },
      )

  good-ran : (t : ℕ) (f : E.F) (es : List (Ev E)) → Good (run (start E t f) es)
  good-ran t f es = good-run (start E t f) es (good_start t f)

  hist-of : (p : Phase E.F E.F) (v : DView E.F) (h : Hist E.F E.F) → hist_of (st_of p v h) ≡ h
  hist-of p (view g l a) h = refl

  hist-same : (s : Sys E) → hist_of (seen s) ≡ happened s
  hist-same (sys m d w x h) = hist-of _ (dview d) h

  -- demand 3 of any two ends that keep the laws, with the stepwise supposition
  pub kept-stepwise : (t : ℕ) (f : E.F) (es : List (Ev E)) → Held (ran E t f es) → Promise (ran E t f es)
  kept-stepwise t f es k =
      let s = run (start E t f) es in
      let e = hist-same s in
      rw e at (promised (seen s) (good-ran t f es).0 (rw e k))

  tidied : (s : Sys E) → tidy s → Reported (happened s) × Spoken Sends Makes (happened s)
  tidied (sys m d w x h) i = (i.reported, i.spoken)

  -- and without it: reported counts are the sendings made, and each end says only what it may
  pub kept-always : (t : ℕ) (f : E.F) (es : List (Ev E)) → Reported (ran E t f es) × Spoken Sends Makes (ran E t f es)
  kept-always t f es = tidied (run (start E t f) es) (good-ran t f es).3
