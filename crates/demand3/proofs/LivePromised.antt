-- A master that is ticked often enough sends again in time, so that supposition and promise hold on a live line. Assumes nothing.
use mathlib.Core.Path.{◌≡◌, refl, ◌∙◌}
use mathlib.Core.Bool.{Bool, true, false, not, cond}
use mathlib.Core.List.{List, [], ◌∷◌}
use Prim.Native.Nat.{ℕ, suc, ◌+◌, ◌-◌, ◌^◌, ◌≤◌, ◌<◌}
use native.Mathlib.Omega.{arith}
use lib.Dec.{T as So, leb, eqb}
use lib.ListN.{length}
use borrow.Author.Tests.{eq-eqb, ne_eqb, eqb-true, leb-true, le-leb, leb-false}
use Rattle.laws.specs.Truth.{either, implies}
use Rattle.laws.proofs.Truths.{both_left, both_right, both_true, clash}
use Rattle.laws.proofs.Passes.{on_test}
use Rattle.forms.specs.Lines.{is_line}
use Rattle.characters.specs.Marks.{longest}
use Rattle.clock.specs.Clock.{elapsed_of, run_out}
use Rattle.conduct.specs.Times.{clock_after}
use Rattle.conduct.specs.Master.Calls.{offers, ticks, hears}
use Rattle.desk.specs.declared.state.Desk.{Desk}
use Rattle.master.specs.State.{is_free}
use Rattle.master.specs.Sending.{t2_limit}
use Rattle.master.specs.declared.state.Master.{Master}
use Rattle.protocol.specs.History.{Tel, over, all_sendings, unended}
use Rattle.protocol.specs.Demand.{NoLostInside, Promise}
use Rattle.protocol.specs.Ends.{Did, Said, Ev, Sys, nothing, first, resent, got, gave, silent, says, handles, empty, there, back, sys, step, happened}
use Rattle.protocol.specs.Ends.{hist_after, noting, hist_said, mdo, ddo, if_refused}
use Rattle.demand3.specs.Ours.{ours}
use Rattle.demand3.specs.Runs.{History}
use Rattle.demand3.specs.Live.{Clocks, Timed, forward, always, since_after, master_reads, not_late, ticked, untimed, begin, history, tick_limit, wide_tick_limit}
use Rattle.demand3.specs.Live.{TickedOnTime, LivePromised, WidePromised}
use Rattle.demand3.specs.Live as l
use Rattle.demand3.proofs.MasterKeeps as mk
use Rattle.demand3.proofs.DeskKeeps.{so-true}
use Rattle.demand3.proofs.Theorem.{demand3}
use Rattle.demand3.proofs.LiveSteps.{since_in, same-since, new-since, all_noted, all_said, implied, implies-so, true-so}
use Rattle.demand3.proofs.LiveTicks.{Times, call-timed, Done, late-tick}
use Rattle.demand3.proofs.LiveSupposed.{live-supposed, wide-supposed}

-- the last tick that was not refused, or the newest sending after it
abbrev last_in : Bool → ℕ → ℕ → History → History → ℕ
last_in tick last at h h' = cond (either tick (not (eqb (all_sendings h') (all_sendings h)))) at last

same-last : (last at : ℕ) (h h' : History) → all_sendings h' ≡ all_sendings h → last_in false last at h h' ≡ last
same-last last at h h' e = rw (eq-eqb (all_sendings h') (all_sendings h) e)

either_true : (b : Bool) → either b true ≡ true
either_true true = refl
either_true false = refl

new-last : (b : Bool) (last at : ℕ) (h h' : History) → all_sendings h' ≡ suc (all_sendings h) → last_in b last at h h' ≡ at
new-last b last at h h' e = rw (ne_eqb (all_sendings h') (all_sendings h) (λ q. omega (arith, q, e)), either_true b)

-- a timer of 2,000 that has not run out was started less than 2,000 ago, where the clock did not pass a whole turn
run_short : (o a b : ℕ) → a ≤ b → b < a + 2 ^ 32 → elapsed_of (clock_after o b) (clock_after o a) < t2_limit → b < a + t2_limit
run_short o a b l k e = omega arith

module _ (line : ℕ) (c : Clocks) (late : ℕ) (room : t2_limit + late + 1 < 2 ^ 32) where
  -- while the master waits
  record Waits (now since last : ℕ) (m : Master) : Type 0 where
    busy : is_free m ≡ false
    clock : m.t2 ≡ clock_after c.master since
    older : since ≤ last
    short : last < since + t2_limit
    past : last ≤ now

  record Tick (now since last : ℕ) (m : Master) (h : History) : Type 0 where
    fine : mk.Fine line m
    waits : So (unended h) → Waits now since last m

  abbrev State : ℕ → ℕ → ℕ → Sys (ours line) → Type 0
  State now since last (sys m e w x h) = Tick now since last m h

  later : {now since last : ℕ} {m : Master} (at : ℕ) → now ≤ at → Waits now since last m → Waits at since last m
  later at l w = record { busy = w.busy; clock = w.clock; older = w.older; short = w.short; past = omega (arith, w.past) }

  -- the master is not called
  quiet : (m : Master) (h h' : History) (now since last at : ℕ) → now ≤ at → all_sendings h' ≡ all_sendings h → (So (unended h') → So (unended h)) → Tick now since last m h
      → Tick at (since_in since at h h') (last_in false last at h h') m h'
  quiet m h h' now since last at l e u s = rw (same-since since at h h' e, same-last last at h h' e) (record { fine = s.fine; waits = λ z. later at l (s.waits (u z)) })

  sent-now : (m : Master) (t at : ℕ) → (m.t2 ≡ t) × (is_free m ≡ false) → t ≡ clock_after c.master at → Waits at at at m
  sent-now m t at q e = record { busy = q.1; clock = q.0 ∙ e; older = omega arith; short = omega arith; past = omega arith }

  idle-last : (b : Bool) {now since last : ℕ} {m : Master} (at : ℕ) → now ≤ at → (b ≡ true → at < since + t2_limit) → Waits now since last m → Waits at since (cond b at last) m
  idle-last true at l k w =
      record { busy = w.busy; clock = w.clock; older = omega (arith, l, w.older, w.past); short = k refl; past = omega arith }
  idle-last false at l k w = later at l w

  either-false : (b : Bool) → either b false ≡ b
  either-false true = refl
  either-false false = refl

  acted : (o : Did (List ℕ)) (b : Bool) (m n : Master) (x : Tel (List ℕ)) (h : History) (now since last at t : ℕ) → now ≤ at → t ≡ clock_after c.master at → Times o m t n → mk.Fine line n
      → ((Done o → ⊥) → b ≡ true → So (unended h) → at < since + t2_limit) → Tick now since last m h
      → Tick at (since_in since at h (hist_after o x h)) (last_in b last at h (hist_after o x h)) n (hist_after o x h)
  acted nothing b m n x h now since last at t l e q f i s =
      rw (same-since since at h h refl, eq-eqb (all_sendings h) (all_sendings h) refl, either-false b)
      (record { fine = f; waits = λ z. rw q (idle-last b at l (λ y. i (λ q. q) y z) (s.waits z)) })
  acted (first g) b m n x h now since last at t l e q f i s =
      rw (new-since since at h (hist_after (first g) x h) refl, new-last b last at h (hist_after (first g) x h) refl) (record { fine = f; waits = λ z. sent-now n t at q e })
  acted (resent g) b m n x h now since last at t l e q f i s =
      rw (new-since since at h (hist_after (resent g) x h) refl, new-last b last at h (hist_after (resent g) x h) refl) (record { fine = f; waits = λ z. sent-now n t at q e })
  acted (got g k) b m n x h now since last at t l e q f i s = record { fine = f; waits = λ z. absurd z }
  acted (gave k) b m n x h now since last at t l e q f i s = record { fine = f; waits = λ z. absurd z }

  not-run-out : (t a : ℕ) → run_out t a t2_limit ≡ false → elapsed_of t a < t2_limit
  unfolding run_out
  not-run-out t a e = leb-false t2_limit (elapsed_of t a) e

  -- a tick with room that does nothing comes before T2 has run out
  early : (m : Master) (h : History) (t : ℕ) (out : List ℕ) (now since last at : ℕ) → now ≤ at → t ≡ clock_after c.master at → (So (unended h) → at ≤ last + (late + 1)) → Tick now since last m h
      → (Done ((ours line).mtick m t out).did → ⊥) → leb longest (length out) ≡ true → So (unended h) → at < since + t2_limit
  early m h t out now since last at l e k s i b z =
      let w = s.waits z in
      let y = k z in
      on_test (run_out t m.t2 t2_limit)
      (λ r. absurd (i (late-tick m s.fine.ranged [] t out w.busy (leb-true longest (length out) b) r)))
      (λ r. let q : elapsed_of (clock_after c.master at) (clock_after c.master since) < t2_limit = rw (e, w.clock) at (not-run-out t m.t2 r) in
      run_short c.master since at (omega (arith, l, w.older, w.past)) (omega (arith, y, w.short, room)) q)

  said-unended : (x : Tel (List ℕ)) (h : History) (q : Said (List ℕ)) → So (unended (hist_said q x h)) → So (unended h)
  said-unended x h silent z = z
  said-unended x h (says f) z = z
  said-unended x h (handles g f) z = z

  noted-unended : (b : Bool) (h : History) → So (unended (noting b h)) → So (unended h)
  noted-unended true h z = z
  noted-unended false h z = z

  -- the desk hears g, or the master does
  told : (m : Master) (d : Desk) (x : Tel (List ℕ)) (h : History) (g out : List ℕ) (now since last at t : ℕ) → now ≤ at → Tick now since last m h
      → State at (since_in since at h (happened {E = ours line} (ddo ((ours line).dhear d t g out) m x h)))
      (last_in false last at h (happened {E = ours line} (ddo ((ours line).dhear d t g out) m x h))) (ddo ((ours line).dhear d t g out) m x h)
  told m d x h g out now since last at t k s =
      let o = (ours line).dhear d t g out in
      let j = noting o.noted h in
      quiet m h (hist_said o.said x j) now since last at k (all_said x j o.said ∙ all_noted o.noted h) (λ z. noted-unended o.noted h (said-unended x j o.said z)) s

  heard : (m : Master) (d : Desk) (x : Tel (List ℕ)) (h : History) (g out : List ℕ) (now since last at t : ℕ) → now ≤ at → t ≡ clock_after c.master at → Tick now since last m h
      → State at (since_in since at h (happened {E = ours line} (mdo ((ours line).mhear m t g out) d empty x h)))
      (last_in false last at h (happened {E = ours line} (mdo ((ours line).mhear m t g out) d empty x h))) (mdo ((ours line).mhear m t g out) d empty x h)
  heard m d x h g out now since last at t k e s =
      acted ((ours line).mhear m t g out).did false m _ x h now since last at t k e (call-timed m s.fine.ranged g (hears t g out)) (mk.hear-lawful line m s.fine t g out).0 (λ i b z. clash b) s

  -- the state behind an event, that is a tick or not
  abbrev After : ℕ → ℕ → ℕ → Bool → Sys (ours line) → Sys (ours line) → Type 0
  After since last at b s s' = State at (since_in since at (happened s) (happened s')) (last_in b last at (happened s) (happened s')) s'

  either_way : (b : Bool) (s s' : Sys (ours line)) (since last at : ℕ) → After since last at false s s → After since last at false s s' → After since last at false s (if_refused b s s')
  either_way true s s' since last at i j = j
  either_way false s s' since last at i j = i

  stepped : (at : ℕ) (e : Ev (ours line)) (s : Sys (ours line)) (now since last : ℕ) → now ≤ at → master_reads line c since (at, e) s ≡ true
      → (So (unended (happened s)) → at ≤ last + (late + 1)) → State now since last s → After since last at (l.ticks line e) s (step e s)
  stepped at (Ev.offer t o r) (sys m e w x h) now since last k q n s =
      acted ((ours line).offer m t o r).did false m _ x h now since last at t k (eqb-true t (clock_after c.master at) q) (call-timed m s.fine.ranged [] (offers t o r)) (mk.offer-lawful line m s.fine t o r).0 (λ i b z. clash b) s
  stepped at (Ev.mtick t r) (sys m e w x h) now since last k q n s =
      acted ((ours line).mtick m t r).did (l.ticks line (Ev.mtick t r)) m _ x h now since last at t k (eqb-true t (clock_after c.master at) q) (call-timed m s.fine.ranged [] (ticks t r)) (mk.tick-lawful line m s.fine t r).0
      (early m h t r now since last at k (eqb-true t (clock_after c.master at) q) n s) s
  stepped at (Ev.dtick t) (sys m e w x h) now since last k q n s =
      let b = ((ours line).dtick e t).noted in
      quiet m h (noting b h) now since last at k (all_noted b h) (noted-unended b h) s
  stepped at (Ev.act a) (sys m e w x h) now since last k q n s = quiet m h h now since last at k refl (λ z. z) s
  stepped at Ev.lost (sys m e empty x h) now since last k q n s = quiet m h h now since last at k refl (λ z. z) s
  stepped at Ev.lost (sys m e (there f) x h) now since last k q n s = quiet m h (over x ∷ h) now since last at k refl (λ z. z) s
  stepped at Ev.lost (sys m e (back f) x h) now since last k q n s = quiet m h h now since last at k refl (λ z. z) s
  stepped at (Ev.whole t r) (sys m e empty x h) now since last k q n s = quiet m h h now since last at k refl (λ z. z) s
  stepped at (Ev.whole t r) (sys m e (there f) x h) now since last k q n s = told m e x h f r now since last at t k s
  stepped at (Ev.whole t r) (sys m e (back f) x h) now since last k q n s = heard m e x h f r now since last at t k (eqb-true t (clock_after c.master at) q) s
  stepped at (Ev.spoilt t g r) (sys m e empty x h) now since last k q n s = quiet m h h now since last at k refl (λ z. z) s
  stepped at (Ev.spoilt t g r) (sys m e (there f) x h) now since last k q n s =
      either_way ((ours line).refused g) (sys m e (there f) x h) (ddo ((ours line).dhear e t g r) m x h) since last at (quiet m h h now since last at k refl (λ z. z) s)
      (told m e x h g r now since last at t k s)
  stepped at (Ev.spoilt t g r) (sys m e (back f) x h) now since last k q n s =
      either_way ((ours line).refused g) (sys m e (back f) x h) (mdo ((ours line).mhear m t g r) e empty x h) since last at (quiet m h h now since last at k refl (λ z. z) s)
      (heard m e x h g r now since last at t k (eqb-true t (clock_after c.master at) q) s)

  in-time : (s : Sys (ours line)) (now since last at : ℕ) (e : Ev (ours line)) → (So (unended (happened s)) → at ≤ last + (late + 1)) → State now since last s
      → not_late line late since (at, e) s ≡ true
  in-time (sys m d w x h) now since last at e n s =
      implies-so (unended h) _ (λ z. le-leb at (since + t2_limit + late) (omega (arith, n z, (s.waits z).short)))

  times : (es : List (Timed line)) (s : Sys (ours line)) (now since last : ℕ) → forward line now es ≡ true → always line (master_reads line c) since s es ≡ true
      → ticked line (late + 1) last s es ≡ true → State now since last s → always line (not_late line late) since s es ≡ true
  times [] s now since last f k t i = refl
  times ((at, e) ∷ es) s now since last f k t i =
      let n : So (unended (happened s)) → at ≤ last + (late + 1) = λ z. leb-true at (last + (late + 1)) (implied (unended (happened s)) _ (both_left _ _ t) z) in
      both_true (not_late line late since (at, e) s) _ (in-time s now since last at e n i)
      (times es (step e s) at (since_after line since (at, e) s) _ (both_right (leb now at) _ f) (both_right (master_reads line c since (at, e) s) _ k)
      (both_right (implies (unended (happened s)) (leb at (last + (late + 1)))) _ t)
      (stepped at e s now since last (leb-true now at (both_left _ _ f)) (both_left _ _ k) n i))

pub ticked-on-time : TickedOnTime
ticked-on-time line h c late from es r f k t =
    true-so _ (times line c late r es (begin line c from) from from from (so-true _ f) (so-true _ k) (so-true _ t)
    (record { fine = (mk.start-lawful line (clock_after c.master from) h).0; waits = λ z. absurd z }))

-- what is supposed, and what follows
both_hold : (line : ℕ) → is_line line ≡ true → (c : Clocks) (from : ℕ) (es : List (Timed line)) → NoLostInside (history line c from es)
    → NoLostInside (history line c from es) × Promise (history line c from es)
both_hold line h c from es n = (n, demand3 line h (clock_after c.master from) (untimed line es) n)

pub live-promised : LivePromised
live-promised line h c from es k q t =
    let late = tick_limit - 1 in
    both_hold line h c from es
    (live-supposed line h c late _ from es (omega arith) k.0 k.1 q (ticked-on-time line h c late from es (omega arith) k.0 k.2 t))

pub wide-promised : WidePromised
wide-promised line h c from es k t =
    let late = wide_tick_limit - 1 in
    both_hold line h c from es
    (wide-supposed line h c late from es (omega arith) k.0 k.1 (ticked-on-time line h c late from es (omega arith) k.0 k.2 t))
