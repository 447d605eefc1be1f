-- On a live line the supposition holds by itself. Assumes nothing.
use mathlib.Core.Path.{◌≡◌, refl, ◌∙◌, ap}
use mathlib.Core.Bool.{Bool, true, false}
use mathlib.Core.List.{List, [], ◌∷◌}
use Prim.Native.Nat.{ℕ, ◌+◌, ◌*◌, ◌≤◌, ◌<◌}
use native.Mathlib.Omega.{arith}
use lib.Dec.{T as So, leb}
use borrow.Author.Tests.{eqb-true, leb-true, ltb-true, lt-ltb}
use Rattle.laws.specs.Truth.{implies}
use Rattle.laws.proofs.Truths.{both_left, both_right, both_true, clash}
use Rattle.forms.specs.Lines.{is_line}
use Rattle.clock.specs.Clock.{elapsed_of}
use Rattle.conduct.specs.Times.{clock_after}
use Rattle.master.specs.Sending.{t2_limit}
use Rattle.master.specs.declared.state.Master.{Master}
use Rattle.desk.specs.Panel.{t1_limit}
use Rattle.desk.specs.declared.state.Desk.{Desk}
use Rattle.protocol.specs.Demand.{NoLostInside}
use Rattle.protocol.specs.History.{Tel, over, unended}
use Rattle.protocol.specs.Ends.{Did, Said, Line, Ev, Sys, empty, there, back, sys, step, run, happened}
use Rattle.protocol.specs.Ends.{line_after, tel_after, hist_after, noting, hist_said, mdo, ddo, if_refused}
use Rattle.protocol.specs.Rules.{DView, First, MActs, MHears}
use Rattle.protocol.proofs.Stepwise.{Held, of-held}
use Rattle.demand3.specs.Ours.{ours, FromMaster}
use Rattle.demand3.specs.Runs.{History}
use Rattle.demand3.specs.Live.{Clocks, Timed, holds, on_line, forward, always, since_after, desk_reads, soon, not_late, untimed, begin, history, Forward, DeskClock, OnTime, LiveSupposed}
use Rattle.demand3.proofs.Numbers.{read}
use Rattle.demand3.proofs.MasterKeeps as mk
use Rattle.demand3.proofs.DeskKeeps.{so-true}
use Rattle.demand3.proofs.DeskKeeps as dk
use Rattle.demand3.proofs.LiveSteps.{run_long, good_of, Sooner, Busy, Behind, rests, since_in, later, acts, hears, Starts, same, anew, Untaken}
use Rattle.demand3.proofs.LiveSteps.{kept-good, held-said, held-noted, sooner-noted, sooner-said, sooner-after, held_after}
use Rattle.demand3.proofs.LiveSteps.{all_noted, all_said, same-since, noted-busy, said-busy, over-busy, dropped-busy, busy-unended, implied, implies-so, true-so}
use Rattle.demand3.proofs.LiveDesk.{tick-t1, tick-late, hear-t1, panel-t1, few}

module _ (line : ℕ) (c : Clocks) (late quick : ℕ) (bound : (t2_limit + late) + (t2_limit + late) + quick ≤ t1_limit) where
  -- the longest from one sending to the next
  abbrev p : ℕ
  p = t2_limit + late

  -- What holds between two events, with the true times of the first sending of the newest telegram and of T1's start. While the line is good, T1's
  -- start is what the desk's clock read then.
  record Inv (now since : ℕ) (m : Master) (d : Desk) (w : Line (List ℕ)) (x : Tel (List ℕ)) (h : History) : Type 0 where
    master_fine : mk.Fine line m
    desk_fine : dk.Fine line d
    begun : ℕ
    t1 : ℕ
    busy : Busy p (mk.mview m) w now since begun t1 (dk.dview d) x h
    clock : So (good_of (dk.dview d)) → d.t1 ≡ clock_after c.desk t1
    ago : So (good_of (dk.dview d)) → t1 ≤ now
    sooner : Sooner h
    held : Held h

  abbrev State : ℕ → ℕ → Sys (ours line) → Type 0
  State now since (sys m d w x h) = Inv now since m d w x h

  -- behind a call of the master that did o
  went : (m m' : Master) (d : Desk) (w w' : Line (List ℕ)) (x : Tel (List ℕ)) (h : History) (o : Did (List ℕ)) (now since at : ℕ) → now ≤ at → mk.Fine line m'
      → (s : Inv now since m d w x h)
      → Behind p (mk.mview m') w' at (since_in since at h (hist_after o x h)) s.t1 (dk.dview d) (tel_after o x h) (hist_after o x h)
      → Inv at (since_in since at h (hist_after o x h)) m' d w' (tel_after o x h) (hist_after o x h)
  went m m' d w w' x h o now since at l f s b =
      record {
        master_fine = f;
        desk_fine = s.desk_fine;
        begun = b.begun;
        t1 = s.t1;
        busy = b.busy;
        clock = s.clock;
        ago = λ z. omega (arith, s.ago z);
        sooner = sooner-after o x h s.sooner;
        held = held_after o x h s.held;
      }

  -- it acted
  acted : (m m' : Master) (d : Desk) (w : Line (List ℕ)) (x : Tel (List ℕ)) (h : History) (o : Did (List ℕ)) (now since at : ℕ) → now ≤ at → (So (unended h) → at ≤ since + p)
      → mk.Fine line m' × MActs read (FromMaster line) (mk.mview m) o (mk.mview m') → Inv now since m d w x h
      → Inv at (since_in since at h (hist_after o x h)) m' d (line_after o w) (tel_after o x h) (hist_after o x h)
  acted m m' d w x h o now since at l i q s =
      went m m' d w (line_after o w) x h o now since at l q.0 s (acts p read (FromMaster line) (mk.nak line) at q.1 l i s.sooner s.busy)

  -- it heard what is on the line
  heard : (m m' : Master) (d : Desk) (w : Line (List ℕ)) (x : Tel (List ℕ)) (h : History) (o : Did (List ℕ)) (g : List ℕ) (now since at : ℕ) → now ≤ at
      → (So (unended h) → at ≤ since + p) → mk.Fine line m' × MHears (mk.nak line) g (read g) (mk.mview m) o (mk.mview m') → Inv now since m d w x h
      → Inv at (since_in since at h (hist_after o x h)) m' d (line_after o empty) (tel_after o x h) (hist_after o x h)
  heard m m' d w x h o g now since at l i q s =
      went m m' d w (line_after o empty) x h o now since at l q.0 s (hears p read (FromMaster line) (mk.nak line) at q.1 l i s.busy)

  -- time passes
  waited : {m : Master} {d : Desk} {w : Line (List ℕ)} {x : Tel (List ℕ)} {h : History} {now since : ℕ} (at : ℕ) → now ≤ at → Inv now since m d w x h → Inv at since m d w x h
  waited at l s =
      record {
        master_fine = s.master_fine;
        desk_fine = s.desk_fine;
        begun = s.begun;
        t1 = s.t1;
        busy = later l s.busy;
        clock = s.clock;
        ago = λ z. omega (arith, s.ago z);
        sooner = s.sooner;
        held = s.held;
      }

  idle : {m : Master} {d : Desk} {w : Line (List ℕ)} {x : Tel (List ℕ)} {h : History} {now since : ℕ} (at : ℕ) → now ≤ at → Inv now since m d w x h → Inv at (since_in since at h h) m d w x h
  idle {h = h} {since = since} at l s = rw (same-since since at h h refl) (waited at l s)

  first_good : {u v : DView (List ℕ)} {z : Bool} → First u z v → z ≡ true → So (good_of u)
  first_good First.stays e = clash e
  first_good First.loses e = tt

  -- what the desk's clock reads when it notes a lost line
  noted-late : (d : Desk) (x : ℕ) (t at : ℕ) (z : Bool) (v : DView (List ℕ)) → First (dk.dview d) z v → (So (good_of (dk.dview d)) → d.t1 ≡ clock_after c.desk x)
      → (So (good_of (dk.dview d)) → x ≤ at) → t ≡ clock_after c.desk at → (z ≡ true → t1_limit ≤ elapsed_of t d.t1) → z ≡ true → x + t1_limit ≤ at
  noted-late d x t at z v f k a e n y =
      let g = first_good f y in
      let q : t1_limit ≤ elapsed_of (clock_after c.desk at) (clock_after c.desk x) = rw (e, k g) at (n y) in
      run_long c.desk x at (a g) q

  still-good : {u v : DView (List ℕ)} {z : Bool} → First u z v → So (good_of v) → So (good_of u)
  still-good First.stays y = y
  still-good First.loses y = tt

  -- the desk ticks
  ticked : (m : Master) (d : Desk) (w : Line (List ℕ)) (x : Tel (List ℕ)) (h : History) (now since at t : ℕ) → now ≤ at → t ≡ clock_after c.desk at → Inv now since m d w x h
      → Inv at (since_in since at h (noting ((ours line).dtick d t).noted h)) m ((ours line).dtick d t).d w x (noting ((ours line).dtick d t).noted h)
  ticked m d w x h now since at t l e s =
      let r = waited at l s in
      let q = dk.tick-lawful line d s.desk_fine t in
      let z = ((ours line).dtick d t).noted in
      let n = noted-late d r.t1 t at z _ q.1 r.clock r.ago e (tick-late line d s.desk_fine t) in
      rw (same-since since at h (noting z h) (all_noted z h))
      (record {
        master_fine = r.master_fine;
        desk_fine = q.0;
        begun = r.begun;
        t1 = r.t1;
        busy = noted-busy q.1 n r.busy;
        clock = λ y. tick-t1 line d s.desk_fine t ∙ r.clock (still-good q.1 y);
        ago = λ y. r.ago (still-good q.1 y);
        sooner = sooner-noted z h r.sooner;
        held = held-noted z h r.held;
      })

  -- the panel calls the desk
  called : (m : Master) (d e : Desk) (w : Line (List ℕ)) (x : Tel (List ℕ)) (h : History) (now since at : ℕ) → now ≤ at → dk.Fine line e → dk.dview e ≡ dk.dview d → e.t1 ≡ d.t1
      → Inv now since m d w x h → Inv at (since_in since at h h) m e w x h
  called m d e w x h now since at l f v k s =
      let r = waited at l s in
      let g : e.good ≡ d.good = ap good_of v in
      rw (same-since since at h h refl)
      (record {
        master_fine = r.master_fine;
        desk_fine = f;
        begun = r.begun;
        t1 = r.t1;
        busy = rw v r.busy;
        clock = rw g (λ y. k ∙ r.clock y);
        ago = rw g r.ago;
        sooner = r.sooner;
        held = r.held;
      })

  -- T1's true start behind a hearing
  record Began (t1 at b : ℕ) (q : Said (List ℕ)) (G : Type 0) : Type 0 where
    true : ℕ
    starts : Starts t1 at q true
    clock : G → b ≡ clock_after c.desk true
    ago : G → true ≤ at

  began : (G H : Type 0) (t1 at t : ℕ) {a b : ℕ} {q : Said (List ℕ)} → Starts a t q b → t ≡ clock_after c.desk at → (G → a ≡ clock_after c.desk t1) → (G → t1 ≤ at)
      → (Untaken q → H → G) → Began t1 at b q H
  began G H t1 at t (same e) k f g i = record { true = t1; starts = same e; clock = λ y. f (i e y); ago = λ y. g (i e y) }
  began G H t1 at t anew k f g i = record { true = at; starts = anew; clock = λ y. k; ago = λ y. omega arith }

  -- the desk hears g, where f is on the line
  told : (m : Master) (d : Desk) (f : List ℕ) (x : Tel (List ℕ)) (h : History) (g out : List ℕ) (now since at t : ℕ) → now ≤ at → at < since + quick → t ≡ clock_after c.desk at
      → Inv now since m d (there f) x h
      → State at (since_in since at h (happened {E = ours line} (ddo ((ours line).dhear d t g out) m x h))) (ddo ((ours line).dhear d t g out) m x h)
  told m d f x h g out now since at t l k e s =
      let r = waited at l s in
      let q = dk.hear-lawful line d s.desk_fine t g out in
      let o = (ours line).dhear d t g out in
      let j = noting o.noted h in
      let k1 = hear-t1 d t g out in
      let n = noted-late d r.t1 t at o.noted _ q.1.1 r.clock r.ago e k1.late in
      let b = noted-busy q.1.1 n r.busy in
      let v = over-busy quick (few line m r.master_fine) k bound b in
      let z = began (So (good_of (dk.dview d))) (So (good_of (dk.dview o.d))) r.t1 at t k1.starts e r.clock r.ago (kept-good q.1.1 q.1.2) in
      rw (same-since since at h (hist_said o.said x j) (all_said x j o.said ∙ all_noted o.noted h))
      (record {
        master_fine = r.master_fine;
        desk_fine = q.0;
        begun = r.begun;
        t1 = z.true;
        busy = said-busy q.1.2 z.starts b;
        clock = z.clock;
        ago = z.ago;
        sooner = sooner-said x j o.said v.1 (sooner-noted o.noted h r.sooner);
        held = held-said x j o.said v.0 (held-noted o.noted h r.held);
      })

  -- a sending is lost
  gone : (m : Master) (d : Desk) (f : List ℕ) (x : Tel (List ℕ)) (h : History) (now since at : ℕ) → now ≤ at → at < since + quick → Inv now since m d (there f) x h
      → Inv at (since_in since at h (over x ∷ h)) m d empty x (over x ∷ h)
  gone m d f x h now since at l k s =
      let r = waited at l s in
      let v = over-busy quick (few line m r.master_fine) k bound r.busy in
      rw (same-since since at h (over x ∷ h) refl)
      (record {
        master_fine = r.master_fine;
        desk_fine = r.desk_fine;
        begun = r.begun;
        t1 = r.t1;
        busy = v.2;
        clock = r.clock;
        ago = r.ago;
        sooner = r.sooner;
        held = (v.0, r.held);
      })

  -- an answer is lost
  dropped : (m : Master) (d : Desk) (f : List ℕ) (x : Tel (List ℕ)) (h : History) (now since at : ℕ) → now ≤ at → Inv now since m d (back f) x h
      → Inv at (since_in since at h h) m d empty x h
  dropped m d f x h now since at l s =
      let r = waited at l s in
      rw (same-since since at h h refl)
      (record {
        master_fine = r.master_fine;
        desk_fine = r.desk_fine;
        begun = r.begun;
        t1 = r.t1;
        busy = dropped-busy r.busy;
        clock = r.clock;
        ago = r.ago;
        sooner = r.sooner;
        held = r.held;
      })

  in-turn : (h : History) (since at : ℕ) → implies (unended h) (leb at (since + t2_limit + late)) ≡ true → So (unended h) → at ≤ since + p
  in-turn h since at e q = let l = leb-true at (since + t2_limit + late) (implied (unended h) _ e q) in omega (arith, l)

  -- refused or not
  either_way : (b : Bool) (s s' : Sys (ours line)) (since at : ℕ) → State at (since_in since at (happened s) (happened s)) s → State at (since_in since at (happened s) (happened s')) s'
      → State at (since_in since at (happened s) (happened (if_refused b s s'))) (if_refused b s s')
  either_way true s s' since at i j = j
  either_way false s s' since at i j = i

  stepped : (at : ℕ) (e : Ev (ours line)) (s : Sys (ours line)) (now since : ℕ) → now ≤ at → desk_reads line c since (at, e) s ≡ true → soon line quick since (at, e) s ≡ true
      → not_late line late since (at, e) s ≡ true → State now since s → State at (since_after line since (at, e) s) (step e s)
  stepped at (Ev.offer t o r) (sys m d w x h) now since l k i n s =
      acted m _ d w x h _ now since at l (in-turn h since at n) (mk.offer-lawful line m s.master_fine t o r) s
  stepped at (Ev.mtick t r) (sys m d w x h) now since l k i n s =
      acted m _ d w x h _ now since at l (in-turn h since at n) (mk.tick-lawful line m s.master_fine t r) s
  stepped at (Ev.dtick t) (sys m d w x h) now since l k i n s = ticked m d w x h now since at t l (eqb-true t (clock_after c.desk at) k) s
  stepped at (Ev.act a) (sys m d w x h) now since l k i n s =
      let q = dk.panel-lawful line d s.desk_fine a in
      called m d ((ours line).act d a) w x h now since at l q.0 q.1 (panel-t1 d a) s
  stepped at Ev.lost (sys m d empty x h) now since l k i n s = idle at l s
  stepped at Ev.lost (sys m d (there f) x h) now since l k i n s = gone m d f x h now since at l (ltb-true at (since + quick) i) s
  stepped at Ev.lost (sys m d (back f) x h) now since l k i n s = dropped m d f x h now since at l s
  stepped at (Ev.whole t r) (sys m d empty x h) now since l k i n s = idle at l s
  stepped at (Ev.whole t r) (sys m d (there f) x h) now since l k i n s =
      told m d f x h f r now since at t l (ltb-true at (since + quick) i) (eqb-true t (clock_after c.desk at) k) s
  stepped at (Ev.whole t r) (sys m d (back f) x h) now since l k i n s =
      heard m _ d (back f) x h _ f now since at l (in-turn h since at n) (mk.hear-lawful line m s.master_fine t f r) s
  stepped at (Ev.spoilt t g r) (sys m d empty x h) now since l k i n s = idle at l s
  stepped at (Ev.spoilt t g r) (sys m d (there f) x h) now since l k i n s =
      either_way ((ours line).refused g) (sys m d (there f) x h) (ddo ((ours line).dhear d t g r) m x h) since at (idle at l s)
      (told m d f x h g r now since at t l (ltb-true at (since + quick) i) (eqb-true t (clock_after c.desk at) k) s)
  stepped at (Ev.spoilt t g r) (sys m d (back f) x h) now since l k i n s =
      either_way ((ours line).refused g) (sys m d (back f) x h) (mdo ((ours line).mhear m t g r) d empty x h) since at (idle at l s)
      (heard m _ d (back f) x h _ g now since at l (in-turn h since at n) (mk.hear-lawful line m s.master_fine t g r) s)

  held_in : (s : Sys (ours line)) (now since : ℕ) → State now since s → Held (happened s)
  held_in (sys m d w x h) now since s = s.held

  lives : (es : List (Timed line)) (s : Sys (ours line)) (now since : ℕ) → forward line now es ≡ true → always line (desk_reads line c) since s es ≡ true
      → always line (soon line quick) since s es ≡ true → always line (not_late line late) since s es ≡ true → State now since s → Held (happened (run s (untimed line es)))
  lives [] s now since f k q o i = held_in s now since i
  lives ((at, e) ∷ es) s now since f k q o i =
      lives es (step e s) at (since_after line since (at, e) s) (both_right (leb now at) _ f) (both_right (desk_reads line c since (at, e) s) _ k)
      (both_right (soon line quick since (at, e) s) _ q) (both_right (not_late line late since (at, e) s) _ o)
      (stepped at e s now since (leb-true now at (both_left _ _ f)) (both_left _ _ k) (both_left _ _ q) (both_left _ _ o) i)

  starts : is_line line ≡ true → (from : ℕ) → State from from (begin line c from)
  starts h from =
      let m = mk.start-lawful line (clock_after c.master from) h in
      let d = dk.start-lawful line h in
      let g : (ours line).dstart.good ≡ false = ap good_of d.1.2 in
      record {
        master_fine = m.0;
        desk_fine = d.0;
        begun = from;
        t1 = from;
        busy = rw m.1 rests;
        clock = rw g (λ y. absurd y);
        ago = λ y. omega arith;
        sooner = λ y w. absurd w;
        held = tt;
      }

-- Where only the next sending ends the time of the one before, that one is over within T2 and `late`.
module _ (line : ℕ) (c : Clocks) (late : ℕ) (bound : (t2_limit + late) + (t2_limit + late) + (t2_limit + late + 1) ≤ t1_limit) where
  abbrev wide : ℕ
  wide = t2_limit + late + 1

  open-unended : (s : Sys (ours line)) (now since : ℕ) → State line c late wide bound now since s → So (holds (on_line line s)) → So (unended (happened s))
  open-unended (sys m d w x h) now since s y = busy-unended s.busy y

  soon-then : (s : Sys (ours line)) (now since at : ℕ) (e : Ev (ours line)) → not_late line late since (at, e) s ≡ true → State line c late wide bound now since s
      → soon line wide since (at, e) s ≡ true
  soon-then s now since at e n i =
      implies-so (holds (on_line line s)) _
      (λ y. lt-ltb at (since + wide) (omega (arith, in-turn line c late wide bound (happened s) since at n (open-unended s now since i y))))

  widely : (es : List (Timed line)) (s : Sys (ours line)) (now since : ℕ) → forward line now es ≡ true → always line (desk_reads line c) since s es ≡ true
      → always line (not_late line late) since s es ≡ true → State line c late wide bound now since s → always line (soon line wide) since s es ≡ true
  widely [] s now since f k o i = refl
  widely ((at, e) ∷ es) s now since f k o i =
      let q = soon-then s now since at e (both_left _ _ o) i in
      both_true (soon line wide since (at, e) s) _ q
      (widely es (step e s) at (since_after line since (at, e) s) (both_right (leb now at) _ f) (both_right (desk_reads line c since (at, e) s) _ k)
      (both_right (not_late line late since (at, e) s) _ o)
      (stepped line c late wide bound at e s now since (leb-true now at (both_left _ _ f)) (both_left _ _ k) q (both_left _ _ o) i))

pub live-supposed : LiveSupposed
live-supposed line h c late quick from es b f k q o =
    of-held (history line c from es)
    (lives line c late quick (omega (arith, b)) es (begin line c from) from from (so-true _ f) (so-true _ k) (so-true _ q) (so-true _ o)
    (starts line c late quick (omega (arith, b)) h from))

-- the same with no limit on the line but the next sending
pub wide-supposed : (line : ℕ) → is_line line ≡ true → (c : Clocks) (late from : ℕ) (es : List (Timed line)) → 3 * (t2_limit + late) < t1_limit
    → Forward line from es → DeskClock line c from es → OnTime line c late from es → NoLostInside (history line c from es)
wide-supposed line h c late from es b f k o =
    let q = widely line c late (omega (arith, b)) es (begin line c from) from from (so-true _ f) (so-true _ k) (so-true _ o)
    (starts line c late (t2_limit + late + 1) (omega (arith, b)) h from) in
    live-supposed line h c late (t2_limit + late + 1) from es (omega (arith, b)) f k (true-so _ q) o
