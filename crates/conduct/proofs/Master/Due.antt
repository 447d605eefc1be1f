-- When the master's next tick does something (rules M19, K6). Assumes nothing.
use mathlib.Core.Path.{◌≡◌, refl, sym, ap, ◌∙◌}
use mathlib.Core.Bool.{Bool, true, false, cond}
use mathlib.Core.List.{List, [], ◌∷◌, map}
use Prim.Native.Nat.{ℕ, ◌^◌, ◌≤◌, ◌<◌}
use native.Mathlib.Omega.{arith}
use lib.Dec.{leb}
use lib.ListN.{length}
use borrow.Author.Tests.{eqb-true, eqb-false, leb-true}
use Rattle.laws.proofs.Truths.{clash}
use Rattle.characters.specs.Marks.{longest}
use Rattle.forms.specs.Lines.{line_of}
use Rattle.forms.proofs.Found.{each_line}
use Rattle.records.specs.Refusals.{no}
use Rattle.clock.specs.Due.{When, after, never, time_left}
use Rattle.clock.specs.Due as w
use Rattle.master.specs.Rules.{poll_of}
use Rattle.master.specs.Times.{t0_of}
use Rattle.master.specs.Answers.{Told, nothing, silence, poll}
use Rattle.master.specs.Answers as t
use Rattle.master.specs.State.{is_free, in_ranges, call_fault}
use Rattle.master.specs.Sending.{Behind, t0_limit, t2_limit, sending_of, failed_of, polling_of, waiting_of, tick_of}
use Rattle.master.specs.Due.{due_of}
use Rattle.master.specs.declared.state.Master.{Master}
use Rattle.master.proofs.Ranges.{passes, lined}
use Rattle.master.proofs.Sends.{no-poll, polled, waits, silent, tick-free, tick-busy}
use Rattle.conduct.specs.Times.{clock_after}
use Rattle.conduct.specs.Master.Calls.{ticks, run}
use Rattle.conduct.specs.Master.Due.{Read, AlwaysDue, EarlierRests, DuePolls, DueFails, RefusedAlike, answers, Tick, EarlierRest}
use Rattle.conduct.proofs.Times.{runs-before, out-when-due}
use Rattle.conduct.proofs.Desk.Steps.{never as clashes}

-- what is due, by the state that it is asked of
data Asked (m : Master) (at : ℕ) : When → Type 0 where
  free : in_ranges m ≡ true → is_free m ≡ true → Asked m at (after (time_left at m.t0 (t0_limit m)))
  busy : in_ranges m ≡ true → is_free m ≡ false → Asked m at (after (time_left at m.t2 t2_limit))
  bad : in_ranges m ≡ false → Asked m at (w.refused (no 15 0))

asked : (m : Master) (at : ℕ) → Asked m at (due_of m at)
unfolding due_of
asked m at = go (in_ranges m) (is_free m) refl refl
  where
    go : (r f : Bool) → in_ranges m ≡ r → is_free m ≡ f
        → Asked m at (cond r (cond f (after (time_left at m.t0 (t0_limit m))) (after (time_left at m.t2 t2_limit))) (w.refused (no 15 0)))
    go true true h k = free h k
    go true false h k = busy h k
    go false f h k = bad h

pub always-due : AlwaysDue
always-due m at e = go (due_of m at) (asked m at) e
  where
    go : (x : When) → Asked m at x → ¬ (x ≡ never)
    go x (free h k) e = clashes (cc)
    go x (busy h k) e = clashes (cc)
    go x (bad h) e = clashes (cc)

-- T0 is at most 20 seconds on each line
t0-most : (operation : Bool) (line : ℕ) → leb (t0_of line operation) 20000 ≡ true → t0_of line operation < 2 ^ 32
t0-most operation line h = omega (arith, leb-true (t0_of line operation) 20000 h)

t0-under : (m : Master) → in_ranges m ≡ true → t0_limit m < 2 ^ 32
unfolding t0_of line_of
t0-under m h = go m.operation
  where
    go : (operation : Bool) → t0_of m.line operation < 2 ^ 32
    go true = t0-most true m.line (each_line (λ (line : ℕ). leb (t0_of line true) 20000) refl m.line (lined m h))
    go false = t0-most false m.line (each_line (λ (line : ℕ). leb (t0_of line false) 20000) refl m.line (lined m h))

module _ (m : Master) (at : ℕ) (r : Read m at) (h : in_ranges m ≡ true) (out : List ℕ) (room : longest ≤ length out) where
  module _ (f : is_free m ≡ true) where
    -- a tick while free looks at T0
    free-tick : (now : ℕ) → polling_of m now out ≡ tick_of m now out
    free-tick now = tick-free m now out (passes m (length out) h room) (eqb-true m.count 0 f)

    free-rests : (ms : ℕ) → ms < time_left at m.t0 (t0_limit m) → tick_of m (clock_after at ms) out ≡ (m, (nothing, out))
    free-rests ms l = sym (no-poll m _ out (t0_limit m) refl (runs-before at m.t0 (t0_limit m) r.present r.polling (t0-under m h) ms l) ∙ free-tick _)

    free-polls : (n : ℕ) → time_left at m.t0 (t0_limit m) ≡ n → tick_of m (clock_after at n) out ≡ sending_of poll m (poll_of m.line) 1 (clock_after at n) out
    free-polls n e =
        let k = out-when-due at m.t0 (t0_limit m) r.present r.polling (t0-under m h) in
        rw (← e) (sym (polled m _ out (t0_limit m) refl k (poll_of m.line) refl ∙ free-tick _))

  module _ (f : is_free m ≡ false) where
    -- a tick while not free looks at T2
    busy-tick : (now : ℕ) → waiting_of m now out ≡ tick_of m now out
    busy-tick now = tick-busy m now out (passes m (length out) h room) (eqb-false m.count 0 f)

    busy-rests : (ms : ℕ) → ms < time_left at m.t2 t2_limit → tick_of m (clock_after at ms) out ≡ (m, (nothing, out))
    busy-rests ms l = sym (waits m _ out (runs-before at m.t2 t2_limit r.present r.waiting (omega arith) ms l) ∙ busy-tick _)

    busy-fails : (n : ℕ) → time_left at m.t2 t2_limit ≡ n → tick_of m (clock_after at n) out ≡ failed_of silence false m (clock_after at n) out
    busy-fails n e = let k = out-when-due at m.t2 t2_limit r.present r.waiting (omega arith) in rw (← e) (sym (silent m _ out k ∙ busy-tick _))

pub earlier-rests : EarlierRests
earlier-rests m at n r e out room ms l = go (due_of m at) (asked m at) e
  where
    go : (x : When) → Asked m at x → x ≡ after n → tick_of m (clock_after at ms) out ≡ (m, (nothing, out))
    go x (free h f) e = let q : time_left at m.t0 (t0_limit m) ≡ n = cc in free-rests m at r h out room f ms (omega (arith, q, l))
    go x (busy h f) e = let q : time_left at m.t2 t2_limit ≡ n = cc in busy-rests m at r h out room f ms (omega (arith, q, l))
    go x (bad h) e = clashes (cc)

pub due-polls : DuePolls
due-polls m at n r e out room k = go (due_of m at) (asked m at) e
  where
    go : (x : When) → Asked m at x → x ≡ after n → tick_of m (clock_after at n) out ≡ sending_of poll m (poll_of m.line) 1 (clock_after at n) out
    go x (free h f) e = let q : time_left at m.t0 (t0_limit m) ≡ n = cc in free-polls m at r h out room f n q
    go x (busy h f) e = clash (sym f ∙ k)
    go x (bad h) e = clashes (cc)

pub due-fails : DueFails
due-fails m at n r e out room k = go (due_of m at) (asked m at) e
  where
    go : (x : When) → Asked m at x → x ≡ after n → tick_of m (clock_after at n) out ≡ failed_of silence false m (clock_after at n) out
    go x (free h f) e = clash (sym k ∙ f)
    go x (busy h f) e = let q : time_left at m.t2 t2_limit ≡ n = cc in busy-fails m at r h out room f n q
    go x (bad h) e = clashes (cc)

tick-15 : (m : Master) (at : ℕ) (out : List ℕ) → in_ranges m ≡ false → tick_of m at out ≡ (m, (t.refused (no 15 0), out))
unfolding tick_of call_fault
tick-15 m at out h = rw h

pub refused-alike : RefusedAlike
refused-alike m at x e later out = go (due_of m at) (asked m at) e
  where
    go : (y : When) → Asked m at y → y ≡ w.refused x → tick_of m later out ≡ (m, (t.refused x, out))
    go y (free h f) e = clashes (cc)
    go y (busy h f) e = clashes (cc)
    go y (bad h) e = let q : no 15 0 ≡ x = cc in rw (← q) (tick-15 m later out h)

pub earlier-rest : EarlierRest
earlier-rest m at n r e [] p = (refl, refl)
earlier-rest m at n r e (x ∷ given) p =
    let s = earlier-rests m at n r e x.1 p.0.1 x.0 p.0.0 in
    let k = earlier-rest m at n r e given p.1 in
    let behind = map (λ (x : Tick). ticks (clock_after at x.0) x.1) given in (
      ap (λ (b : Behind). run b.0 behind) s ∙ k.0,
      ap (λ (b : Behind). b.1 ∷ answers b.0 behind) s ∙ ap (λ (xs : List (Told × List ℕ)). (nothing, x.1) ∷ xs) k.1,
    )
