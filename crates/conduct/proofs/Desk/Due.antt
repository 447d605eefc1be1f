-- When the desk's next tick does something (rules D19, K6). Assumes nothing.
use mathlib.Core.Path.{◌≡◌, refl, sym, ap, ◌∙◌}
use mathlib.Core.Bool.{Bool, true, false, cond}
use mathlib.Core.List.{List, [], ◌∷◌, map}
use Prim.Native.Nat.{ℕ, ◌<◌}
use native.Mathlib.Omega.{arith}
use Rattle.laws.specs.Truth.{All}
use Rattle.records.specs.Refusals.{no}
use Rattle.clock.specs.Due.{When, after, never, time_left}
use Rattle.clock.specs.Due as w
use Rattle.desk.specs.Answers.{Done, done, lost}
use Rattle.desk.specs.Answers as o
use Rattle.desk.specs.State.{in_ranges}
use Rattle.desk.specs.Panel.{t1_limit, with_good, loses_line, noted_of, tick_of}
use Rattle.desk.specs.Due.{due_of}
use Rattle.desk.specs.declared.state.Desk.{Desk}
use Rattle.desk.proofs.Calls.{tick-refused, tick-lost, tick-done}
use Rattle.conduct.specs.Times.{clock_after}
use Rattle.conduct.specs.Desk.Calls.{Answered, ticks, did, run}
use Rattle.conduct.specs.Desk.Due.{Read, EarlierRests, DueLoses, NeverRests, RefusedAlike, answers, Rest, EarlierRest, NeverRest}
use Rattle.conduct.proofs.Times.{runs-before, out-when-due}
use Rattle.conduct.proofs.Desk.Steps.{never as clashes}

-- what is due, by the state that it is asked of
data Asked (d : Desk) (at : ℕ) : When → Type 0 where
  in_time : in_ranges d ≡ true → d.good ≡ true → Asked d at (after (time_left at d.t1 t1_limit))
  gone : in_ranges d ≡ true → d.good ≡ false → Asked d at never
  bad : in_ranges d ≡ false → Asked d at (w.refused (no 15 0))

asked : (d : Desk) (at : ℕ) → Asked d at (due_of d at)
unfolding due_of
asked d at = go (in_ranges d) d.good refl refl
  where
    go : (r g : Bool) → in_ranges d ≡ r → d.good ≡ g → Asked d at (cond r (cond g (after (time_left at d.t1 t1_limit)) never) (w.refused (no 15 0)))
    go true true h k = in_time h k
    go true false h k = gone h k
    go false g h k = bad h

-- the first rule, before and when what is left of T1 has passed
module _ (d : Desk) (at : ℕ) (r : Read d at) (h : in_ranges d ≡ true) (g : d.good ≡ true) where
  rests : (ms : ℕ) → ms < time_left at d.t1 t1_limit → tick_of d (clock_after at ms) ≡ (d, done)
  rests ms l =
      let k : loses_line d (clock_after at ms) ≡ false = unfold loses_line in rw (g, runs-before at d.t1 t1_limit r.present r.start (omega arith) ms l) in
      sym (tick-done d _ h k d (unfold noted_of in refl))

  loses : tick_of d (clock_after at (time_left at d.t1 t1_limit)) ≡ (with_good d false, lost)
  loses =
      let k : loses_line d (clock_after at (time_left at d.t1 t1_limit)) ≡ true = unfold loses_line in rw (g, out-when-due at d.t1 t1_limit r.present r.start (omega arith)) in
      sym (tick-lost d _ h k (with_good d false) (unfold noted_of in refl))

pub earlier-rests : EarlierRests
earlier-rests d at n r e ms l = go (due_of d at) (asked d at) e
  where
    go : (x : When) → Asked d at x → x ≡ after n → tick_of d (clock_after at ms) ≡ (d, done)
    go x (in_time h g) e = let q : time_left at d.t1 t1_limit ≡ n = cc in rests d at r h g ms (omega (arith, q, l))
    go x (gone h g) e = clashes (cc)
    go x (bad h) e = clashes (cc)

pub due-loses : DueLoses
due-loses d at n r e = go (due_of d at) (asked d at) e
  where
    go : (x : When) → Asked d at x → x ≡ after n → tick_of d (clock_after at n) ≡ (with_good d false, lost)
    go x (in_time h g) e = let q : time_left at d.t1 t1_limit ≡ n = cc in rw (← q) (loses d at r h g)
    go x (gone h g) e = clashes (cc)
    go x (bad h) e = clashes (cc)

pub never-rests : NeverRests
never-rests d at e later = go (due_of d at) (asked d at) e
  where
    go : (x : When) → Asked d at x → x ≡ never → tick_of d later ≡ (d, done)
    go x (in_time h g) e = clashes (cc)
    go x (gone h g) e = let k : loses_line d later ≡ false = unfold loses_line in rw g in sym (tick-done d later h k d (unfold noted_of in refl))
    go x (bad h) e = clashes (cc)

pub refused-alike : RefusedAlike
refused-alike d at x e later = go (due_of d at) (asked d at) e
  where
    go : (y : When) → Asked d at y → y ≡ w.refused x → tick_of d later ≡ (d, o.refused x)
    go y (in_time h g) e = clashes (cc)
    go y (gone h g) e = clashes (cc)
    go y (bad h) e = let q : no 15 0 ≡ x = cc in rw (← q) (sym (tick-refused d later h))

-- ticks that each do nothing do nothing together
rests-mapped : (d : Desk) (f : ℕ → ℕ) (P : ℕ → Type 0) → ((ms : ℕ) → P ms → tick_of d (f ms) ≡ (d, done)) → (times : List ℕ) → All P times
    → Rest d (map (λ (ms : ℕ). ticks (f ms)) times)
rests-mapped d f P h [] p = (refl, refl)
rests-mapped d f P h (ms ∷ times) p =
    let s = h ms p.0 in
    let k = rests-mapped d f P h times p.1 in
    let behind = map (λ (ms : ℕ). ticks (f ms)) times in (
      ap (λ (x : Desk × Done). run x.0 behind) s ∙ k.0,
      ap (λ (x : Desk × Done). did x.1 ∷ answers x.0 behind) s ∙ ap (λ (xs : List Answered). did done ∷ xs) k.1,
    )

pub earlier-rest : EarlierRest
earlier-rest d at n r e times p = rests-mapped d (clock_after at) (λ (ms : ℕ). ms < n) (earlier-rests d at n r e) times p

any : (times : List ℕ) → All (λ (ms : ℕ). Unit {0}) times
any [] = tt
any (ms ∷ times) = (tt, any times)

pub never-rest : NeverRest
never-rest d at e times = rests-mapped d (λ (ms : ℕ). ms) (λ (ms : ℕ). Unit {0}) (λ ms u. never-rests d at e ms) times (any times)
