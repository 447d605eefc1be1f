-- The sending count that the master reports equals the sendings made since the first of that telegram (rule M16). Assumes nothing.
use mathlib.Core.Path.{◌≡◌, refl, sym}
use mathlib.Core.Bool.{Bool, true, false}
use mathlib.Core.List.{List, [], ◌∷◌}
use Prim.Native.Nat.{ℕ, ◌≤◌}
use native.Mathlib.Omega.{arith}
use borrow.Author.Tests.{eqb-false}
use Rattle.laws.proofs.Truths.{clash}
use Rattle.master.specs.declared.state.Master.{Master}
use Rattle.master.specs.Answers.{Which, Told}
use Rattle.master.specs.State.{is_free, in_ranges, started}
use Rattle.master.specs.Sending.{Behind, sending_of}
use Rattle.master.proofs.Ranges.{counted}
use Rattle.conduct.specs.Master.Calls.{Call, after, FirstSending, offered, polled}
use Rattle.conduct.specs.Master.Counts.{one_more, tally, Reports, Counted, CountMade}
use Rattle.conduct.proofs.Master.Calls.{Quiet, barred, idle, unheard, Ends, permitted, strange, Does, stays, begins, repeats, ends, gives_up, does}
use Rattle.conduct.proofs.Master.Kept.{keeps, start-ranged}

-- while not free the state's count is the sendings made
abbrev Holds : ℕ → Master → Type 0
Holds n m = is_free m ≡ false → m.count ≡ n

module _ (m : Master) (h : in_ranges m ≡ true) (n : ℕ) (k : Holds n m) where
  within : is_free m ≡ false → (1 ≤ m.count) × (m.count ≤ 3)
  within f = let a = counted m h f in let b = eqb-false m.count 0 f in (omega arith, omega arith)

  quiet : (told : Told) → Quiet told → Reports told (tally n told) × Holds (tally n told) m
  quiet told (barred x) = (tt, k)
  quiet told idle = (tt, k)
  quiet told unheard = (tt, k)

  over : (told : Told) (b : Bool) → is_free m ≡ false → Ends m told b → Reports told (tally n told)
  over told b f permitted = (k f, within f)
  over told b f strange = (k f, within f)

  begun : (call : Call) (which : Which) {rec : _} → FirstSending m call which rec → one_more n which ≡ 1
  begun call which offered = refl
  begun call which polled = refl

  step : (call : Call) (turn : Behind) → Does m call turn → Reports turn.1.0 (tally n turn.1.0) × Holds (tally n turn.1.0) turn.0
  unfolding sending_of
  step call turn (stays told q) = quiet told q
  step call turn (begins which rec f free s r) = let e = begun call which f in ((sym e, (omega arith, omega arith)), λ _. sym e)
  step call turn (repeats g f x r) = let w = within f in let e = k f in ((omega arith, (omega arith, omega arith)), λ _. omega arith)
  step call turn (ends told o e f b) = (over told o f e, λ q. clash (sym q))
  step call turn (gives_up ground f c) = ((k f, within f), λ q. clash (sym q))

counts : (n : ℕ) (m : Master) → in_ranges m ≡ true → Holds n m → (calls : List Call) → Counted n m calls
counts n m h k [] = tt
counts n m h k (call ∷ calls) =
    let s = step m h n k call (after m call) (does m h call) in
    (s.0, counts (tally n (after m call).1.0) (after m call).0 (keeps m h call) s.1 calls)

pub count-made : CountMade
count-made line at h calls = counts 0 (started line at) (start-ranged line at h) (λ q. refl) calls
