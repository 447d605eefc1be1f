-- How a telegram ends: given up, or by an answer of another kind (rules M13, M15). Assumes nothing.
use mathlib.Core.Path.{◌≡◌, refl, ap}
use mathlib.Core.Bool.{Bool, true}
use Prim.Native.Nat.{ℕ}
use native.Mathlib.Omega.{arith}
use Rattle.clock.specs.Counters.{changed_of}
use Rattle.master.specs.Answers.{Told, other_kind, given_up}
use Rattle.master.specs.Sending.{Behind, sending_of}
use Rattle.conduct.specs.Master.Calls.{after, line_after}
use Rattle.conduct.specs.Master.Ended.{Freed, AfterGivingUp, AfterOtherKind}
use Rattle.conduct.proofs.Master.Calls.{Quiet, barred, idle, unheard, Ends, permitted, strange, Does, stays, begins, repeats, ends, gives_up, does}

-- two answers of different kinds are never equal
never : {A : Type 0} → ◌≡◌ {A = ℕ} 0 1 → A
never z = let y : ⊥ = omega arith in absurd y

pub after-giving-up : AfterGivingUp
unfolding sending_of
after-giving-up m h call ground n e = go (after m call) (does m h call) e
  where
    quiet : {A : Type 0} (told : Told) → Quiet told → told ≡ given_up ground n → A
    quiet told (barred x) q = never (cc)
    quiet told idle q = never (cc)
    quiet told unheard q = never (cc)

    over : {A : Type 0} (told : Told) (b : Bool) → Ends m told b → told ≡ given_up ground n → A
    over told b permitted q = never (cc)
    over told b strange q = never (cc)

    go : (turn : Behind) → Does m call turn → turn.1.0 ≡ given_up ground n → (n ≡ 3) × Freed turn.0 0 (line_after ground)
    go turn (stays told x) q = quiet told x q
    go turn (begins which rec f free s r) q = never (cc)
    go turn (repeats g f x r) q = never (cc)
    go turn (ends told o x f b) q = over told o x q
    go turn (gives_up why f c) q =
        let x : why ≡ ground = cc in
        let y : m.count ≡ n = cc in
        (omega arith, record { free = refl; numbered = refl; line = ap line_after x })

pub after-other-kind : AfterOtherKind
unfolding sending_of
after-other-kind m h call answer n e = go (after m call) (does m h call) e
  where
    quiet : {A : Type 0} (told : Told) → Quiet told → told ≡ other_kind answer n → A
    quiet told (barred x) q = never (cc)
    quiet told idle q = never (cc)
    quiet told unheard q = never (cc)

    go : (turn : Behind) → Does m call turn → turn.1.0 ≡ other_kind answer n → Freed turn.0 (changed_of m.number.0) true
    go turn (stays told x) q = quiet told x q
    go turn (begins which rec f free s r) q = never (cc)
    go turn (repeats g f x r) q = never (cc)
    go turn (ends told o x f b) q = record { free = refl; numbered = refl; line = refl }
    go turn (gives_up ground f c) q = never (cc)
