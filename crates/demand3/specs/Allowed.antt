-- Which runs the demand's line allows; `step` lets more happen (rules J1, J3). Assumes nothing.
use Rattle.std.specs.Prelude.{Bool, true, false, not, List, [], ◌∷◌, ℕ, ◌^◌, ltb}
use Rattle.laws.specs.Truth.{both}
use Rattle.clock.specs.Clock.{elapsed_of, run_out}
use Rattle.master.specs.State.{is_free}
use Rattle.master.specs.Sending.{t2_limit}
use Rattle.master.specs.declared.state.Master.{Master}
use Rattle.protocol.specs.Ends.{Did, Line, Ev, Sys, nothing, first, resent, got, gave, empty, there, back, sys, step, offer, mtick, dtick, act, lost, whole, spoilt}
use Rattle.demand3.specs.Ours.{ours, is_refused}

-- the master waits on its newest sending: "until T2 has run out, the telegram ends or the next sending is made"
abbrev pub waits_at : Master → ℕ → Bool
waits_at m at = both (not (is_free m)) (not (run_out at m.t2 t2_limit))

module _ {F : Type 0} where
  abbrev is_empty : Line F → Bool
  is_empty empty = true
  is_empty (there f) = false
  is_empty (back f) = false

  -- the master sends or reports only when what was on the line was lost or arrived
  abbrev pub in_turn : Did F → Line F → Bool
  in_turn nothing w = true
  in_turn (first f) w = is_empty w
  in_turn (resent f) w = is_empty w
  in_turn (got f k) w = is_empty w
  in_turn (gave k) w = is_empty w

module _ (line : ℕ) where
  -- "each sending is lost or arrives once, whole or so spoiled that checks 1 to 7 refuse it, while the master still waits on it or, for an
  -- answer, on the sending it answers": may this event happen?
  abbrev pub allows : Ev (ours line) → Sys (ours line) → Bool
  allows (offer t o r) (sys m d w x h) = in_turn ((ours line).offer m t o r).did w
  allows (mtick t r) (sys m d w x h) = in_turn ((ours line).mtick m t r).did w
  allows (dtick t) (sys m d w x h) = true
  allows (act a) (sys m d w x h) = true
  allows lost (sys m d w x h) = true
  allows (whole t r) (sys m d w x h) = waits_at m t
  allows (spoilt t g r) (sys m d w x h) = both (is_refused g) (waits_at m t)

  -- the time of an event; one that has none stands at the time before it
  abbrev pub time_of : ℕ → Ev (ours line) → ℕ
  time_of before (offer t o r) = t
  time_of before (mtick t r) = t
  time_of before (dtick t) = t
  time_of before (act a) = before
  time_of before lost = before
  time_of before (whole t r) = t
  time_of before (spoilt t g r) = t

  -- each event may happen, and no time goes back: it is less than half a turn of the clock behind the time before it
  abbrev pub allowed : ℕ → Sys (ours line) → List (Ev (ours line)) → Bool
  allowed before s [] = true
  allowed before s (e ∷ es) = both (ltb (elapsed_of (time_of before e) before) (2 ^ 31)) (both (allows e s) (allowed (time_of before e) (step e s) es))
