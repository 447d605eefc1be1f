-- Two ends, whatever they are made of, and the line between them; a run of them (rules J1 to J3). Assumes nothing.
use Rattle.std.specs.Prelude.{Bool, true, false, List, [], ◌∷◌, ℕ, length}
use Rattle.protocol.specs.History.{Tel, Hist, sents, sent, again, noted, handled, over, answered, gave_up}

-- what a call of the master did: nothing, a first sending of these bytes, the same sent again, a report with the sending count:
-- answered by these bytes, or given up
pub data Did (F : Type 0) : Type 0 where
  nothing : Did F
  first : F → Did F
  resent : F → Did F
  got : F → ℕ → Did F
  gave : ℕ → Did F

-- what a hearing of the desk did: nothing, an answer with no handling, or a handling of these bytes with this answer
pub data Said (F : Type 0) : Type 0 where
  silent : Said F
  says : F → Said F
  handles : F → F → Said F

abbrev pub MOut : Type 0 → Type 0 → Type 0
MOut M F = record { m : M; did : Did F }

-- with whether the desk noted a lost line in the call
abbrev pub DNote : Type 0 → Type 0
DNote D = record { d : D; noted : Bool }

abbrev pub DOut : Type 0 → Type 0 → Type 0
DOut D F = record { d : D; noted : Bool; said : Said F }

-- the two ends: their states, their calls, and which bytes checks 1 to 7 refuse; a time comes with each call of a link rule, and with
-- each call that may send also the room for it
pub record Ends : Type 1 where
  pub F : Type 0
  pub M : Type 0
  pub D : Type 0
  pub Offer : Type 0
  pub Act : Type 0
  pub Room : Type 0
  pub refused : F → Bool
  pub mstart : ℕ → M
  pub offer : M → ℕ → Offer → Room → MOut M F
  pub mtick : M → ℕ → Room → MOut M F
  pub mhear : M → ℕ → F → Room → MOut M F
  pub dstart : D
  pub dtick : D → ℕ → DNote D
  pub dhear : D → ℕ → F → Room → DOut D F
  pub act : D → Act → D

-- what is on the line: nothing, the newest sending, or the answer to it
pub data Line (F : Type 0) : Type 0 where
  empty : Line F
  there : F → Line F
  back : F → Line F

pub data Ev (E : Ends) : Type 0 where
  -- the master is offered a record; ticks; the panel calls the desk
  offer : ℕ → E.Offer → E.Room → Ev E
  mtick : ℕ → E.Room → Ev E
  dtick : ℕ → Ev E
  act : E.Act → Ev E
  -- what is on the line is lost, comes whole, or comes as other bytes
  lost : Ev E
  whole : ℕ → E.Room → Ev E
  spoilt : ℕ → E.F → E.Room → Ev E

-- the run's state: the ends and the line; and, for the statement only, the newest telegram first sent and the history
pub data Sys (E : Ends) : Type 0 where
  sys : E.M → E.D → Line E.F → Tel E.F → Hist E.F E.F → Sys E

module _ {F : Type 0} where
  -- the line, the newest telegram and the history after a call of the master: a new sending replaces what is on the line, and where
  -- the telegram ends nothing is left there
  abbrev pub line_after : Did F → Line F → Line F
  line_after nothing w = w
  line_after (first f) w = there f
  line_after (resent f) w = there f
  line_after (got f k) w = empty
  line_after (gave k) w = empty

  abbrev pub tel_after : Did F → Tel F → Hist F F → Tel F
  tel_after nothing x h = x
  tel_after (first f) x h = (length (sents h), f)
  tel_after (resent f) x h = x
  tel_after (got f k) x h = x
  tel_after (gave k) x h = x

  abbrev pub hist_after : Did F → Tel F → Hist F F → Hist F F
  hist_after nothing x h = h
  hist_after (first f) x h = sent (length (sents h), f) ∷ h
  hist_after (resent f) x h = again (x.0, f) ∷ h
  hist_after (got f k) x h = answered x f k ∷ h
  hist_after (gave k) x h = gave_up x k ∷ h

  -- the history after the desk's first rule
  abbrev pub noting : Bool → Hist F F → Hist F F
  noting true h = noted ∷ h
  noting false h = h

  -- the line and the history after the desk heard a sending of x; a call that it refuses hears nothing, and the sending is lost
  abbrev pub line_said : Said F → Line F
  line_said silent = empty
  line_said (says f) = back f
  line_said (handles g f) = back f

  abbrev pub hist_said : Said F → Tel F → Hist F F → Hist F F
  hist_said silent x h = over x ∷ h
  hist_said (says f) x h = over x ∷ h
  hist_said (handles g f) x h = over x ∷ (handled (x.0, g) f ∷ h)

module _ {E : Ends} where
  abbrev pub happened : Sys E → Hist E.F E.F
  happened (sys m d w x h) = h

  -- the master did o, or the desk heard and did o
  abbrev pub mdo : MOut E.M E.F → E.D → Line E.F → Tel E.F → Hist E.F E.F → Sys E
  mdo o d w x h = sys o.m d (line_after o.did w) (tel_after o.did x h) (hist_after o.did x h)

  abbrev pub ddo : DOut E.D E.F → E.M → Tel E.F → Hist E.F E.F → Sys E
  ddo o m x h = sys m o.d (line_said o.said) x (hist_said o.said x (noting o.noted h))

  -- what comes as other bytes comes only if they are refused
  abbrev pub if_refused : Bool → Sys E → Sys E → Sys E
  if_refused true s s' = s'
  if_refused false s s' = s

  -- "over one line, where each sending is lost or arrives once, whole or so spoiled that checks 1 to 7 refuse it, while the master
  -- still waits on it or, for an answer, on the sending it answers."
  -- What is on the line is the newest sending or its answer, and arriving takes it off. More runs than the demand's are allowed: T2 may
  -- have run out, a sending may be replaced by the next before it is lost or arrives, and the times are any numbers in any order; `Allowed`
  -- tells the demand's own.
  abbrev pub step : Ev E → Sys E → Sys E
  step (offer t o r) (sys m d w x h) = mdo (E.offer m t o r) d w x h
  step (mtick t r) (sys m d w x h) = mdo (E.mtick m t r) d w x h
  step (dtick t) (sys m d w x h) = sys m (E.dtick d t).d w x (noting (E.dtick d t).noted h)
  step (act a) (sys m d w x h) = sys m (E.act d a) w x h
  step lost (sys m d empty x h) = sys m d empty x h
  step lost (sys m d (there f) x h) = sys m d empty x (over x ∷ h)
  step lost (sys m d (back f) x h) = sys m d empty x h
  step (whole t r) (sys m d empty x h) = sys m d empty x h
  step (whole t r) (sys m d (there f) x h) = ddo (E.dhear d t f r) m x h
  step (whole t r) (sys m d (back f) x h) = mdo (E.mhear m t f r) d empty x h
  step (spoilt t g r) (sys m d empty x h) = sys m d empty x h
  step (spoilt t g r) (sys m d (there f) x h) = if_refused (E.refused g) (sys m d (there f) x h) (ddo (E.dhear d t g r) m x h)
  step (spoilt t g r) (sys m d (back f) x h) = if_refused (E.refused g) (sys m d (back f) x h) (mdo (E.mhear m t g r) d empty x h)

  abbrev pub run : Sys E → List (Ev E) → Sys E
  run s [] = s
  run s (e ∷ es) = run (step e s) es

-- "Run our two ends from their start": f stands for no telegram
abbrev pub start : (E : Ends) → ℕ → E.F → Sys E
start E t f = sys (E.mstart t) E.dstart empty (0, f) []

-- what happened in a run of these events from the start
abbrev pub ran : (E : Ends) → ℕ → E.F → List (Ev E) → Hist E.F E.F
ran E t f es = happened (run (start E t f) es)
