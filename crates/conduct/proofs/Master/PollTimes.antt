-- T0 and T2 behind any calls, told by the calls and their answers alone (rules K4, M3, M18). Assumes nothing.
use mathlib.Core.Path.{◌≡◌, refl, sym, ap, ◌∙◌}
use mathlib.Core.Bool.{Bool, true, false, cond}
use mathlib.Core.List.{List, [], ◌∷◌, ◌++◌}
use Prim.Native.Nat.{ℕ}
use Prim.Native.Char.{code}
use lib.Dec.{eqb}
use lib.ListN.{get_or}
use borrow.Author.Tests.{eqb-true}
use Rattle.laws.specs.Truth.{both, every, All}
use Rattle.laws.proofs.Truths.{both_left, both_right, clash}
use Rattle.forms.specs.Lines.{is_line, line_of}
use Rattle.records.specs.Records.{type_of, values_of}
use Rattle.records.specs.declared.records.Record.{Record}
use Rattle.master.specs.Rules.{poll_of}
use Rattle.master.specs.Times.{reduces, t0_of, operation_after}
use Rattle.master.specs.declared.state.Master.{Master}
use Rattle.master.specs.Answers.{Which, Told}
use Rattle.master.specs.State.{is_free, in_ranges, started}
use Rattle.master.specs.Sending.{Behind, t0_limit, sending_of}
use Rattle.master.specs.Timers.{Timed}
use Rattle.master.proofs.Timers.{offer-timed, tick-timed, hear-timed}
use Rattle.conduct.specs.Master.Calls.{Call, offers, ticks, hears, call_time, after, run, FirstSending, offered, polled}
use Rattle.conduct.specs.Master.PollTimes.{events_of, last_in, first_type, type_by, sent_type, position_in, positions, last_position, start_after, TimeRow, paper_times, LimitTold, OneLimit, RunsFromSending}
use Rattle.conduct.proofs.Master.Calls.{Quiet, barred, idle, unheard, Ends, permitted, strange, Does, stays, begins, repeats, ends, gives_up, does}
use Rattle.conduct.proofs.Master.Kept.{keeps, start-ranged}

-- the flag that a key position makes on a line
abbrev flag_of : ℕ → ℕ → Bool
flag_of line key = both (reduces line) (eqb key (code "X"))

-- the type that was sent last and the last key position told, of a state on a line
record Holds (line kind key : ℕ) (m : Master) : Type 0 where
  pub lined : m.line ≡ line
  pub sent : is_free m ≡ false → kind ≡ type_of m.rec
  pub flag : m.operation ≡ flag_of line key

-- the last of two lists, one behind the other
last-of-two : (none : ℕ) (xs ys : List ℕ) → last_in none (xs ++ ys) ≡ last_in (last_in none xs) ys
last-of-two none [] ys = refl
last-of-two none (x ∷ xs) ys = last-of-two x xs ys

-- a permitted answer makes the flag that the last key position told makes
told-flag : (line kind key : ℕ) (rec : Record) → operation_after line kind rec (flag_of line key) ≡ flag_of line (last_in key (cond (both (eqb kind (code "t")) (eqb (type_of rec) (code "A"))) (get_or (values_of rec) 0 0 ∷ []) []))
unfolding operation_after
told-flag line kind key rec = go (eqb kind (code "t")) (eqb (type_of rec) (code "A"))
  where
    by_value : (r x : Bool) → cond x r false ≡ both r x
    by_value true true = refl
    by_value true false = refl
    by_value false true = refl
    by_value false false = refl

    go : (a b : Bool) → cond a (cond b (cond (eqb (get_or (values_of rec) 0 0) (code "X")) (reduces line) false) (flag_of line key)) (flag_of line key)
        ≡ flag_of line (last_in key (cond (both a b) (get_or (values_of rec) 0 0 ∷ []) []))
    go true true = by_value (reduces line) (eqb (get_or (values_of rec) 0 0) (code "X"))
    go true false = refl
    go false b = refl

-- a first sending has the type that its call gives
first-sent : (line kind : ℕ) (m : Master) → m.line ≡ line → (call : Call) (which : Which) (rec : Record) → FirstSending m call which rec
    → type_by kind which (first_type line call) ≡ type_of rec
first-sent line kind m l call which rec offered = refl
first-sent line kind m l call which rec polled = ap (λ (n : ℕ). type_of (poll_of n)) (sym l)

module _ (line kind key : ℕ) (m : Master) (i : Holds line kind key m) (call : Call) where
  -- what holds behind a turn
  abbrev After : Behind → Type 0
  After turn = Holds line (sent_type line kind call turn.1.0) (last_in key (position_in kind turn.1.0)) turn.0

  quiet : (told : Told) (out : List ℕ) → Quiet told → After (m, (told, out))
  quiet told out (barred x) = i
  quiet told out idle = i
  quiet told out unheard = i

  ended : (told : Told) (o : Bool) → is_free m ≡ false → Ends m told o → (sent_type line kind call told ≡ kind) × (o ≡ flag_of line (last_in key (position_in kind told)))
  ended told o f (permitted {rec = rec}) =
      (refl, rw (i.lined, ← (i.sent f), i.flag) (told-flag line kind key rec))
  ended told o f strange = (refl, i.flag)

  step : (turn : Behind) → Does m call turn → After turn
  unfolding sending_of
  step turn (stays told q) = quiet told turn.1.1 q
  step turn (begins which rec f free s r) = record { lined = i.lined; sent = λ _. first-sent line kind m i.lined call which rec f; flag = i.flag }
  step turn (repeats g f x r) = record { lined = i.lined; sent = λ _. i.sent f; flag = i.flag }
  step turn (ends told o e f b) = record { lined = i.lined; sent = λ q. clash (sym q); flag = (ended told o f e).1 }
  step turn (gives_up ground f c) = record { lined = i.lined; sent = λ q. clash (sym q); flag = i.flag }

-- behind calls the line is the same, and the flag is by the last key position told
behind : (line kind key : ℕ) (m : Master) → in_ranges m ≡ true → Holds line kind key m → (calls : List Call)
    → ((run m calls).line ≡ line) × ((run m calls).operation ≡ flag_of line (last_in key (positions line kind (events_of m calls))))
behind line kind key m h i [] = (i.lined, i.flag)
behind line kind key m h i (call ∷ calls) =
    let told = (after m call).1.0 in
    let next = step line kind key m i call (after m call) (does m h call) in
    let r = behind line (sent_type line kind call told) (last_in key (position_in kind told)) (after m call).0 (keeps m h call) next calls in
    (r.0, r.1 ∙ ap (flag_of line) (sym (last-of-two key (position_in kind told) (positions line (sent_type line kind call told) (events_of (after m call).0 calls)))))

-- from the start no position was told, and a position that was never told is not X
from_start : (line at : ℕ) → is_line line ≡ true → (calls : List Call) → t0_limit (run (started line at) calls) ≡ t0_of line (flag_of line (last_position line at calls))
from_start line at h calls =
    let r = behind line 0 0 (started line at) (start-ranged line at h) (record { lined = refl; sent = λ q. clash (sym q); flag = never (reduces line) }) calls in
    rw (r.0, r.1)
  where
    never : (r : Bool) → false ≡ both r false
    never true = refl
    never false = refl

-- a row of the paper agrees with the table of lines, with X told last and without
abbrev agrees : TimeRow → Bool
agrees row =
    both (is_line row.line)
    (both (eqb (t0_of row.line (both (reduces row.line) true)) row.with_x) (eqb (t0_of row.line (both (reduces row.line) false)) row.t0))

-- behind any calls the limit is that of the row
abbrev ByRow : TimeRow → Type 0
ByRow row = (at : ℕ) (calls : List Call) → t0_limit (run (started row.line at) calls) ≡ cond (eqb (last_position row.line at calls) (code "X")) row.with_x row.t0

by_row : (row : TimeRow) → agrees row ≡ true → ByRow row
by_row row h at calls =
    from_start row.line at (both_left (is_line row.line) _ h) calls
    ∙ go (eqb (last_position row.line at calls) (code "X")) (both_right (is_line row.line) _ h)
  where
    limit : Bool → ℕ
    limit b = t0_of row.line (both (reduces row.line) b)

    go : (b : Bool) → both (eqb (limit true) row.with_x) (eqb (limit false) row.t0) ≡ true → limit b ≡ cond b row.with_x row.t0
    go true k = eqb-true _ _ (both_left (eqb (limit true) row.with_x) _ k)
    go false k = eqb-true _ _ (both_right (eqb (limit true) row.with_x) _ k)

by_rows : (rows : List TimeRow) → every agrees rows ≡ true → All ByRow rows
by_rows [] h = tt
by_rows (row ∷ rows) h = (by_row row (both_left (agrees row) _ h), by_rows rows (both_right (agrees row) _ h))

pub limit-told : LimitTold
unfolding reduces t0_of line_of
limit-told = by_rows paper_times refl

-- one limit, whatever the test says
either_way : (b : Bool) (n : ℕ) → cond b n n ≡ n
either_way true n = refl
either_way false n = refl

pub one-limit : OneLimit
one-limit at calls = (limit-told.0 at calls ∙ either_way (eqb (last_position 1 at calls) (code "X")) 20000, limit-told.1.0 at calls ∙ either_way (eqb (last_position 2 at calls) (code "X")) 5000)

-- each call starts both timers, or lets both run on
timed : (m : Master) (call : Call) → Timed m (call_time call) (after m call)
timed m (offers at rec out) = offer-timed m at rec out
timed m (ticks at out) = tick-timed m at out
timed m (hears at frame out) = hear-timed m at frame out

pub runs-from-sending : RunsFromSending
runs-from-sending m [] = (refl, refl)
runs-from-sending m (call ∷ calls) =
    let r = runs-from-sending (after m call).0 calls in
    let later : ℕ → ℕ = λ n. start_after n (events_of (after m call).0 calls) in
    (r.0 ∙ ap later (timed m call).t0, r.1 ∙ ap later (timed m call).t2)
