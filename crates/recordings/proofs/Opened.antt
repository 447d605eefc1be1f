-- A replay of a whole input: its first byte, and the run behind it. Assumes nothing.
use Rattle.std.proofs.Common.{◌≡◌, ℕ, ◌≤◌, true, false, eqb, List, [], ◌∷◌, ◌++◌, length, take, sym, refl, ap, ◌∙◌, zero-add, arith, le-ltb, eqb-true}
use Rattle.laws.proofs.Passes.{on_test}
use Rattle.text.specs.Putting.{placed}
use Rattle.text.proofs.Puts.{put-take}
use Rattle.pieces.specs.Line.{bad_line, line_named}
use Rattle.pieces.specs.Runs.{Stand, Given, stand_after, MayTurn, MayRun, GoodTurn}
use Rattle.pieces.proofs.Named.{line-named}
use Rattle.pieces.proofs.Runs.{no_more}
use Rattle.pieces.specs.declared.wants.Wants.TheVariants.{End}
use Rattle.recordings.specs.Replay.Texts.{row_room}
use Rattle.recordings.specs.declared.replay.state.Replayer.{Replayer}
use Rattle.recordings.specs.Replay.Turn.{opened_on, replaying}
use Rattle.recordings.specs.Replay.Whole.{replay_on, replay_of}
use Rattle.recordings.specs.Replay.Calls.{input_by_hand}
use Rattle.recordings.specs.Replay.Runs.{begun, opened_at, WholeInput, InputByHand, EachTurnOnInput}
use Rattle.recordings.proofs.Calls.{by_hand}
use Rattle.recordings.proofs.EachTurn.{whole-replay, each_turn}

-- a text placed in front stands there
placed-front : (t out : List ℕ) → length t ≤ length out → take (length t) (placed t 0 out).1 ≡ t
placed-front t out h = rw (zero-add (length t)) at (put-take t out 0 (omega arith))

module _ (first out buf : List ℕ) (gs : List Given) (digit : ℕ) (room : row_room ≤ length out) where
  abbrev stand : Stand Replayer
  stand = opened_at (opened_on (line_named digit) out) buf

  unnamed : eqb (line_named digit) 0 ≡ true → ((read : List ℕ) → read ≡ [] → replay_of (first ++ read) ≡ bad_line) → MayRun replaying stand gs
      → (stand_after replaying stand gs).written ≡ replay_of (first ++ (stand_after replaying stand gs).read)
  unfolding opened_on
  unnamed z bad may =
      let e : stand.state.wants ≡ End = rw (le-ltb (length out) row_room room, z) in
      let n = no_more replaying stand gs e may in
      let w : stand.written ≡ bad_line = rw (le-ltb (length out) row_room room, z) (placed-front bad_line out (omega (arith, room))) in
      ap (λ (y : Stand Replayer). y.written) n ∙ (w ∙ sym (bad (stand_after replaying stand gs).read (ap (λ (y : Stand Replayer). y.read) n)))

  named : eqb (line_named digit) 0 ≡ false → ((read : List ℕ) → replay_of (first ++ read) ≡ replay_on (line_named digit) read) → MayRun replaying stand gs → (stand_after replaying stand gs).state.wants ≡ End
      → (stand_after replaying stand gs).written ≡ replay_of (first ++ (stand_after replaying stand gs).read)
  unfolding opened_on
  named z good =
      rw (le-ltb (length out) row_room room, z) (λ may e. whole-replay (line_named digit) (line-named digit z) buf gs may e ∙ sym (good (stand_after replaying (begun (line_named digit) buf) gs).read))

  -- each turn, where a line is named; where none is, there is no turn
  module _ (g : Given) where
    unnamed-turn : eqb (line_named digit) 0 ≡ true → (f : List ℕ → List ℕ) → MayRun replaying stand gs → MayTurn replaying (stand_after replaying stand gs) g
        → GoodTurn replaying f (stand_after replaying stand gs) g
    unfolding opened_on
    unnamed-turn z f may turn =
        let e : stand.state.wants ≡ End = rw (le-ltb (length out) row_room room, z) in
        absurd (turn.going (ap (λ (y : Stand Replayer). y.state.wants) (no_more replaying stand gs e may) ∙ e))

    named-turn : eqb (line_named digit) 0 ≡ false → ((read : List ℕ) → replay_of (first ++ read) ≡ replay_on (line_named digit) read) → MayRun replaying stand gs
        → MayTurn replaying (stand_after replaying stand gs) g → GoodTurn replaying (λ (read : List ℕ). replay_of (first ++ read)) (stand_after replaying stand gs) g
    unfolding opened_on
    named-turn z good =
        rw (le-ltb (length out) row_room room, z)
        (λ may turn.
        let t = each_turn (line_named digit) (line-named digit z) buf gs may g turn in
        record { taken = t.taken; again = t.again; over = t.over; settled = λ e l more. t.settled e l more ∙ sym (good _) })

bad-digit : (digit : ℕ) (read : List ℕ) → eqb (line_named digit) 0 ≡ true → replay_of (digit ∷ read) ≡ bad_line
unfolding replay_of
bad-digit digit read z = rw (eqb-true (line_named digit) 0 z)

good-digit : (digit : ℕ) (read : List ℕ) → eqb (line_named digit) 0 ≡ false → replay_of (digit ∷ read) ≡ replay_on (line_named digit) read
unfolding replay_of
good-digit digit read z = rw (line-named digit z)

no_digit : (read : List ℕ) → read ≡ [] → replay_of ([] ++ read) ≡ bad_line
unfolding replay_of
no_digit read e = rw e

nothing-named : eqb (line_named 0) 0 ≡ true
unfolding line_named
nothing-named = refl

pub whole-input : WholeInput
whole-input [] out buf l room gs may e = unnamed [] out buf gs 0 room nothing-named no_digit may
whole-input (digit ∷ []) out buf l room gs may e =
    on_test (eqb (line_named digit) 0)
    (λ z. unnamed (digit ∷ []) out buf gs digit room z (λ read _. bad-digit digit read z) may)
    (λ z. named (digit ∷ []) out buf gs digit room z (λ read. good-digit digit read z) may e)
whole-input (digit ∷ other ∷ more) out buf l room gs may e = absurd (omega (arith, l))

pub each-turn-on-input : EachTurnOnInput
each-turn-on-input [] out buf l room gs may g turn = unnamed-turn [] out buf gs 0 room g nothing-named _ may turn
each-turn-on-input (digit ∷ []) out buf l room gs may g turn =
    on_test (eqb (line_named digit) 0)
    (λ z. unnamed-turn (digit ∷ []) out buf gs digit room g z _ may turn)
    (λ z. named-turn (digit ∷ []) out buf gs digit room g z (λ read. good-digit digit read z) may turn)
each-turn-on-input (digit ∷ other ∷ more) out buf l room gs may g turn = absurd (omega (arith, l))

-- the replay of an input is the desk run by hand over its log
same-by-hand : (input : List ℕ) → replay_of input ≡ input_by_hand input
unfolding replay_of input_by_hand
same-by-hand [] = refl
same-by-hand (digit ∷ log) = rw (by_hand (line_named digit) log)

pub input-by-hand : InputByHand
input-by-hand first out buf l room gs may e = whole-input first out buf l room gs may e ∙ same-by-hand _
