-- Each turn of a replay goes on or has put all that is left, so that at the end of any run the replay of all is written (rule Q14). Assumes nothing.
use Rattle.std.proofs.Common.{◌≡◌, ℕ, ◌+◌, ◌<◌, ◌≤◌, true, eqb, List, [], length, take, sym, refl, ap, ◌∙◌, zero-add, arith, length-take-le, eqb-true}
use borrow.Author.Tests.{eqb-false}
use Rattle.laws.proofs.Passes.{on_test}
use Rattle.characters.specs.Marks.{longest}
use Rattle.forms.specs.Lines.{is_line}
use Rattle.records.specs.Answers.{written}
use Rattle.text.specs.Putting.{placed}
use Rattle.text.proofs.Puts.{put-take}
use Rattle.pieces.specs.Counts.{wrapped}
use Rattle.pieces.specs.Tails.{tail_put}
use Rattle.pieces.specs.Turns.{Turned, beside}
use Rattle.pieces.specs.declared.wants.Wants.{Wants}
use Rattle.pieces.specs.declared.wants.Wants.TheVariants.{Read, Again, End}
use Rattle.pieces.proofs.Kept.{kept-front, kept-within}
use Rattle.pieces.proofs.Runs.{Does, goes, over, last, Steps, On, whole_run, good-turns, room}
use Rattle.conduct.specs.Desk.Calls.{Fine}
use Rattle.conduct.proofs.Desk.Kept.{start_fine}
use Rattle.logs.specs.Records.{head}
use Rattle.logs.specs.Whole.{Log, log_of, waits_at}
use Rattle.logs.proofs.Left.{what-is-left, empty-log}
use Rattle.recordings.specs.declared.replay.part.Stop.{Stop}
use Rattle.recordings.specs.declared.replay.part.Stop.TheVariants.{Goes, Full, Waits, Over}
use Rattle.recordings.specs.declared.replay.part.Replayed.{Replayed}
use Rattle.recordings.specs.declared.replay.state.Replayer.{Replayer}
use Rattle.recordings.specs.Replay.Texts.{row_room, refused_text, text_on, text_of}
use Rattle.recordings.specs.Replay.Pieces.{Parted}
use Rattle.recordings.specs.Replay.State.{begun_on, wants_for}
use Rattle.recordings.specs.Replay.Turn.{ended, last_of, behind, carried, carried_on, wanted_of, replaying}
use Rattle.recordings.specs.Replay.Whole.{replay_on}
use Rattle.recordings.specs.Replay.Runs.{begun, WholeReplay, EachTurn, RoomToRead}
use Rattle.recordings.proofs.Parts.{in_parts}

-- what is left to be written: the rows of the bytes at hand
abbrev left : Replayer → List ℕ → List ℕ
left m s = text_of m.desk m.ordinal (wrapped m.base) (log_of s)

-- the desk is fine and the offset a 64-bit number; where bytes are wanted, no record stands in the bytes held, and others may follow
pub record Fits (m : Replayer) (held : List ℕ) : Type 0 where
  pub fine : Fine m.desk
  pub base : wrapped m.base ≡ m.base
  pub idle : m.wants ≡ Read → ((log_of held).0 ≡ []) × (waits_at (log_of held).1 ≡ true)

twice : (n : ℕ) → wrapped (wrapped n) ≡ wrapped n
twice n = omega arith

-- bytes are wanted only by a part that waits, and nothing only by one that is over
waits-only : (q : Stop) → wants_for q ≡ Read → q ≡ Waits
waits-only Goes e = let z : ◌≡◌ {A = ℕ} 0 1 = cc in absurd (omega arith)
waits-only Full e = let z : ◌≡◌ {A = ℕ} 0 1 = cc in absurd (omega arith)
waits-only Waits e = refl
waits-only Over e = let z : ◌≡◌ {A = ℕ} 0 1 = cc in absurd (omega arith)

over-only : (q : Stop) → wants_for q ≡ End → q ≡ Over
over-only Goes e = let z : ◌≡◌ {A = ℕ} 0 1 = cc in absurd (omega arith)
over-only Full e = let z : ◌≡◌ {A = ℕ} 0 1 = cc in absurd (omega arith)
over-only Waits e = let z : ◌≡◌ {A = ℕ} 0 1 = cc in absurd (omega arith)
over-only Over e = refl

-- a turn that is not refused
module _ (m : Replayer) (buf : List ℕ) (got : ℕ) (out : List ℕ) (l : m.held + got ≤ length buf) (space : row_room ≤ length out) where
  abbrev size : ℕ
  size = m.held + got

  abbrev hand : List ℕ
  hand = take size buf

  abbrev Made : Turned Replayer → Type 0
  Made t = Does replaying left Fits m hand got t

  -- it replays the bytes at hand
  module _ (fine : Fine m.desk) (some : m.wants ≡ Read → got ≡ 0 → ⊥) where
    carried-made : (p : Replayed) (x : List ℕ) → Parted m.desk m.ordinal m.base hand out p x
        → Made (behind m size p, (written p.filled, ((tail_put p.next size buf).1, x)))
    carried-made p x f = go p.stop refl
      where
        n : p.next ≤ size
        n = omega (arith, f.within, length-take-le size buf l)

        goes_on : (p.stop ≡ Over → ⊥) → Made (behind m size p, (written p.filled, ((tail_put p.next size buf).1, x)))
        goes_on o =
            let k = kept-front p.next size buf n l in
            goes
            (record {
              held = kept-within p.next size buf n l;
              rest = λ b. rw (k, twice (m.base + p.next)) (f.on o b);
              fits = record { fine = f.fine fine; base = twice (m.base + p.next); idle = λ q. rw k (f.waits (waits-only p.stop q)) };
              some = some;
              going = λ q. o (over-only p.stop q);
              again = λ q. f.full (λ z. let y : ◌≡◌ {A = ℕ} 0 1 = cc in omega arith) o space;
            })

        go : (q : Stop) → p.stop ≡ q → Made (behind m size p, (written p.filled, ((tail_put p.next size buf).1, x)))
        go Goes e = goes_on (λ z. let y : ◌≡◌ {A = ℕ} 0 1 = cc in omega arith)
        go Full e = goes_on (λ z. let y : ◌≡◌ {A = ℕ} 0 1 = cc in omega arith)
        go Waits e = goes_on (λ z. let y : ◌≡◌ {A = ℕ} 0 1 = cc in omega arith)
        go Over e = over (ap wants_for e) (f.over e)

    carry : Made (carried_on m buf size out)
    unfolding carried_on carried
    carry = carried-made _ _ (in_parts m.desk m.ordinal m.base hand out)

  -- the input is at its end: the bytes held are none, or a record cut off
  module _ (f : Fits m (take m.held buf)) (q : m.wants ≡ Read) (e : got ≡ 0) where
    ends : (x : List ℕ) (n : ℕ) → take n x ≡ left m (take m.held buf) → Made (beside buf (ended m, (written n, x)))
    ends x n t = let h : m.held + got ≡ m.held = omega arith in last refl e (rw h t)

    last_made : Made (beside buf (last_of m out))
    unfolding last_of text_on
    last_made =
        let held = length-take-le m.held buf (omega arith) in
        let w = what-is-left (take m.held buf) (f.idle q).0 (f.idle q).1 in
        let row = refused_text 20 m.base in
        on_test (eqb m.held 0)
        (λ z. rw z (ends out 0 (sym (ap (text_of m.desk m.ordinal (wrapped m.base)) (w.none (held ∙ eqb-true m.held 0 z))))))
        (λ z.
        let t : take (length row) (placed row 0 out).1 ≡ row = rw (zero-add (length row)) at (put-take row out 0 (omega arith)) in
        rw z
        (ends (placed row 0 out).1 (length row)
        (t ∙ (ap (λ (i : ℕ). refused_text 20 i) (sym f.base) ∙ sym (ap (text_of m.desk m.ordinal (wrapped m.base)) (w.cut_off (omega (arith, eqb-false m.held 0 z))))))))

  by-wants : Fits m (take m.held buf) → (v : Wants) → m.wants ≡ v → (v ≡ End → ⊥) → Made (wanted_of v m buf got out)
  by-wants f End q going = absurd (going refl)
  by-wants f Again q going = carry f.fine (λ r e. let z : ◌≡◌ {A = ℕ} 0 1 = cc in omega arith)
  by-wants f Read q going = on_test (eqb got 0) (λ z. rw z (last_made f q (eqb-true got 0 z))) (λ z. rw z (carry f.fine (λ r. eqb-false got 0 z)))

steps : Steps replaying left Fits
steps m buf got out f going l space = (cc f.fine.ranged, by-wants m buf got out l space f m.wants refl going)

begins : (line : ℕ) → is_line line ≡ true → (buf : List ℕ) → On replaying left Fits steps (replay_on line) (begun line buf)
unfolding begun_on replay_on
begins line known buf =
    record {
      held = omega arith;
      on = λ b. refl;
      fits = record { fine = start_fine line known; base = refl; idle = λ q. (ap (λ (l : Log). l.0) empty-log, ap (λ (l : Log). waits_at l.1) empty-log) };
      going = λ q. let z : ◌≡◌ {A = ℕ} 0 1 = cc in omega arith;
    }

pub whole-replay : WholeReplay
whole-replay line known buf = whole_run replaying left Fits steps (replay_on line) (begun line buf) (begins line known buf)

pub each_turn : EachTurn
each_turn line known buf = good-turns replaying left Fits steps (replay_on line) (begun line buf) (begins line known buf)

pub room-to-read : RoomToRead
room-to-read line known buf = room replaying left Fits steps (replay_on line) (begun line buf) (begins line known buf) few
  where
    few : (m : Replayer) (held : List ℕ) → Fits m held → length held ≡ m.held → m.wants ≡ Read → m.held < head + longest
    few m held f e q = omega (arith, (what-is-left held (f.idle q).0 (f.idle q).1).few)
