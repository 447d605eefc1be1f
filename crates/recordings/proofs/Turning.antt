-- A turn of a replay, in the order of its tests. Assumes nothing.
use Rattle.std.proofs.Common.{◌≡◌, ℕ, ◌+◌, ◌-◌, ◌<◌, ◌≤◌, List, length, get_or, take, sym, ap, ◌∙◌, arith, le-ltb, lt-ltb, eq-eqb, ne_eqb}
use Rattle.records.specs.Answers.{good, Outcome, written, refused}
use Rattle.records.specs.Refusals.{no}
use Rattle.text.specs.Putting.{puts, placed}
use Rattle.pieces.specs.Counts.{wrapped}
use Rattle.pieces.specs.Tails.{tail_put}
use Rattle.pieces.specs.Line.{bad_line, line_named}
use Rattle.pieces.specs.Turns.{Turned, beside}
use Rattle.pieces.proofs.Runs as runs
use Rattle.pieces.specs.declared.wants.Wants.{Wants}
use Rattle.pieces.specs.declared.wants.Wants.TheVariants.{Read, End}
use Rattle.recordings.specs.declared.replay.part.Replayed.{Replayed}
use Rattle.recordings.specs.Replay.Texts.{row_room, refused_text}
use Rattle.recordings.specs.Replay.Part.{part_of}
use Rattle.recordings.proofs.Placed.{put_whole}
use Rattle.recordings.specs.declared.replay.state.Replayer.{Replayer}
use Rattle.recordings.specs.Replay.State.{begun_on, turn_fault, wants_for}
use Rattle.recordings.specs.Replay.Turn.{ended, opened_on, opened_of, last_of, carried, carried_on, wanted_of, replaying, turn_of}

module _ (m : Replayer) (out : List ℕ) where
  pub none-held : (l : Replayer) → m.held ≡ 0 → l ≡ ended m → (l, (written 0, out)) ≡ last_of m out
  unfolding last_of
  none-held l h e = rw (e, eq-eqb m.held 0 h)

  pub some-held : (l : Replayer) (n : ℕ) (x : List ℕ) → (m.held ≡ 0 → ⊥) → row_room ≤ length out → length (refused_text 20 m.base) ≤ row_room → l ≡ ended m
      → (n, x) ≡ puts (refused_text 20 m.base) 0 out → (l, (written n, x)) ≡ last_of m out
  unfolding last_of
  some-held l n x h room fits e p =
      let w = put_whole (refused_text 20 m.base) out n x (omega arith) p in
      rw (e, ne_eqb m.held 0 h, w.0, w.1)

-- a part of n bytes, and what is kept of them
pub kept : (m : Replayer) (buf : List ℕ) (n : ℕ) (out s : List ℕ) (p : Replayed) (x : List ℕ) (wants : Wants) (base held k : ℕ) (b : List ℕ)
    → s ≡ take n buf → (p, x) ≡ part_of m.desk m.ordinal m.base s out → (k, b) ≡ tail_put p.next n buf → wants ≡ wants_for p.stop
    → base ≡ wrapped (m.base + p.next) → held ≡ n - p.next
    → (record { desk = p.desk; ordinal = p.ordinal; base = base; held = held; wants = wants }, (written p.filled, (b, x))) ≡ carried_on m buf n out
unfolding carried_on carried
kept m buf n out s p x wants base held k b e h t w o l =
    let q : b ≡ (tail_put p.next n buf).1 = ap (λ (y : ℕ × List ℕ). y.1) t in
    rw (← e, ← h, w, o, l, q)

module _ (m : Replayer) (buf : List ℕ) (got : ℕ) (out : List ℕ) where
  pub wanted : (w : Wants) (t : Turned Replayer) → good ≡ turn_fault m (length buf) got (length out) → m.wants ≡ w → t ≡ wanted_of w m buf got out → t ≡ turn_of m buf got out
  wanted w t f g e = runs.wanted replaying m buf got out t f (e ∙ ap (λ (v : Wants). wanted_of v m buf got out) (sym g))

  -- where bytes were read, and where none were
  pub some_read : (t : Turned Replayer) → (got ≡ 0 → ⊥) → t ≡ carried_on m buf (m.held + got) out → t ≡ wanted_of Read m buf got out
  some_read t h e = rw (ne_eqb got 0 h) e

  pub none_read : (t : Replayer × (Outcome × List ℕ)) → got ≡ 0 → t ≡ last_of m out → beside buf t ≡ wanted_of Read m buf got out
  none_read t h e = rw (eq-eqb got 0 h) (ap (beside buf) e)

  -- a turn at its end
  pub none-wanted : (l : Replayer) → l ≡ ended m → (l, (written 0, (buf, out))) ≡ wanted_of End m buf got out
  none-wanted l e = rw e

-- the input's first byte: there is no room for a row; or it names no line; or it names one
module _ (first out : List ℕ) where
  pub unroomed-open : (m : Replayer) → length out < row_room → m ≡ begun_on 0 → (m, (refused (no 14 0), out)) ≡ opened_of first out
  unfolding opened_on
  unroomed-open m h q = rw (lt-ltb (length out) row_room h, q)

  module _ (byte line : ℕ) (b : byte ≡ get_or first 0 0) (e : line ≡ line_named byte) (room : row_room ≤ length out) where
    same_line : opened_on line out ≡ opened_of first out
    same_line = ap (λ (i : ℕ). opened_on i out) (e ∙ ap line_named b)

    pub unnamed-open : (m l : Replayer) (text : List ℕ) (n : ℕ) (x : List ℕ) → line ≡ 0 → text ≡ bad_line → (n, x) ≡ puts text 0 out → m ≡ begun_on line → l ≡ ended m
        → (l, (written n, x)) ≡ opened_of first out
    unfolding opened_on
    unnamed-open m l text n x z t p q f = go ∙ same_line
      where
        put : (n ≡ length bad_line) × (x ≡ (placed bad_line 0 out).1)
        put = put_whole bad_line out n x (omega (arith, room)) (p ∙ ap (λ (u : List ℕ). puts u 0 out) t)

        go : (l, (written n, x)) ≡ opened_on line out
        go = rw (le-ltb (length out) row_room room, eq-eqb line 0 z, f, q, put.0, put.1)

    pub named-open : (m : Replayer) → (line ≡ 0 → ⊥) → m ≡ begun_on line → (m, (written 0, out)) ≡ opened_of first out
    unfolding opened_on
    named-open m z q = go ∙ same_line
      where
        go : (m, (written 0, out)) ≡ opened_on line out
        go = rw (le-ltb (length out) row_room room, ne_eqb line 0 z, q)
