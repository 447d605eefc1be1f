-- A work whose turns each put a part of what is left, and leave the rest, has at its end written f of all that was read (rules P5, Q14). Assumes nothing.
use mathlib.Core.Path.{◌≡◌, refl, sym, ap, ◌∙◌}
use mathlib.Core.Bool.{true}
use mathlib.Core.List.{List, [], ◌∷◌, ◌++◌, append-nil, append_assoc}
use Prim.Native.Nat.{ℕ, ◌+◌, ◌≤◌, ◌<◌}
use native.Mathlib.Omega.{arith}
use lib.ListN.{length, take, length-append}
use lib.Seq.{take_at, length-take-le}
use Rattle.records.specs.Refusals.{No}
use Rattle.records.specs.Answers.{good, fails, refused}
use Rattle.pieces.specs.declared.wants.Wants.TheVariants.{Read, Again, End}
use Rattle.pieces.specs.Turns.{Turned, Work, fault_by, turn_by}
use Rattle.pieces.proofs.Checks.{passes}
use Rattle.pieces.specs.Runs.{Stand, Given, put_by, held_in, buffer_of, step_of, next_stand, MayTurn, stand_after, MayRun, Whole, GoodTurn, Turns, Room}

-- a turn that is refused, and one that is not
module _ {S : Type 0} (w : Work S) (m : S) (buf : List ℕ) (got : ℕ) (out : List ℕ) where
  pub refused-turn : (x : No) → fails x ≡ fault_by w m (length buf) got (length out) → (m, (refused x, (buf, out))) ≡ turn_by w m buf got out
  unfolding turn_by
  refused-turn x h = rw (← h)

  pub wanted : (t : Turned S) → good ≡ fault_by w m (length buf) got (length out) → t ≡ w.does m buf got out → t ≡ turn_by w m buf got out
  unfolding turn_by
  wanted t f e = rw (← f) e

-- a run that is over goes no further
pub no_more : {S : Type 0} (w : Work S) (s : Stand S) (gs : List Given) → w.wants s.state ≡ End → MayRun w s gs → stand_after w s gs ≡ s
no_more w s [] e may = refl
no_more w s (g ∷ gs) e may = absurd (may.0.going e)

-- the bytes held, and those read behind them
module _ (n : ℕ) (buf piece rest : List ℕ) (h : n ≤ length buf) where
  still-held : take n (take n buf ++ (piece ++ rest)) ≡ take n buf
  still-held = take_at (take n buf) (piece ++ rest) n (length-take-le n buf h)

  at-hand : take (n + length piece) (take n buf ++ (piece ++ rest)) ≡ take n buf ++ piece
  at-hand =
      rw (← (append_assoc (take n buf) piece rest))
      (take_at (take n buf ++ piece) rest (n + length piece) (omega (arith, length-append (take n buf) piece, length-take-le n buf h)))

  in_buffer : n + length piece ≤ length (take n buf ++ (piece ++ rest))
  in_buffer = rw (length-append (take n buf) (piece ++ rest), length-append piece rest, length-take-le n buf h) (omega arith)

-- a work, with what is left to be written by a state and the bytes at hand, and with what holds of a state that goes on and of the bytes that it holds: where
-- `Steps` is shown of it, and `On` of where its runs begin, `whole_run`, `good-turns` and `room` follow
module _ {S : Type 0} (w : Work S) (left : S → List ℕ → List ℕ) (Fits : S → List ℕ → Type 0) where
  -- a turn goes on: what it puts and what is then left is what was left, whatever comes behind
  pub record Goes (m : S) (hand : List ℕ) (got : ℕ) (t : Turned S) : Type 0 where
    pub held : w.held t.0 ≤ length t.1.1.0
    pub rest : (b : List ℕ) → put_by t ++ left t.0 (take (w.held t.0) t.1.1.0 ++ b) ≡ left m (hand ++ b)
    pub fits : Fits t.0 (take (w.held t.0) t.1.1.0)
    pub some : w.wants m ≡ Read → got ≡ 0 → ⊥
    pub going : w.wants t.0 ≡ End → ⊥
    pub again : w.wants t.0 ≡ Again → 0 < length (put_by t)

  -- or it puts all that is left, whatever comes behind; or a read of nothing lets it put all
  pub data Does (m : S) (hand : List ℕ) (got : ℕ) (t : Turned S) : Type 0 where
    goes : Goes m hand got t → Does m hand got t
    over : w.wants t.0 ≡ End → ((b : List ℕ) → put_by t ≡ left m (hand ++ b)) → Does m hand got t
    last : w.wants t.0 ≡ End → got ≡ 0 → put_by t ≡ left m hand → Does m hand got t

  -- a state that goes on is in its ranges, and each turn that may be made does one of these
  abbrev pub Steps : Type 0
  Steps =
      (m : S) (buf : List ℕ) (got : ℕ) (out : List ℕ) → Fits m (take (w.held m) buf) → (w.wants m ≡ End → ⊥) → w.held m + got ≤ length buf → w.output ≤ length out
      → (w.fits m ≡ true) × Does m (take (w.held m + got) buf) got (w.does m buf got out)

  module _ (steps : Steps) (f : List ℕ → List ℕ) where
    -- where a run stands that goes on: what is written, and what is left of the bytes held and any bytes behind them, is f of all that was read and these
    pub record On (s : Stand S) : Type 0 where
      pub held : w.held s.state ≤ length s.buf
      pub on : (b : List ℕ) → s.written ++ left s.state (held_in w s ++ b) ≡ f (s.read ++ b)
      pub fits : Fits s.state (held_in w s)
      pub going : w.wants s.state ≡ End → ⊥

    -- a run goes on, or is over
    data Holds (s : Stand S) : Type 0 where
      still : On s → Holds s
      ended : w.wants s.state ≡ End → s.written ≡ f s.read → Holds s

    -- a turn
    module _ (s : Stand S) (g : Given) (o : On s) where
      onwards : (b : List ℕ) → s.written ++ left s.state ((held_in w s ++ g.piece) ++ b) ≡ f ((s.read ++ g.piece) ++ b)
      onwards b = rw (append_assoc (held_in w s) g.piece b, append_assoc s.read g.piece b) (o.on (g.piece ++ b))

      all-now : s.written ++ left s.state (held_in w s ++ g.piece) ≡ f (s.read ++ g.piece)
      all-now = rw (append-nil (held_in w s ++ g.piece), append-nil (s.read ++ g.piece)) at (onwards [])

      abbrev Taken : Type 0
      Taken = good ≡ fault_by w s.state (length (buffer_of w s g)) (length g.piece) (length g.out)

      ends : (t : Turned S) → step_of w s g ≡ t → Taken → w.wants t.0 ≡ End
          → (0 < length g.piece → (more : List ℕ) → s.written ++ put_by t ≡ f ((s.read ++ g.piece) ++ more)) → GoodTurn w f s g
      ends t e h q p =
          record {
            taken = h;
            again = rw e (λ r. let z : ◌≡◌ {A = ℕ} 0 1 = cc in absurd (omega arith));
            over = λ r z. rw e q;
            settled = rw e (λ r. p);
          }

      made : (t : Turned S) → step_of w s g ≡ t → Taken → Does s.state (held_in w s ++ g.piece) (length g.piece) t → GoodTurn w f s g × Holds (next_stand w s g)
      made t e h (goes d) = (
        record {
          taken = h;
          again = rw e (λ q. omega (arith, d.again q, length-append s.written (put_by t)));
          over = λ q p. absurd (d.some q (ap length p));
          settled = rw e (λ q. absurd (d.going q));
        },
        rw e
            (still
            (record {
              held = d.held;
              on = λ b. append_assoc s.written (put_by t) _ ∙ (ap (λ (y : List ℕ). s.written ++ y) (d.rest b) ∙ onwards b);
              fits = d.fits;
              going = d.going;
            })),
      )
      made t e h (over q p) =
          let all : (b : List ℕ) → s.written ++ put_by t ≡ f ((s.read ++ g.piece) ++ b) = λ b. ap (λ (y : List ℕ). s.written ++ y) (p b) ∙ onwards b in
          (ends t e h q (λ l. all), rw e (ended q (rw (append-nil (s.read ++ g.piece)) at (all []))))
      made t e h (last q z p) =
          (ends t e h q (λ l. absurd (omega arith)), rw e (ended q (ap (λ (y : List ℕ). s.written ++ y) p ∙ all-now)))

    turned : (s : Stand S) (g : Given) → On s → MayTurn w s g → GoodTurn w f s g × Holds (next_stand w s g)
    turned s g o may =
        let m = s.state in
        let n = w.held s.state in
        let l = in_buffer n s.buf g.piece g.rest o.held in
        let t = steps m (buffer_of w s g) (length g.piece) g.out (rw (still-held n s.buf g.piece g.rest o.held) o.fits) may.going l may.output in
        let h = passes (w.fits m) n w.buffer w.output _ _ _ (record { state = t.0; bytes = l; space = may.output; whole = may.buffer }) in
        made s g o _ (sym (wanted w m (buffer_of w s g) (length g.piece) g.out _ h refl)) h (rw (at-hand n s.buf g.piece g.rest o.held) at t.1)

    holds_after : (gs : List Given) (s : Stand S) → Holds s → MayRun w s gs → Holds (stand_after w s gs)
    holds_after [] s h may = h
    holds_after (g ∷ gs) s (still o) may = holds_after gs (next_stand w s g) (turned s g o may.0).1 may.1
    holds_after (g ∷ gs) s (ended e q) may = absurd (may.0.going e)

    module _ (s : Stand S) (o : On s) where
      pub whole_run : Whole w f s
      whole_run gs may = go _ (holds_after gs s (still o) may)
        where
          go : (y : Stand S) → Holds y → w.wants y.state ≡ End → y.written ≡ f y.read
          go y (still n) q = absurd (n.going q)
          go y (ended e p) q = p

      pub good-turns : Turns w f s
      good-turns gs may g = go _ (holds_after gs s (still o) may)
        where
          go : (y : Stand S) → Holds y → MayTurn w y g → GoodTurn w f y g
          go y (still n) turn = (turned y g n turn).0
          go y (ended e p) turn = absurd (turn.going e)

      -- where it is so of each state that goes on and waits for bytes
      pub room : ((m : S) (held : List ℕ) → Fits m held → length held ≡ w.held m → w.wants m ≡ Read → w.held m < w.buffer) → Room w s
      room few gs may = go _ (holds_after gs s (still o) may)
        where
          go : (y : Stand S) → Holds y → w.wants y.state ≡ Read → w.held y.state < w.buffer
          go y (still n) q = few y.state (held_in w y) n.fits (length-take-le _ y.buf n.held) q
          go y (ended e p) q = let r : Read ≡ End = sym q ∙ e in let z : ◌≡◌ {A = ℕ} 0 1 = cc in absurd (omega arith)
