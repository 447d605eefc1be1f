-- A part of a log: the rows put, and those left, are the rows of all. Assumes nothing.
use Rattle.std.proofs.Common.{◌≡◌, ℕ, ◌+◌, ◌-◌, ◌<◌, ◌≤◌, Bool, true, false, cond, eqb, ltb, List, [], ◌∷◌, ◌++◌, length, take, drop, sym, refl, ap, ◌∙◌, append_assoc, append-nil, arith, length-drop, length-take, drop-drop, ltb-true}
use Rattle.laws.proofs.Passes.{on_test}
use Rattle.text.specs.Putting.{placed}
use Rattle.pieces.specs.Counts.{wrapped}
use Rattle.text.proofs.Puts.{put-length, put-take}
use Rattle.desk.specs.declared.state.Desk.{Desk}
use Rattle.conduct.specs.Desk.Calls.{run, Fine}
use Rattle.logs.specs.Records.{LogRecord}
use Rattle.logs.specs.Whole.{Log, Ending, over, refusal, size_of, log_of, waits_at}
use Rattle.logs.proofs.Pieces.{stands, first_of}
use Rattle.recordings.specs.declared.replay.part.Stop.TheVariants.{Full, Waits, Over}
use Rattle.recordings.specs.declared.replay.part.Replayed.{Replayed}
use Rattle.recordings.specs.Replay.Texts.{row_room, row_at, refused_text, text_on, text_of}
use Rattle.recordings.specs.Replay.Part.{stopped, end_in, part_in, part_of}
use Rattle.recordings.specs.Replay.Calls.{calls_of}
use Rattle.recordings.specs.Replay.Pieces.{InParts, DeskByHand}
use Rattle.recordings.proofs.Calls.{row-desk, row_fine}

-- one offset further on
further-on : (base place n : ℕ) → wrapped (wrapped (base + place) + n) ≡ wrapped (base + (place + n))
further-on base place n = omega arith

module _ (base : ℕ) (s : List ℕ) where
  -- what is said of a part from a place on, in an output that is filled so far
  pub record Fills (d : Desk) (ordinal place filled : ℕ) (out : List ℕ) (y : Replayed × List ℕ) : Type 0 where
    pub on : (y.0.stop ≡ Over → ⊥) → (b : List ℕ)
        → take y.0.filled y.1 ++ text_of y.0.desk y.0.ordinal (wrapped (base + y.0.next)) (log_of (drop y.0.next s ++ b))
        ≡ take filled out ++ text_of d ordinal (wrapped (base + place)) (log_of (drop place s ++ b))
    pub over : y.0.stop ≡ Over → (b : List ℕ) → take y.0.filled y.1 ≡ take filled out ++ text_of d ordinal (wrapped (base + place)) (log_of (drop place s ++ b))
    pub within : place ≤ length s → y.0.next ≤ length s
    pub waits : y.0.stop ≡ Waits → ((log_of (drop y.0.next s)).0 ≡ []) × (waits_at (log_of (drop y.0.next s)).1 ≡ true)
    pub desk : (b : List ℕ) → run y.0.desk (calls_of (log_of (drop y.0.next s ++ b)).0) ≡ run d (calls_of (log_of (drop place s ++ b)).0)
    pub fine : Fine d → Fine y.0.desk
    pub full : (y.0.stop ≡ Waits → ⊥) → (y.0.stop ≡ Over → ⊥) → row_room ≤ length out → 0 < length (take y.0.filled y.1)

  module _ (d : Desk) (ordinal place filled : ℕ) (out : List ℕ) where
    full-here : length out - filled < row_room → Fills d ordinal place filled out (stopped d ordinal place filled Full, out)
    full-here short =
        record {
          on = λ n b. refl;
          over = λ e. let z : ◌≡◌ {A = ℕ} 0 1 = cc in absurd (omega arith);
          within = λ h. h;
          waits = λ e. let z : ◌≡◌ {A = ℕ} 0 1 = cc in absurd (omega arith);
          desk = λ b. refl;
          fine = λ k. k;
          full = λ w o l. omega (arith, length-take filled out);
        }

    waits-here : (ending : Ending) → log_of (drop place s) ≡ ([], ending) → waits_at ending ≡ true → Fills d ordinal place filled out (stopped d ordinal place filled Waits, out)
    waits-here ending e w =
        record {
          on = λ n b. refl;
          over = λ q. let z : ◌≡◌ {A = ℕ} 0 1 = cc in absurd (omega arith);
          within = λ h. h;
          waits = λ q. (ap (λ (l : Log). l.0) e, ap (λ (l : Log). waits_at l.1) e ∙ w);
          desk = λ b. refl;
          fine = λ k. k;
          full = λ n. absurd (n refl);
        }

    refused-here : (number : ℕ) → log_of (drop place s) ≡ ([], refusal number) → filled ≤ length out → (b : Bool) → eqb number 20 ≡ b
        → Fills d ordinal place filled out
        (cond {A = Replayed × List ℕ} b (stopped d ordinal place filled Waits, out)
        (stopped d ordinal place (filled + length (refused_text number (wrapped (base + place)))) Over, (placed (refused_text number (wrapped (base + place))) filled out).1))
    unfolding text_on
    refused-here number e h true q = waits-here (refusal number) e q
    refused-here number e h false q =
        record {
          on = λ n b. absurd (n refl);
          over = λ x b.
              put-take (refused_text number (wrapped (base + place))) out filled h
              ∙ ap (λ (l : Log). take filled out ++ text_of d ordinal (wrapped (base + place)) l) (sym (stands (drop place s) b (ap (λ (l : Log). waits_at l.1) e ∙ q) ∙ e));
          within = λ k. k;
          waits = λ x. let z : ◌≡◌ {A = ℕ} 0 1 = cc in absurd (omega arith);
          desk = λ b. refl;
          fine = λ k. k;
          full = λ w n. absurd (n refl);
        }

    end-here : (ending : Ending) → log_of (drop place s) ≡ ([], ending) → filled ≤ length out → Fills d ordinal place filled out (end_in ending base d ordinal place filled out)
    end-here over e h = waits-here over e refl
    end-here (refusal number) e h = refused-here number e h (eqb number 20) refl

  on_room : (d : Desk) (ordinal place filled : ℕ) (out : List ℕ) (y : Replayed × List ℕ) → Fills d ordinal place filled out y
      → Fills d ordinal place filled out (cond (ltb (length out - filled) row_room) (stopped d ordinal place filled Full, out) y)
  on_room d ordinal place filled out y f =
      on_test (ltb (length out - filled) row_room) (λ q. rw q (full-here d ordinal place filled out (ltb-true (length out - filled) row_room q))) (λ q. rw q f)

  -- a record's row, and then the part behind it
  behind-row : (r : LogRecord) (rs : List LogRecord) (ending : Ending) (d : Desk) (ordinal place filled : ℕ) (out : List ℕ) (y : Replayed × List ℕ)
      → log_of (drop place s) ≡ (r ∷ rs, ending) → filled ≤ length out
      → Fills (row_at d ordinal (wrapped (base + place)) r).0 (wrapped (ordinal + 1)) (place + size_of r) (filled + length (row_at d ordinal (wrapped (base + place)) r).1)
      (placed (row_at d ordinal (wrapped (base + place)) r).1 filled out).1 y
      → Fills d ordinal place filled out y
  unfolding text_on
  behind-row r rs ending d ordinal place filled out y e h f =
      record {
        on = λ n b. f.on n b ∙ same b;
        over = λ q b. f.over q b ∙ same b;
        within = λ k. f.within (omega (arith, (first_of (drop place s) r rs ending e).within, length-drop place s, k));
        waits = f.waits;
        desk = λ b. f.desk b ∙ carried b;
        fine = λ k. f.fine (row_fine r.mark d ordinal (wrapped (base + place)) r.time r.bytes k);
        full = λ w n l. f.full w n (omega (arith, put-length t out filled h));
      }
    where
      t : List ℕ
      t = (row_at d ordinal (wrapped (base + place)) r).1

      carried : (b : List ℕ)
          → run (row_at d ordinal (wrapped (base + place)) r).0 (calls_of (log_of (drop (place + size_of r) s ++ b)).0) ≡ run d (calls_of (log_of (drop place s ++ b)).0)
      carried b =
          let w = (first_of (drop place s) r rs ending e).with b in
          rw (← (drop-drop (size_of r) place s), w) (row-desk r.mark d ordinal (wrapped (base + place)) r.time r.bytes (calls_of (log_of (drop (size_of r) (drop place s) ++ b)).0))

      same : (b : List ℕ)
          → take (filled + length t) (placed t filled out).1
          ++ text_of (row_at d ordinal (wrapped (base + place)) r).0 (wrapped (ordinal + 1)) (wrapped (base + (place + size_of r)))
          (log_of (drop (place + size_of r) s ++ b))
          ≡ take filled out ++ text_of d ordinal (wrapped (base + place)) (log_of (drop place s ++ b))
      same b =
          let w = (first_of (drop place s) r rs ending e).with b in
          rw (put-take t out filled h, ← (further-on base place (size_of r)), ← (drop-drop (size_of r) place s), w)
          (append_assoc (take filled out) t
          (text_of (row_at d ordinal (wrapped (base + place)) r).0 (wrapped (ordinal + 1)) (wrapped (wrapped (base + place) + size_of r))
          (log_of (drop (size_of r) (drop place s) ++ b))))

  fills : (rs : List LogRecord) (ending : Ending) (d : Desk) (ordinal place filled : ℕ) (out : List ℕ) → log_of (drop place s) ≡ (rs, ending) → filled ≤ length out
      → Fills d ordinal place filled out (part_in base rs ending d ordinal place filled out)
  unfolding part_in
  fills [] ending d ordinal place filled out e h =
      on_room d ordinal place filled out (end_in ending base d ordinal place filled out) (end-here d ordinal place filled out ending e h)
  fills (r ∷ rs) ending d ordinal place filled out e h =
      on_room d ordinal place filled out
      (part_in base rs ending (row_at d ordinal (wrapped (base + place)) r).0 (wrapped (ordinal + 1)) (place + size_of r) (filled + length (row_at d ordinal (wrapped (base + place)) r).1)
      (placed (row_at d ordinal (wrapped (base + place)) r).1 filled out).1)
      (behind-row r rs ending d ordinal place filled out _ e h
      (fills rs ending (row_at d ordinal (wrapped (base + place)) r).0 (wrapped (ordinal + 1)) (place + size_of r) (filled + length (row_at d ordinal (wrapped (base + place)) r).1)
      (placed (row_at d ordinal (wrapped (base + place)) r).1 filled out).1
      (ap log_of (sym (drop-drop (size_of r) place s)) ∙ (first_of (drop place s) r rs ending e).rest)
      (omega (arith, put-length (row_at d ordinal (wrapped (base + place)) r).1 out filled h))))

pub in_parts : InParts
unfolding part_of
in_parts d ordinal base s out =
    let f = fills base s (log_of s).0 (log_of s).1 d ordinal 0 0 out refl (omega arith) in
    let z : base + 0 ≡ base = omega arith in
    record { on = λ n b. rw z at (f.on n b); over = λ e b. rw z at (f.over e b); within = f.within (omega arith); waits = f.waits; desk = f.desk; fine = f.fine; full = f.full }

pub desk-by-hand : DeskByHand
desk-by-hand d ordinal base s out e =
    let p = in_parts d ordinal base s out in
    let z : (log_of (drop (part_of d ordinal base s out).0.next s)).0 ≡ [] = (p.waits e).0 in
    rw (append-nil (drop (part_of d ordinal base s out).0.next s), append-nil s, z) at (p.desk [])
