-- One record of a slice: its row is put, or bytes that may follow are waited for, or the replay is over. Assumes nothing.
use Rattle.std.proofs.Common.{◌≡◌, ℕ, ◌+◌, ◌-◌, ◌<◌, ◌≤◌, Bool, true, false, cond, eqb, ltb, List, [], ◌∷◌, ◌++◌, length, take, drop, sym, refl, ap, ◌∙◌, arith, length-drop, take-append-drop, drop-drop, le-ltb, lt-ltb}
use borrow.Rule.Slice.PartMut.{mid_of, put_mid}
use Rattle.laws.proofs.Truths.{clash}
use Rattle.text.specs.Putting.{placed}
use Rattle.records.specs.Refusals.{No}
use Rattle.pieces.specs.Counts.{wrapped}
use Rattle.desk.specs.declared.state.Desk.{Desk}
use Rattle.logs.specs.declared.marks.Mark.{Mark}
use Rattle.logs.specs.Records.{LogRecord, log_record}
use Rattle.logs.specs.Reader.{Found, found, end, refused, record_in, record_at}
use Rattle.logs.specs.Inside.{further}
use Rattle.logs.specs.Whole.{over, refusal, Log, log_of}
use Rattle.logs.proofs.Further.{record-further}
use Rattle.logs.proofs.Steps.{ends}
use Rattle.logs.proofs.Pieces.{on-found, on-end, on-refused, size_is}
use Rattle.recordings.specs.Replay.Rows.{Row, printed, row_of}
use Rattle.recordings.specs.declared.replay.part.Stop.{Stop}
use Rattle.recordings.specs.declared.replay.part.Stop.TheVariants.{Goes, Full, Waits, Over}
use Rattle.recordings.specs.declared.replay.part.Put.{Put}
use Rattle.recordings.specs.declared.replay.part.Replayed.{Replayed}
use Rattle.recordings.specs.Replay.Texts.{row_room, row_at, refused_text}
use Rattle.recordings.specs.Replay.Part.{goes_on, put, text_put, row_put, refused_put, found_put, next_put, stopped, part_in, log_from}
use Rattle.recordings.proofs.Placed.{put_whole, at_part}

-- the rest of the replay from a log on
abbrev pub on_from : ℕ → Log → Desk → ℕ → ℕ → ℕ → List ℕ → Replayed × List ℕ
on_from base log d ordinal place filled out = part_in base log.0 log.1 d ordinal place filled out

-- no room
pub no_room : (base : ℕ) (log : Log) (d : Desk) (ordinal place filled : ℕ) (out : List ℕ) → length out - filled < row_room
    → (stopped d ordinal place filled Full, out) ≡ on_from base log d ordinal place filled out
unfolding part_in
no_room base ([], ending) d ordinal place filled out h = rw (lt-ltb (length out - filled) row_room h)
no_room base (r ∷ rs, ending) d ordinal place filled out h = rw (lt-ltb (length out - filled) row_room h)

module _ (base : ℕ) (s : List ℕ) (d : Desk) (ordinal place filled : ℕ) (out : List ℕ) (k : ℕ) (is : k ≡ row_room) (room : filled + row_room ≤ length out) where
  abbrev mid : List ℕ
  mid = mid_of filled k out

  abbrev offset : ℕ
  offset = wrapped (base + place)

  abbrev all : Replayed × List ℕ
  all = on_from base (log_from s place) d ordinal place filled out

  open-room : ltb (length out - filled) row_room ≡ false
  open-room = le-ltb (length out - filled) row_room (omega (arith, room))

  -- a text put into the part
  text_in : (t : List ℕ) → length t ≤ row_room → put_mid filled k out (placed t 0 mid).1 ≡ (placed t filled out).1
  text_in t l = at_part t out filled k (omega (arith, is, l)) (omega (arith, is, room))

  -- nothing put
  same_out : put_mid filled k out mid ≡ out
  same_out = ap (λ (u : List ℕ). take filled out ++ u) (take-append-drop k (drop filled out)) ∙ take-append-drop filled out

  -- what a step says of how the replay goes on
  abbrev pub Told : Stop → Put → List ℕ → Type 0
  Told Goes p x =
      (place < p.end) × (p.end ≤ length s)
      × (on_from base (log_from s p.end) p.desk (wrapped (ordinal + 1)) p.end (filled + p.length) (put_mid filled k out x) ≡ all)
  Told Full p x = ⊥
  Told Waits p x = (stopped d ordinal place (filled + p.length) Waits, put_mid filled k out x) ≡ all
  Told Over p x = (stopped d ordinal place (filled + p.length) Over, put_mid filled k out x) ≡ all

  -- where the row has room
  abbrev TellsOf : Put × List ℕ → Type 0
  TellsOf y = y.0.length ≤ row_room → Told y.0.stop y.0 y.1

  waits-told : (log : Log) → log_from s place ≡ log → (stopped d ordinal place filled Waits, out) ≡ on_from base log d ordinal place filled out → TellsOf (put d place 0 Waits, mid)
  waits-told log e h = λ l. let z : filled + 0 ≡ filled = omega arith in rw (z, same_out, e) h

  module _ (mark : Mark) (time start behind : ℕ) (e : record_in 0 (drop place s) ≡ found mark time start behind) where
    abbrev rec : LogRecord
    rec = log_record mark time (take (behind - start) (drop start (drop place s)))

    abbrev row : Row
    row = row_at d ordinal offset rec

    same_bytes : take (place + behind - (place + start)) (drop (place + start) s) ≡ rec.bytes
    same_bytes =
        let n : place + behind - (place + start) ≡ behind - start = omega arith in
        rw (n, ← (drop-drop start place s))

    goes-on : all ≡ on_from base (log_of (drop behind (drop place s))) row.0 (wrapped (ordinal + 1)) (place + behind) (filled + length row.1) (placed row.1 filled out).1
    unfolding part_in
    goes-on =
        ap (λ (log : Log). on_from base log d ordinal place filled out) (on-found (drop place s) mark time start behind e)
        ∙ rw (open-room, size_is (drop place s) mark time start behind e)

    found-told : TellsOf (row_put (row_of mark d ordinal offset time (take (place + behind - (place + start)) (drop (place + start) s))) (place + behind) mid)
    unfolding row_put
    found-told =
        let w = ends (drop place s) mark time start behind e in
        rw same_bytes
        (λ l. (omega (arith, w.1), omega (arith, w.1, w.2, length-drop place s), rw (text_in row.1 l, ← (drop-drop behind place s)) (sym goes-on)))

  refused-told : (x : No) → record_in 0 (drop place s) ≡ refused x → (b : Bool) → eqb x.number 20 ≡ b
      → TellsOf (cond {A = Put × List ℕ} b (put d place 0 Waits, mid) (text_put d place Over (refused_text x.number offset) mid))
  unfolding part_in
  refused-told x e true q =
      waits-told ([], refusal x.number) (on-refused (drop place s) x e) (rw (open-room, q))
  refused-told x e false q = λ l. rw (text_in (refused_text x.number offset) l, on-refused (drop place s) x e, open-room, q)

  told_at : (f : Found) → record_in 0 (drop place s) ≡ f → TellsOf (found_put (further place f) d ordinal offset s place mid)
  unfolding part_in refused_put
  told_at (found mark time start behind) e = found-told mark time start behind e
  told_at end e = waits-told ([], over) (on-end (drop place s) e) (rw open-room)
  told_at (refused x) e = refused-told x e (eqb x.number 20) refl

  told : (y : Put × List ℕ) → y ≡ next_put d ordinal offset s place mid → TellsOf y
  unfolding next_put
  told y h = rw (h, record-further place (drop place s)) (told_at (record_in 0 (drop place s)) refl)

  -- of what `put_next` answered: what it means that a row was put, or that none was
  module _ (o : ℕ) (w : o ≡ offset) (p : Put) (x : List ℕ) (h : (p, x) ≡ next_put d ordinal o s place mid) (l : p.length ≤ row_room) where
    told_of : Told p.stop p x
    told_of = told (p, x) (h ∙ ap (λ (n : ℕ). next_put d ordinal n s place mid) w) l

    pub put-told : goes_on p.stop ≡ true → Told Goes p x
    put-told g = go p.stop told_of g
      where
        go : (q : Stop) → Told q p x → goes_on q ≡ true → Told Goes p x
        go Goes u e = u
        go Full u e = absurd u
        go Waits u e = clash e
        go Over u e = clash e

    pub stop-told : goes_on p.stop ≡ false → (stopped d ordinal place (filled + p.length) p.stop, put_mid filled k out x) ≡ all
    stop-told g = go p.stop told_of g
      where
        go : (q : Stop) → Told q p x → goes_on q ≡ false → (stopped d ordinal place (filled + p.length) q, put_mid filled k out x) ≡ all
        go Goes u e = clash (sym e)
        go Full u e = absurd u
        go Waits u e = u
        go Over u e = u

-- what `put_next` makes of what it finds, where there is room for any row
module _ (d : Desk) (ordinal offset : ℕ) (s : List ℕ) (place : ℕ) (out : List ℕ) (room : row_room ≤ length out) where
  -- what it promises
  abbrev Puts : Put × List ℕ → Type 0
  Puts y = (y ≡ next_put d ordinal offset s place out) × (y.0.length ≤ row_room)

  pub on-record : (mark : Mark) (time start behind : ℕ) (f : Found) (bytes : List ℕ) (desk : Desk) (n : ℕ) (x : List ℕ) (p : Put)
      → f ≡ record_at s place → f ≡ found mark time start behind → bytes ≡ take (behind - start) (drop start s)
      → (desk, (n, x)) ≡ printed (row_of mark d ordinal offset time bytes) out → p ≡ put desk behind n Goes
      → length (row_of mark d ordinal offset time bytes).1 ≤ row_room → Puts (p, x)
  unfolding next_put row_put
  on-record mark time start behind f bytes desk n x p e g b h q l =
      let t = (row_of mark d ordinal offset time bytes).1 in
      let u = put_whole (row_of mark d ordinal offset time bytes).1 out n x (omega arith) (ap (λ (y : Desk × (ℕ × List ℕ)). y.1) h) in
      let k : desk ≡ (row_of mark d ordinal offset time bytes).0 = ap (λ (y : Desk × (ℕ × List ℕ)). y.0) h in
      let m : record_at s place ≡ found mark time start behind = sym e ∙ g in
      (rw (m, ← b, q, k, u.0, u.1), omega (arith, ap (λ (y : Put). y.length) q, u.0, l))

  pub on-nothing : (f : Found) → f ≡ record_at s place → f ≡ end → Puts (put d place 0 Waits, out)
  unfolding next_put
  on-nothing f e g = let m : record_at s place ≡ end = sym e ∙ g in (rw m, omega arith)

  pub on-refusal : (x : No) (number : ℕ) (f : Found) (y : Put × List ℕ) → f ≡ record_at s place → f ≡ refused x → number ≡ x.number
      → (y ≡ refused_put d number offset place out) × (y.0.length ≤ row_room) → Puts y
  unfolding next_put
  on-refusal x number f y e g q h = let m : record_at s place ≡ refused x = sym e ∙ g in (rw m (h.0 ∙ ap (λ (n : ℕ). refused_put d n offset place out) q), h.1)
