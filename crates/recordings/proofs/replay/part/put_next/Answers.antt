-- `put_next` does at a place what its definition says of what stands there. Assumes nothing.
use Rattle.std.proofs.Common.{◌≡◌, refl, ap, ◌∙◌, arith, rules}
use Rattle.std.specs.Prelude.{Ok, Option}
use Rattle.logs.specs.declared.reader.Entry.{Entry}
use Rattle.logs.specs.Reader.{Found, found, next_of, bytes_of}
use Rattle.recordings.proofs.Bounds.{rows_fit}
use Rattle.recordings.proofs.Step.{on-record, on-nothing, on-refusal}
use Rattle.recordings.proofs.replay.part.put_next.Goals as goal

pub returns-in-Ok-Some : goal.returns-in-Ok-Some
returns-in-Ok-Some c =
    let a = c.args in
    let n = c.in-Ok-Some.entry in
    let fits = rows_fit n.mark a.desk a.ordinal a.offset n.time _ (omega arith) (omega arith) (search rules) in
    let m : next_of c.next_record-next.result ≡ found n.mark n.time n.start n.end =
    rw c.in-Ok-Some.is (ap (λ (o : Option Entry). next_of (Ok o)) (rw c.in-Ok-Some.is at c.in-Ok-Some.field-0-is)) in
    on-record a.desk a.ordinal a.offset a.s.now a.from a.out.now c.requires n.mark n.time n.start n.end _ _ _ _ _ _ c.next_record-next.ensures
    m (c.bytes_of.ensures ∙ ap (λ (f : Found). bytes_of f a.s.now) m) c.put_row-row.ensures c.rowed.ensures fits

pub returns-in-Ok-None : goal.returns-in-Ok-None
returns-in-Ok-None c =
    let a = c.args in
    on-nothing a.desk a.ordinal a.offset a.s.now a.from a.out.now c.requires _ c.next_record-next.ensures (rw c.in-Ok-None.is (ap (λ (o : Option Entry). next_of (Ok o)) (rw c.in-Ok-None.is at c.in-Ok-None.field-0-is)))

pub returns-in-Err : goal.returns-in-Err
returns-in-Err c =
    let a = c.args in
    on-refusal a.desk a.ordinal a.offset a.s.now a.from a.out.now c.requires _ _ _ _ c.next_record-next.ensures (ap next_of c.in-Err.is)
    refl c.refused.ensures
