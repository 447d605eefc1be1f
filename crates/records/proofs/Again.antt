-- A record is made again of its type and values. Assumes nothing.
use mathlib.Core.Path.{refl}
use Rattle.records.specs.Records.{record_of, RecordAgain}
use Rattle.records.specs.declared.records.Record.TheVariants.{Approved, Rejected, Request, Idling, Test, Stop, RadioFault, Fault, Position, Train, TrainData, RadioData, RadioUpdate, Transponder}

pub record-again : RecordAgain
unfolding record_of
record-again (Approved a) = refl
record-again (Rejected n) = refl
record-again (Request b) = refl
record-again (Idling b) = refl
record-again (Test m) = refl
record-again (Stop u) = refl
record-again (RadioFault s) = refl
record-again (Fault e) = refl
record-again (Position p) = refl
record-again (Train t) = refl
record-again (TrainData l p h r) = refl
record-again (RadioData k) = refl
record-again (RadioUpdate k t) = refl
record-again (Transponder k w x y z) = refl
