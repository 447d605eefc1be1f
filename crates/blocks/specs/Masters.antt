-- A master as a block (rules F7, F8). Assumes nothing.
use Rattle.std.specs.Prelude.{List, ◌∷◌, ◌++◌, ℕ, ◌+◌, ◌<◌, ◌^◌, eqb, get_or}
use Rattle.master.specs.State.{to_send, unstarted, in_ranges}
use Rattle.master.specs.declared.state.Master.{Master}
use Rattle.blocks.specs.Layout.{stretch, filled}
use Rattle.blocks.specs.Heads.{flag_byte, head_bytes}
use Rattle.text.specs.Fours.{four_bytes, four_said}
use Rattle.blocks.specs.Record.{record_length, record_bytes, record_at, Narrow}
use Rattle.blocks.specs.States.{loaded, Back, OtherBlocks, OneBlock}

-- line, good, number, count, T0's and T2's start, operation, and the record
unfoldable pub master_bytes : Master → List ℕ
master_bytes m =
    head_bytes m.line m.good m.number.0 m.count
    ++ (four_bytes m.t0 ++ (four_bytes m.t2 ++ (flag_byte m.operation ∷ record_bytes m.rec)))

abbrev pub master_length : ℕ
master_length = 13 + record_length

-- the master that a block's bytes make
unfoldable pub master_at : List ℕ → Master
master_at b =
    record {
      line = get_or b 0 0;
      good = eqb (get_or b 1 0) 1;
      number = to_send (get_or b 2 0);
      count = get_or b 3 0;
      rec = record_at (stretch 13 record_length b);
      t0 = four_said (stretch 4 4 b);
      t2 = four_said (stretch 8 4 b);
      operation = eqb (get_or b 12 0) 1;
    }

abbrev pub load_of : List ℕ → Master
load_of b = loaded master_bytes master_at unstarted b

abbrev pub save_of : Master → List ℕ → List ℕ
save_of m b = filled master_length (master_bytes m) b

-- what the types of its fields say: the starts and the record's values are numbers of 32 bits
pub record Typed (m : Master) : Type 0 where
  pub t0 : m.t0 < 2 ^ 32
  pub t2 : m.t2 < 2 ^ 32
  pub rec : Narrow m.rec

abbrev pub MasterBack : Type 0
MasterBack = Back Typed in_ranges master_length save_of load_of

abbrev pub OtherMasters : Type 0
OtherMasters = OtherBlocks in_ranges master_bytes load_of

abbrev pub OneMaster : Type 0
OneMaster = OneBlock in_ranges load_of
