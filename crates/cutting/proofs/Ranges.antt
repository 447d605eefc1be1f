-- From the start the gatherer keeps its ranges, whatever it hears (rules E3, E12). Assumes nothing.
use mathlib.Core.Path.{◌≡◌, refl, ◌∙◌}
use mathlib.Core.List.{List, [], ◌∷◌}
use Prim.Native.Nat.{ℕ, ◌+◌, ◌≤◌}
use native.Mathlib.Omega.{arith}
use lib.ListN.{length-set}
use lib.Seq.{length-take-le}
use borrow.Author.Tests.{lt-leb}
use Rattle.characters.specs.Marks.{longest}
use Rattle.records.specs.Refusals.{No}
use Rattle.cutting.specs.declared.turns.Turn.{Turn}
use Rattle.cutting.specs.declared.turns.Turn.TheVariants.{Joins, Ends, Drops}
use Rattle.cutting.specs.declared.gather.Item.{Item}
use Rattle.cutting.specs.declared.gather.Item.TheVariants.{Byte, Hit}
use Rattle.cutting.specs.declared.gather.Gatherer.{Gatherer}
use Rattle.cutting.specs.Turns.{turn_of}
use Rattle.cutting.specs.Gather.{nothing, telegram, refused, at_start, turned, on_item, gather_of}
use Rattle.cutting.proofs.Cases.{joins_at, ends_at}
use Rattle.cutting.specs.Streams.{InRange, after_items, TelegramNumber, AlwaysInRange, NeverRefused}

-- in its ranges a state hears the item
pub hears : (g : Gatherer) (item : Item) → InRange g → gather_of g item ≡ on_item g item
unfolding gather_of
hears g item r = rw (lt-leb longest g.len r.few)

-- a byte's turn keeps the ranges
pub turn-range : (g : Gatherer) (byte : ℕ) (t : Turn) → InRange g → turn_of g.len byte ≡ t → InRange (turned g byte t).0
turn-range g byte (Joins at) r e = record { few = omega (arith, (joins_at g.len byte at e).1); room = length-set g.bytes at byte ∙ r.room }
turn-range g byte (Ends at) r e = record { few = omega arith; room = length-set g.bytes at byte ∙ r.room }
turn-range g byte Drops r e = record { few = omega arith; room = r.room }

-- so does an item
pub step_range : (g : Gatherer) (item : Item) → InRange g → InRange (gather_of g item).0
step_range g (Byte byte) r = rw (hears g (Byte byte) r) (turn-range g byte (turn_of g.len byte) r refl)
step_range g Hit r = rw (hears g Hit r) record { few = omega arith; room = r.room }

-- in its ranges a state refuses nothing
pub not-refused : (g : Gatherer) (item : Item) (x : No) → InRange g → ¬ ((gather_of g item).1 ≡ refused x)
not-refused g (Byte byte) x r e = turn (turn_of g.len byte) (rw (hears g (Byte byte) r) at e)
  where
    turn : (t : Turn) → ¬ ((turned g byte t).1 ≡ refused x)
    turn (Joins at) q = let z : ◌≡◌ {A = ℕ} 0 1 = cc in omega arith
    turn (Ends at) q = let z : ◌≡◌ {A = ℕ} 0 1 = cc in omega arith
    turn Drops q = let z : ◌≡◌ {A = ℕ} 0 1 = cc in omega arith
not-refused g Hit x r e = let q : nothing ≡ refused x = rw (hears g Hit r) at e in let z : ◌≡◌ {A = ℕ} 0 1 = cc in omega arith

-- the number that a step answers is the number of its telegram's bytes
pub telegram-number : TelegramNumber
telegram-number g item n r e = length-take-le n (gather_of g item).0.bytes (omega (arith, (step_range g item r).room, few item (rw (hears g item r) at e)))
  where
    turn : (byte : ℕ) (t : Turn) → turn_of g.len byte ≡ t → (turned g byte t).1 ≡ telegram n → n ≤ longest
    turn byte (Joins at) e q = let z : ◌≡◌ {A = ℕ} 0 1 = cc in let y : ⊥ = omega arith in absurd y
    turn byte (Ends at) e q = let x : at + 1 ≡ n = cc in omega (arith, ends_at g.len byte at e, r.few)
    turn byte Drops e q = let z : ◌≡◌ {A = ℕ} 0 1 = cc in let y : ⊥ = omega arith in absurd y

    few : (item : Item) → (on_item g item).1 ≡ telegram n → n ≤ longest
    few (Byte byte) q = turn byte (turn_of g.len byte) refl q
    few Hit q = let z : ◌≡◌ {A = ℕ} 0 1 = cc in let y : ⊥ = omega arith in absurd y

after-range : (g : Gatherer) (items : List Item) → InRange g → InRange (after_items g items)
unfolding after_items
after-range g [] r = r
after-range g (item ∷ items) r = after-range (gather_of g item).0 items (step_range g item r)

pub start-range : InRange at_start
start-range = record { few = omega arith; room = refl }

-- from the start, under any items, the gatherer is in its ranges
pub always-in-range : AlwaysInRange
always-in-range items = after-range at_start items start-range

-- so its own calls are never refused 15, nor refused at all
pub never-refused : NeverRefused
never-refused items item x = not-refused (after_items at_start items) item x (always-in-range items)
