-- Items heard one after another, the telegrams that they hand out, and what is promised of them (rules C1 to C4, C8). Assumes nothing.
use Rattle.std.specs.Prelude.{◌≡◌, List, [], ◌∷◌, ◌++◌, map, ℕ, ◌≤◌, ◌<◌, length, take}
use Rattle.characters.specs.Marks.{lf, cr, longest}
use Rattle.records.specs.Refusals.{No}
use Rattle.cutting.specs.Turns.{Plain}
use Rattle.cutting.specs.declared.gather.Item.{Item}
use Rattle.cutting.specs.declared.gather.Item.TheVariants.{Byte, Hit}
use Rattle.cutting.specs.declared.gather.Gatherer.{Gatherer}
use Rattle.cutting.specs.Gather.{Cut, nothing, telegram, refused, at_start, shut, gather_of}

-- the ranges of a state: it has room for a telegram, and an unfinished one has fewer bytes
pub record InRange (g : Gatherer) : Type 0 where
  pub few : g.len < longest
  pub room : length g.bytes ≡ longest

-- the state that items leave
unfoldable pub after_items : Gatherer → List Item → Gatherer
after_items g [] = g
after_items g (item ∷ items) = after_items (gather_of g item).0 items

-- what a step hands out, before what later steps do: a telegram is the first bytes of its state
abbrev pub handing : Gatherer × Cut → List (List ℕ) → List (List ℕ)
handing (g, nothing) later = later
handing (g, telegram n) later = take n g.bytes ∷ later
handing (g, refused why) later = later

-- the telegrams that items hand out, in order
unfoldable pub handed : Gatherer → List Item → List (List ℕ)
handed g [] = []
handed g (item ∷ items) = handing (gather_of g item) (handed (gather_of g item).0 items)

-- the telegrams that bytes hand out
abbrev pub fed : Gatherer → List ℕ → List (List ℕ)
fed g s = handed g (map Byte s)

-- From the start, under any items, the gatherer is in its ranges,
abbrev pub AlwaysInRange : Type 0
AlwaysInRange = (items : List Item) → InRange (after_items at_start items)

-- so its own calls are never refused, by 15 or at all.
abbrev pub NeverRefused : Type 0
NeverRefused = (items : List Item) (item : Item) (why : No) → ¬ ((gather_of (after_items at_start items) item).1 ≡ refused why)

-- The number that a step answers is the number of its telegram's bytes.
abbrev pub TelegramNumber : Type 0
TelegramNumber = (g : Gatherer) (item : Item) (n : ℕ) → InRange g → (gather_of g item).1 ≡ telegram n → length (take n (gather_of g item).0.bytes) ≡ n

-- each of the bytes is neither LF nor CR
abbrev pub AllPlain : List ℕ → Type 0
AllPlain [] = Unit {0}
AllPlain (byte ∷ rest) = Plain byte × AllPlain rest

-- LF, these bytes, CR
abbrev pub whole : List ℕ → List ℕ
whole xs = lf ∷ (xs ++ (cr ∷ []))

-- From every state in its ranges, LF, then bytes that are neither LF nor CR, then CR, at most 66 in all, hand out just those bytes;
-- what is heard behind them is heard as from the start.
abbrev pub TelegramOut : Type 0
TelegramOut = (g : Gatherer) (xs : List ℕ) (items : List Item) → InRange g → length (whole xs) ≤ longest → AllPlain xs
    → handed g (map Byte (whole xs) ++ items) ≡ whole xs ∷ handed at_start items

-- A hit leaves no telegram begun and hands out nothing; the bytes stay.
abbrev pub HitStep : Type 0
HitStep = (g : Gatherer) → InRange g → gather_of g Hit ≡ (shut g, nothing)

-- A hit drops what was begun and nothing else: what was handed out before it stays, and what comes behind it is heard as from the start.
abbrev pub HitDrops : Type 0
HitDrops = (g : Gatherer) (before later : List Item) → InRange g → handed g (before ++ (Hit ∷ later)) ≡ handed g before ++ handed at_start later

-- After it the next LF begins a telegram.
abbrev pub AfterHit : Type 0
AfterHit = (g : Gatherer) (before : List Item) (xs : List ℕ) (items : List Item) → InRange g → length (whole xs) ≤ longest → AllPlain xs
    → handed g (before ++ (Hit ∷ (map Byte (whole xs) ++ items))) ≡ handed g before ++ (whole xs ∷ handed at_start items)
