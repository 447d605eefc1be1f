-- A state as a block (rules F7, F8), and what is proved of each. Assumes nothing.
use Rattle.std.specs.Prelude.{◌≡◌, Bool, true, false, cond, List, ℕ, length}
use Rattle.text.specs.Fields.{same_text}

-- the state read from bytes, and a blank one where they are not the block of the state read
unfoldable pub loaded : {S : Type 0} → (S → List ℕ) → (List ℕ → S) → S → List ℕ → S
loaded bytes_of state_at blank b = cond (same_text (bytes_of (state_at b)) b) (state_at b) blank

-- loading what was saved gives the same state, for every state in its ranges; its fields are what their types say
abbrev pub Back : {S : Type 0} → (S → Type 0) → (S → Bool) → ℕ → (S → List ℕ → List ℕ) → (List ℕ → S) → Type 0
Back {S} Typed fits size save_of load_of = (s : S) (b : List ℕ) → Typed s → fits s ≡ true → length b ≡ size → load_of (save_of s b) ≡ s

-- what is loaded from bytes that are not the block of a state in its ranges is out of its ranges
abbrev pub OtherBlocks : {S : Type 0} → (S → Bool) → (S → List ℕ) → (List ℕ → S) → Type 0
OtherBlocks {S} fits bytes_of load_of = (b : List ℕ) → ((s : S) → fits s ≡ true → b ≡ bytes_of s → ⊥) → fits (load_of b) ≡ false

-- two blocks that load as the same state in its ranges are the same bytes
abbrev pub OneBlock : {S : Type 0} → (S → Bool) → (List ℕ → S) → Type 0
OneBlock {S} fits load_of = (a b : List ℕ) → fits (load_of a) ≡ true → load_of a ≡ load_of b → a ≡ b
