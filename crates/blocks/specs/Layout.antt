-- How a block is laid out: things one behind the other, each in as many bytes. Assumes nothing.
use Rattle.std.specs.Prelude.{cond, List, [], ◌∷◌, ◌++◌, ℕ, zero, suc, eqb, length, take, drop}

-- the bytes of each thing, one behind the other
unfoldable pub joined : {A : Type 0} → (A → List ℕ) → List A → List ℕ
joined bytes_of [] = []
joined bytes_of (x ∷ xs) = bytes_of x ++ joined bytes_of xs

-- n things, each from its own stretch of so many bytes
unfoldable pub each : {A : Type 0} → ℕ → (List ℕ → A) → ℕ → List ℕ → List A
each width thing_in zero b = []
each width thing_in (suc n) b = thing_in (take width b) ∷ each width thing_in n (drop width b)

-- the stretch of so many bytes at a place
abbrev pub stretch : ℕ → ℕ → List ℕ → List ℕ
stretch at width b = take width (drop at b)

-- a block of just this length takes these bytes, and any other stays as it was
unfoldable pub filled : ℕ → List ℕ → List ℕ → List ℕ
filled size bytes b = cond (eqb (length b) size) bytes b
