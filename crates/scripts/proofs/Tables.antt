-- What stands at a word's place in a row of meanings is what the word's number says. Assumes nothing.
use Rattle.std.proofs.Common.{◌≡◌, ℕ, zero, suc, ◌+◌, ◌≤◌, Bool, true, false, List, [], ◌∷◌, refl, ◌∙◌, zero-add, arith}
use Rattle.std.specs.Prelude.{Option, cond, unwrap_or}
use Rattle.std.specs.List.{slice_get}
use Rattle.text.specs.Fields.{word_of, word_place_from, word_place, same_text}

either-within : (b : Bool) (n m k : ℕ) → n ≤ k → m ≤ k → cond b n m ≤ k
either-within true n m k here behind = here
either-within false n m k here behind = behind

place-within : (words one : List ℕ) (k n : ℕ) → word_place_from k n words one ≤ n + k
unfolding word_place_from
place-within words one zero n = omega arith
place-within words one (suc k) n =
    let rest : word_place_from k (suc n) words one ≤ suc n + k = place-within words one k (suc n) in
    either-within (same_text (word_of n words) one) n _ (n + suc k) (omega arith) (omega arith)

-- what so many numbers say, from 0 on
abbrev pub numbered : {T : Type 0} → (ℕ → T) → ℕ → List T
numbered f zero = []
numbered f (suc k) = f 0 ∷ numbered (λ n. f (suc n)) k

meaning-at : {T : Type 0} (f : ℕ → T) (count place : ℕ) → place ≤ count → unwrap_or (slice_get (numbered f count) place) (f count) ≡ f place
meaning-at f zero zero w = refl
meaning-at f zero (suc place) w = elim w [ ]
meaning-at f (suc count) zero w = refl
meaning-at f (suc count) (suc place) w = meaning-at (λ n. f (suc n)) count place (omega arith)

-- what stands at a word's place among what the numbers of the words say, or else what the number behind them says, is what the word's number says
pub named_is : {T : Type 0} (f : ℕ → T) (words : List ℕ) (count : ℕ) (one : List ℕ) {found : Option T} {r : T}
    → found ≡ slice_get (numbered f count) (word_place words count one) → r ≡ unwrap_or found (f count)
    → r ≡ f (word_place words count one)
unfolding word_place
named_is f words count one e u = u ∙ rw e (meaning-at f count _ (rw zero-add at (place-within words one count 0)))
