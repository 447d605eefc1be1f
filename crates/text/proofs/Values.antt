-- A record's values one after the other. Assumes nothing.
use Rattle.std.proofs.Common.{◌≡◌, ℕ, zero, suc, ◌+◌, ◌<◌, ◌≤◌, eqb, List, [], ◌∷◌, ◌++◌, length, get_or, take}
use Rattle.std.proofs.Common.{drop, set, sym, refl, subst, ap, ◌∙◌, zero-add, add-one, arith, drop_of_length-le, drop-cons, get_or-set_other, get_or-set_same, ext_get_or, eqb-true}
use borrow.Author.Tests.{eqb-false}
use denote.Param.Members.{Mut}
use Rattle.std.specs.Fn.{Called}
use Rattle.std.specs.Array.{IsFromFnResultFrom}
use Rattle.laws.proofs.Passes.{on_test}
use Rattle.laws.specs.Truth.{pad}
use Rattle.records.specs.declared.records.Record.{Record}
use Rattle.records.specs.declared.records.Record.TheVariants.{Approved, Rejected, Request, Idling, Test, Stop, RadioFault, Fault, Position, Train, TrainData, RadioData, RadioUpdate, Transponder}
use Rattle.records.specs.Records.{fields_of, values_of}
use Rattle.text.specs.Fields.{word_value}
use Rattle.text.specs.Items.{value_text, values_text, word_values_on, word_values}

-- a value, and those behind it
pub value-here : (v : List ℕ) (j n : ℕ) → j < length v → n ≡ get_or v j 0 → values_text (drop j v) ≡ value_text n ++ values_text (drop (j + 1) v)
unfolding values_text
value-here v j n l e = rw (add-one j, drop-cons v j 0 l, e)

-- no value is left
pub values-done : (v : List ℕ) (j : ℕ) → length v ≤ j → values_text (drop j v) ≡ []
unfolding values_text
values-done v j h = rw (drop_of_length-le v {i = j} h)

-- the values that a record has, of those with 0 behind them
front : (k : ℕ) (f : List ℕ) → length f ≤ k → take (length f) (pad k f) ≡ f
front zero [] h = refl
front zero (x ∷ f) h = let z : ⊥ = omega arith in absurd z
front (suc k) [] h = refl
front (suc k) (x ∷ f) h = ap (λ (t : List ℕ). x ∷ t) (front k f (omega arith))

-- no form has more than ten
pub most : (rec : Record) → length (fields_of rec) ≤ 10
most (Approved a) = omega arith
most (Rejected a) = omega arith
most (Request a) = omega arith
most (Idling a) = omega arith
most (Test a) = omega arith
most (Stop a) = omega arith
most (RadioFault a) = omega arith
most (Fault a) = omega arith
most (Position a) = omega arith
most (Train a) = omega arith
most (TrainData l p h r) = omega arith
most (RadioData k) = omega arith
most (RadioUpdate k t) = omega arith
most (Transponder k w x y z) = omega arith

pub its-values : (rec : Record) (v : List ℕ) (n : ℕ) → v ≡ values_of rec → n ≡ length (fields_of rec) → take n v ≡ fields_of rec
its-values rec v n h e = rw (h, e) (front 10 (fields_of rec) (most rec))

-- what stands at each place of the values of words
at_place : (s : List ℕ) (k n i : ℕ) → i < k → get_or (word_values_on k n s) i 0 ≡ word_value (n + i) s
unfolding word_values_on
at_place s zero n i h = let z : ⊥ = omega arith in absurd z
at_place s (suc k) n zero h = let e : n + 0 ≡ n = omega arith in rw e
at_place s (suc k) n (suc i) h = let e : n + suc i ≡ suc n + i = omega arith in rw e (at_place s k (suc n) i (omega arith))

how-many : (s : List ℕ) (k n : ℕ) → length (word_values_on k n s) ≡ k
unfolding word_values_on
how-many s zero n = refl
how-many s (suc k) n = ap suc (how-many s k (suc n))

-- one more is taken
pub taken : {A : Type 0} (thing : ℕ → A) (d : A) (v : List A) (j : ℕ) (x : A) → j < length v → x ≡ thing j → ((k : ℕ) → k < j → get_or v k d ≡ thing k)
    → (k : ℕ) → k < j + 1 → get_or (set v j x) k d ≡ thing k
taken thing d v j x l e h k g =
    on_test (eqb k j)
    (λ q. let f : k ≡ j = eqb-true k j q in rw (f, get_or-set_same v j x d l) e)
    (λ q. get_or-set_other v j k x d (eqb-false k j q) ∙ h k (omega (arith, eqb-false k j q)))

-- what calls give that leave the closure as it was
pub given : {F B : Type 0} (g : Mut F (ℕ × Unit {0}) B) (thing : ℕ → B) (d : B) (f : F) → ((i : ℕ) (y : B) (q : F) → Called g f (i, tt) y q → (q ≡ f) × (y ≡ thing i))
    → (ys : List B) (n i : ℕ) → IsFromFnResultFrom g f ys i n → (k : ℕ) → i ≤ k → k < i + n → get_or ys k d ≡ thing k
given g thing d f same ys zero i h k l m = let z : ⊥ = omega arith in absurd z
given {F = F} g thing d f same ys (suc n) i (q, y, at, call, rest) k l m =
    let s = same i y q call in
    on_test (eqb k i)
    (λ e. let h : k ≡ i = eqb-true k i e in rw h (at.1 d ∙ s.1))
    (λ e. given g thing d f same ys n (i + 1) (subst (λ (p : F). IsFromFnResultFrom g p ys (i + 1) n) s.0 rest) k (omega (arith, eqb-false k i e)) (omega arith))

pub all-taken : (s v : List ℕ) → length v ≡ 10 → ((k : ℕ) → k < 10 → get_or v k 0 ≡ word_value k s) → v ≡ word_values s
unfolding word_values
all-taken s v l h =
    ext_get_or 0 v (word_values_on 10 0 s) (l ∙ sym (how-many s 10 0))
    (λ i g. h i (omega arith) ∙ ap (λ (k : ℕ). word_value k s) (sym (zero-add i)) ∙ sym (at_place s 10 0 i (omega arith)))
