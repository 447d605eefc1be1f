-- The digits of a word, and the words of a row that are numbers, in the library's words. Assumes nothing.
use Rattle.std.proofs.Common.{◌≡◌, ℕ, zero, suc, ◌+◌, ◌-◌, Bool, true, false, ◌&&◌, List, [], ◌∷◌, refl, ap₂, ◌∙◌, add-one, arith}
use Rattle.std.proofs.lemmas.Bool.Decides.{nat_tests}
use Rattle.std.specs.Char.{is_ascii_digit}
use Rattle.std.specs.List.{list_all, range_with_len}
use Rattle.laws.specs.Truth.{both, every}
use Rattle.laws.proofs.Passes.{on_test}
use Rattle.text.specs.Fields.{word_of}
use Rattle.scripts.specs.Numbers.{is_digit, is_number, numbers_from, are_numbers}

digit_is : (b : ℕ) → is_digit b ≡ is_ascii_digit b
digit_is b = grind (arith, nat_tests)

both_is : (p q : Bool) → both p q ≡ (p && q)
both_is true q = refl
both_is false q = refl

digits_are : (s : List ℕ) → every is_digit s ≡ list_all is_ascii_digit s
digits_are [] = refl
digits_are (b ∷ s) = ap₂ both (digit_is b) (digits_are s) ∙ both_is (is_ascii_digit b) (list_all is_ascii_digit s)

pub is_number_is : (word : List ℕ) → is_number word ≡ list_all is_ascii_digit word
unfolding is_number
is_number_is word = digits_are word

numbers_is : (row : List ℕ) (k n : ℕ) → numbers_from k n row ≡ list_all (λ i. is_number (word_of i row)) (range_with_len n k)
unfolding numbers_from
numbers_is row zero n = refl
numbers_is row (suc k) n = on_test (is_number (word_of n row)) (λ e. rw (e, ← (add-one n), numbers_is row k (n + 1))) (λ e. rw e)

pub are_numbers_is : (row : List ℕ) (first end : ℕ) → are_numbers first end row ≡ list_all (λ i. is_number (word_of i row)) (range_with_len first (end - first))
are_numbers_is row first end = numbers_is row (end - first) first
