-- The definitions on small inputs. Words are written in decimal, lists as they stand in memory's order.
use Rattle.std.proofs.Common.{arith}
use Rattle.std.specs.Prelude.{◌≡◌, ℕ, ◌+◌, ◌-◌, ◌*◌, ◌%◌, true, false, [], ◌∷◌, ◌++◌, replicate, refl, bit_xor}
use Rattle.bit_addressing.specs.Order.{IsLawful, lawful_by_test}
use Rattle.bit_addressing.specs.declared.length.TheConstants.{MAX_BITS}
use Rattle.bit_addressing.specs.Row.{row_of, packed, words_for, put, sized, filled, moved, touched, number_of, number_bits, binary, IsFirst, IsFirstDifference}

-- the word 1c (hexadecimal) from its lowest place, and from its highest
lowest_first : row_of (λ w i. i) 8 (28 ∷ []) ≡ false ∷ false ∷ true ∷ true ∷ true ∷ false ∷ false ∷ false ∷ []
unfolding row_of
lowest_first = refl

highest_first : row_of (λ w i. w - 1 - i) 8 (28 ∷ []) ≡ false ∷ false ∷ false ∷ true ∷ true ∷ true ∷ false ∷ false ∷ []
unfolding row_of
highest_first = refl

-- an order that a user writes: the two halves of each byte change places
abbrev xor4_place : ℕ → ℕ → ℕ
xor4_place w i = bit_xor i 4

xor4_lawful : IsLawful xor4_place
xor4_lawful = lawful_by_test xor4_place refl refl refl refl

-- and another: neighbours lie five places apart
abbrev scramble_place : ℕ → ℕ → ℕ
scramble_place w i = (5 * i + 3) % w

scramble_lawful : IsLawful scramble_place
scramble_lawful = lawful_by_test scramble_place refl refl refl refl

-- the words 31 and 89 hold 1, 1, 0, 0, 1 by these two
halves_exchanged : row_of xor4_place 8 (49 ∷ []) ≡ true ∷ true ∷ false ∷ false ∷ true ∷ false ∷ false ∷ false ∷ []
unfolding row_of
halves_exchanged = refl

scrambled : row_of scramble_place 8 (137 ∷ []) ≡ true ∷ true ∷ false ∷ false ∷ true ∷ false ∷ false ∷ false ∷ []
unfolding row_of
scrambled = refl

-- and so does the word 0188 of sixteen bits
scrambled_in_sixteen : row_of scramble_place 16 (392 ∷ []) ≡ (true ∷ true ∷ false ∷ false ∷ true ∷ []) ++ replicate 11 false
unfolding row_of
scrambled_in_sixteen = refl

-- the first word comes first
word_by_word : row_of (λ w i. i) 8 (1 ∷ 128 ∷ []) ≡ (true ∷ []) ++ (replicate 14 false ++ true ∷ [])
unfolding row_of
word_by_word = refl

-- the words of a row
packed_lowest_first : packed (λ w i. i) 8 (false ∷ false ∷ true ∷ true ∷ true ∷ false ∷ false ∷ false ∷ []) ≡ 28 ∷ []
unfolding packed
packed_lowest_first = refl

packed_highest_first : packed (λ w i. w - 1 - i) 8 (replicate 14 false ++ true ∷ true ∷ []) ≡ 0 ∷ 3 ∷ []
unfolding packed
packed_highest_first = refl

packed_scrambled : packed scramble_place 8 (true ∷ true ∷ false ∷ false ∷ true ∷ false ∷ false ∷ false ∷ []) ≡ 137 ∷ []
unfolding packed
packed_scrambled = refl

the_most_bits : MAX_BITS ≡ 2305843009213693951
the_most_bits = refl

two_words_touched : touched 8 7 2 ≡ 2
two_words_touched = refl

no_words : words_for 8 0 ≡ 0
unfolding words_for
no_words = refl

one_word : words_for 8 8 ≡ 1
unfolding words_for
one_word = refl

one_bit_more : words_for 8 9 ≡ 2
unfolding words_for
one_bit_more = refl

a_long_word : words_for 64 64 ≡ 1
unfolding words_for
a_long_word = refl

one_bit_past_a_long_word : words_for 64 65 ≡ 2
unfolding words_for
one_bit_past_a_long_word = refl

put_in_the_middle : put (false ∷ false ∷ false ∷ false ∷ []) 1 (true ∷ true ∷ []) ≡ false ∷ true ∷ true ∷ false ∷ []
unfolding put
put_in_the_middle = refl

grown_by_a_word : sized 8 (replicate 8 true) 9 ≡ replicate 8 true ++ replicate 8 false
unfolding sized words_for
grown_by_a_word = refl

cut_to_a_word : sized 8 (replicate 16 true) 8 ≡ replicate 8 true
unfolding sized words_for
cut_to_a_word = refl

both_ends_filled : filled (false ∷ false ∷ true ∷ false ∷ []) 1 2 true ≡ true ∷ false ∷ true ∷ true ∷ []
unfolding filled
both_ends_filled = refl

-- a run that overlaps its target
moved_up : moved (true ∷ false ∷ false ∷ false ∷ []) 0 1 3 ≡ true ∷ true ∷ false ∷ false ∷ []
unfolding moved
moved_up = refl

moved_down : moved (true ∷ false ∷ true ∷ true ∷ []) 1 0 3 ≡ false ∷ true ∷ true ∷ true ∷ []
unfolding moved
moved_down = refl

within_a_word : touched 8 5 3 ≡ 1
within_a_word = refl

over_an_edge : touched 8 7 2 ≡ 2
over_an_edge = refl

within_a_long_word : touched 64 0 64 ≡ 1
within_a_long_word = refl

over_an_edge_of_long_words : touched 64 63 2 ≡ 2
over_an_edge_of_long_words = refl

over_five_long_words : touched 64 60 200 ≡ 5
over_five_long_words = refl

nothing_touched : touched 8 7 0 ≡ 0
nothing_touched = refl

-- the first bit of a list is the lowest of the number
number_of_bits : number_of (false ∷ true ∷ true ∷ []) ≡ 6
unfolding number_of
number_of_bits = refl

bits_of_a_number : number_bits 6 4 ≡ false ∷ true ∷ true ∷ false ∷ []
unfolding number_bits
bits_of_a_number = refl

five_in_four_digits : binary 4 5 ≡ false ∷ true ∷ false ∷ true ∷ []
unfolding binary
five_in_four_digits = refl

first_one : IsFirst true (false ∷ false ∷ true ∷ true ∷ []) 2
first_one = record { within = omega arith; here = refl; before = λ i h. grind arith }

first_difference : IsFirstDifference (true ∷ false ∷ true ∷ []) (true ∷ true ∷ false ∷ []) 1
first_difference = record { within = omega arith; before = λ i h. grind arith; apart = λ e. grind arith }
