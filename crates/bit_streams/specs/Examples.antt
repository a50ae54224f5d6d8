-- The definitions on small inputs.
use Rattle.std.specs.Prelude.{◌≡◌, pos, negsuc, Some, true, false, [], ◌∷◌, ◌++◌, refl}
use Rattle.bit_addressing.specs.Row.{binary, row_of}
use Rattle.bit_streams.specs.Codes.{delta, gamma, golomb, leb128, leb_bytes, rice, unary, zigzag}
use Rattle.bit_slice.specs.Signed.{signed_of}
use Rattle.bit_streams.specs.Streamed.{held_after}
use Rattle.bit_streams.specs.Streams.{highest_first}
use Rattle.bit_streams.specs.Buffers.{bits_ahead}

unary_three : unary 3 ≡ false ∷ false ∷ false ∷ true ∷ []
unary_three = refl

gamma_six : gamma 6 ≡ false ∷ false ∷ true ∷ true ∷ false ∷ []
unfolding binary lib.Count.count_leading_zeros
gamma_six = refl

delta_six : delta 6 ≡ false ∷ true ∷ true ∷ true ∷ false ∷ []
unfolding binary lib.Count.count_leading_zeros
delta_six = refl

rice_six : rice 2 6 ≡ false ∷ true ∷ true ∷ false ∷ []
unfolding binary
rice_six = refl

golomb_five : golomb 3 5 ≡ false ∷ true ∷ true ∷ true ∷ []
unfolding binary lib.Count.count_leading_zeros
golomb_five = refl

leb128_of_300 : leb128 300 ≡ binary 8 172 ++ binary 8 2
unfolding leb_bytes
leb128_of_300 = refl

zigzag_of_minus_two : zigzag (negsuc 1) ≡ 3
zigzag_of_minus_two = refl

minus_two : signed_of 3 6 ≡ negsuc 1
minus_two = refl

three : signed_of 3 3 ≡ pos 3
three = refl

four_of_three : held_after 4 3 ≡ 7
four_of_three = refl

two_of_three : held_after 2 3 ≡ 1
two_of_three = refl

eleven_of_three : held_after 11 3 ≡ 0
eleven_of_three = refl

eight_ahead : bits_ahead highest_first (true ∷ []) (Some (5 ∷ [])) ≡ Some (true ∷ false ∷ false ∷ false ∷ false ∷ false ∷ true ∷ false ∷ true ∷ [])
unfolding row_of
eight_ahead = refl
