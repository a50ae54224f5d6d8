-- Rules for callers: those of the crate of views, under one name.
pub use Rattle.bit_slice.proofs.Rules.{and_with_itself, or_with_itself, xor_with_itself, and_with_false, and_with_true, or_with_false, or_with_true, xor_with_false, xor_with_true, xor_twice, xor_back, xor_other, not_of_and, not_of_or, item_of_combined, item_of_and, item_of_or, item_of_xor, item_of_not, length_of_and, length_of_or, length_of_xor, length_of_not, zeros_and_ones}
