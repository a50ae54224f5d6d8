-- The most bits that a list has.
pub use Rattle.bit_addressing.specs.declared.length.TheConstants.{MAX_BITS}
