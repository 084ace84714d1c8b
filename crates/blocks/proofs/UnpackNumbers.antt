-- What a number of eight bytes is, for the crates above.
pub use Rattle.bit_packing.proofs.UnpackNumbers.{from_le_bytes-64}
