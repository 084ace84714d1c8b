-- The lemmas of this crate.
pub mod Chunks
pub mod Digits
pub mod Fits
pub mod LaneGroups
pub mod LeastWidths
pub mod Lowered
pub mod MarkedRows
pub mod MaskBytes
pub mod MaskWindows
pub mod OffsetPieces
pub mod PackedBits
pub mod Ranges
pub mod Steps
pub mod UnpackNumbers
