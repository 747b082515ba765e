-- Laws of ℤ beside those of the kit: magnitudes, parts, products, ring identities, sums, two's complement; and examples of their use.
pub mod Basics
pub mod Examples
pub mod Magnitude
pub mod Parts
pub mod Product
pub mod Ring
pub mod Sum
pub mod TwosComplement
