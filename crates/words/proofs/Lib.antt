-- Little-endian numbers in lent bytes: words stored, moved and left, parts, halves, bits, and two's complement.
pub mod Complement
pub mod Numbers
pub mod Memory
pub mod HalfWords
pub mod Runs
pub mod Apart
pub mod Parts
pub mod TwosComplement
pub mod Bits
mod Moved
