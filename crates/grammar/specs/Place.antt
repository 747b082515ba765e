-- A place in the bytes of a file.
use Rattle.integers.specs.Basics.{ℕ, List}

pub record Place : Type 0 where
  pub bytes : List ℕ
  pub at : ℕ

abbrev pub place : List ℕ → ℕ → Place
place s p = record { bytes = s; at = p }
