-- What holds of each entry of a table holds at each number of it.
use Rattle.std.specs.Prelude.{◌∷◌}
use Rattle.integers.specs.Basics.{ℕ, zero, suc, List, [], length, get_or, arith}
use Rattle.ledger.specs.Roster.{Numbered}

module _ {A : Type 0} (none : A) (P : A → Type 0) where
  abbrev pub Each : List A → Type 0
  Each [] = Unit
  Each (x ∷ xs) = P x × Each xs

  pub at_each_number : (xs : List A) → Each xs → (k : ℕ) → Numbered (length xs) k → P (get_or (none ∷ xs) k none)
  at_each_number [] h k on = absurd (omega arith)
  at_each_number (x ∷ xs) h zero on = absurd (omega arith)
  at_each_number (x ∷ xs) h (suc zero) on = h.0
  at_each_number (x ∷ xs) h (suc (suc k)) on = at_each_number xs h.1 (suc k) (omega arith)
