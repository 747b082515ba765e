-- The first record stands inside its region wherever an event of an order leaves it.
use Rattle.std.specs.Prelude.{◌≤◌, ◌∷◌}
use Rattle.integers.specs.Basics.{ℕ, List, [], Option, None, Some}
use Rattle.ledger.specs.declared.order.Order.{Order}
use Rattle.memory_layout.specs.View.{first_of}
use Rattle.memory_layout.proofs.FirstRecord.{left_small}
use Rattle.memory_working.specs.Working.{gone_first, first_after}

module _ (m : List ℕ) (inside : first_of m ≤ 256) where
  pub gone_small : (found : Option ℕ) → gone_first m found ≤ 256
  gone_small None = inside
  gone_small (Some p) = left_small m p inside

  pub after_small : (found : Option ℕ) (os : List Order) → first_after m found os ≤ 256
  after_small found [] = gone_small found
  after_small found (o ∷ os) = inside
