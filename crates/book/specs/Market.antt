-- What a desk's figures run to, and what its orders count for.
use Rattle.std.specs.Prelude.{◌≡◌}
use Rattle.integers.specs.Basics.{ℕ, refl, cond, eqb}
use Rattle.ledger.specs.declared.order.Order.{Order}
use Rattle.ledger.specs.Orders.{filled_by, replaced_total}
use Rattle.ledger.specs.Derivatives.{one}

pub record Market : Type 0 where
  -- what one contract of an order counts for in balances, sizes and positions
  pub unit : Order → ℕ
  -- the largest limit figure, the largest balance either way, and the largest S + B and −S + V of a sound desk
  pub largest : ℕ
  -- what a contract counts for stays while the order is open
  pub unit_filled : (o : Order) (n : ℕ) → unit (filled_by o n) ≡ unit o
  pub unit_replaced : (o : Order) (n : ℕ) → unit (replaced_total o n) ≡ unit o

-- the largest figure by the kind of desk: 1 is the derivatives desk. Of a kind that is no desk's no figure fits but 0
unfoldable pub largest_of : ℕ → ℕ
largest_of kind = cond (eqb kind 1) 1000000000 0

-- the market by the kind of desk: contracts are counted
unfoldable pub market_of_kind : ℕ → Market
unfolding one
market_of_kind kind = record { unit = one; largest = largest_of kind; unit_filled = λ o n. refl; unit_replaced = λ o n. refl }

-- the derivatives desk: contracts are counted, and figures run to 1,000,000,000
unfoldable pub derivatives : Market
unfolding market_of_kind largest_of
derivatives = market_of_kind 1
