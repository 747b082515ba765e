-- A list of order structs: the order at a place, the orders of the records loaded into it, and what they count for.
use Rattle.std.specs.Prelude.{◌+◌}
use Rattle.integers.specs.Basics.{ℕ, zero, suc, List, [], get_or, set}
use Rattle.ledger.specs.declared.order.Order.{Order}
use Rattle.ledger.specs.declared.order.Side.{Side}
use Rattle.ledger.specs.declared.order.Side.TheVariants.{Buy}
use Rattle.ledger.specs.Records.{order_at}
use Rattle.ledger.specs.Derivatives.{counted}

-- what stands at a free place: an order of which nothing remains
abbrev pub no_order : Order
no_order = record { id = 0; account = 0; instrument = 0; side = Buy; total = 0; filled = 0 }

-- the order at place p
abbrev pub order_in : List Order → ℕ → Order
order_in orders p = get_or orders p no_order

-- the list with the orders of the first n records at its first n places
unfoldable pub loaded_to : List Order → List (List ℕ) → ℕ → List Order
loaded_to orders records zero = orders
loaded_to orders records (suc n) = set (loaded_to orders records n) n (order_at (get_or records n []) 0)

-- what the orders at the first n places count for in B (side Buy) or V (side Sell) of account a and instrument i
unfoldable pub counted_to : List Order → ℕ → Side → ℕ → ℕ → ℕ
counted_to orders zero s a i = 0
counted_to orders (suc n) s a i = counted_to orders n s a i + counted (order_in orders n) s a i
