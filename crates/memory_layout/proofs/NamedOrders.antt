-- The order that an event names, as it is handed on: a NEW's joins where its id stands, and a change's is the one that the book finds.
use Rattle.std.specs.Prelude.{◌≡◌}
use Rattle.integers.specs.Basics.{ℕ, ◌∙◌, sym, ap, List, Some, ℤ}
use Rattle.ledger.specs.declared.order.Order.{Order}
use Rattle.ledger.specs.declared.order.Side.{Side}
use Rattle.ledger.specs.Records.{order_of}
use Rattle.book.specs.declared.OrderChange.{OrderChange}
use Rattle.book.specs.declared.Event.TheVariants.{New, Change}
use Rattle.book.specs.OpenOrders.{find, insert}
use Rattle.book.specs.Books.{new_order}
use Rattle.memory_layout.specs.View.{open_orders}
use Rattle.memory_layout.specs.Stores.{store_from, joined_first, rank}
use Rattle.memory_layout.specs.Judged.{NamedAt}
use Rattle.memory_layout.proofs.ViewOrders.{found_order}

module _ (m : List ℕ) (id p w : ℕ) where
  pub named_joins : (s : Side) (a i : ℕ) (n : ℤ) → NamedAt m (New s a i id n) p w
      → store_from m (joined_first m p) (insert (order_of id w) (open_orders m))
      ≡ store_from m (joined_first m (rank id (open_orders m))) (insert (new_order s a i id n) (open_orders m))
  named_joins s a i n named =
      ap (λ q. store_from m (joined_first m q) (insert (order_of id w) (open_orders m))) named.0
      ∙ ap (λ (y : Order). store_from m (joined_first m (rank id (open_orders m))) (insert y (open_orders m))) named.1

  pub named_found : (c : OrderChange) → NamedAt m (Change id c) p w → find id (open_orders m) ≡ Some (order_of id w)
  named_found c named = found_order m id p named.0 ∙ ap Some (sym named.1)
