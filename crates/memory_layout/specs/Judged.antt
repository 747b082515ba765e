-- The table of questions asked of what a memory shows, and the order that an event names, as the judge hands it on.
use Rattle.std.specs.Prelude.{◌≡◌}
use Rattle.integers.specs.Basics.{ℕ, List, Some}
use Rattle.ledger.specs.Orders.{place_from}
use Rattle.ledger.specs.Records.{order_of}
use Rattle.book.specs.declared.Event.{Event}
use Rattle.book.specs.declared.Event.TheVariants.{Set, New, Change, Junk}
use Rattle.book.specs.Books.{new_order}
use Rattle.book.specs.Table.{answer}
use Rattle.memory_layout.specs.View.{open_orders, view}
use Rattle.memory_layout.specs.Stores.{order_in, rank}

-- the table's first no, of the desk's view
unfoldable pub judged : List ℕ → Event → ℕ
judged m e = answer (view m) e

-- with its id, w is the detail of the order that a NEW enters, which joins at place p of the open orders; or of the open order that a
-- REPLACE, CANCEL or FILL names, as it stands there
abbrev pub NamedAt : List ℕ → Event → ℕ → ℕ → Type 0
NamedAt m (Set x) p w = Unit
NamedAt m (New s a i id n) p w = (p ≡ rank id (open_orders m)) × (order_of id w ≡ new_order s a i id n)
NamedAt m (Change id c) p w = (place_from 0 id (open_orders m) ≡ Some p) × (order_of id w ≡ order_in m p)
NamedAt m Junk p w = Unit
