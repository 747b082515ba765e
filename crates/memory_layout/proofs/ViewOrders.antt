-- Stored orders: the view's list is the book's, nothing else of the view changes, and the records can be worked on again. And an order
-- found by its id, where the book finds it.
use Rattle.std.specs.Prelude.{◌+◌, ◌≤◌, ◌<◌, ◌≡◌, ◌∷◌}
use Rattle.integers.specs.Basics.{ℕ, zero, suc, ◌∙◌, sym, ap, List, [], Some, eqb, length, set, arith}
use Rattle.words.specs.Words.{word_at}
use Rattle.ledger.specs.declared.order.Order.{Order}
use Rattle.ledger.specs.Orders.{place_from}
use Rattle.ledger.specs.Records.{order_at, orders_from}
use Rattle.ledger.proofs.Search.{found_place}
use Rattle.ledger.proofs.Ways.{by_test}
use Rattle.book.specs.OpenOrders.{find, change}
use Rattle.memory_layout.specs.Layout.{kind_word, count_word}
use Rattle.memory_layout.specs.View.{market_of, balances_of, lines_of, blocks_of, roster_of, records_of, open_orders, book_of, trading_of}
use Rattle.memory_layout.specs.View.{view}
use Rattle.memory_layout.specs.Stores.{order_in, record_word, store_from, SmallOrders, without}
use Rattle.memory_layout.proofs.RosterLaws.{roster_same}
use Rattle.memory_layout.proofs.MarketRead.{market_same}
use Rattle.memory_layout.proofs.GuardedTables.{same_view, state_of}
use Rattle.memory_layout.proofs.SameFields.{Same, InBounds, balances_same, lines_same, blocks_same, marks_same}
use Rattle.memory_layout.proofs.Stored.{length_store, word_store, count_store, first_store, orders_store}
use Rattle.memory_layout.proofs.BookLists.{leaving, becoming}

-- ---- the view of stored orders
module _ (m : List ℕ) (f : ℕ) (os : List Order) (held : InBounds m) (low : f ≤ 256) (few : length os ≤ 256) where
  elsewhere : (from to : ℕ) → (from < 114 → 112 < to → ⊥) → to ≤ record_word 0 → Same from to (store_from m f os) m
  elsewhere from to apart below k above under =
      word_store m f os low few k (λ e. apart (omega arith) (omega arith)) (λ e. apart (omega arith) (omega arith)) (λ a b. omega arith)

  pub roster_orders : roster_of (store_from m f os) ≡ roster_of m
  roster_orders =
      roster_same (store_from m f os) m held.sized (elsewhere 1 77 (λ a b. omega arith) (omega arith))

  pub bounds_orders : InBounds (store_from m f os)
  bounds_orders =
      record {
        long = omega (arith, length_store m f os, held.long);
        sized = rw roster_orders held.sized;
        count = omega (arith, count_store m f os low few held.long);
        first = omega (arith, first_store m f os low few held.long);
      }

  pub view_orders : SmallOrders os → view (store_from m f os)
      ≡ state_of (market_of m) (roster_of m) (balances_of m) (lines_of m) (blocks_of m) os (trading_of m)
  unfolding book_of
  view_orders small =
      let l : List ℕ = store_from m f os in
      same_view (market_same l m (elsewhere 0 1 (λ a b. omega arith) (omega arith) kind_word (omega arith) (omega arith))) roster_orders
      (balances_same l m held roster_orders (elsewhere 256 768 (λ a b. omega arith) (omega arith)))
      (lines_same l m held roster_orders (elsewhere 768 1472 (λ a b. omega arith) (omega arith))
      (elsewhere 1536 2880 (λ a b. omega arith) (omega arith)))
      (blocks_same l m held roster_orders (elsewhere 144 256 (λ a b. omega arith) (omega arith)))
      (orders_store m f os low few held.long small)
      (marks_same l m held roster_orders (elsewhere 128 144 (λ a b. omega arith) (omega arith)))

-- ---- an order found by its id
found_there : (s : List ℕ) (id n q p : ℕ) → place_from q id (orders_from s q n) ≡ Some p → find id (orders_from s q n) ≡ Some (order_at s p)
unfolding place_from orders_from find
found_there s id zero q p e = let z : ◌≡◌ {A = ℕ} 0 1 = cc in absurd (omega arith)
found_there s id (suc n) q p e =
    by_test (eqb (order_at s q).id id)
    (λ t. let here : Some q ≡ Some p = rw t at e in let same : q ≡ p = cc in rw t (ap (λ r. Some (order_at s r)) same))
    (λ t. rw t (found_there s id n (q + 1) p (rw t at e)))

-- it is one of the open orders, the one that the book's search finds
module _ (m : List ℕ) (id p : ℕ) (found : place_from 0 id (open_orders m) ≡ Some p) where
  pub found_order : find id (open_orders m) ≡ Some (order_in m p)
  unfolding open_orders
  found_order = found_there (records_of m) id (word_at m count_word) 0 p found

  pub found_below : p < word_at m count_word
  unfolding open_orders
  found_below = (found_place (records_of m) id (word_at m count_word) p found).0

  pub found_id : (order_in m p).id ≡ id
  unfolding open_orders
  found_id = (found_place (records_of m) id (word_at m count_word) p found).1

-- ---- the list is the book's: the order found
module _ (m : List ℕ) (id p : ℕ) (found : place_from 0 id (open_orders m) ≡ Some p) (f : Order → List Order) where
  from_zero : 0 + p ≡ p
  from_zero = omega arith

  -- CANCEL, and a FILL that leaves nothing
  pub change_leaves : f (order_in m p) ≡ [] → change id f (open_orders m) ≡ without p (open_orders m)
  unfolding open_orders
  change_leaves gone =
      leaving m id f (word_at m count_word) 0 p (found ∙ ap Some (sym from_zero)) (ap (λ q. f (order_in m q)) from_zero ∙ gone)

  -- REPLACE, and any other FILL
  pub change_becomes : (y : Order) → f (order_in m p) ≡ y ∷ [] → change id f (open_orders m) ≡ set (open_orders m) p y
  unfolding open_orders
  change_becomes y new =
      becoming m id f y (word_at m count_word) 0 p (found ∙ ap Some (sym from_zero)) (ap (λ q. f (order_in m q)) from_zero ∙ new)
