-- Order records as they are stored: the one form of a memory whose open orders are a given list.
use Rattle.std.specs.Prelude.{◌+◌, ◌*◌, ◌-◌, ◌^◌, ◌≤◌, ◌<◌, ◌≡◌, ◌&&◌, ◌∷◌}
use Rattle.integers.specs.Basics.{ℕ, zero, suc, cond, List, [], ltb, eqb, length}
use Rattle.words.specs.Words.{word_at, put_word, put_words, part_of}
use Rattle.ledger.specs.declared.order.Order.{Order}
use Rattle.ledger.specs.Records.{detail, Storable, order_at, orders_from}
use Rattle.book.specs.OpenOrders.{insert}
use Rattle.memory_layout.specs.Layout.{count_word, first_word, orders_word}
use Rattle.memory_layout.specs.View.{first_of, records_of, open_orders}

-- the open order at place p, and the n from place p on
abbrev pub order_in : List ℕ → ℕ → Order
order_in m p = order_at (records_of m) p

abbrev pub orders_in : List ℕ → ℕ → ℕ → List Order
orders_in m p n = orders_from (records_of m) p n

-- the first word of record r of the region, which has 512
abbrev pub record_word : ℕ → ℕ
record_word r = orders_word + r * 2

-- the order in record r, and those in the n records from record r on
abbrev pub record_in : List ℕ → ℕ → Order
record_in m r = order_at (part_of m orders_word 1024) r

abbrev pub records_in : List ℕ → ℕ → ℕ → List Order
records_in m r n = orders_from (part_of m orders_word 1024) r n

-- the words of a record
unfoldable pub fields : Order → List ℕ
fields o = o.id ∷ detail o ∷ []

unfoldable pub put_order : List ℕ → ℕ → Order → List ℕ
put_order m r o = put_words m (record_word r) (fields o)

-- the records from record r on
unfoldable pub put_orders : List ℕ → ℕ → List Order → List ℕ
put_orders m r [] = m
put_orders m r (o ∷ os) = put_orders (put_order m r o) (r + 1) os

-- the records from record f on, that the first stands there, and the count; other records are never spoken of
unfoldable pub store_from : List ℕ → ℕ → List Order → List ℕ
store_from m f os = put_word (put_word (put_orders m f os) first_word f) count_word (length os)

-- where the first record stands when an order joins at place p, or that at place p leaves: the records before it move where p
-- is below half of the count and the region has room for the move, and else those behind it. Where those behind it would make
-- room for an order that joins, and the first record stands at its last place, all go back to the start of the region.
unfoldable pub joined_first : List ℕ → ℕ → ℕ
joined_first m p =
    let f = first_of m in
    cond (ltb (p * 2) (word_at m count_word) && ltb 0 f) (f - 1) (cond (eqb f 256) 0 f)

unfoldable pub left_first : List ℕ → ℕ → ℕ
left_first m p = cond (ltb (p * 2) (word_at m count_word) && ltb (first_of m) 256) (first_of m + 1) (first_of m)

-- a record can hold it
pub record SmallOrder (o : Order) : Type 0 where
  pub id : o.id < 2 ^ 64
  pub detail : Storable o

abbrev pub SmallOrders : List Order → Type 0
SmallOrders [] = Unit
SmallOrders (o ∷ os) = SmallOrder o × SmallOrders os

-- a memory that is long enough, with at most 256 records in use, and at most 256 before them
pub record Records (m : List ℕ) : Type 0 where
  pub long : 65536 ≤ length m
  pub count : word_at m count_word ≤ 256
  pub first : first_of m ≤ 256

-- the place of the first order with a larger id, else behind the last
unfoldable pub rank : ℕ → List Order → ℕ
rank id [] = 0
rank id (o ∷ os) = cond (ltb id o.id) 0 (suc (rank id os))

-- memory l has room at place p for an order of m: put there, it is among m's orders, which stand from record f on
abbrev pub RoomFor : List ℕ → List ℕ → ℕ → ℕ → Type 0
RoomFor m l f p = (o : Order) → p ≡ rank o.id (open_orders m) → put_order l (f + p) o ≡ put_orders m f (insert o (open_orders m))

-- without the order at place p
unfoldable pub without : ℕ → List Order → List Order
without p [] = []
without zero (o ∷ os) = os
without (suc p) (o ∷ os) = o ∷ without p os
