-- How many orders the lists have, and that a place is among them.
use Rattle.std.specs.Prelude.{◌+◌, ◌-◌, ◌≤◌, ◌<◌, ◌≡◌, ◌∷◌}
use Rattle.integers.specs.Basics.{ℕ, zero, suc, refl, List, [], ltb, length, arith}
use Rattle.words.specs.Words.{word_at}
use Rattle.ledger.specs.declared.order.Order.{Order}
use Rattle.ledger.proofs.Ways.{by_test}
use Rattle.book.specs.OpenOrders.{insert}
use Rattle.memory_layout.specs.Layout.{count_word}
use Rattle.memory_layout.specs.View.{records_of, open_orders}
use Rattle.memory_layout.specs.Stores.{rank, without}
use Rattle.memory_layout.proofs.OrderRecords.{records_long}
use Rattle.memory_layout.proofs.Stored.{length_orders_from}

pub length_insert : (o : Order) (os : List Order) → length (insert o os) ≡ length os + 1
unfolding insert
length_insert o [] = refl
length_insert o (x ∷ os) =
    by_test (ltb o.id x.id) (λ t. rw t (omega arith)) (λ t. rw t (omega (arith, length_insert o os)))

pub length_without : (p : ℕ) (os : List Order) → p < length os → length (without p os) ≡ length os - 1
unfolding without
length_without p [] h = absurd (omega arith)
length_without zero (o ∷ os) h = omega arith
length_without (suc p) (o ∷ os) h = omega (arith, length_without p os (omega arith))

rank_within : (id : ℕ) (os : List Order) → rank id os ≤ length os
unfolding rank
rank_within id [] = omega arith
rank_within id (o ∷ os) = by_test (ltb id o.id) (λ t. rw t (omega arith)) (λ t. rw t (omega (arith, rank_within id os)))

pub length_open : (m : List ℕ) → length (open_orders m) ≡ word_at m count_word
unfolding open_orders
length_open m = length_orders_from (records_of m) (word_at m count_word) 0

pub rank_open : (m : List ℕ) (id : ℕ) → rank id (open_orders m) ≤ word_at m count_word
rank_open m id = omega (arith, rank_within id (open_orders m), length_open m)

-- what the readers of the records read
pub ruleset records_read = (length_open, records_long, rank_open)
