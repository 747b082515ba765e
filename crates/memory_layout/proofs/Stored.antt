-- Laws of `store_from`: the view's list is the stored one, and the words outside the count, the first record and the records are as they
-- were.
use Rattle.std.specs.Prelude.{◌+◌, ◌≤◌, ◌<◌, ◌≡◌, ◌≢◌, ◌∷◌}
use Rattle.integers.specs.Basics.{ℕ, zero, suc, refl, ◌∙◌, ap, List, [], length, arith}
use Rattle.words.specs.Bytes.{Bytes}
use Rattle.words.specs.Words.{word_at, put_word}
use Rattle.words.proofs.Memory.{length_put, word_put_same, word_put_other}
use Rattle.ledger.specs.declared.order.Order.{Order}
use Rattle.ledger.specs.Records.{orders_from}
use Rattle.memory_layout.specs.Layout.{count_word, first_word}
use Rattle.memory_layout.specs.View.{first_of, open_orders}
use Rattle.memory_layout.specs.Stores.{orders_in, record_word, record_in, records_in, put_order, put_orders, store_from, SmallOrders}
use Rattle.memory_layout.proofs.OrderRecords.{same_record, same_records, length_order, bytes_order, word_order_other, order_back}
use Rattle.memory_layout.proofs.OrderRecords.{open_records}

pub length_orders_from : (s : List ℕ) (n p : ℕ) → length (orders_from s p n) ≡ n
unfolding orders_from
length_orders_from s zero p = refl
length_orders_from s (suc n) p = ap suc (length_orders_from s n (p + 1))

-- ---- records from record r on
pub length_orders : (os : List Order) (m : List ℕ) (r : ℕ) → length (put_orders m r os) ≡ length m
unfolding put_orders
length_orders [] m r = refl
length_orders (o ∷ os) m r = length_orders os (put_order m r o) (r + 1) ∙ length_order m r o

pub bytes_orders : (os : List Order) (m : List ℕ) (r : ℕ) → Bytes m → Bytes (put_orders m r os)
unfolding put_orders
bytes_orders [] m r bytes = bytes
bytes_orders (o ∷ os) m r bytes = bytes_orders os (put_order m r o) (r + 1) (bytes_order m r o bytes)

pub word_orders_other : (os : List Order) (m : List ℕ) (r j : ℕ) → (record_word r ≤ j → j < record_word (r + length os) → ⊥)
    → word_at (put_orders m r os) j ≡ word_at m j
unfolding put_orders
word_orders_other [] m r j outside = refl
word_orders_other (o ∷ os) m r j outside =
    word_orders_other os (put_order m r o) (r + 1) j (λ low high. outside (omega arith) (omega arith))
    ∙ word_order_other m r o j (λ low high. outside low (omega arith))

-- they are read back
pub orders_back : (os : List Order) (m : List ℕ) (r : ℕ) → r + length os ≤ 512 → 65536 ≤ length m → SmallOrders os
    → records_in (put_orders m r os) r (length os) ≡ os
unfolding put_orders orders_from
orders_back [] m r h long small = refl
orders_back (o ∷ os) m r h long small =
    let next : List ℕ = put_order m r o in
    let first : record_in (put_orders next (r + 1) os) r ≡ o =
    same_record (put_orders next (r + 1) os) next r (omega arith) (λ j low high. word_orders_other os next (r + 1) j (λ a b. omega arith))
    ∙ order_back m r o (omega arith) long small.0 in
    rw (first, orders_back os next (r + 1) (omega arith) (omega (arith, length_order m r o)) small.1)

-- ---- the whole form
module _ (m : List ℕ) (f : ℕ) (os : List Order) where
  abbrev placed : List ℕ
  placed = put_word (put_orders m f os) first_word f

  length_placed : length placed ≡ length m
  length_placed = length_put (put_orders m f os) first_word f ∙ length_orders os m f

  pub length_store : length (store_from m f os) ≡ length m
  unfolding store_from
  length_store = length_put placed count_word (length os) ∙ length_placed

  -- a word of neither count nor first record is as the records leave it
  word_records : (j : ℕ) → j ≢ count_word → j ≢ first_word → word_at (store_from m f os) j ≡ word_at (put_orders m f os) j
  unfolding store_from
  word_records j other apart =
      word_put_other placed count_word (length os) j other ∙ word_put_other (put_orders m f os) first_word f j apart

  module _ (low : f ≤ 256) (few : length os ≤ 256) where
    -- a word outside the count, the first record and the records is as it was
    pub word_store : (j : ℕ) → j ≢ count_word → j ≢ first_word → (record_word 0 ≤ j → j < record_word 512 → ⊥)
        → word_at (store_from m f os) j ≡ word_at m j
    word_store j other apart outside =
        word_records j other apart ∙ word_orders_other os m f j (λ a b. outside (omega arith) (omega arith))

    module _ (long : 65536 ≤ length m) where
      pub count_store : word_at (store_from m f os) count_word ≡ length os
      unfolding store_from
      count_store = word_put_same placed count_word (length os) (omega (arith, length_placed)) (omega arith)

      pub first_store : first_of (store_from m f os) ≡ f
      unfolding store_from
      first_store =
          word_put_other placed count_word (length os) first_word (λ e. omega arith)
          ∙ word_put_same (put_orders m f os) first_word f (omega (arith, length_orders os m f)) (omega arith)

      pub orders_store : SmallOrders os → open_orders (store_from m f os) ≡ os
      unfolding open_orders
      orders_store small =
          let l : List ℕ = store_from m f os in
          let e : first_of l + 0 ≡ f = omega (arith, first_store) in
          ap (orders_in l 0) count_store
          ∙ open_records l (omega (arith, first_store)) (length os) 0 (omega arith)
          ∙ ap (λ r. records_in l r (length os)) e
          ∙ same_records l (put_orders m f os) (length os) f (omega arith) (λ j a b. word_records j (λ e. omega arith) (λ e. omega arith))
          ∙ orders_back os m f (omega arith) long small
