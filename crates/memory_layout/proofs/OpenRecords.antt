-- The records of the open orders as a slice: how many there are, and what each says.
use Rattle.std.specs.Prelude.{◌+◌, ◌-◌, ◌/◌, ◌≤◌, ◌<◌, ◌≡◌}
use Rattle.integers.specs.Basics.{ℕ, ◌∙◌, sym, ap, List, [], length, get_or, take, drop, arith}
use Rattle.std.specs.Simd.{first_chunks}
use Rattle.words.specs.Words.{word_at}
use Rattle.ledger.specs.declared.order.Order.{Order}
use Rattle.ledger.specs.Records.{id_at, detail_at, order_of, order_at, orders_from, orders_of}
use Rattle.ledger.proofs.Details.{id_at_lem, order_of_lem}
use Rattle.ledger.proofs.RecordLists.{length_orders, take_orders, order_in_record, orders_of_bytes, order_from, take_from, drop_from}
use Rattle.memory_layout.specs.Layout.{count_word}
use Rattle.memory_layout.specs.View.{records_of, open_orders}
use Rattle.memory_layout.specs.Stores.{order_in, Records}
use Rattle.memory_layout.proofs.OrderRecords.{records_long}
use Rattle.memory_layout.proofs.Stored.{length_orders_from}
use Rattle.memory_layout.proofs.Lengths.{length_open}

-- ---- the region from the first record in use on, of 256 records
pub region_cut : (m cut : List ℕ) (n : ℕ) → cut ≡ records_of m → Records m → n ≡ length cut / 16
    → first_chunks 16 n cut ≡ first_chunks 16 256 (records_of m)
region_cut m cut n is h e =
    let count : n ≡ 256 = omega (arith, ap length is, records_long m h) in
    rw (is, count)

module _ (m : List ℕ) (region : List (List ℕ)) (is : region ≡ first_chunks 16 256 (records_of m)) where
  all_orders : orders_of region ≡ orders_from (records_of m) 0 256
  all_orders = rw is (orders_of_bytes 256 0 (records_of m))

  pub length_region : length region ≡ 256
  length_region = sym (length_orders region) ∙ ap length all_orders ∙ length_orders_from (records_of m) 256 0

  -- its record p is that of the order at place p
  pub order_in_region : (p : ℕ) → p < 256 → order_at (get_or region p []) 0 ≡ order_in m p
  order_in_region p h =
      let o = order_in m p in
      let e : 0 + p ≡ p = omega arith in
      sym (order_in_record region p o (omega (arith, length_region))) ∙ rw all_orders (rw e at (order_from (records_of m) 256 0 p o h))

  pub id_in_region : (p : ℕ) → p < 256 → id_at (get_or region p []) 0 ≡ (order_in m p).id
  id_in_region p h = sym (id_at_lem (get_or region p []) 0) ∙ ap (λ (o : Order). o.id) (order_in_region p h)

  pub detail_in_region : (p w : ℕ) → p < 256 → w ≡ detail_at (get_or region p []) 0 → order_of (order_in m p).id w ≡ order_in m p
  detail_in_region p w h e =
      ap (λ id. order_of id w) (sym (id_in_region p h)) ∙ rw e (sym (order_of_lem (get_or region p []) 0)) ∙ order_in_region p h

  -- its first records are those in use
  pub records_in_use : (n : ℕ) → n ≡ length (open_orders m) → Records m → orders_of (take n region) ≡ open_orders m
  unfolding open_orders
  records_in_use n e h =
      let count : n ≡ word_at m count_word = e ∙ length_orders_from (records_of m) (word_at m count_word) 0 in
      sym (take_orders region n) ∙ rw (all_orders, count) (take_from (records_of m) 256 0 (word_at m count_word) h.count)

-- ---- the records in use
module _ (m : List ℕ) (records : List (List ℕ)) (is : orders_of records ≡ open_orders m) where
  pub length_records : length records ≡ word_at m count_word
  length_records = sym (length_orders records) ∙ ap length is ∙ length_open m

  pub order_in_records : (p : ℕ) → p < word_at m count_word → order_at (get_or records p []) 0 ≡ order_in m p
  unfolding open_orders
  order_in_records p h =
      let o = order_in m p in
      let e : 0 + p ≡ p = omega arith in
      sym (order_in_record records p o (omega (arith, length_records)))
      ∙ rw is (rw e at (order_from (records_of m) (word_at m count_word) 0 p o h))

  pub id_in_records : (p : ℕ) → p < word_at m count_word → id_at (get_or records p []) 0 ≡ (order_in m p).id
  id_in_records p h = sym (id_at_lem (get_or records p []) 0) ∙ ap (λ (o : Order). o.id) (order_in_records p h)

  pub open_order : (p w : ℕ) (d : Order) → p < word_at m count_word → w ≡ detail_at (get_or records p []) 0
      → get_or (open_orders m) p d ≡ order_of (id_at (get_or records p []) 0) w
  open_order p w d h e =
      rw (← is, e) (order_in_record records p d (omega (arith, length_records)) ∙ order_of_lem (get_or records p []) 0)

  -- those from `from` on and before `to`
  pub orders_between : (from to : ℕ) → from ≤ to → to ≤ word_at m count_word
      → drop from (orders_of (take to records)) ≡ orders_from (records_of m) from (to - from)
  unfolding open_orders
  orders_between from to low high =
      let e : 0 + from ≡ from = omega arith in
      rw (← take_orders records to, is, take_from (records_of m) (word_at m count_word) 0 to high)
      (rw e at (drop_from (records_of m) to 0 from low))
