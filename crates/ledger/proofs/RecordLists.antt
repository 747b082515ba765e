-- The orders in records, record by record; and of flat bytes cut into records, the orders that the definitions read there.
use Rattle.std.specs.Prelude.{◌+◌, ◌*◌, ◌-◌, ◌≤◌, ◌<◌, ◌≡◌, ◌≢◌, ◌∷◌}
use Rattle.std.proofs.lemmas.List.{take-map, get_or-map, drop_more, drop_all, drop-drop, length-map}
use Rattle.integers.specs.Basics.{ℕ, zero, suc, refl, ◌∙◌, ap, Option, Some, None, cond, eqb, List, [], length, get_or, take, drop, arith}
use Rattle.integers.specs.Basics.{eq-eqb, ne_eqb}
use Rattle.std.specs.Simd.{first_chunks}
use Rattle.words.specs.Words.{part_of}
use Rattle.words.proofs.Parts.{word_part}
use Rattle.ledger.specs.declared.order.Order.{Order}
use Rattle.ledger.specs.Orders.{place_from}
use Rattle.ledger.specs.Records.{id_at, detail_at, order_at, orders_from, orders_of}
use Rattle.ledger.proofs.Details.{id_at_lem}

module _ (records : List (List ℕ)) where
  pub length_orders : length (orders_of records) ≡ length records
  unfolding orders_of
  length_orders = length-map records (λ r. order_at r 0)

  pub take_orders : (n : ℕ) → take n (orders_of records) ≡ orders_of (take n records)
  unfolding orders_of
  take_orders n = take-map (λ r. order_at r 0) n records

  -- the order in record p
  pub order_in_record : (p : ℕ) (d : Order) → p < length records → get_or (orders_of records) p d ≡ order_at (get_or records p []) 0
  unfolding orders_of
  order_in_record p d h = get_or-map (λ r. order_at r 0) records p [] d h

  -- those from record p on
  pub orders_turn : (p : ℕ) → p < length records
      → drop p (orders_of records) ≡ order_at (get_or records p []) 0 ∷ drop (p + 1) (orders_of records)
  orders_turn p h =
      let o = order_at (get_or records p []) 0 in
      drop_more (orders_of records) p o (omega (arith, length_orders)) ∙ rw (order_in_record p o h)

-- ---- n records from record p of flat bytes on
record_of_bytes : (s : List ℕ) (p : ℕ) → order_at (take 16 (drop (p * 16) s)) 0 ≡ order_at s p
unfolding order_at part_of
record_of_bytes s p =
    let e : p * 2 * 8 ≡ p * 16 = omega arith in
    let same : p * 2 + 0 ≡ p * 2 = omega arith in
    let id : id_at (take 16 (drop (p * 16) s)) 0 ≡ id_at s p = rw (e, same) at (word_part s (p * 2) 2 0 (omega arith)) in
    let w : detail_at (take 16 (drop (p * 16) s)) 0 ≡ detail_at s p = rw e at (word_part s (p * 2) 2 1 (omega arith)) in
    rw (id, w)

-- so many of them are the orders there
pub orders_of_bytes : (n p : ℕ) (s : List ℕ) → orders_of (first_chunks 16 n (drop (p * 16) s)) ≡ orders_from s p n
unfolding orders_of orders_from
orders_of_bytes zero p s = refl
orders_of_bytes (suc n) p s =
    let e : p * 16 + 16 ≡ (p + 1) * 16 = omega arith in
    let rest : drop 16 (drop (p * 16) s) ≡ drop ((p + 1) * 16) s = drop-drop 16 (p * 16) s ∙ ap (λ k. drop k s) e in
    rw (record_of_bytes s p, rest, orders_of_bytes n (p + 1) s)

-- ---- the orders of flat bytes, one by one
module _ (s : List ℕ) where
  pub order_from : (n p k : ℕ) (d : Order) → k < n → get_or (orders_from s p n) k d ≡ order_at s (p + k)
  unfolding orders_from
  order_from zero p k d h = absurd (omega arith)
  order_from (suc n) p zero d h = let e : p + 0 ≡ p = omega arith in rw e
  order_from (suc n) p (suc k) d h =
      let e : p + 1 + k ≡ p + suc k = omega arith in
      order_from n (p + 1) k d (omega arith) ∙ ap (order_at s) e

  pub take_from : (n p k : ℕ) → k ≤ n → take k (orders_from s p n) ≡ orders_from s p k
  unfolding orders_from
  take_from n p zero h = refl
  take_from zero p (suc k) h = absurd (omega arith)
  take_from (suc n) p (suc k) h = rw (take_from n (p + 1) k (omega arith))

  pub drop_from : (n p k : ℕ) → k ≤ n → drop k (orders_from s p n) ≡ orders_from s (p + k) (n - k)
  unfolding orders_from
  drop_from n p zero h = let e : p + 0 ≡ p = omega arith in let f : n - 0 ≡ n = omega arith in rw (e, f)
  drop_from zero p (suc k) h = absurd (omega arith)
  drop_from (suc n) p (suc k) h =
      let e : p + 1 + k ≡ p + suc k = omega arith in
      let f : suc n - suc k ≡ n - k = omega arith in
      rw (f, ← e) (drop_from n (p + 1) k (omega arith))

-- ---- the search from place p on: what a turn of it finds
module _ (records : List (List ℕ)) (id p x : ℕ) (h : p < length records) (read : x ≡ id_at (get_or records p []) 0) where
  abbrev seek : ℕ → Option ℕ
  seek q = place_from q id (drop q (orders_of records))

  turn : seek p ≡ cond (eqb x id) (Some p) (seek (p + 1))
  unfolding place_from
  turn = rw (orders_turn records p h, id_at_lem (get_or records p []) 0, read)

  pub place_here : x ≡ id → seek p ≡ Some p
  place_here same = turn ∙ rw (eq-eqb x id same)

  pub place_on : x ≢ id → seek p ≡ seek (p + 1)
  place_on other = turn ∙ rw (ne_eqb x id other)

pub place_end : (records : List (List ℕ)) (id p : ℕ) → length records ≤ p → place_from p id (drop p (orders_of records)) ≡ None
unfolding place_from
place_end records id p h = rw (drop_all p (orders_of records) (omega (arith, length_orders records)))

pub ruleset search_turn = (place_here, place_on, place_end)
