-- The orders of the records loaded into a list, place by place, and what they count for.
use Rattle.std.specs.Prelude.{◌+◌, ◌≤◌, ◌<◌, ◌≡◌, ◌+ℤ◌}
use Rattle.integers.specs.Basics.{ℕ, zero, suc, refl, ◌∙◌, sym, by_cases, List, [], pos, nat_abs, +ℤ_idl, length, get_or, set, take}
use Rattle.integers.specs.Basics.{replicate, length-set, ℕ_discrete, arith}
use native.Mathlib.Numerals.{add-one}
use lib.ListN.{length-replicate}
use lib.Seq.{get_or-set_same, get_or-set_other}
use Rattle.ledger.specs.declared.order.Order.{Order}
use Rattle.ledger.specs.declared.order.Side.{Side}
use Rattle.ledger.specs.Positions.{open_on}
use Rattle.ledger.specs.Records.{order_at, orders_of}
use Rattle.ledger.proofs.RecordLists.{length_orders, order_in_record}
use Rattle.ledger.specs.Derivatives.{one, counted}
use Rattle.positions.proofs.Counting.{left, counted_more, counted_all}
use Rattle.order_list.specs.OrderList.{no_order, order_in, loaded_to, counted_to}
use Rattle.order_list.proofs.Sums.{counted_none, counted_next, counted_front}

module _ (orders : List Order) (records : List (List ℕ)) where
  pub loaded_none : loaded_to orders records 0 ≡ orders
  unfolding loaded_to
  loaded_none = refl

  pub loaded_next : (p : ℕ) → set (loaded_to orders records p) p (order_at (get_or records p []) 0) ≡ loaded_to orders records (p + 1)
  unfolding loaded_to
  loaded_next p = rw add-one

  pub loaded_length : (p : ℕ) → length (loaded_to orders records p) ≡ length orders
  unfolding loaded_to
  loaded_length zero = refl
  loaded_length (suc p) =
      length-set (loaded_to orders records p) p (order_at (get_or records p []) 0) ∙ loaded_length p

  -- each loaded place holds the order of its record
  loaded_at : (n p : ℕ) → n ≤ length orders → p < n → order_in (loaded_to orders records n) p ≡ order_at (get_or records p []) 0
  unfolding loaded_to
  loaded_at zero p long h = absurd (omega arith)
  loaded_at (suc n) p long h =
      let list = loaded_to orders records n in
      let o = order_at (get_or records n []) 0 in
      by_cases (ℕ_discrete p n) (λ e. rw e (get_or-set_same list n o no_order (omega (arith, loaded_length n))))
      (λ other. get_or-set_other list n p o no_order other ∙ loaded_at n p (omega arith) (omega (arith, other)))

  module _ (long : length records ≤ length orders) (s : Side) (a i : ℕ) where
    abbrev os : List Order
    os = orders_of records

    -- what the places before p count for, with what is left of the records, makes the whole
    counted_so_far : (p : ℕ) → p ≤ length records
        → pos (counted_to (loaded_to orders records (length records)) p s a i) +ℤ left os s a i p ≡ left os s a i 0
    counted_so_far zero h = rw (counted_none (loaded_to orders records (length records)) s a i) (+ℤ_idl _)
    counted_so_far (suc p) h =
        let list = loaded_to orders records (length records) in
        let o = order_in list p in
        let is : o ≡ order_at (get_or records p []) 0 = loaded_at (length records) p long (omega arith) in
        let here : get_or os p o ≡ o = order_in_record records p o (omega arith) ∙ sym is in
        let more = counted_more os s a i (counted_to list p s a i) p (counted o s a i) o (omega (arith, length_orders records)) here refl
        (counted_so_far p (omega arith)) in
        rw (← add-one, ← counted_next list s a i p) more

-- the list of 256 places, all free, with the orders of the records loaded
unfoldable pub listed : List (List ℕ) → List Order
listed records = loaded_to (replicate 256 no_order) records (length records)

module _ (records : List (List ℕ)) (few : length records ≤ 256) where
  long : length records ≤ length (replicate 256 no_order)
  long = rw (length-replicate 256 no_order) few

  pub loaded_free : loaded_to (replicate 256 no_order) records (length records) ≡ listed records
  unfolding listed
  loaded_free = refl

  pub listed_length : length (listed records) ≡ 256
  unfolding listed
  listed_length = loaded_length (replicate 256 no_order) records (length records) ∙ length-replicate 256 no_order

  -- what its first orders count for is B or V of the records
  module _ (list : List Order) (is : list ≡ listed records) (s : Side) (a i : ℕ) where
    abbrev first : List Order
    first = take (length records) list

    pub listed_open : pos (counted_to first (length first) s a i) ≡ open_on one (orders_of records) s a i
    unfolding listed
    listed_open =
        let n = length records in
        let same : counted_to first (length first) s a i ≡ counted_to (listed records) n s a i =
        rw is (counted_front (listed records) n (omega (arith, few, listed_length)) s a i) in
        rw same (counted_all (orders_of records) s a i _ n (omega (arith, length_orders records))
        (counted_so_far (replicate 256 no_order) records long s a i n (omega arith)))

    pub listed_small : nat_abs (open_on one (orders_of records) s a i) ≤ 9000000000000000000
        → counted_to first (length first) s a i ≤ 9000000000000000000
    listed_small h = rw (← listed_open) at h
