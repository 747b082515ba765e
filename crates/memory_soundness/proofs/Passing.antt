-- The pass over the records: ids that ascend, something that remains of each order, and a detail with the bits of all.
use Rattle.std.specs.Prelude.{◌+◌, ◌*◌, ◌-◌, ◌/◌, ◌%◌, ◌≤◌, ◌<◌, ◌≡◌, ◌≢◌, ◌&&◌}
use Rattle.integers.specs.Basics.{ℕ, suc, ◌∙◌, sym, ap, by_cases, true≢false}
use native.Mathlib.Decide.{dec_le}
use Rattle.integers.specs.Basics.{zero, refl, true, length, get_or, take, drop, List, [], ltb, arith, lt-ltb, le-ltb}
use Rattle.std.specs.Simd.{first_chunks}
use Rattle.std.proofs.Common.{below_more}
use Rattle.std.proofs.lemmas.List.{get_or-take, get_or-drop, drop-drop}
use Rattle.words.specs.Words.{word_at}
use Rattle.ledger.specs.declared.order.Order.{Order}
use Rattle.ledger.specs.Orders.{remaining}
use Rattle.ledger.specs.Records.{detail_remaining, Within, order_of, id_at, detail_at, order_at, orders_from, orders_of}
use Rattle.ledger.proofs.Details.{remaining_of, order_of_lem, id_at_lem}
use Rattle.memory_layout.specs.Layout.{count_word}
use Rattle.memory_layout.specs.View.{records_of, open_orders}
use Rattle.memory_layout.specs.Stores.{order_in}
use Rattle.memory_layout.proofs.OpenRecords.{length_records, order_in_records}
use Rattle.memory_soundness.specs.Soundness.{ascend}
use Rattle.memory_soundness.specs.Each.{Each, InOrder, OutOfOrder, Remains, Stops, GoesOn, Passed}

-- ---- one record: its id and its detail
module _ (bytes : List ℕ) (last all id w : ℕ) (is_id : id ≡ id_at bytes 0) (is_detail : w ≡ detail_at bytes 0) where
  abbrev o : Order
  o = order_at bytes 0

  here : order_of id w ≡ o
  here = rw (is_id, is_detail) (sym (order_of_lem bytes 0))

  same : o.id ≡ id
  same = id_at_lem bytes 0 ∙ sym is_id

  rest : remaining o ≡ detail_remaining w
  rest = ap remaining (sym here) ∙ remaining_of id w

  pub stops_id : id ≤ last → Stops last o
  stops_id low = record { lacks = λ above some. absurd (omega (arith, same)) }

  pub stops_rest : detail_remaining w ≡ 0 → Stops last o
  stops_rest none = record { lacks = λ above some. absurd (omega (arith, rest)) }

  pub goes_on : last < id → detail_remaining w ≢ 0 → (all' : ℕ) →
      ((x : Order) → Within all x → Within all' x) × ((j : ℕ) → Within all' (order_of j w)) → GoesOn last all o id all'
  goes_on above some all' joined =
      record {
        above = omega (arith, same);
        its_id = sym same;
        remains = omega (arith, rest, some);
        within = joined.0;
        own = rw (← here) (joined.1 id);
      }

pub ruleset one_record = (stops_id, stops_rest, goes_on)

module _ (s : List ℕ) where
  -- ---- the next record
  module _ (p last all : ℕ) (past : Passed s p last all) where
    turn : (n : ℕ) → p < n
        → ascend last (orders_from s p (n - p))
        ≡ (ltb last (order_at s p).id && ascend (order_at s p).id (orders_from s (p + 1) (n - (p + 1))))
    unfolding orders_from ascend
    turn n h =
        let e : n - p ≡ suc (n - (p + 1)) = omega arith in
        rw e

    stopped : Stops last (order_at s p) → (n : ℕ) → p < n → ascend 0 (orders_from s 0 n) ≡ true
        → ((q : ℕ) → q < n → Remains (order_at s q)) → ⊥
    stopped stops n h ids remain =
        let o = order_at s p in
        by_cases (dec_le o.id last)
        (λ low. true≢false (sym ids ∙ past.ids n (omega arith) ∙ turn n h ∙ rw (le-ltb last o.id low)))
        (λ above. stops.lacks (omega (arith, above)) (remain p h))

    pub passed_more : (last' all' : ℕ) → GoesOn last all (order_at s p) last' all' → Passed s (p + 1) last' all'
    passed_more last' all' on =
        record {
          ids = λ n h. past.ids n (omega arith) ∙ turn n (omega arith) ∙ rw (lt-ltb last (order_at s p).id on.above, ← on.its_id);
          remain = below_more (λ q. Remains (order_at s q)) p past.remain on.remains;
          within =
              below_more (λ q. Within all' (order_at s q)) p (λ q l. on.within (order_at s q) (past.within q l)) on.own;
        }

-- ---- a memory
module _ (m : List ℕ) where
  ids_same : ascend 0 (orders_from (records_of m) 0 (word_at m count_word)) ≡ ascend 0 (open_orders m)
  unfolding open_orders
  ids_same = refl

  -- the records are passed up to p: the next order stops the pass, or it goes on over it, or it is at the end
  module _ (p last all : ℕ) (past : Passed (records_of m) p last all) where
    pub passed_none : (o : Order) → o ≡ order_in m p → p < word_at m count_word → Stops last o → OutOfOrder m
    passed_none o is h stops =
        record {
          lacks = λ k. stopped (records_of m) p last all past (rw is at stops) (word_at m count_word) h (ids_same ∙ k.0) k.1;
        }

    pub passed_next : (o : Order) → o ≡ order_in m p → (last' all' : ℕ) → GoesOn last all o last' all'
        → Passed (records_of m) (p + 1) last' all'
    passed_next o is last' all' on = passed_more (records_of m) p last all past last' all' (rw is at on)

    pub passed_all : p ≡ word_at m count_word → InOrder m × Each m (Within all)
    unfolding orders_from ascend
    passed_all end =
        let n = word_at m count_word in
        let none : n - p ≡ 0 = omega arith in (
          (sym ids_same ∙ past.ids n (omega arith) ∙ rw none, λ q l. past.remain q (omega arith)),
          λ q l. past.within q (omega arith),
        )

-- ---- the records in pairs, and what is then left
pair_at : {X : Type 0} (k t : ℕ) (xs : List (List X)) → t < k → get_or (first_chunks 2 k xs) t [] ≡ take 2 (drop (t * 2) xs)
pair_at zero t xs h = absurd (omega arith)
pair_at (suc k) zero xs h = refl
pair_at (suc k) (suc t) xs h =
    let e : 2 + t * 2 ≡ suc t * 2 = omega arith in
    pair_at k t (drop 2 xs) (omega arith) ∙ ap (take 2) (drop-drop (t * 2) 2 xs ∙ ap (λ j. drop j xs) e)

module _ (m : List ℕ) (records : List (List ℕ)) (are : orders_of records ≡ open_orders m) where
  module _ (pairs : List (List (List ℕ))) (is : pairs ≡ first_chunks 2 (length records / 2) records) (t : ℕ)
      (h : t < length records / 2) where
    in_pair : (j : ℕ) → j < 2 → get_or (get_or pairs t []) j [] ≡ get_or records (t * 2 + j) []
    in_pair j l =
        rw (is, pair_at (length records / 2) t records h)
        (get_or-take 2 (drop (t * 2) records) j [] l ∙ get_or-drop (t * 2) records j [])

    pub first_in_pair : order_at (get_or (get_or pairs t []) 0 []) 0 ≡ order_in m (t * 2)
    first_in_pair =
        let e : t * 2 + 0 ≡ t * 2 = omega arith in
        rw (in_pair 0 (omega arith), e) (order_in_records m records are (t * 2) (omega (arith, length_records m records are)))

    pub second_in_pair : order_at (get_or (get_or pairs t []) 1 []) 0 ≡ order_in m (t * 2 + 1)
    second_in_pair =
        rw (in_pair 1 (omega arith)) (order_in_records m records are (t * 2 + 1) (omega (arith, length_records m records are)))

  -- behind t pairs
  module _ (rest : List (List ℕ)) (is : rest ≡ drop (length records / 2 * 2) records) (long : length rest ≡ length records % 2) (t : ℕ)
      (end : t ≡ length records / 2) where
    -- one record is left
    pub order_left : (bytes : List ℕ) → bytes ≡ get_or rest 0 [] → 0 < length rest
        → (order_at bytes 0 ≡ order_in m (t * 2)) × (t * 2 + 1 ≡ word_at m count_word)
    order_left bytes here some =
        let count = length_records m records are in
        let e : length records / 2 * 2 + 0 ≡ t * 2 = omega (arith, end) in (
          rw (here, is, get_or-drop (length records / 2 * 2) records 0 [], e)
              (order_in_records m records are (t * 2) (omega (arith, count, long, end))),
          omega (arith, count, long, end),
        )

    -- or none
    pub none_left : length rest ≤ 0 → t * 2 ≡ word_at m count_word
    none_left none = omega (arith, length_records m records are, long, end)
