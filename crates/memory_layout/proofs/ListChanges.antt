-- An order joins, leaves or becomes another: with the records on one side of it moved, the memory is `store_from` of the book's list.
use Rattle.std.specs.Prelude.{◌+◌, ◌*◌, ◌-◌, ◌≤◌, ◌<◌, ◌≡◌, ◌⊎◌, ◌≢◌, ◌∷◌, ◌++◌}
use Rattle.integers.specs.Basics.{ℕ, ◌∙◌, sym, ap, true, false, cond, List, [], ltb, eqb}
use Rattle.integers.specs.Basics.{length, set, length-set, arith, ltb-true, eq-eqb, ne_eqb}
use mathlib.Core.List.{append_assoc}
use lib.ListN.{length-append}
use Rattle.words.specs.Bytes.{Bytes}
use Rattle.words.specs.Words.{word_at, put_word, part_of}
use Rattle.words.proofs.Memory.{put_back}
use Rattle.ledger.specs.declared.order.Order.{Order}
use Rattle.book.specs.OpenOrders.{insert}
use Rattle.memory_layout.specs.Layout.{count_word, first_word, orders_word}
use Rattle.memory_layout.specs.View.{first_of, open_orders}
use Rattle.memory_layout.specs.Stores.{records_in, put_order, put_orders, store_from, joined_first, left_first, RoomFor, Records, rank}
use Rattle.memory_layout.specs.Stores.{without}
use Rattle.memory_layout.proofs.OrderRecords.{same_records, bytes_order, word_order_other, open_records}
use Rattle.memory_layout.proofs.Stored.{length_orders_from, word_orders_other}
use Rattle.memory_layout.proofs.Apart.{past_orders}
use Rattle.memory_layout.proofs.Pieces.{cut_insert, cut_set, cut_without}
use Rattle.memory_layout.proofs.Shifting.{puts_both, first_stands, last_stands}
use Rattle.memory_layout.proofs.Lengths.{length_insert, length_without, length_open}
use Rattle.memory_layout.proofs.FirstRecord.{side_before, side_behind}

module _ (m : List ℕ) (bytes : Bytes m) (records : Records m) where
  abbrev count : ℕ
  count = word_at m count_word

  abbrev first : ℕ
  first = first_of m

  in_records : open_orders m ≡ records_in m first count
  unfolding open_orders
  in_records =
      let e : first + 0 ≡ first = omega arith in
      open_records m records.first count 0 (omega (arith, records.count)) ∙ ap (λ r. records_in m r count) e

  -- ---- an order joins
  module _ (p : ℕ) (low : p ≤ count) (l : List ℕ) where
    with_order : (o : Order) → p ≡ rank o.id (open_orders m)
        → insert o (open_orders m) ≡ records_in m first p ++ (o ∷ records_in m (first + p) (count - p))
    with_order o is =
        let here : p ≡ rank o.id (records_in m first count) = rw in_records at is in
        ap (insert o) in_records
        ∙ cut_insert (part_of m orders_word 1024) o count first
        ∙ rw (← here)

    -- the records before its place moved down
    room_before : 0 < first → l ≡ put_orders m (first - 1) (records_in m (first - 1 + 1) p) → RoomFor m l (first - 1) p
    unfolding put_orders
    room_before some moved o is =
        let e : first - 1 + 1 ≡ first = omega arith in
        let f : ℕ = first - 1 in
        let before : List Order = records_in m first p in
        let behind : List Order = records_in m (first + p) (count - p) in
        let many : length before ≡ p = length_orders_from (part_of m orders_word 1024) p first in
        let down : List ℕ = put_orders m f before in
        ap (λ x. put_order x (f + p) o) (rw e at moved)
        ∙ sym (puts_both before (o ∷ []) m f ∙ ap (λ n. put_orders down (f + n) (o ∷ [])) many)
        ∙ sym (last_stands m bytes (before ++ (o ∷ [])) f (first + p) (count - p) (omega (arith, many, length-append before (o ∷ [])))
        (omega (arith, records.count, records.first)))
        ∙ ap (put_orders m f) (append_assoc before (o ∷ []) behind ∙ sym (with_order o is))

    -- those from its place on moved up
    room_behind : count < 256 → l ≡ put_orders m (first + p + 1) (records_in m (first + p) (count - p)) → RoomFor m l first p
    unfolding put_orders
    room_behind few moved o is =
        ap (λ x. put_order x (first + p) o) moved
        ∙ past_orders (records_in m (first + p) (count - p)) m (first + p) (first + p + 1) o (omega arith)
        ∙ sym (first_stands m bytes first p (o ∷ records_in m (first + p) (count - p)) (omega (arith, records.first)))
        ∙ ap (put_orders m first) (sym (with_order o is))

    -- all copied to the start of the region, with a gap
    room_again : first ≡ 256 → count < 256 → (a : List ℕ) → a ≡ put_orders m 0 (records_in m 256 p)
        → l ≡ put_orders a (p + 1) (records_in a (256 + p) (count - p)) → RoomFor m l 0 p
    unfolding put_orders
    room_again end few a before behind o is =
        let z : 0 + p ≡ p = omega arith in
        let many : length (records_in m 256 p) ≡ p = length_orders_from (part_of m orders_word 1024) p 256 in
        let same : records_in a (256 + p) (count - p) ≡ records_in m (256 + p) (count - p) =
        same_records a m (count - p) (256 + p) (omega arith)
        (λ j low high. rw before (word_orders_other (records_in m 256 p) m 0 j (λ x y. omega arith))) in
        let cut = with_order o is in
        rw (z, behind, same)
        (past_orders (records_in m (256 + p) (count - p)) a p (p + 1) o (omega arith)
        ∙ sym (ap (put_orders m 0) (rw end at cut) ∙ puts_both (records_in m 256 p) (o ∷ records_in m (256 + p) (count - p)) m 0
        ∙ rw (many, z, ← before)))

    -- what is told of the first record
    module _ (n f : ℕ) (en : n ≡ count) (ef : f ≡ first) where
      pub joins_before : p * 2 < n → ltb 0 f ≡ true → l ≡ put_orders m (f - 1) (records_in m (f - 1 + 1) p) → (f - 1 ≡ joined_first m p)
          × RoomFor m l (f - 1) p
      unfolding joined_first
      joins_before near some moved =
          rw ef (
            sym (side_before (first - 1) (cond (eqb first 256) 0 first) (p * 2) count (ltb 0 first) (omega arith) (rw ef at some)),
            room_before (omega (arith, ltb-true 0 f some)) (rw ef at moved),
          )

      pub joins_behind : n < 256 → ((p * 2 < n) × (ltb 0 f ≡ false)) ⊎ (n ≤ p * 2) → f ≢ 256
          → l ≡ put_orders m (f + p + 1) (records_in m (f + p) (n - p)) → (f ≡ joined_first m p) × RoomFor m l f p
      unfolding joined_first
      joins_behind few far room moved =
          let stays : cond (eqb first 256) 0 first ≡ first = rw (ne_eqb first 256 (λ e. room (ef ∙ e))) in
          rw ef (
            sym (side_behind (first - 1) (cond (eqb first 256) 0 first) (p * 2) count (ltb 0 first) (rw (ef, en) at far) ∙ stays),
            room_behind (omega arith) (rw (ef, en) at moved),
          )

      pub joins_again : n < 256 → ((p * 2 < n) × (ltb 0 f ≡ false)) ⊎ (n ≤ p * 2) → f ≡ 256 → (a : List ℕ)
          → a ≡ put_orders m 0 (records_in m 256 p) → l ≡ put_orders a (p + 1) (records_in a (256 + p) (n - p)) → (0 ≡ joined_first m p)
          × RoomFor m l 0 p
      unfolding joined_first
      joins_again few far last a before behind =
          let end : first ≡ 256 = sym ef ∙ last in
          let goes : cond (eqb first 256) 0 first ≡ 0 = rw (eq-eqb first 256 end) in (
            sym (side_behind (first - 1) (cond (eqb first 256) 0 first) (p * 2) count (ltb 0 first) (rw (ef, en) at far) ∙ goes),
            room_again end (omega arith) a before (rw en at behind),
          )

  pub joined_by : (o : Order) (n p f : ℕ) (room put marked after : List ℕ) → n ≡ count → p ≡ rank o.id (open_orders m)
      → RoomFor m room f p → put ≡ put_order room (f + p) o → marked ≡ put_word put first_word f
      → after ≡ put_word marked count_word (n + 1)
      → after ≡ store_from m f (insert o (open_orders m))
  unfolding store_from
  joined_by o n p f room put marked after en ep er eo ef ea =
      let long : length (insert o (open_orders m)) ≡ n + 1 = length_insert o (open_orders m) ∙ omega (arith, length_open m) in
      rw (ea, ef, eo, er o ep, long)

  -- ---- an order leaves
  module _ (p : ℕ) (h : p < count) where
    without_order : without p (open_orders m) ≡ records_in m first p ++ records_in m (first + p + 1) (count - (p + 1))
    without_order = ap (without p) in_records ∙ cut_without (part_of m orders_word 1024) p count first h

    module _ (l : List ℕ) where
      -- the records before its place moved up
      gap_before : first < 256 → l ≡ put_orders m (first + 1) (records_in m first p)
          → l ≡ put_orders m (first + 1) (without p (open_orders m))
      gap_before room moved =
          moved
          ∙ sym (last_stands m bytes (records_in m first p) (first + 1) (first + p + 1) (count - (p + 1))
          (omega (arith, length_orders_from (part_of m orders_word 1024) p first)) (omega (arith, records.count)))
          ∙ ap (put_orders m (first + 1)) (sym without_order)

      -- those behind it moved down
      gap_behind : l ≡ put_orders m (first + p) (records_in m (first + p + 1) (count - (p + 1)))
          → l ≡ put_orders m first (without p (open_orders m))
      gap_behind moved =
          moved
          ∙ sym (first_stands m bytes first p (records_in m (first + p + 1) (count - (p + 1)))
          (omega (arith, records.count, records.first)))
          ∙ ap (put_orders m first) (sym without_order)

      -- what is told of the first record
      module _ (n f : ℕ) (en : n ≡ count) (ef : f ≡ first) where
        pub leaves_before : p * 2 < n → ltb f 256 ≡ true → l ≡ put_orders m (f + 1) (records_in m f p) → (f + 1 ≡ left_first m p)
            × (l ≡ put_orders m (f + 1) (without p (open_orders m)))
        unfolding left_first
        leaves_before near some moved =
            rw ef (
              sym (side_before (first + 1) first (p * 2) count (ltb first 256) (omega arith) (rw ef at some)),
              gap_before (omega (arith, ltb-true f 256 some)) (rw ef at moved),
            )

        pub leaves_behind : ((p * 2 < n) × (ltb f 256 ≡ false)) ⊎ (n ≤ p * 2)
            → l ≡ put_orders m (f + p) (records_in m (f + p + 1) (n - (p + 1))) → (f ≡ left_first m p)
            × (l ≡ put_orders m f (without p (open_orders m)))
        unfolding left_first
        leaves_behind far moved =
            rw ef
            (sym (side_behind (first + 1) first (p * 2) count (ltb first 256) (rw (ef, en) at far)), gap_behind (rw (ef, en) at moved))

    pub left_by : (n f : ℕ) (closed marked after : List ℕ) → n ≡ count → closed ≡ put_orders m f (without p (open_orders m))
        → marked ≡ put_word closed first_word f → after ≡ put_word marked count_word (n - 1)
        → after ≡ store_from m f (without p (open_orders m))
    unfolding store_from
    left_by n f closed marked after en ec ef ea =
        let long : length (without p (open_orders m)) ≡ n - 1 = length_without p (open_orders m) (omega (arith, length_open m))
        ∙ omega (arith, length_open m) in
        rw (ea, ef, ec, long)

    -- ---- an order becomes another
    pub changed : (o : Order) → put_order m (first + p) o ≡ store_from m first (set (open_orders m) p o)
    unfolding store_from put_orders
    changed o =
        let l : List ℕ = put_order m (first + p) o in
        let after : List Order = records_in m (first + p + 1) (count - (p + 1)) in
        let os : List Order = set (open_orders m) p o in
        let cut : os ≡ records_in m first p ++ (o ∷ after) = ap (λ xs. set xs p o) in_records
        ∙ cut_set (part_of m orders_word 1024) o p count first h in
        let stored : put_orders m first os ≡ l =
        ap (put_orders m first) cut
        ∙ first_stands m bytes first p (o ∷ after) (omega (arith, records.count, records.first))
        ∙ last_stands m bytes (o ∷ []) (first + p) (first + p + 1) (count - (p + 1)) (omega arith)
        (omega (arith, records.count, records.first)) in
        let long : length os ≡ count = length-set (open_orders m) p o ∙ length_open m in
        let same_first : word_at l first_word ≡ first = word_order_other m (first + p) o first_word (λ a b. omega arith) in
        let same_count : word_at l count_word ≡ count = word_order_other m (first + p) o count_word (λ a b. omega arith) in
        let placed : put_word l first_word first ≡ l = ap (put_word l first_word) (sym same_first)
        ∙ put_back l first_word (bytes_order m (first + p) o bytes) in
        rw (long, stored, placed) (sym (put_back l count_word (bytes_order m (first + p) o bytes)) ∙ ap (put_word l count_word) same_count)
