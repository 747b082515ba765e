-- The search by id among records whose ids ascend: what the id in a record says of the records before it and behind it.
use Rattle.std.specs.Prelude.{◌+◌, ◌*◌, ◌-◌, ◌/◌, ◌≤◌, ◌<◌, ◌≡◌, ◌≢◌, ◌∷◌, min}
use Rattle.std.specs.List.{count_by, sum_by, range_with_len}
use Rattle.std.proofs.lemmas.Bool.{leb-false}
use Rattle.std.specs.Simd.{first_chunks}
use Rattle.std.proofs.lemmas.List.{drop_more, drop-drop, get_or-take, get_or-drop}
use Rattle.std.proofs.lemmas.List.Sums.{sum_by-cons}
use Rattle.integers.specs.Basics.{ℕ, zero, suc, refl, ◌∙◌, sym, ap, by_cases, Bool, true, false, cond, true≢false, List, [], ℕ_discrete}
use Rattle.integers.specs.Basics.{length, get_or, take, drop}
use Rattle.integers.specs.Basics.{Option, None, Some, ltb, leb, arith, lt-ltb, le-ltb, ltb-true, ltb-false, le-leb, leb-true}
use native.Mathlib.Decide.{dec_le}
use Rattle.words.specs.Words.{word_at}
use Rattle.ledger.specs.declared.order.Order.{Order}
use Rattle.ledger.specs.Orders.{place_from}
use Rattle.ledger.specs.Records.{id_at, order_at, orders_from, orders_of}
use Rattle.ledger.proofs.Ways.{by_test}
use Rattle.ledger.proofs.Search.{NotIn, seek, seek_all, seek_here, seek_nowhere, seek_between, passed}
use Rattle.book.specs.Sound.{Ascending, next}
use Rattle.memory_layout.specs.Layout.{count_word}
use Rattle.memory_layout.specs.View.{records_of, open_orders}
use Rattle.memory_layout.specs.Stores.{order_in, rank}
use Rattle.memory_layout.proofs.Lengths.{rank_open}
use Rattle.memory_layout.proofs.OpenRecords.{length_records, id_in_records, orders_between}

ascending_out : {least : ℕ} {o : Order} {os : List Order} → Ascending least (o ∷ os) → (least < o.id) × Ascending o.id os
ascending_out (next l a) = (l, a)

-- ---- the records s from p on
module _ (s : List ℕ) where
  -- their ids are above what they ascend from, and each is above those before it
  above : (n p q least : ℕ) → Ascending least (orders_from s p n) → p ≤ q → q < p + n → least < (order_at s q).id
  unfolding orders_from
  above zero p q least up low high = absurd (omega arith)
  above (suc n) p q least up low high =
      let later = above n (p + 1) q (order_at s p).id (ascending_out up).1 in
      by_cases (ℕ_discrete p q) (λ here. rw (← here) (ascending_out up).0)
      (λ other. omega (arith, (ascending_out up).0, later (omega arith) (omega arith)))

  rises : (n p q r least : ℕ) → Ascending least (orders_from s p n) → p ≤ q → q < r → r < p + n → (order_at s q).id < (order_at s r).id
  unfolding orders_from
  rises zero p q r least up low less high = absurd (omega arith)
  rises (suc n) p q r least up low less high =
      by_cases (ℕ_discrete p q)
      (λ here. rw (← here) (above n (p + 1) r (order_at s p).id (ascending_out up).1 (omega arith) (omega arith)))
      (λ other. rises n (p + 1) q r (order_at s p).id (ascending_out up).1 (omega arith) less (omega arith))

  module _ (id : ℕ) where
    rank_more : (n p : ℕ) → (order_at s p).id ≤ id → rank id (orders_from s p (suc n)) ≡ suc (rank id (orders_from s (p + 1) n))
    unfolding rank orders_from
    rank_more n p h = simp (le-ltb id (order_at s p).id h)

    rank_none : (n p : ℕ) → id < (order_at s p).id → rank id (orders_from s p (suc n)) ≡ 0
    unfolding rank orders_from
    rank_none n p h = simp (lt-ltb id (order_at s p).id h)

    -- a larger id is not before the place
    not_before : (n p q : ℕ) → p ≤ q → q < p + n → id < (order_at s q).id → p + rank id (orders_from s p n) ≤ q
    not_before zero p q low high larger = absurd (omega arith)
    not_before (suc n) p q low high larger =
        by_cases (dec_le (order_at s p).id id)
        (λ small. let other : p ≢ q = λ e. absurd (omega (arith, ap (λ r. (order_at s r).id) e)) in
        omega (arith, rank_more n p small, not_before n (p + 1) q (omega arith) (omega arith) larger))
        (λ large. omega (arith, rank_none n p (omega (arith, large))))

    -- any other is
    before : (n p q least : ℕ) → Ascending least (orders_from s p n) → p ≤ q → q < p + n → (order_at s q).id ≤ id
        → q < p + rank id (orders_from s p n)
    unfolding orders_from
    before zero p q least up low high small = absurd (omega arith)
    before (suc n) p q least up low high small =
        let later = before n (p + 1) q (order_at s p).id (ascending_out up).1 in
        by_cases (ℕ_discrete p q) (λ here. omega (arith, rank_more n p (rw here small)))
        (λ other. let l = above n (p + 1) q (order_at s p).id (ascending_out up).1 (omega arith) (omega arith) in
        omega (arith, rank_more n p (omega arith), later (omega arith) (omega arith) small))

-- ---- the open orders
module _ (m : List ℕ) (id : ℕ) where
  abbrev count : ℕ
  count = word_at m count_word

  -- x is the id of the order at place q
  module _ (q x : ℕ) (inside : q < count) (read : x ≡ (order_in m q).id) where
    pub at_larger : id < x → rank id (open_orders m) ≤ q
    unfolding open_orders
    at_larger h = omega (arith, not_before (records_of m) id count 0 q (omega arith) (omega arith) (omega arith))

    pub at_other : Ascending 0 (open_orders m) → x ≤ id → q < rank id (open_orders m)
    unfolding open_orders
    at_other up h = omega (arith, before (records_of m) id count 0 q 0 up (omega arith) (omega arith) (omega arith))

  module _ (up : Ascending 0 (open_orders m)) where
    pub ids_rise : (q r : ℕ) → q < r → r < count → (order_in m q).id < (order_in m r).id
    unfolding open_orders
    ids_rise q r less high = rises (records_of m) count 0 q r 0 up (omega arith) less (omega arith)

    -- the first larger id is not further behind a place whose id is not smaller
    rank_behind : (r : ℕ) → r < count → id ≤ (order_in m r).id → rank id (open_orders m) ≤ r + 1
    rank_behind r high large =
        by_cases (dec_le count (r + 1)) (λ last. omega (arith, rank_open m id))
        (λ more. let inside : r + 1 < count = omega (arith, more) in
        at_larger (r + 1) _ inside refl (omega (arith, ids_rise r (r + 1) (omega arith) inside)))

    -- the order with the id, if there is one, stands just before the place p of the first larger id
    module _ (p x : ℕ) (is : p ≡ rank id (open_orders m)) (read : x ≡ (order_in m (p - 1)).id) where
      pub found_before : 1 ≤ p → x ≡ id → place_from 0 id (open_orders m) ≡ Some (p - 1)
      unfolding open_orders
      found_before h same =
          let s : List ℕ = records_of m in
          let inside : p - 1 < count = omega (arith, rank_open m id) in
          let e : 0 + (p - 1) ≡ p - 1 = omega arith in
          sym (seek_all s count id)
          ∙ passed s count id (p - 1) 0 (omega arith) (λ q low less there. omega (arith, ids_rise q (p - 1) (omega arith) inside))
          ∙ ap (seek s count id) e
          ∙ seek_here s count id (p - 1) x inside read same

      pub found_none : (1 ≤ p → x ≢ id) → place_from 0 id (open_orders m) ≡ None
      unfolding open_orders
      found_none other =
          let s : List ℕ = records_of m in
          sym (seek_all s count id)
          ∙ seek_nowhere s count id 0 (omega arith)
          (λ q low high same. let there = at_other q _ high refl up (omega arith) in
          by_cases (ℕ_discrete (q + 1) p)
          (λ last. let e : q ≡ p - 1 = omega arith in other (omega arith) (read ∙ ap (λ r. (order_in m r).id) (sym e) ∙ same))
          (λ earlier. omega (arith, earlier, rank_behind q high (omega arith))))

-- ---- what the search finds from `from` on, just before the place p of the first larger id, is what there is to find
module _ (m : List ℕ) (id : ℕ) (up : Ascending 0 (open_orders m)) (from p : ℕ) (is : p ≡ rank id (open_orders m))
    (starts : from ≡ p - 1) where
  none_earlier : NotIn (records_of m) id 0 from
  none_earlier q low high same = omega (arith, rank_behind m id up q (omega (arith, rank_open m id)) (omega arith))

  none_later : NotIn (records_of m) id p (word_at m count_word)
  none_later q low high same = omega (arith, at_other m id q _ high refl up (omega arith))

  pub found_at_rank : (f : Option ℕ) (records : List (List ℕ)) → orders_of records ≡ open_orders m
      → f ≡ place_from from id (drop from (orders_of (take p records))) → f ≡ place_from 0 id (open_orders m)
  unfolding open_orders seek
  found_at_rank f records are found =
      rw (orders_between m records are from p (omega arith) (omega (arith, rank_open m id))) at found
      ∙ seek_between (records_of m) id (word_at m count_word) p (omega (arith, rank_open m id)) none_later from (omega arith) none_earlier
      ∙ seek_all (records_of m) (word_at m count_word) id

-- ---- n elements of a list from `from` on, by their places
sum_between : (f : List ℕ → ℕ) (xs : List (List ℕ)) (n from : ℕ) → from + n ≤ length xs
    → sum_by f (take n (drop from xs)) ≡ sum_by (λ p. f (get_or xs p [])) (range_with_len from n)
sum_between f xs zero from h = refl
sum_between f xs (suc n) from h =
    let x = get_or xs from [] in
    rw (drop_more xs from [] (omega arith))
    (sum_by-cons f x (take n (drop (from + 1) xs))
    ∙ rw (sum_between f xs n (from + 1) (omega arith)) (sym (sum_by-cons (λ p. f (get_or xs p [])) from (range_with_len (from + 1) n))))

-- ---- the last elements of k blocks of sixteen from block `from` on, by their places
sum_blocks : (f : List ℕ → ℕ) (xs : List (List ℕ)) (k from : ℕ)
    → sum_by (λ c. f (get_or c 15 [])) (first_chunks 16 k (drop (from * 16) xs))
    ≡ sum_by (λ b. f (get_or xs (b * 16 + 15) [])) (range_with_len from k)
sum_blocks f xs zero from = refl
sum_blocks f xs (suc k) from =
    let ys = drop (from * 16) xs in
    let e : from * 16 + 16 ≡ (from + 1) * 16 = omega arith in
    let rest : drop 16 ys ≡ drop ((from + 1) * 16) xs = drop-drop 16 (from * 16) xs ∙ ap (λ j. drop j xs) e in
    let last : get_or (take 16 ys) 15 [] ≡ get_or xs (from * 16 + 15) [] =
    get_or-take 16 ys 15 [] (omega arith) ∙ get_or-drop (from * 16) xs 15 [] in
    sum_by-cons (λ c. f (get_or c 15 [])) (take 16 ys) (first_chunks 16 k (drop 16 ys))
    ∙ ap (λ r. f r + sum_by (λ c. f (get_or c 15 [])) (first_chunks 16 k (drop 16 ys))) last
    ∙ ap (λ zs. f (get_or xs (from * 16 + 15) []) + sum_by (λ c. f (get_or c 15 [])) (first_chunks 16 k zs)) rest
    ∙ ap (λ n. f (get_or xs (from * 16 + 15) []) + n) (sum_blocks f xs k (from + 1))
    ∙ sym (sum_by-cons (λ b. f (get_or xs (b * 16 + 15) [])) from (range_with_len (from + 1) k))

-- ---- how many of n numbers from a on pass a test that none passes behind one that does not: those that pass come first
module _ (test : ℕ → Bool) (top : ℕ) (falls : (j k : ℕ) → j < k → k < top → test k ≡ true → test j ≡ true) where
  counted : (n a : ℕ) → a + n ≤ top → let k = count_by test (range_with_len a n) in
      (k ≤ n) × (1 ≤ k → test (a + k - 1) ≡ true) × (k < n → test (a + k) ≡ false)
  counted zero a h = (omega arith, λ some. absurd (omega arith), λ less. absurd (omega arith))
  counted (suc n) a h =
      let k : ℕ = count_by test (range_with_len (a + 1) n) in
      let rest : (k ≤ n) × (1 ≤ k → test (a + 1 + k - 1) ≡ true) × (k < n → test (a + 1 + k) ≡ false) =
      counted n (a + 1) (omega arith) in
      rw (sum_by-cons (λ x. cond (test x) 1 0) a (range_with_len (a + 1) n))
      (by_test (test a)
      (λ t. rw t (
        omega arith,
        λ some. by_cases (dec_le 1 k) (λ more. let e : a + (1 + k) - 1 ≡ a + 1 + k - 1 = omega arith in rw e (rest.1 more))
            (λ one. let e : a + (1 + k) - 1 ≡ a = omega (arith, one) in rw e t),
        λ less. let e : a + (1 + k) ≡ a + 1 + k = omega arith in rw e (rest.2 (omega arith)),
      ))
      (λ t.
      let none : k ≡ 0 = by_cases (dec_le 1 k)
      (λ some. absurd (true≢false (sym (falls a (a + 1 + k - 1) (omega arith) (omega arith) (rest.1 some)) ∙ t)))
      (λ less. omega (arith, less)) in
      rw (t, none) (omega arith, λ some. absurd (omega arith), λ less. let e : a + 0 ≡ a = omega arith in rw e t)))

-- ---- the records, as a slice
module _ (m : List ℕ) (id : ℕ) (up : Ascending 0 (open_orders m)) (records : List (List ℕ)) (are : orders_of records ≡ open_orders m) where
  abbrev read : ℕ → ℕ
  read p = id_at (get_or records p []) 0

  is : (p : ℕ) → p < word_at m count_word → read p ≡ (order_in m p).id
  is p h = id_in_records m records are p h

  -- the first k of the whole blocks of sixteen records end with a smaller id
  pub blocks_counted : (blocks : List (List (List ℕ))) → blocks ≡ first_chunks 16 (length records / 16) records → (k : ℕ)
      → k ≡ sum_by (λ c. cond (ltb (id_at (get_or c 15 []) 0) id) 1 0) blocks → let n = word_at m count_word / 16 in
      (k ≤ n) × (1 ≤ k → (order_in m (k * 16 - 1)).id < id) × (k < n → id ≤ (order_in m (k * 16 + 15)).id)
  blocks_counted blocks cut k e =
      let n = word_at m count_word / 16 in
      let smaller : ℕ → Bool = λ b. ltb (read (b * 16 + 15)) id in
      let falls : (i j : ℕ) → i < j → j < n → smaller j ≡ true → smaller i ≡ true = λ i j less high t.
      let rise = ids_rise m id up (i * 16 + 15) (j * 16 + 15) (omega arith) (omega arith) in
      lt-ltb _ _ (omega (arith, is (i * 16 + 15) (omega arith), is (j * 16 + 15) (omega arith), rise, ltb-true _ _ t)) in
      let is_count : k ≡ count_by smaller (range_with_len 0 n) =
      e ∙ rw (cut, length_records m records are) (sum_blocks (λ r. cond (ltb (id_at r 0) id) 1 0) records n 0) in
      let first : (k ≤ n) × (1 ≤ k → smaller (0 + k - 1) ≡ true) × (k < n → smaller (0 + k) ≡ false) =
      rw is_count (counted smaller n falls n 0 (omega arith)) in (
        first.0,
        λ some. let p : (0 + k - 1) * 16 + 15 ≡ k * 16 - 1 = omega arith in
            omega (arith, is (k * 16 - 1) (omega (arith, some, first.0)), ltb-true (read (k * 16 - 1)) id (rw p at (first.1 some))),
        λ less. let p : (0 + k) * 16 + 15 ≡ k * 16 + 15 = omega arith in
            omega (arith, is (k * 16 + 15) (omega (arith, less)), ltb-false (read (k * 16 + 15)) id (rw p at (first.2 less))),
      )

  -- k of the records from `from` on and before `to` have an id that is not larger: those up to the place
  pub records_counted : (from to k : ℕ) → from ≤ rank id (open_orders m) → rank id (open_orders m) ≤ to → to ≤ word_at m count_word
      → k ≡ sum_by (λ r. cond (leb (id_at r 0) id) 1 0) (take (to - from) (drop from records)) → from + k ≡ rank id (open_orders m)
  records_counted from to k low high inside e =
      let other : ℕ → Bool = λ p. leb (read p) id in
      let falls : (i j : ℕ) → i < j → j < to → other j ≡ true → other i ≡ true = λ i j less most t.
      let rise = ids_rise m id up i j less (omega arith) in
      le-leb _ _ (omega (arith, is i (omega arith), is j (omega arith), rise, leb-true _ _ t)) in
      let fits : from + (to - from) ≤ length records = omega (arith, length_records m records are) in
      let is_count : k ≡ count_by other (range_with_len from (to - from)) =
      e ∙ sum_between (λ r. cond (leb (id_at r 0) id) 1 0) records (to - from) from fits in
      let first : (k ≤ to - from) × (1 ≤ k → other (from + k - 1) ≡ true) × (k < to - from → other (from + k) ≡ false) =
      rw is_count (counted other to falls (to - from) from (omega arith)) in
      let below : from + k ≤ rank id (open_orders m) =
      by_cases (dec_le 1 k)
      (λ some. let p : ℕ = from + k - 1 in
      let within : p < word_at m count_word = omega (arith, some, first.0) in
      omega (arith, at_other m id p (read p) within (is p within) up (leb-true _ _ (first.1 some))))
      (λ none. omega (arith, none)) in
      let above : rank id (open_orders m) ≤ from + k =
      by_cases (dec_le (to - from) k) (λ all. omega arith)
      (λ less. let within : from + k < word_at m count_word = omega (arith, less) in
      at_larger m id (from + k) (read (from + k)) within (is _ within) (leb-false _ _ (first.2 (omega (arith, less))))) in
      omega arith

-- ---- the block that is searched: behind the first r blocks of the records, which end with a smaller id, and before the next one's end
module _ (m : List ℕ) (id r : ℕ) (up : Ascending 0 (open_orders m)) (few : let n = word_at m count_word / 16 in
    (r ≤ n) × (1 ≤ r → (order_in m (r * 16 - 1)).id < id) × (r < n → id ≤ (order_in m (r * 16 + 15)).id)) where
  abbrev n : ℕ
  n = word_at m count_word

  -- the place of the first larger id is in it, or at its end
  pub rank_from : r * 16 ≤ rank id (open_orders m)
  rank_from =
      by_cases (dec_le 1 r)
      (λ some. omega (arith, at_other m id (r * 16 - 1) _ (omega arith) refl up (omega (arith, few.1 some))))
      (λ none. omega (arith, none))

  pub rank_upto : rank id (open_orders m) ≤ min n (r * 16 + 16)
  rank_upto =
      by_cases (dec_le n (r * 16 + 15)) (λ all. omega (arith, rank_open m id))
      (λ more. let behind = rank_behind m id up (r * 16 + 15) (omega (arith, more)) (few.2 (omega (arith, more))) in
      omega (arith, more, behind, rank_open m id))
