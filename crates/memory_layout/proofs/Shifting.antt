-- Records moved as runs of words, and records stored in two pieces, one of which stands already.
use Rattle.std.specs.Prelude.{◌+◌, ◌*◌, ◌≤◌, ◌≡◌, ◌∷◌, ◌++◌}
use Rattle.integers.specs.Basics.{ℕ, zero, suc, refl, ◌∙◌, sym, ap, List, [], length, arith}
use Rattle.words.specs.Bytes.{Bytes}
use Rattle.words.specs.Words.{words_at, put_words, part_of}
use Rattle.words.proofs.Runs.{puts_more}
use Rattle.ledger.specs.declared.order.Order.{Order}
use Rattle.ledger.specs.Records.{orders_from}
use Rattle.memory_layout.specs.Layout.{orders_word}
use Rattle.memory_layout.specs.Stores.{record_word, records_in, put_order, put_orders}
use Rattle.memory_layout.proofs.OrderRecords.{same_records, fields_in, order_stands}
use Rattle.memory_layout.proofs.Stored.{length_orders_from, bytes_orders, word_orders_other}

-- ---- records moved as one run of words
-- the words of n records from record q on, stored in those from record r on, are their orders stored there
words_moved : (l m : List ℕ) (q n r : ℕ) → q + n ≤ 512
    → put_words l (record_word r) (words_at m (record_word q) (n * 2)) ≡ put_orders l r (records_in m q n)
unfolding put_orders orders_from put_order words_at put_words
words_moved l m q zero r h = refl
words_moved l m q (suc n) r h =
    let k : ℕ = record_word q in
    let j : ℕ = record_word r in
    let many : suc n * 2 ≡ 2 + n * 2 = omega arith in
    let from : record_word q + 2 ≡ record_word (q + 1) = omega arith in
    let to : record_word r + 2 ≡ record_word (r + 1) = omega arith in
    let next : List ℕ = put_words l j (words_at m k 2) in
    ap (λ i. put_words l j (words_at m k i)) many
    ∙ puts_more l j m k 2 (n * 2)
    ∙ rw (from, to) (words_moved next m (q + 1) n (r + 1) (omega arith))
    ∙ ap (λ vs. put_orders (put_words l j vs) (r + 1) (records_in m (q + 1) n)) (sym (fields_in m q (omega arith)))

-- the same of a memory after the move, by the words j and k at which it was made
pub moved : (m after : List ℕ) (q r n : ℕ) {j k : ℕ} → q + n ≤ 512 → j ≡ record_word r → k ≡ record_word q
    → after ≡ put_words m j (words_at m k (n * 2))
    → after ≡ put_orders m r (records_in m q n)
moved m after q r n inside to from is = is ∙ rw (to, from) (words_moved m m q n r inside)

-- ---- records stored in two pieces
pub puts_both : (xs ys : List Order) (m : List ℕ) (r : ℕ) → put_orders m r (xs ++ ys) ≡ put_orders (put_orders m r xs) (r + length xs) ys
unfolding put_orders
puts_both [] ys m r =
    let e : r + 0 ≡ r = omega arith in
    rw e
puts_both (x ∷ xs) ys m r =
    let e : r + suc (length xs) ≡ r + 1 + length xs = omega arith in
    rw e (puts_both xs ys (put_order m r x) (r + 1))

-- records stored where they stand change nothing
stand : (m : List ℕ) → Bytes m → (n r : ℕ) → r + n ≤ 512 → put_orders m r (records_in m r n) ≡ m
unfolding put_orders orders_from
stand m bytes zero r h = refl
stand m bytes (suc n) r h =
    ap (λ l. put_orders l (r + 1) (records_in m (r + 1) n)) (order_stands m r (omega arith) bytes)
    ∙ stand m bytes n (r + 1) (omega arith)

module _ (m : List ℕ) (bytes : Bytes m) where
  -- the first piece stands
  pub first_stands : (r p : ℕ) (ys : List Order) → r + p ≤ 512 → put_orders m r (records_in m r p ++ ys) ≡ put_orders m (r + p) ys
  first_stands r p ys h =
      puts_both (records_in m r p) ys m r
      ∙ rw (length_orders_from (part_of m orders_word 1024) p r, stand m bytes p r h)

  -- the last piece stands
  pub last_stands : (xs : List Order) (r q n : ℕ) → q ≡ r + length xs → q + n ≤ 512
      → put_orders m r (xs ++ records_in m q n) ≡ put_orders m r xs
  last_stands xs r q n e h =
      let l : List ℕ = put_orders m r xs in
      let same : records_in l q n ≡ records_in m q n = same_records l m n q h
      (λ j low high. word_orders_other xs m r j (λ a b. omega arith))
      in
      puts_both xs (records_in m q n) m r
      ∙ rw (← e, ← same) (stand l (bytes_orders xs m r bytes) n q h)
