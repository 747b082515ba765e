-- A record of the order region: what it says, what a store there changes, and what it leaves. The open orders are those in the records from
-- the first in use on.
use Rattle.std.specs.Prelude.{◌+◌, ◌*◌, ◌≤◌, ◌<◌, ◌≡◌}
use Rattle.integers.specs.Basics.{ℕ, zero, suc, refl, ◌∙◌, sym, ap, List, length, get_or, arith}
use Rattle.words.specs.Bytes.{Bytes}
use Rattle.words.specs.Words.{AreWords, word_at, words_at, put_word, put_words, part_of}
use Rattle.words.proofs.Memory.{word_below}
use Rattle.words.proofs.Runs.{length_puts, bytes_puts, word_puts_other, word_puts_same, puts_back}
use Rattle.words.proofs.Parts.{length_part, word_part}
use Rattle.ledger.specs.declared.order.Order.{Order}
use Rattle.ledger.specs.Records.{order_of, order_at, orders_from}
use Rattle.ledger.proofs.Packing.{detail_again, detail_below, detail_back, word_storable}
use Rattle.ledger.proofs.Details.{id_of, order_of_lem}
use Rattle.memory_layout.specs.Layout.{orders_word}
use Rattle.memory_layout.specs.View.{first_of, records_of}
use Rattle.memory_layout.specs.Stores.{order_in, orders_in, record_word, record_in, records_in, fields, put_order, SmallOrder, Records}

-- ---- the words of a record
-- record p of a part of n words from word k on
part_words : (m : List ℕ) (k n p : ℕ) → p * 2 + 1 < n → order_at (part_of m k n) p
    ≡ order_of (word_at m (k + p * 2)) (word_at m (k + p * 2 + 1))
part_words m k n p h =
    let e : k + (p * 2 + 1) ≡ k + p * 2 + 1 = omega arith in
    order_of_lem (part_of m k n) p ∙ rw (word_part m k n (p * 2) (omega arith), word_part m k n (p * 2 + 1) h, e)

pub order_words : (m : List ℕ) (p : ℕ) → p < 512 → record_in m p ≡ order_of (word_at m (record_word p)) (word_at m (record_word p + 1))
order_words m p h = part_words m orders_word 1024 p (omega arith)

-- records of the same words are the same
pub same_record : (l m : List ℕ) (p : ℕ) → p < 512 → ((j : ℕ) → record_word p ≤ j → j < record_word p + 2 → word_at l j ≡ word_at m j)
    → record_in l p ≡ record_in m p
same_record l m p h same =
    let k : ℕ = record_word p in
    order_words l p h
    ∙ rw (same k (omega arith) (omega arith), same (k + 1) (omega arith) (omega arith)) (sym (order_words m p h))

pub same_records : (l m : List ℕ) (n p : ℕ) → p + n ≤ 512 → ((j : ℕ) → record_word p ≤ j → j < record_word (p + n)
    → word_at l j ≡ word_at m j)
    → records_in l p n ≡ records_in m p n
unfolding orders_from
same_records l m zero p h same = refl
same_records l m (suc n) p h same =
    rw (
      same_record l m p (omega arith) (λ j low high. same j low (omega arith)),
      same_records l m n (p + 1) (omega arith) (λ j low high. same j (omega arith) (omega arith)),
    )

-- ---- a stored record
-- its two words, one after the other
pub record_stored : (m after : List ℕ) (r id w : ℕ) → after ≡ put_word (put_word m (record_word r) id) (record_word r + 1) w
    → after ≡ put_order m r (order_of id w)
unfolding put_order fields put_words
record_stored m after r id w is = is ∙ rw (detail_again id w, id_of id w)

module _ (m : List ℕ) (p : ℕ) (o : Order) where
  pub length_order : length (put_order m p o) ≡ length m
  unfolding put_order
  length_order = length_puts m (record_word p) (fields o)

  pub bytes_order : Bytes m → Bytes (put_order m p o)
  unfolding put_order
  bytes_order = bytes_puts m (record_word p) (fields o)

  -- a word outside the record is as it was
  pub word_order_other : (j : ℕ) → (record_word p ≤ j → j < record_word p + 2 → ⊥) → word_at (put_order m p o) j ≡ word_at m j
  unfolding put_order fields
  word_order_other j outside =
      word_puts_other m (record_word p) (fields o) j (λ i h e. outside (omega arith) (omega arith))

  small_fields : SmallOrder o → AreWords (fields o)
  unfolding fields
  small_fields small zero = small.id
  small_fields small (suc zero) = detail_below o small.detail
  small_fields small (suc (suc i)) = omega arith

  -- a stored order is read back
  pub order_back : p < 512 → 65536 ≤ length m → SmallOrder o → record_in (put_order m p o) p ≡ o
  unfolding put_order fields
  order_back h long small =
      let k : ℕ = record_word p in
      let word : (j : ℕ) → j < 2 → word_at (put_words m k (fields o)) (k + j) ≡ get_or (fields o) j 0 =
      λ j g. word_puts_same m k (fields o) j (omega arith) (small_fields small) g in
      let first : word_at (put_words m k (fields o)) k ≡ o.id = ap (word_at (put_words m k (fields o))) (omega arith)
      ∙ word 0 (omega arith) in
      order_words (put_words m k (fields o)) p h ∙ rw (first, word 1 (omega arith)) (detail_back o small.detail)

-- ---- the words of a record, stored again
pub fields_in : (m : List ℕ) (p : ℕ) → p < 512 → fields (record_in m p) ≡ words_at m (record_word p) 2
unfolding fields words_at
fields_in m p h =
    let k : ℕ = record_word p in
    rw (order_words m p h, detail_again (word_at m k) (word_at m (k + 1)), id_of (word_at m k) (word_at m (k + 1)))

-- where they stand they change nothing
pub order_stands : (m : List ℕ) (p : ℕ) → p < 512 → Bytes m → put_order m p (record_in m p) ≡ m
unfolding put_order
order_stands m p h bytes = ap (put_words m (record_word p)) (fields_in m p h) ∙ puts_back m (record_word p) 2 bytes

-- what a record says can be stored
pub small_record : (m : List ℕ) (p : ℕ) → p < 512 → Bytes m → SmallOrder (record_in m p)
small_record m p h bytes =
    let k : ℕ = record_word p in
    rw (order_words m p h)
    (record {
      id = rw (id_of (word_at m k) (word_at m (k + 1))) (word_below m k bytes);
      detail =
          word_storable (word_at m k) (word_at m (k + 1)) (word_below m (k + 1) bytes);
    })

-- ---- the open orders
pub records_long : (m : List ℕ) → Records m → length (records_of m) ≡ 4096
records_long m h = length_part m (orders_word + first_of m * 2) 512 (omega (arith, h.long, h.first))

module _ (m : List ℕ) (few : first_of m ≤ 256) where
  pub open_record : (p : ℕ) → p < 256 → order_in m p ≡ record_in m (first_of m + p)
  open_record p h =
      let k : ℕ = orders_word + first_of m * 2 in
      let e : k + p * 2 ≡ record_word (first_of m + p) = omega arith in
      part_words m k 512 p (omega arith) ∙ rw e (sym (order_words m (first_of m + p) (omega arith)))

  pub open_records : (n p : ℕ) → p + n ≤ 256 → orders_in m p n ≡ records_in m (first_of m + p) n
  unfolding orders_from
  open_records zero p h = refl
  open_records (suc n) p h =
      let e : first_of m + (p + 1) ≡ first_of m + p + 1 = omega arith in
      rw (open_record p (omega arith), open_records n (p + 1) (omega arith), e)

  pub small_open : (p : ℕ) → p < 256 → Bytes m → SmallOrder (order_in m p)
  small_open p h bytes = rw (open_record p h) (small_record m (first_of m + p) (omega arith) bytes)
