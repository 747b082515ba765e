-- The memory of a desk that has just begun: its roster is the one written, the view is that of the beginning, and nothing else changed.
use Rattle.std.specs.Prelude.{◌+◌, ◌^◌, ◌≤◌, ◌<◌, ◌≡◌, ◌∷◌}
use Rattle.integers.specs.Basics.{ℕ, ◌∙◌, List, [], ℤ, length, get_or, w64, SFits, arith}
use Rattle.integers.specs.TwosComplement.{bits_of}
use Rattle.words.specs.Bytes.{Bytes}
use Rattle.words.specs.Words.{word_at, put_word, put_signed}
use Rattle.words.proofs.Memory.{length_put, bytes_put, byte_put_other, word_put_same, word_put_other}
use Rattle.words.proofs.Runs.{bytes_puts}
use Rattle.ledger.specs.Roster.{Roster}
use Rattle.book.specs.Market.{derivatives}
use Rattle.book.specs.States.{begun}
use Rattle.memory_layout.specs.Layout.{memory_words, kind_word}
use Rattle.memory_layout.specs.Rosters.{listed}
use Rattle.memory_layout.specs.View.{market_of, roster_of, view}
use Rattle.memory_layout.specs.Opening.{cleared, store_kind, with_sizes, with_roster, begun_memory}
use Rattle.memory_layout.proofs.MarketRead.{market_derivatives}
use Rattle.memory_layout.proofs.RosterLaws.{Sized, numbered_between, roster_of_words}
use Rattle.memory_layout.proofs.Blank.{view_blank}
use Rattle.memory_layout.proofs.Written.{cleared_length, cleared_bytes, cleared_byte, cleared_word, written_bytes}
use Rattle.memory_layout.proofs.RosterWritten.{roster_keeps, length_kept, size_word, group_word, contract_word, weight_word}

module _ (m : List ℕ) where
  abbrev bare : List ℕ
  bare = store_kind (cleared m memory_words)

  bare_length : length bare ≡ length m
  bare_length = length_put (cleared m memory_words) kind_word 1 ∙ cleared_length m memory_words

  bytes_signed : (l : List ℕ) (k : ℕ) (z : ℤ) → Bytes l → Bytes (put_signed l k z)
  unfolding put_signed
  bytes_signed l k z = bytes_put l k (bits_of 64 z)

  pub bytes_begun : (r : Roster) → Bytes m → Bytes (begun_memory m r)
  unfolding begun_memory with_roster with_sizes
  bytes_begun r bytes =
      written_bytes (λ l i. put_signed l (44 + i) (r.weight i)) (λ l k. bytes_signed l (44 + k) (r.weight k)) _ r.instruments
      (written_bytes (λ l i. put_word l (12 + i) (r.contract_of i)) (λ l k. bytes_put l (12 + k) (r.contract_of k)) _ r.instruments
      (written_bytes (λ l c. put_word l (4 + c) (r.group_of c)) (λ l k. bytes_put l (4 + k) (r.group_of k)) _ r.contracts
      (bytes_puts bare 1 (r.accounts ∷ r.groups ∷ r.contracts ∷ r.instruments ∷ [])
      (bytes_put (cleared m memory_words) kind_word 1 (cleared_bytes m memory_words bytes)))))

  module _ (long : 65536 ≤ length m) where
    module _ (r : Roster) (sized : Sized r) where
      pub kind_begun : word_at (begun_memory m r) kind_word ≡ 1
      unfolding begun_memory
      kind_begun =
          roster_keeps (λ x. word_at x 0) (λ l k v low high. word_put_other l k v 0 (λ e. omega arith)) bare r sized
          ∙ word_put_same (cleared m memory_words) 0 1 (omega (arith, cleared_length m memory_words)) (omega arith)

      -- the words behind the roster are 0
      pub blank_begun : (k : ℕ) → 77 ≤ k → k < 8192 → word_at (begun_memory m r) k ≡ 0
      unfolding begun_memory
      blank_begun k low high =
          roster_keeps (λ x. word_at x k) (λ l j v jl jh. word_put_other l j v k (λ e. omega arith)) bare r sized
          ∙ word_put_other (cleared m memory_words) 0 1 k (λ e. omega arith)
          ∙ cleared_word m memory_words k (omega arith) high

      -- its market is the derivatives market
      pub market_begun : market_of (begun_memory m r) ≡ derivatives
      market_begun = market_derivatives (begun_memory m r) kind_begun

      pub length_begun : length (begun_memory m r) ≡ length m
      unfolding begun_memory
      length_begun = roster_keeps length length_kept bare r sized ∙ bare_length

      -- bytes from 65,536 on are as they were
      pub later_begun : (i : ℕ) → 65536 ≤ i → get_or (begun_memory m r) i 0 ≡ get_or m i 0
      unfolding begun_memory
      later_begun i h =
          roster_keeps (λ x. get_or x i 0) (λ l k v low high. byte_put_other l k v i (λ e. omega arith)) bare r sized
          ∙ byte_put_other (cleared m memory_words) 0 1 i (λ e. omega arith)
          ∙ cleared_byte m memory_words i (omega arith)

      pub view_begun : roster_of (begun_memory m r) ≡ r → view (begun_memory m r) ≡ begun derivatives r
      view_begun same =
          view_blank (begun_memory m r) (rw same sized) (λ k low high. blank_begun k (omega arith) (omega arith))
          ∙ rw (market_begun, same)

    -- a roster by its sizes and tables, whose entries fit a word, is read as it was written
    pub roster_begun : (a g c i : ℕ) (f h : ℕ → ℕ) (w : ℕ → ℤ) → Sized (listed a g c i f h w) → ((k : ℕ) → 1 ≤ k → k ≤ c → f k < 2 ^ 64)
        → ((k : ℕ) → 1 ≤ k → k ≤ i → h k < 2 ^ 64) → ((k : ℕ) → 1 ≤ k → k ≤ i → SFits w64 (w k))
        → roster_of (begun_memory m (listed a g c i f h w)) ≡ listed a g c i f h w
    unfolding begun_memory listed
    roster_begun a g c i f h w sized groups contracts weights =
        let r : Roster = listed a g c i f h w in
        let held : 65536 ≤ length bare = omega (arith, bare_length) in
        let e1 : (k : ℕ) → 1 ≤ k → k ≤ c → r.group_of k ≡ f k = λ k low high. rw (numbered_between c k (low, high)) in
        let e2 : (k : ℕ) → 1 ≤ k → k ≤ i → r.contract_of k ≡ h k = λ k low high. rw (numbered_between i k (low, high)) in
        let e3 : (k : ℕ) → 1 ≤ k → k ≤ i → r.weight k ≡ w k = λ k low high. rw (numbered_between i k (low, high)) in
        roster_of_words (begun_memory m r) a g c i f h w
        (size_word bare r held sized 0 (omega arith)) (size_word bare r held sized 1 (omega arith))
        (size_word bare r held sized 2 (omega arith)) (size_word bare r held sized 3 (omega arith))
        sized.contracts sized.instruments
        (λ k low high. group_word bare r held sized k low high (rw (e1 k low high) (groups k low high)) ∙ e1 k low high)
        (λ k low high. contract_word bare r held sized k low high (rw (e2 k low high) (contracts k low high)) ∙ e2 k low high)
        (λ k low high. weight_word bare r held sized k low high (rw (e3 k low high) (weights k low high)) ∙ e3 k low high)
