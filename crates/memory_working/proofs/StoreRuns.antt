-- A run of stores of words: what each store keeps, the run keeps; and what a store of an event is.
use Rattle.std.specs.Prelude.{◌+◌, ◌≤◌, ◌<◌, ◌≡◌, ◌∷◌}
use Rattle.integers.specs.Basics.{ℕ, zero, suc, refl, List, [], Option, None, Some, ℤ, length, get_or, arith}
use Rattle.integers.specs.TwosComplement.{bits_of}
use Rattle.words.specs.Words.{put_word, lower, upper, put_signed, put_words}
use Rattle.ledger.specs.declared.order.Order.{Order}
use Rattle.ledger.specs.Roster.{Numbered}
use Rattle.limits.specs.declared.lines.Line.{Line}
use Rattle.limits.specs.declared.lines.GroupLine.{GroupLine}
use Rattle.book.specs.Sound.{LineFits, GroupLineFits}
use Rattle.memory_layout.specs.Layout.{balance_row}
use Rattle.memory_layout.specs.View.{market_of, roster_of}
use Rattle.memory_layout.specs.Stores.{record_word, fields, put_order, put_orders, store_from}
use Rattle.memory_layout.specs.FieldStores.{line_words, group_line_words, store_line, store_group_line, store_balance}
use Rattle.memory_soundness.specs.SoundMemory.{SoundMemory}
use Rattle.memory_working.proofs.AcceptedFacts.{laid}

-- both figures of a word are in range
abbrev pub FiguresFit : ℕ → ℕ → Type 0
FiguresFit largest v = (lower v ≤ largest) × (upper v ≤ largest)

-- what a store of v in word k of a memory m is: behind the roster, inside the desk, of the first record's place inside the region, and of
-- a line with its figures in range
pub record Stores (m : List ℕ) (k v : ℕ) : Type 0 where
  pub low : 112 ≤ k
  pub high : k < 8192
  pub first : k ≡ 113 → v ≤ 256
  pub figures : 1536 ≤ k → k < 2880 → FiguresFit (market_of m).largest v

-- ---- the words of a line in range
line_words_fit : {largest : ℕ} → largest ≤ 1000000000 → (l : Line) → LineFits largest l → (j : ℕ)
    → FiguresFit largest (get_or (line_words l) j 0)
line_words_fit most l fits zero = omega arith
line_words_fit most l fits (suc zero) = omega arith
line_words_fit most l fits (suc (suc j)) = omega arith

group_words_fit : {largest : ℕ} → largest ≤ 1000000000 → (l : GroupLine) → GroupLineFits largest l → (j : ℕ)
    → FiguresFit largest (get_or (group_line_words l) j 0)
group_words_fit most l fits zero = omega arith
group_words_fit most l fits (suc j) = omega arith

-- ---- runs of stores, each of a kind that P is kept by
module _ (S : ℕ → ℕ → Type 0) (P : List ℕ → Type 0) (keeps : (l : List ℕ) (k v : ℕ) → S k v → P l → P (put_word l k v)) where
  keeps_words : (vs l : List ℕ) (k : ℕ) → ((j : ℕ) → j < length vs → S (k + j) (get_or vs j 0)) → P l → P (put_words l k vs)
  unfolding put_words
  keeps_words [] l k ok p = p
  keeps_words (v ∷ vs) l k ok p =
      let first : k + 0 ≡ k = omega arith in
      let next : (j : ℕ) → k + suc j ≡ k + 1 + j = λ j. omega arith in
      keeps_words vs (put_word l k v) (k + 1) (λ j h. rw (next j) at (ok (suc j) (omega arith)))
      (keeps l k v (rw first at (ok 0 (omega arith))) p)

  keeps_signed : (l : List ℕ) (k : ℕ) (z : ℤ) → ((v : ℕ) → S k v) → P l → P (put_signed l k z)
  unfolding put_signed
  keeps_signed l k z ok = keeps l k (bits_of 64 z) (ok (bits_of 64 z))

  module _ (ok : (j v : ℕ) → 4224 ≤ j → j < 5248 → S j v) where
    keeps_records : (os : List Order) (l : List ℕ) (q : ℕ) → q + length os ≤ 512 → P l → P (put_orders l q os)
    unfolding put_orders put_order fields
    keeps_records [] l q few p = p
    keeps_records (o ∷ os) l q few p =
        keeps_records os (put_order l q o) (q + 1) (omega arith)
        (keeps_words (fields o) l (record_word q) (λ j h. ok (record_word q + j) _ (omega arith) (omega arith)) p)

    pub keeps_orders : ((v : ℕ) → S 112 v) → ((v : ℕ) → v ≤ 256 → S 113 v) → (m : List ℕ) (f : ℕ) (os : List Order) → f ≤ 256
        → length os ≤ 256 → P m → P (store_from m f os)
    unfolding store_from
    keeps_orders count first m f os low few p =
        keeps (put_word (put_orders m f os) 113 f) 112 (length os) (count (length os))
        (keeps (put_orders m f os) 113 f (first f low) (keeps_records os m f (omega arith) p))

  -- a line: its figures are in range
  module _ (m : List ℕ) {largest : ℕ} (most : largest ≤ 1000000000) (s k : ℕ) (set : (v : ℕ) → v ≤ 1 → S s v) (p : P m) where
    pub keeps_line : ((j v : ℕ) → k ≤ j → j < k + 2 → FiguresFit largest v → S j v) → (x : Option Line)
        → ((l : Line) → x ≡ Some l → LineFits largest l) → P (store_line m s k x)
    keeps_line ok None fits = keeps m s 0 (set 0 (omega arith)) p
    keeps_line ok (Some l) fits =
        keeps (put_words m k (line_words l)) s 1 (set 1 (omega arith))
        (keeps_words (line_words l) m k (λ j h. ok (k + j) _ (omega arith) (omega arith) (line_words_fit most l (fits l refl) j)) p)

    pub keeps_group_line : ((j v : ℕ) → k ≤ j → j < k + 1 → FiguresFit largest v → S j v) → (x : Option GroupLine)
        → ((l : GroupLine) → x ≡ Some l → GroupLineFits largest l) → P (store_group_line m s k x)
    keeps_group_line ok None fits = keeps m s 0 (set 0 (omega arith)) p
    keeps_group_line ok (Some l) fits =
        keeps (put_words m k (group_line_words l)) s 1 (set 1 (omega arith))
        (keeps_words (group_line_words l) m k (λ j h. ok (k + j) _ (omega arith) (omega arith) (group_words_fit most l (fits l refl) j)) p)

-- a balance
module _ (m : List ℕ) (P : List ℕ → Type 0) (keeps : (l : List ℕ) (k v : ℕ) → Stores m k v → P l → P (put_word l k v))
    (held : SoundMemory m) where
  pub keeps_balance : (l : List ℕ) (a i : ℕ) (z : ℤ) → Numbered (roster_of m).accounts a → Numbered (roster_of m).instruments i → P l
      → P (store_balance l a i z)
  keeps_balance l a i z on_a on_i =
      let sized = (laid m held).sized in
      keeps_signed (Stores m) P keeps l (balance_row a + i) z (λ v. omega arith)
