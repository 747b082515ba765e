-- The market of a memory: which word says it, and what is known of it.
use Rattle.std.specs.Prelude.{◌≢◌, ◌≤◌, ◌≡◌}
use Rattle.integers.specs.Basics.{ℕ, ap, List}
use Rattle.words.specs.Words.{word_at}
use Rattle.ledger.specs.Derivatives.{one}
use Rattle.book.specs.Market.{derivatives, market_of_kind}
use Rattle.book.proofs.MarketLaws.{unit_one, largest_most, market_of_one, largest_of_one, largest_of_another}
use Rattle.memory_layout.specs.Layout.{kind_word}
use Rattle.memory_layout.specs.View.{market_of}

pub market_same : (l m : List ℕ) → word_at l kind_word ≡ word_at m kind_word → market_of l ≡ market_of m
market_same l m same = ap market_of_kind same

-- one contract counts for 1
pub market_unit : (m : List ℕ) → (market_of m).unit ≡ one
market_unit m = unit_one (word_at m kind_word)

-- no figure is above 1,000,000,000
pub market_most : (m : List ℕ) → (market_of m).largest ≤ 1000000000
market_most m = largest_most (word_at m kind_word)

-- that of a desk of kind 1
pub market_derivatives : (m : List ℕ) → word_at m kind_word ≡ 1 → market_of m ≡ derivatives
market_derivatives m same = market_of_one (word_at m kind_word) same

-- the kind word tells: figures run to 1,000,000,000 where it is 1, and elsewhere none fits but 0
pub market_by_kind : (m : List ℕ)
    → (word_at m kind_word ≡ 1 → (market_of m).largest ≡ 1000000000) × (word_at m kind_word ≢ 1 → (market_of m).largest ≡ 0)
market_by_kind m = (largest_of_one (word_at m kind_word), largest_of_another (word_at m kind_word))
