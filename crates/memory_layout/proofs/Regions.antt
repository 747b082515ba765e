-- The table of the layout: each field stands in a region of its own, the three kinds of line in one, the regions follow each
-- other inside 8,192 words, and no two fields share a word.
use Rattle.std.specs.Prelude.{◌+◌, ◌*◌, ◌≤◌, ◌<◌, ◌≡◌, ◌≢◌}
use Rattle.integers.specs.Basics.{ℕ, arith}
use Rattle.ledger.specs.Roster.{Numbered}
use Rattle.memory_layout.specs.Layout.{memory_bytes, memory_words, kind_word, roster_word, count_word, first_word, mark_word}
use Rattle.memory_layout.specs.Layout.{account_block_word, instrument_block_word, group_block_row, balance_row, own_set_row, default_set_row}
use Rattle.memory_layout.specs.Layout.{group_set_row, own_row, default_row, group_row}
use Rattle.memory_layout.specs.Stores.{record_word}

-- word k is one of the words from low to high − 1
abbrev In : ℕ → ℕ → ℕ → Type 0
In low high k = (low ≤ k) × (k < high)

-- of account a, instrument i, contract c, group g and record r
pub record Placed (a i c g r : ℕ) : Type 0 where
  pub kind : In 0 1 kind_word
  pub roster : In 1 77 roster_word × In 1 77 (roster_word + 75)
  pub count : In 112 113 count_word
  pub first : In 113 114 first_word
  pub mark : In 128 144 (mark_word a)
  pub account_block : In 144 160 (account_block_word a)
  pub instrument_block : In 160 192 (instrument_block_word i)
  pub group_block : In 192 256 (group_block_row a + g)
  pub balance : In 256 768 (balance_row a + i)
  pub own_set : In 768 1280 (own_set_row a + i)
  pub default_set : In 1280 1408 (default_set_row a + c)
  pub group_set : In 1408 1472 (group_set_row a + g)
  pub own : In 1536 2880 (own_row a + i * 2) × In 1536 2880 (own_row a + i * 2 + 1)
  pub default : In 1536 2880 (default_row a + c * 2) × In 1536 2880 (default_row a + c * 2 + 1)
  pub of_group : In 1536 2880 (group_row a + g)
  pub order : In 4224 5248 (record_word r) × In 4224 5248 (record_word r + 1)
  pub inside : (5248 ≤ memory_words) × (memory_words * 8 ≤ memory_bytes)

pub placed : (a i c g r : ℕ) → Numbered 16 a → Numbered 32 i → Numbered 8 c → Numbered 4 g → r < 512 → Placed a i c g r
placed a i c g r on_a on_i on_c on_g h =
    record {
      kind = omega arith;
      roster = omega arith;
      count = omega arith;
      first = omega arith;
      mark = omega arith;
      account_block = omega arith;
      instrument_block = omega arith;
      group_block = omega arith;
      balance = omega arith;
      own_set = omega arith;
      default_set = omega arith;
      group_set = omega arith;
      own = omega arith;
      default = omega arith;
      of_group = omega arith;
      order = omega arith;
      inside = omega arith;
    }

-- two places of a region that are one word, or lines with a word in common, are one place
pub record Apart (a b i k : ℕ) : Type 0 where
  pub balance : balance_row a + i ≡ balance_row b + k → (a ≡ b) × (i ≡ k)
  pub own_set : own_set_row a + i ≡ own_set_row b + k → (a ≡ b) × (i ≡ k)
  pub own : (x y : ℕ) → x < 2 → y < 2 → own_row a + i * 2 + x ≡ own_row b + k * 2 + y → (a ≡ b) × (i ≡ k)

pub record ApartOf (a b c d g h : ℕ) : Type 0 where
  pub default_set : default_set_row a + c ≡ default_set_row b + d → (a ≡ b) × (c ≡ d)
  pub default : (x y : ℕ) → x < 2 → y < 2 → default_row a + c * 2 + x ≡ default_row b + d * 2 + y → (a ≡ b) × (c ≡ d)
  pub group_block : group_block_row a + g ≡ group_block_row b + h → (a ≡ b) × (g ≡ h)
  pub group_set : group_set_row a + g ≡ group_set_row b + h → (a ≡ b) × (g ≡ h)
  pub of_group : group_row a + g ≡ group_row b + h → (a ≡ b) × (g ≡ h)

pub apart : (a b i k : ℕ) → Numbered 32 i → Numbered 32 k → Apart a b i k
apart a b i k on_i on_k =
    record { balance = λ e. omega arith; own_set = λ e. omega arith; own = λ x y p q e. omega arith }

pub apart_of : (a b c d g h : ℕ) → Numbered 8 c → Numbered 8 d → Numbered 4 g → Numbered 4 h → ApartOf a b c d g h
apart_of a b c d g h on_c on-d on_g on-h =
    record {
      default_set = λ e. omega arith;
      default = λ x y p q e. omega arith;
      group_block = λ e. omega arith;
      group_set = λ e. omega arith;
      of_group = λ e. omega arith;
    }

-- lines of two kinds have no word in common
pub record ApartKinds (a b i c g : ℕ) : Type 0 where
  pub own_default : (x y : ℕ) → x < 2 → y < 2 → own_row a + i * 2 + x ≢ default_row b + c * 2 + y
  pub own_group : (x : ℕ) → x < 2 → own_row a + i * 2 + x ≢ group_row b + g
  pub default_group : (x : ℕ) → x < 2 → default_row a + c * 2 + x ≢ group_row b + g

pub apart_kinds : (a b i c g : ℕ) → Numbered 32 i → Numbered 8 c → Numbered 4 g → ApartKinds a b i c g
apart_kinds a b i c g on_i on_c on_g =
    record { own_default = λ x y p q e. omega arith; own_group = λ x p e. omega arith; default_group = λ x p e. omega arith }
