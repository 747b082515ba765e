-- The words that the readers of single fields read are the view's fields, where account and number are on the roster.
use Rattle.std.specs.Prelude.{◌+◌, ◌≤◌, ◌<◌, ◌≡◌}
use Rattle.integers.specs.Basics.{ℕ, ◌∙◌, sym, true, false, List, pos, length, arith, leb-true}
use Rattle.words.specs.Words.{signed_at, part_of}
use Rattle.words.proofs.Parts.{length_part, word_part}
use Rattle.ledger.specs.Roster.{Numbered}
use Rattle.memory_layout.specs.Layout.{mark_word, account_block_word, instrument_block_word, group_block_row, balance_row}
use Rattle.memory_layout.specs.Rosters.{long_enough}
use Rattle.memory_layout.specs.View.{roster_of, flag, balances_part, balances_of, blocks_of, trading_of}
use Rattle.memory_layout.specs.Readable.{Readable}
use Rattle.memory_layout.proofs.RosterLaws.{numbered_between}
use Rattle.memory_layout.proofs.GuardedTables.{on_here}
use Rattle.memory_layout.proofs.LinesInRows.{own_set_lem, default_set_lem, group_set_lem}

pub long_out : (m : List ℕ) → long_enough m ≡ true → 65536 ≤ length m
unfolding long_enough
long_out m e = leb-true 65536 (length m) e

-- a signed word of a part is one of the whole
signed_part : (m : List ℕ) (k n j : ℕ) → j < n → signed_at (part_of m k n) j ≡ signed_at m (k + j)
unfolding signed_at
signed_part m k n j h = rw (word_part m k n j h)

module _ (m : List ℕ) (a : ℕ) (on : Numbered (roster_of m).accounts a) where
  pub trading_flag : trading_of m a ≡ flag m (mark_word a)
  unfolding trading_of
  trading_flag = rw (numbered_between (roster_of m).accounts a on)

  pub account_flag : (blocks_of m).account a ≡ flag m (account_block_word a)
  unfolding blocks_of
  account_flag = rw (numbered_between (roster_of m).accounts a on)

  pub group_flag : (g : ℕ) → Numbered (roster_of m).groups g → (blocks_of m).group a g ≡ flag m (group_block_row a + g)
  unfolding blocks_of
  group_flag g on_g = on_here (roster_of m).accounts (roster_of m).groups a g _ false on on_g

  pub balance_word : (i : ℕ) → Numbered (roster_of m).instruments i → balances_of m a i ≡ signed_at m (balance_row a + i)
  unfolding balances_of
  balance_word i on_i = on_here (roster_of m).accounts (roster_of m).instruments a i _ (pos 0) on on_i

  -- ---- the part with the account's balances
  module _ (readable : Readable m) where
    pub balances_long : length (balances_part m a) ≡ 264
    balances_long = length_part m (balance_row a) 33 (omega (arith, readable.long, readable.accounts))

    pub balance_in : (i : ℕ) → Numbered (roster_of m).instruments i → signed_at (balances_part m a) i ≡ balances_of m a i
    balance_in i on_i = signed_part m (balance_row a) 33 i (omega (arith, readable.instruments)) ∙ sym (balance_word i on_i)

pub instrument_flag : (m : List ℕ) (i : ℕ) → Numbered (roster_of m).instruments i
    → (blocks_of m).instrument i ≡ flag m (instrument_block_word i)
unfolding blocks_of
instrument_flag m i on = rw (numbered_between (roster_of m).instruments i on)

-- what the readers of single fields read
pub ruleset fields_read = (trading_flag, account_flag, group_flag, instrument_flag, own_set_lem, default_set_lem, group_set_lem)
