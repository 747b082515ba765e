-- Where each field of a desk stands in the 8,192 words of its memory. Accounts, groups, contracts and instruments are
-- numbered from 1, so the constant of a place is its region's first word less what number 1 adds.
--
--   words         what                                             size
--   0             kind of desk (1: derivatives)                    1
--   1..76         roster: sizes, groups, contracts, weights        4 + 8 + 32 + 32
--   77..108       spare: lots                                      32
--   112           count of open orders                             1
--   113           records of the region before the first in use    1
--   128..143      trading marks                                    16
--   144..159      blocked accounts                                 16
--   160..191      blocked instruments                              32
--   192..255      blocked groups, by account                       16 × 4
--   256..767      balances, by account and instrument              16 × 32
--   768..1279     own line set                                     16 × 32
--   1280..1407    default line set                                 16 × 8
--   1408..1471    group line set                                   16 × 4
--   1536..2879    lines, a row for each account: own, default      16 × 84
--                 (TCI TVI, LCI LVI), then group (LCC LVC)         84 = 32 × 2 + 8 × 2 + 4
--   2880..4223    spare: lines of a desk in money                  16 × 168 from 1536 on
--   4224..5247    order records: id, detail                        512 × 2
--   5248..6271    spare
--   6272..7295    spare: contracts bought and sold                 16 × 32 × 2
--   7296..7935    spare: margin settings, and whether set          16 × 8 × 5
use Rattle.std.specs.Prelude.{◌+◌, ◌*◌}
use Rattle.integers.specs.Basics.{ℕ}

-- a desk's memory: so many bytes, so many words
abbrev pub memory_bytes : ℕ
memory_bytes = 65536

abbrev pub memory_words : ℕ
memory_words = 8192

abbrev pub kind_word : ℕ
kind_word = 0

abbrev pub roster_word : ℕ
roster_word = 1

abbrev pub count_word : ℕ
count_word = 112

abbrev pub first_word : ℕ
first_word = 113

abbrev pub orders_word : ℕ
orders_word = 4224

abbrev pub mark_word : ℕ → ℕ
mark_word a = 127 + a

abbrev pub account_block_word : ℕ → ℕ
account_block_word a = 143 + a

abbrev pub instrument_block_word : ℕ → ℕ
instrument_block_word i = 159 + i

-- the rows of an account: word n of a row is that of number n
abbrev pub group_block_row : ℕ → ℕ
group_block_row a = 187 + a * 4

abbrev pub balance_row : ℕ → ℕ
balance_row a = 223 + a * 32

abbrev pub own_set_row : ℕ → ℕ
own_set_row a = 735 + a * 32

abbrev pub default_set_row : ℕ → ℕ
default_set_row a = 1271 + a * 8

abbrev pub group_set_row : ℕ → ℕ
group_set_row a = 1403 + a * 4

-- the lines of an account in one row: words 2 n and 2 n + 1 from `own_row` or `default_row` on are line n, word n from
-- `group_row` on is group line n
abbrev pub own_row : ℕ → ℕ
own_row a = 1450 + a * 84

abbrev pub default_row : ℕ → ℕ
default_row a = 1514 + a * 84

abbrev pub group_row : ℕ → ℕ
group_row a = 1531 + a * 84
