-- Single fields of a desk as they are stored: a balance, a mark, a block, a line.
use Rattle.std.specs.Prelude.{◌+◌, ◌*◌, ◌∷◌}
use Rattle.integers.specs.Basics.{ℕ, Bool, cond, List, [], Option, None, Some, ℤ}
use Rattle.words.specs.Words.{put_word, put_signed, halves, put_words}
use Rattle.limits.specs.declared.lines.Line.{Line}
use Rattle.limits.specs.declared.lines.GroupLine.{GroupLine}
use Rattle.memory_layout.specs.Layout.{mark_word, account_block_word, instrument_block_word, group_block_row, balance_row, own_set_row}
use Rattle.memory_layout.specs.Layout.{default_set_row, group_set_row, own_row, default_row, group_row}

-- the word of a yes or no
abbrev pub bit : Bool → ℕ
bit on = cond on 1 0

abbrev pub store_balance : List ℕ → ℕ → ℕ → ℤ → List ℕ
store_balance m a i z = put_signed m (balance_row a + i) z

abbrev pub store_mark : List ℕ → ℕ → List ℕ
store_mark m a = put_word m (mark_word a) 1

abbrev pub block_account : List ℕ → ℕ → Bool → List ℕ
block_account m a on = put_word m (account_block_word a) (bit on)

abbrev pub block_instrument : List ℕ → ℕ → Bool → List ℕ
block_instrument m i on = put_word m (instrument_block_word i) (bit on)

abbrev pub block_group : List ℕ → ℕ → ℕ → Bool → List ℕ
block_group m a g on = put_word m (group_block_row a + g) (bit on)

abbrev pub line_with : ℕ → ℕ → ℕ → ℕ → Line
line_with tci tvi lci lvi = record { tci = tci; tvi = tvi; lci = lci; lvi = lvi }

abbrev pub group_line_with : ℕ → ℕ → GroupLine
group_line_with lcc lvc = record { lcc = lcc; lvc = lvc }

-- a line's words: two figures in each
abbrev pub line_words : Line → List ℕ
line_words l = halves l.tci l.tvi ∷ halves l.lci l.lvi ∷ []

abbrev pub group_line_words : GroupLine → List ℕ
group_line_words l = halves l.lcc l.lvc ∷ []

-- the words from k on, and that the line is set in word s; a line that is not set keeps its words
abbrev pub store_line : List ℕ → ℕ → ℕ → Option Line → List ℕ
store_line m s k None = put_word m s 0
store_line m s k (Some l) = put_word (put_words m k (line_words l)) s 1

abbrev pub store_group_line : List ℕ → ℕ → ℕ → Option GroupLine → List ℕ
store_group_line m s k None = put_word m s 0
store_group_line m s k (Some l) = put_word (put_words m k (group_line_words l)) s 1

-- the three kinds of line
abbrev pub store_own : List ℕ → ℕ → ℕ → Option Line → List ℕ
store_own m a i l = store_line m (own_set_row a + i) (own_row a + i * 2) l

abbrev pub store_default : List ℕ → ℕ → ℕ → Option Line → List ℕ
store_default m a c l = store_line m (default_set_row a + c) (default_row a + c * 2) l

abbrev pub store_of_group : List ℕ → ℕ → ℕ → Option GroupLine → List ℕ
store_of_group m a g l = store_group_line m (group_set_row a + g) (group_row a + g) l
