-- What a memory means: the state that it holds, its market by the kind of desk.
use Rattle.std.specs.Prelude.{◌+◌, ◌*◌, ◌&&◌}
use Rattle.integers.specs.Basics.{ℕ, Bool, false, not, cond, List, None, Some, ℤ, pos, eqb}
use Rattle.words.specs.Words.{word_at, signed_at, part_of}
use Rattle.ledger.specs.Roster.{Roster}
use Rattle.ledger.specs.declared.order.Order.{Order}
use Rattle.ledger.specs.Records.{roster_in, orders_from}
use Rattle.limits.specs.declared.lines.Line.{Line}
use Rattle.limits.specs.declared.lines.GroupLine.{GroupLine}
use Rattle.limits.specs.Lines.{Lines}
use Rattle.limits.specs.InBytes.{line_at, group_line_at}
use Rattle.book.specs.Decoding.{between}
use Rattle.book.specs.Books.{Blocks, Book}
use Rattle.book.specs.Market.{Market, market_of_kind}
use Rattle.book.specs.States.{State}
use Rattle.memory_layout.specs.Layout.{kind_word, roster_word, count_word, first_word, orders_word, mark_word, account_block_word}
use Rattle.memory_layout.specs.Layout.{instrument_block_word, group_block_row, balance_row, own_set_row, default_set_row, group_set_row, own_row}
use Rattle.memory_layout.specs.Layout.{default_row, group_row}
use Rattle.memory_layout.specs.Rosters.{listed}

-- the market, by the kind word
abbrev pub market_of : List ℕ → Market
market_of m = market_of_kind (word_at m kind_word)

-- the part with the roster
abbrev pub roster_part : List ℕ → List ℕ
roster_part m = part_of m roster_word 76

-- the roster
unfoldable pub roster_of : List ℕ → Roster
roster_of m =
    let r = roster_in (roster_part m) in
    listed r.accounts r.groups r.contracts r.instruments r.group_of r.contract_of r.weight

-- a word that is not 0 means yes
abbrev pub flag : List ℕ → ℕ → Bool
flag m k = not (eqb (word_at m k) 0)

-- what a place of an account says, where account and number are on the roster
abbrev pub on_roster : {A : Type 0} → ℕ → ℕ → ℕ → ℕ → A → A → A
on_roster accounts numbers a n x otherwise = cond (between 1 accounts a && between 1 numbers n) x otherwise

-- the figures of a line, set or not: an instrument's own, a contract's default, a group's
abbrev pub own_figures : List ℕ → ℕ → ℕ → Line
own_figures m a i = line_at m (own_row a + i * 2)

abbrev pub default_figures : List ℕ → ℕ → ℕ → Line
default_figures m a c = line_at m (default_row a + c * 2)

abbrev pub group_figures : List ℕ → ℕ → ℕ → GroupLine
group_figures m a g = group_line_at m (group_row a + g)

-- the parts with an account's lines: all from number 1 on; and each kind's from number 0 on, whose words are another kind's
abbrev pub lines_row : List ℕ → ℕ → List ℕ
lines_row m a = part_of m (own_row a + 2) 84

abbrev pub own_lines : List ℕ → ℕ → List ℕ
own_lines m a = part_of m (own_row a) 66

abbrev pub default_lines : List ℕ → ℕ → List ℕ
default_lines m a = part_of m (default_row a) 18

abbrev pub group_lines : List ℕ → ℕ → List ℕ
group_lines m a = part_of m (group_row a) 5

unfoldable pub lines_of : List ℕ → ℕ → Lines
lines_of m a =
    let r = roster_of m in
    record {
      own_of =
          λ i. on_roster r.accounts r.instruments a i (cond (flag m (own_set_row a + i)) (Some (own_figures m a i)) None) None;
      default_of =
          λ c. on_roster r.accounts r.contracts a c (cond (flag m (default_set_row a + c)) (Some (default_figures m a c)) None)
          None;
      line_of_group =
          λ g. on_roster r.accounts r.groups a g (cond (flag m (group_set_row a + g)) (Some (group_figures m a g)) None) None;
    }

-- the part with an account's balances
abbrev pub balances_part : List ℕ → ℕ → List ℕ
balances_part m a = part_of m (balance_row a) 33

-- S, signed
unfoldable pub balances_of : List ℕ → ℕ → ℕ → ℤ
balances_of m a i =
    on_roster (roster_of m).accounts (roster_of m).instruments a i (signed_at m (balance_row a + i)) (pos 0)

unfoldable pub blocks_of : List ℕ → Blocks
blocks_of m =
    let r = roster_of m in
    record {
      account = λ a. between 1 r.accounts a && flag m (account_block_word a);
      instrument = λ i. between 1 r.instruments i && flag m (instrument_block_word i);
      group = λ a g. on_roster r.accounts r.groups a g (flag m (group_block_row a + g)) false;
    }

-- how many records of the region stand before those in use
abbrev pub first_of : List ℕ → ℕ
first_of m = word_at m first_word

-- the region from the first record in use on, of at most 256
abbrev pub records_of : List ℕ → List ℕ
records_of m = part_of m (orders_word + first_of m * 2) 512

-- the open orders: a count, then that many records
unfoldable pub open_orders : List ℕ → List Order
open_orders m = orders_from (records_of m) 0 (word_at m count_word)

unfoldable pub book_of : List ℕ → Book
book_of m =
    record { balance_of = balances_of m; lines_of = lines_of m; blocks = blocks_of m; orders = open_orders m }

-- which accounts are marked as trading
unfoldable pub trading_of : List ℕ → ℕ → Bool
trading_of m a = between 1 (roster_of m).accounts a && flag m (mark_word a)

-- the whole view
abbrev pub view : List ℕ → State
view m = record { market = market_of m; roster = roster_of m; book = book_of m; beside = record { trading = trading_of m } }
