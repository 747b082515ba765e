-- Question 5: is the lent memory long enough, and does it hold a sound desk? Each part is computed. `holds` is what this layout asks;
-- `sound` is document 01's definition of a sound desk, clause by clause, each with its sentence:
--   "its roster would be accepted"                                       roster_sound
--   "its lines and orders are in range"                                  lines_sound; order_in_range
--   "open ids are non-zero and differ"                                   ids_sound
--   "every remaining is at least 1"                                      remains
--   "B and V equal the orders' sums"                                     no test: B and V are not stored, they are those sums
--   "S + B and −S + V are at most 1,000,000,000"                         positions_sound
--   "every account with an open order is marked as trading"              marked
-- The three that are asked of each order by itself stand together in `order_sound`.
use Rattle.std.specs.Prelude.{◌+◌, ◌&&◌, ◌∷◌}
use Rattle.integers.specs.Basics.{ℕ, zero, suc, Bool, true, List, [], pos, le_z, leb, ltb, eqb}
use Rattle.words.specs.Words.{word_at}
use Rattle.ledger.specs.declared.order.Order.{Order}
use Rattle.ledger.specs.Orders.{remaining}
use Rattle.ledger.specs.Records.{order_at}
use Rattle.ledger.specs.Roster.{Roster}
use Rattle.ledger.specs.Positions.{Way, long, short, of_instrument}
use Rattle.limits.specs.declared.lines.Line.{Line}
use Rattle.limits.specs.declared.lines.GroupLine.{GroupLine}
use Rattle.book.specs.Decoding.{between}
use Rattle.memory_layout.specs.Layout.{kind_word, count_word}
use Rattle.memory_layout.specs.Rosters.{every, sizes_fit, names_fit, weights_fit, long_enough}
use Rattle.memory_layout.specs.View.{roster_of, own_figures, default_figures, group_figures, balances_of, first_of, records_of, open_orders}
use Rattle.memory_layout.specs.View.{market_of, trading_of}

-- ---- "its roster would be accepted"
unfoldable pub roster_sound : List ℕ → Bool
roster_sound m = sizes_fit (roster_of m) && names_fit (roster_of m) && weights_fit (roster_of m)

-- ---- "its lines [..] are in range"
-- every figure of a line is from 0 to the market's largest, whether the line is set or not
unfoldable pub line_in_range : ℕ → Line → Bool
line_in_range largest l = leb l.tci largest && leb l.tvi largest && leb l.lci largest && leb l.lvi largest

unfoldable pub group_line_in_range : ℕ → GroupLine → Bool
group_line_in_range largest l = leb l.lcc largest && leb l.lvc largest

-- the lines of account a
unfoldable pub account_lines_sound : List ℕ → ℕ → Bool
account_lines_sound m a =
    let largest = (market_of m).largest in
    every (roster_of m).instruments (λ i. line_in_range largest (own_figures m a i))
    && every (roster_of m).contracts (λ c. line_in_range largest (default_figures m a c))
    && every (roster_of m).groups (λ g. group_line_in_range largest (group_figures m a g))

unfoldable pub lines_sound : List ℕ → Bool
lines_sound m = every (roster_of m).accounts (account_lines_sound m)

-- ---- of each open order
-- "its [..] orders are in range": account and instrument on the roster, total 1 to 1,000,000 (its side is one bit, and either value is
-- a side)
abbrev pub order_in_range : Roster → Order → Bool
order_in_range r o =
    between 1 r.accounts o.account && between 1 r.instruments o.instrument && between 1 1000000 o.total

-- "every remaining is at least 1"
abbrev pub remains : Order → Bool
remains o = leb 1 (remaining o)

-- "every account with an open order is marked as trading"
abbrev pub marked : (ℕ → Bool) → Order → Bool
marked trading o = trading o.account

unfoldable pub order_sound : Roster → (ℕ → Bool) → Order → Bool
order_sound r trading o = order_in_range r o && remains o && marked trading o

-- each of the n records from record p on
unfoldable pub records_sound : Roster → (ℕ → Bool) → List ℕ → ℕ → ℕ → Bool
records_sound r trading m p zero = true
records_sound r trading m p (suc n) =
    order_sound r trading (order_at m p) && records_sound r trading m (p + 1) n

unfoldable pub orders_sound : List ℕ → Bool
orders_sound m =
    records_sound (roster_of m) (trading_of m) (records_of m) 0 (word_at m count_word)

-- ---- "open ids are non-zero and differ"
-- ids above `least`, strictly ascending, as this layout stores them: from 0 on they are non-zero and differ
unfoldable pub ascend : ℕ → List Order → Bool
ascend least [] = true
ascend least (o ∷ os) = ltb least o.id && ascend o.id os

abbrev pub ids_sound : List ℕ → Bool
ids_sound m = ascend 0 (open_orders m)

-- ---- "S + B and −S + V are at most 1,000,000,000", the market's largest figure
-- S + B for long, −S + V for short; B and V are what the open orders say
unfoldable pub position_sound : List ℕ → ℕ → ℕ → Way → Bool
position_sound m a i w =
    le_z (of_instrument (market_of m).unit (open_orders m) a (balances_of m a) i w) (pos (market_of m).largest)

-- both of account a and instrument i
unfoldable pub instrument_sound : List ℕ → ℕ → ℕ → Bool
instrument_sound m a i = position_sound m a i long && position_sound m a i short

unfoldable pub account_sound : List ℕ → ℕ → Bool
account_sound m a = every (roster_of m).instruments (instrument_sound m a)

unfoldable pub positions_sound : List ℕ → Bool
positions_sound m = every (roster_of m).accounts (account_sound m)

-- ---- question 5
-- the layout's own conditions: the kind of desk, the count of orders, their first record
unfoldable pub holds : List ℕ → Bool
holds m = eqb (word_at m kind_word) 1 && leb (word_at m count_word) 256 && leb (first_of m) 256

unfoldable pub sound : List ℕ → Bool
sound m = roster_sound m && lines_sound m && ids_sound m && orders_sound m && positions_sound m

unfoldable pub sound_desk : List ℕ → Bool
sound_desk m = long_enough m && holds m && sound m
