-- Questions 14 to 17 and 19 to 24 of an order that a NEW enters or a REPLACE raises, asked of a desk's memory.
use Rattle.std.specs.Prelude.{◌≤◌, ◌≡◌, ◌++◌}
use Rattle.integers.specs.Basics.{ℕ, true, List, Some}
use Rattle.ledger.specs.declared.order.Order.{Order}
use Rattle.ledger.specs.Roster.{Numbered}
use Rattle.limits.specs.Questions.{Question, first_no}
use Rattle.limits.specs.Raised.{Raised}
use Rattle.limits.specs.Asked.{limits_set, position_questions}
use Rattle.limits.specs.Numbers.{size_questions}
use Rattle.book.specs.Table.{admission_questions}
use Rattle.memory_layout.specs.View.{market_of, roster_of, lines_of, balances_of, open_orders, book_of, view}

-- 14 to 17: account, instrument and group unblocked, limits set
unfoldable pub admission : List ℕ → Order → List Question
unfolding book_of
admission m o = admission_questions (view m) (Some o)

-- 19 to 24: the order's size, and the positions with the event applied, `after` being the open orders then
unfoldable pub within_limits : List ℕ → List Order → Order → List Question
within_limits m after o =
    size_questions (market_of m).unit (roster_of m) (lines_of m o.account) o
    ++ position_questions (market_of m).unit (roster_of m) (lines_of m o.account) after (balances_of m o.account) o

-- `answer` is that to 21 to 24 with `added` contracts more of the order open, whichever list the open orders then are
abbrev pub PositionsAnswered : List ℕ → Order → ℕ → ℕ → Type 0
PositionsAnswered m o added answer =
    (after : List Order)
    → Raised added o (open_orders m) after
    → answer ≡ first_no (position_questions (market_of m).unit (roster_of m) (lines_of m o.account) after (balances_of m o.account) o)

-- an order whose account and instrument are on the roster
pub record OnRoster (m : List ℕ) (o : Order) : Type 0 where
  pub account : Numbered (roster_of m).accounts o.account
  pub instrument : Numbered (roster_of m).instruments o.instrument

-- an order with a line in force and a group line, its total in range and no more of it added than any total
pub record Sizable (m : List ℕ) (o : Order) (added : ℕ) : Type 0 where
  pub set : limits_set (roster_of m) (lines_of m o.account) o ≡ true
  pub total : o.total ≤ 1000000
  pub small : added ≤ 1000000
