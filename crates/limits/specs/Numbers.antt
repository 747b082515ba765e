-- Questions 17, 19 and 20 as tables, and the number of a side's question.
use Rattle.std.specs.Prelude.{◌∷◌}
use Rattle.integers.specs.Basics.{ℕ, List, []}
use Rattle.ledger.specs.declared.order.Order.{Order}
use Rattle.ledger.specs.declared.order.Side.{Side}
use Rattle.ledger.specs.declared.order.Side.TheVariants.{Buy, Sell}
use Rattle.ledger.specs.Roster.{Roster}
use Rattle.ledger.specs.Positions.{Way, long, short}
use Rattle.limits.specs.Lines.{Lines}
use Rattle.limits.specs.Questions.{Question}
use Rattle.limits.specs.Asked.{limits_set, size_fits}

-- the question of an order's size, on a side
abbrev pub order_number : Side → ℕ
order_number Buy = 19
order_number Sell = 20

-- the questions of a position on a side: an instrument's, a group's
abbrev pub instrument_number : Way → ℕ
instrument_number long = 21
instrument_number short = 22

abbrev pub group_number : Way → ℕ
group_number long = 23
group_number short = 24

-- 17
unfoldable pub existence_questions : Roster → Lines → Order → List Question
existence_questions r ls o = record { number = 17; passes = limits_set r ls o } ∷ []

-- 19 and 20
unfoldable pub size_questions : (Order → ℕ) → Roster → Lines → Order → List Question
size_questions unit r ls o =
    record { number = 19; passes = size_fits unit r ls o Buy } ∷ record { number = 20; passes = size_fits unit r ls o Sell } ∷ []
