-- Examples of lines and limits, computed.
use Rattle.std.specs.Prelude.{◌≡◌, ◌∷◌}
use Rattle.integers.specs.Basics.{ℕ, refl, Bool, true, false, cond, [], Option, None, Some, ℤ, pos, negsuc, eqb}
use Rattle.integers.specs.Sum.{sum_over, below}
use Rattle.ledger.specs.declared.order.Order.{Order}
use Rattle.ledger.specs.declared.order.Side.{Side}
use Rattle.ledger.specs.declared.order.Side.TheVariants.{Buy, Sell}
use Rattle.ledger.specs.Orders.{remaining}
use Rattle.ledger.specs.Roster.{Roster, group_of_instrument}
use Rattle.ledger.specs.Positions.{instrument, group, long, stands_in, open_on, of_instrument, group_part, sum_group, potential}
use Rattle.limits.specs.declared.lines.Line.{Line}
use Rattle.limits.specs.Lines.{Lines, line_in_force, limit}
use Rattle.limits.specs.Questions.{first_no, all_pass}
use Rattle.limits.specs.Asked.{limits_set, size_fits, moves_instrument, moves_group, within, position_questions}
use Rattle.limits.proofs.Answers.{passed}

-- one contract and group; instruments 1, 2 and 3 of weight 10000, −5000 and 0
abbrev roster : Roster
roster =
    record {
      accounts = 1;
      groups = 1;
      contracts = 1;
      instruments = 3;
      group_of = λ c. 1;
      contract_of = λ i. 1;
      weight =
          λ i. cond (eqb i 1) (pos 10000) (cond (eqb i 2) (negsuc 4999) (pos 0));
    }

abbrev line_of : ℕ → ℕ → ℕ → ℕ → Line
line_of a b c d = record { tci = a; tvi = b; lci = c; lvi = d }

abbrev lines_of : Option Line → Option Line → ℕ → ℕ → Lines
lines_of own default lcc lvc =
    record { own_of = λ i. own; default_of = λ c. default; line_of_group = λ g. Some (record { lcc = lcc; lvc = lvc }) }

abbrev order : Side → ℕ → ℕ → Order
order s i n = record { id = 1; account = 1; instrument = i; side = s; total = n; filled = 0 }

-- the answer of questions 21 to 24 to an order that is the only one, at a balance of S
abbrev judged : Lines → ℤ → Order → ℕ
judged ls S o = first_no (position_questions (λ o. 1) roster ls (o ∷ []) (λ i. S) o)

-- ---- a passed question is found by its number, wherever it stands
by_its_number : (t u : Bool) → all_pass (record { number = 17; passes = t } ∷ record { number = 12; passes = u } ∷ []) ≡ true → u ≡ true
by_its_number t u h = passed (record { number = 17; passes = t } ∷ record { number = 12; passes = u } ∷ []) h 12

-- all that they compute with, as one name
unfoldable computes : Unit {0}
unfolding sum_over below remaining group_of_instrument stands_in open_on of_instrument group_part sum_group potential line_in_force limit
    first_no
    limits_set size_fits moves_instrument moves_group within position_questions
computes = tt

-- ---- the line in force: the own line taken whole, where a figure of 0 is not filled from the default; else the default; else none
in_force : (line_in_force roster (lines_of (Some (line_of 0 5 0 7)) (Some (line_of 9 9 9 9)) 0 0) 1 ≡ Some (line_of 0 5 0 7))
    × (line_in_force roster (lines_of None (Some (line_of 9 8 7 6)) 0 0) 1 ≡ Some (line_of 9 8 7 6))
    × (line_in_force roster (lines_of None None 0 0) 1 ≡ None)
unfolding computes
in_force = (refl, refl, refl)

-- zeros are limits; no line is none
zeros_are_set : limits_set roster (lines_of (Some (line_of 0 0 0 0)) None 0 0) (order Buy 1 1) ≡ true
unfolding computes
zeros_are_set = refl

-- a limit that is not set is below every position of 0 and more, and is not 0; a group limit counts in ten-thousandths
limits : (limits_set roster (lines_of None None 0 0) (order Buy 1 1) ≡ false)
    × (limit roster (lines_of None None 0 0) (instrument 1) long ≡ negsuc 0)
    × (limit roster (lines_of None None 60 7) (group 1) long ≡ pos 600000)
unfolding computes
limits = (refl, refl, refl)

-- ---- the total is compared with TCI or TVI, on the order's own side; reaching it passes, and all of it counts, also what is filled
sizes : (size_fits (λ o. 1) roster (lines_of None (Some (line_of 5 0 0 0)) 0 0) (order Buy 1 5) Buy ≡ true)
    × (size_fits (λ o. 1) roster (lines_of None (Some (line_of 5 9 0 0)) 0 0) (order Buy 1 6) Buy ≡ false)
    × (size_fits (λ o. 1) roster (lines_of None (Some (line_of 9 5 0 0)) 0 0) (order Buy 1 6) Sell ≡ true)
    × (size_fits (λ o. 1) roster (lines_of None (Some (line_of 5 0 0 0)) 0 0)
    (record { id = 1; account = 1; instrument = 1; side = Buy; total = 6; filled = 4 }) Buy ≡ false)
unfolding computes
sizes = (refl, refl, refl, refl)

-- ---- reaching a limit passes, and one past it does not
limit_0_reached : judged (lines_of None (Some (line_of 9 9 0 0)) 99 99) (negsuc 1) (order Buy 1 2) ≡ 0
unfolding computes
limit_0_reached = refl

limit_0_passed : judged (lines_of None (Some (line_of 9 9 0 0)) 99 99) (negsuc 1) (order Buy 1 3) ≡ 21
unfolding computes
limit_0_passed = refl

-- a limit that was lowered below the position on one side does not bear on the other
short_side : (judged (lines_of None (Some (line_of 9 9 0 4)) 99 99) (pos 2) (order Sell 1 6) ≡ 0)
    × (judged (lines_of None (Some (line_of 9 9 0 4)) 99 99) (pos 2) (order Sell 1 7) ≡ 22)
    × (judged (lines_of None (Some (line_of 9 9 0 9)) 99 99) (pos 50) (order Sell 1 5) ≡ 0)
unfolding computes
short_side = (refl, refl, refl)

-- weight −5000: a sell moves the group long. Half a group contract passes a limit of 0; weight 0: no group check, also where the group is
-- past its limit already
groups : (judged (lines_of None (Some (line_of 9 9 9 9)) 0 0) (pos 0) (order Sell 2 1) ≡ 23)
    × (judged (lines_of None (Some (line_of 9 9 9 9)) 0 0) (pos 0) (order Buy 2 1) ≡ 24)
    × (judged (lines_of None (Some (line_of 9 9 9 9)) 0 0) (pos 0) (order Sell 3 1) ≡ 0)
    × (judged (lines_of None (Some (line_of 9 9 9 9)) 0 0) (pos 1) (order Buy 3 1) ≡ 0)
unfolding computes
groups = (refl, refl, refl, refl)
