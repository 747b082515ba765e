-- Document 01, "Positions", of one account: S is its balance of each instrument, `orders` all open orders, `unit o` what
-- one contract of order o counts for (1 on a derivatives desk). What concerns long and short, instrument and group, is said once.
use Rattle.std.specs.Prelude.{◌*◌, ◌&&◌, ◌+ℤ◌, ◌*ℤ◌}
use Rattle.integers.specs.Basics.{ℕ, suc, Bool, true, false, cond, List, ℤ, pos, negsuc, neg_ℤ, eqb}
use Rattle.integers.specs.Sum.{sum_over, sum_to}
use Rattle.ledger.specs.declared.order.Order.{Order}
use Rattle.ledger.specs.declared.order.Side.{Side}
use Rattle.ledger.specs.declared.order.Side.TheVariants.{Buy, Sell}
use Rattle.ledger.specs.Orders.{remaining}
use Rattle.ledger.specs.Roster.{Roster, group_of_instrument}

-- the two sides of a position
pub data Way : Type 0 where
  long : Way
  short : Way

-- what a position is of: an instrument, counted in contracts, or a group, in weighted ten-thousandths
pub data Scope : Type 0 where
  instrument : ℕ → Scope
  group : ℕ → Scope

abbrev pub opposite : Way → Way
opposite long = short
opposite short = long

-- a signed number on a side of a position: the short position is the long one negated
abbrev pub toward : Way → ℤ → ℤ
toward long x = x
toward short x = neg_ℤ x

-- a buy moves its instrument long, a sell short
abbrev pub way_of : Side → Way
way_of Buy = long
way_of Sell = short

abbrev pub side_to : Way → Side
side_to long = Buy
side_to short = Sell

-- by the sign of its weight K an instrument moves its group the way it moves itself, or the opposite way
abbrev pub way_by : ℤ → Way → Way
way_by (pos k) w = w
way_by (negsuc k) w = opposite w

abbrev pub same_side : Side → Side → Bool
same_side Buy Buy = true
same_side Buy Sell = false
same_side Sell Buy = false
same_side Sell Sell = true

-- does the order stand in account a and instrument i
unfoldable pub stands_in : ℕ → ℕ → Order → Bool
stands_in a i o = eqb o.account a && eqb o.instrument i

-- B (side Buy) and V (side Sell) of account a and instrument i: the sum of what remains of its open orders on that side
unfoldable pub open_on : (Order → ℕ) → List Order → Side → ℕ → ℕ → ℤ
open_on unit orders s a i =
    sum_over (λ o. cond (same_side o.side s && stands_in a i o) (pos (unit o * remaining o)) (pos 0)) orders

-- PCI = S + B (long) and PVI = −S + V (short)
unfoldable pub of_instrument : (Order → ℕ) → List Order → ℕ → (ℕ → ℤ) → ℕ → Way → ℤ
of_instrument unit orders a S i w = toward w (S i) +ℤ open_on unit orders (side_to w) a i

-- an instrument's part in PCC (long) or PVC (short), by its weight K and its PCI and PVI, p long and p short:
-- K times the same side's where K ≥ 0, −K times the other side's where K < 0
unfoldable pub group_part : Way → ℤ → (Way → ℤ) → ℤ
group_part w (pos k) p = pos k *ℤ p w
group_part w (negsuc k) p = pos (suc k) *ℤ p (opposite w)

-- the sum of f over the instruments of group g
unfoldable pub sum_group : Roster → ℕ → (ℕ → ℤ) → ℤ
sum_group r g f =
    sum_to (λ j. cond (eqb (group_of_instrument r (suc j)) g) (f (suc j)) (pos 0)) r.instruments

-- the potential position of a scope on a side: PCI, PVI, PCC, PVC
unfoldable pub potential : (Order → ℕ) → Roster → List Order → ℕ → (ℕ → ℤ) → Scope → Way → ℤ
potential unit r orders a S (instrument i) w = of_instrument unit orders a S i w
potential unit r orders a S (group g) w =
    sum_group r g (λ i. group_part w (r.weight i) (of_instrument unit orders a S i))

-- the position of a scope on a side with the balances as they stand: a balance, or the sum of K times the balances
unfoldable pub position : Roster → (ℕ → ℤ) → Scope → Way → ℤ
position r S (instrument i) w = toward w (S i)
position r S (group g) w = toward w (sum_group r g (λ i. r.weight i *ℤ S i))
