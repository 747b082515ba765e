-- No filling passes a potential position, of any instrument or group and on any side.
use Rattle.std.specs.Prelude.{◌≤ℤ◌}
use Rattle.integers.specs.Basics.{ℕ, List, ℤ, arith}
use Rattle.ledger.specs.declared.order.Order.{Order}
use Rattle.ledger.specs.Orders.{remaining}
use Rattle.ledger.specs.Roster.{Roster}
use Rattle.ledger.specs.Positions.{Way, Scope, opposite, toward, side_to, of_instrument, potential, position}
use Rattle.ledger.specs.Fillings.{Filling, none, fill, fill_moves, balance_after}
use Rattle.ledger.proofs.Ways.{toward_sum}
use Rattle.ledger.proofs.Amounts.{amount_≤, amount_nonneg, fill_amounts}
use Rattle.ledger.proofs.Sums.{open_none, open_cons, open_nonneg}
use Rattle.ledger.proofs.Scopes.{way_to, potential_weighted, position_weighted, weighted_mono}
use Rattle.ledger.proofs.Linear.{linear}

module _ (unit : Order → ℕ) (a : ℕ) (S : ℕ → ℤ) where
  pub upper_instrument : {orders : List Order} (f : Filling orders) (i : ℕ) (w : Way)
      → toward w (balance_after unit a S f i) ≤ℤ of_instrument unit orders a S i w
  unfolding balance_after of_instrument
  upper_instrument none i w = omega (linear, open_none unit (side_to w) a i)
  upper_instrument (fill {o} {orders} n most f) i w =
      omega (
        linear,
        upper_instrument f i w,
        toward_sum w (balance_after unit a S f i) (fill_moves unit a i o n),
        fill_amounts unit a i o n w,
        amount_≤ unit (side_to w) a i o n (remaining o) (omega arith),
        amount_nonneg unit (side_to (opposite w)) a i o n,
        open_cons unit (side_to w) a i o orders,
      )

  pub upper : {orders : List Order} (f : Filling orders) (r : Roster) (p : Scope) (w : Way)
      → position r (balance_after unit a S f) p w ≤ℤ potential unit r orders a S p w
  upper {orders} f r p w =
      rw (position_weighted r (balance_after unit a S f) p w, potential_weighted unit r orders a S p w)
      (weighted_mono r (λ i. toward (way_to r p w i) (balance_after unit a S f i)) (λ i. of_instrument unit orders a S i (way_to r p w i)) p
      (λ i _. upper_instrument f i (way_to r p w i)))

  -- nor does the position as it stands
  pub upper_standing : (orders : List Order) (r : Roster) (p : Scope) (w : Way) → position r S p w ≤ℤ potential unit r orders a S p w
  unfolding of_instrument
  upper_standing orders r p w =
      rw (position_weighted r S p w, potential_weighted unit r orders a S p w)
      (weighted_mono r (λ i. toward (way_to r p w i) (S i)) (λ i. of_instrument unit orders a S i (way_to r p w i)) p
      (λ i _. omega (linear, open_nonneg unit (side_to (way_to r p w i)) a i orders)))
