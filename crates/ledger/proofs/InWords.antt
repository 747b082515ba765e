-- Fillings, moves and positions in document 01's words.
use Rattle.std.specs.Prelude.{◌≤◌, ◌≡◌, ◌⊎◌, ◌↔◌, ◌≢◌, ◌∷◌, ◌+ℤ◌, ◌*ℤ◌, ◌<ℤ◌}
use Rattle.integers.specs.Basics.{ℕ, refl, sym, ap, inl, inr, ⊎_elim, List, [], ℤ, pos, negsuc, neg_ℤ}
use Rattle.integers.specs.Basics.{signed}
use Rattle.ledger.specs.declared.order.Order.{Order}
use Rattle.ledger.specs.declared.order.Side.{Side}
use Rattle.ledger.specs.declared.order.Side.TheVariants.{Buy, Sell}
use Rattle.ledger.specs.Orders.{remaining}
use Rattle.ledger.specs.Roster.{Roster, group_of_instrument}
use Rattle.ledger.specs.Positions.{Way, long, short, Scope, instrument, group, opposite, way_of, way_by, sum_group, position}
use Rattle.ledger.specs.Fillings.{Filling, none, fill, fill_moves, balance_after}
use Rattle.ledger.specs.Moves.{Moves}

-- ---- "A filling fills each open order by any whole number from 0 to its remaining, and balances move as under FILL."
-- one order more, filled by any such number, beside any filling of the others
pub any_number : {orders : List Order} (o : Order) (n : ℕ) → n ≤ remaining o → (f : Filling orders) → (g : Filling (o ∷ orders))
    × ((unit : Order → ℕ) (a : ℕ) (S : ℕ → ℤ) (i : ℕ) → balance_after unit a S g i ≡ balance_after unit a S f i +ℤ fill_moves unit a i o n)
unfolding balance_after
any_number o n most f = (fill {o = o} n most f, λ unit a S i. refl)

-- every filling of one order more is such a one
pub no_other_number : {o : Order} {orders : List Order} (g : Filling (o ∷ orders)) → (n : ℕ) × (n ≤ remaining o) × (f : Filling orders)
    × ((unit : Order → ℕ) (a : ℕ) (S : ℕ → ℤ) (i : ℕ) → balance_after unit a S g i ≡ balance_after unit a S f i +ℤ fill_moves unit a i o n)
unfolding balance_after
no_other_number (fill n most f) = (n, most, f, λ unit a S i. refl)

-- where no order is open, the balances stay
pub nothing_to_fill : (f : Filling []) (unit : Order → ℕ) (a : ℕ) (S : ℕ → ℤ) (i : ℕ) → balance_after unit a S f i ≡ S i
unfolding balance_after
nothing_to_fill none unit a S i = refl

pub nothing_filled : Filling []
nothing_filled = none

-- ---- "A buy moves its instrument long and, by the sign of K, its group long or short; a sell does the opposite; K = 0 moves no group."
-- a buy one way, a sell the other
abbrev pub BuyOrSell : Side → Way → Way → Way → Type 0
BuyOrSell s w buys sells = ((s ≡ Buy) × (w ≡ buys)) ⊎ ((s ≡ Sell) × (w ≡ sells))

bought_or_sold : (way : Side → Way) (s : Side) (w : Way) → (way s ≡ w) ↔ BuyOrSell s w (way Buy) (way Sell)
bought_or_sold way s w = (there s, ⊎_elim (λ h. rw (h.0, h.1)) (λ h. rw (h.0, h.1)))
  where
    there : (s : Side) → way s ≡ w → BuyOrSell s w (way Buy) (way Sell)
    there Buy e = inl (refl, sym e)
    there Sell e = inr (refl, sym e)

pub moves_instrument_lem : (r : Roster) (o : Order) (i : ℕ) (w : Way) → Moves r o (instrument i) w
    ↔ ((o.instrument ≡ i) × BuyOrSell o.side w long short)
moves_instrument_lem r o i w =
    let sides = bought_or_sold way_of o.side w in
    (λ m. (m.0, sides.0 m.1), λ h. (h.0, sides.1 h.1))

pub moves_group_lem : (r : Roster) (o : Order) (g : ℕ) (w : Way) → Moves r o (group g) w ↔ ((group_of_instrument r o.instrument ≡ g)
    × (((pos 0 <ℤ r.weight o.instrument) × BuyOrSell o.side w long short) ⊎ ((r.weight o.instrument <ℤ pos 0)
    × BuyOrSell o.side w short long)))
moves_group_lem r o g w = (
  λ m. (m.0, there (r.weight o.instrument) m.1 m.2),
  λ h. let b = back (r.weight o.instrument) h.1 in (h.0, b.0, b.1),
)
  where
    turned : Side → Way
    turned s = opposite (way_of s)

    ByWeight : ℤ → Type 0
    ByWeight K = ((pos 0 <ℤ K) × BuyOrSell o.side w long short) ⊎ ((K <ℤ pos 0) × BuyOrSell o.side w short long)

    there : (K : ℤ) → K ≢ pos 0 → way_by K (way_of o.side) ≡ w → ByWeight K
    there (pos n) apart e = let h : n ≢ 0 = (λ z. apart (ap pos z)) in inl (omega signed, (bought_or_sold way_of o.side w).0 e)
    there (negsuc n) apart e = inr (omega signed, (bought_or_sold turned o.side w).0 e)

    back : (K : ℤ) → ByWeight K → (K ≢ pos 0) × (way_by K (way_of o.side) ≡ w)
    back (pos n) (inl h) = ((λ e. omega (signed, h.0)), (bought_or_sold way_of o.side w).1 h.1)
    back (pos n) (inr h) = absurd (omega (signed, h.0))
    back (negsuc n) (inl h) = absurd (omega (signed, h.0))
    back (negsuc n) (inr h) = ((λ e. omega (signed, h.0)), (bought_or_sold turned o.side w).1 h.1)

-- ---- "After it an instrument's long position is its balance and a group's is the sum of K times the balances; the short position is the
-- long one negated."
pub position_instrument : (r : Roster) (S : ℕ → ℤ) (i : ℕ) → position r S (instrument i) long ≡ S i
unfolding position
position_instrument r S i = refl

pub position_group : (r : Roster) (S : ℕ → ℤ) (g : ℕ) → position r S (group g) long ≡ sum_group r g (λ i. r.weight i *ℤ S i)
unfolding position
position_group r S g = refl

pub position_short : (r : Roster) (S : ℕ → ℤ) (p : Scope) → position r S p short ≡ neg_ℤ (position r S p long)
unfolding position
position_short r S (instrument i) = refl
position_short r S (group g) = refl
