-- What an accepted BALANCE, NEW or change of an open order does to each potential position; no other kind moves any.
use Rattle.std.specs.Prelude.{◌+◌, ◌*◌, ◌-◌, ◌≤◌, ◌≡◌, ◌≢◌, ◌+ℤ◌, ◌-ℤ◌, ◌≤ℤ◌}
use Rattle.integers.specs.Basics.{ℕ, refl, ◌∙◌, ap, ListMemᴰ, Some, ℤ, pos, nat_abs, arith}
use Rattle.ledger.specs.declared.order.Order.{Order}
use Rattle.ledger.specs.declared.order.Side.{Side}
use Rattle.ledger.specs.Orders.{remaining}
use Rattle.ledger.specs.Positions.{Way, Scope, instrument, opposite, way_of, potential, position}
use Rattle.ledger.specs.Moves.{Moves}
use Rattle.ledger.proofs.Changes.{shift_unmoved, shift_of_another, shift_by, change_here, change_opposite, lowers, unmoved, idle}
use Rattle.book.specs.declared.Setting.TheVariants.{Balance}
use Rattle.book.specs.declared.OrderChange.{OrderChange}
use Rattle.book.specs.declared.Event.TheVariants.{Set, New, Change}
use Rattle.book.specs.OpenOrders.{find}
use Rattle.book.specs.Books.{at, new_order, order_after, filled_in, book_after}
use Rattle.book.specs.States.{State, work}
use Rattle.book.specs.Positions.{potential_of}
use Rattle.book.proofs.Tables.{at_here, at_elsewhere}
use Rattle.book.proofs.Shifts.{new_shift, change_shift, change_balances}

module _ (k : State) (a : ℕ) (p : Scope) (w : Way) where
  -- BALANCE moves none of another account
  pub balance_other : (c i : ℕ) (z : ℤ) → a ≢ c → potential_of (work k (Set (Balance c i z))) a p w ≡ potential_of k a p w
  unfolding book_after
  balance_other c i z other =
      ap (λ S. potential k.market.unit k.roster k.book.orders a S p w)
      (at_elsewhere c (at i z (k.book.balance_of c)) k.book.balance_of a other)

  -- and where the account has no open order, its potential positions are its positions
  pub balance_own : (i : ℕ) (z : ℤ) → ((o : Order) → ListMemᴰ o k.book.orders → o.account ≢ a)
      → potential_of (work k (Set (Balance a i z))) a p w ≡ position k.roster (at i z (k.book.balance_of a)) p w
  unfolding book_after
  balance_own i z none_open =
      ap (λ S. potential k.market.unit k.roster k.book.orders a S p w)
      (at_here a (at i z (k.book.balance_of a)) k.book.balance_of a refl)
      ∙ idle k.market.unit k.roster a k.book.orders (at i z (k.book.balance_of a)) p w none_open

  -- NEW moves none but those that its fills move, and none of another account
  module _ (s : Side) (c i id : ℕ) (n : ℤ) where
    pub new_unmoved : ¬ Moves k.roster (new_order s c i id n) p w
        → potential_of (work k (New s c i id n)) a p w ≡ potential_of k a p w
    unfolding book_after
    new_unmoved = shift_unmoved (new_shift k s c i id n) a (k.book.balance_of a) k.roster p w

    pub new_other : c ≢ a → potential_of (work k (New s c i id n)) a p w ≡ potential_of k a p w
    unfolding book_after new_order
    new_other = shift_of_another (new_shift k s c i id n) a (k.book.balance_of a) k.roster p w

  module _ (id : ℕ) (o : Order) (found : find id k.book.orders ≡ Some o) where
    -- a change that leaves no more to remain, with what it fills, than remained raises none: a REPLACE whose total does not rise, a
    -- CANCEL, a FILL
    pub change_lowers : (c : OrderChange) → remaining (order_after c o) + filled_in c ≤ remaining o
        → potential_of (work k (Change id c)) a p w ≤ℤ potential_of k a p w
    change_lowers c = lowers (change_shift k id o found c) (filled_in c) a _ _ (change_balances k id o found c a) k.roster p w

    -- and none raises what the order's fills do not move
    pub change_unmoved : (c : OrderChange) → ¬ ((o.account ≡ a) × Moves k.roster o p w)
        → potential_of (work k (Change id c)) a p w ≤ℤ potential_of k a p w
    change_unmoved c = unmoved (change_shift k id o found c) (filled_in c) a _ _ (change_balances k id o found c a) k.roster p w

-- ---- by how much: the order's own instrument, on the side to which its fills move it
module _ (k : State) where
  -- a new order counts for nothing before, and for its quantity after
  pub new_counts : (s : Side) (a i id : ℕ) (n : ℤ) → let o = new_order s a i id n in
      pos (k.market.unit o * 0) +ℤ pos (k.market.unit o * nat_abs n) ≡ pos (k.market.unit o * remaining o)
  unfolding new_order remaining
  new_counts s a i id n = let e : nat_abs n - 0 ≡ nat_abs n = omega arith in rw e (ap pos (omega arith))

  pub new_own : (s : Side) (a i id : ℕ) (n : ℤ) → potential_of (work k (New s a i id n)) a (instrument i) (way_of s)
      ≡ potential_of k a (instrument i) (way_of s) +ℤ pos (k.market.unit (new_order s a i id n) * nat_abs n)
  unfolding book_after potential new_order
  new_own s a i id n = shift_by (new_shift k s a i id n) a (k.book.balance_of a) refl _ (new_counts s a i id n) (way_of s) refl

  module _ (id : ℕ) (o : Order) (found : find id k.book.orders ≡ Some o) where
    -- the position of the order's account and instrument on side w, and what m contracts of the order count for
    abbrev own_at : State → Way → ℤ
    own_at h w = potential_of h o.account (instrument o.instrument) w

    abbrev counts : ℕ → ℤ
    counts m = pos (k.market.unit o * m)

    -- a change: on the side to which its fills move it, what remains and is filled takes the place of what remained. A REPLACE counts the
    -- order at its new total less what is filled, a CANCEL takes what remained, a FILL leaves that side as it was
    pub change_own : (c : OrderChange) → own_at (work k (Change id c)) (way_of o.side) +ℤ counts (remaining o)
        ≡ own_at k (way_of o.side) +ℤ counts (remaining (order_after c o) + filled_in c)
    unfolding potential
    change_own c =
        let a = o.account in
        change_here (change_shift k id o found c) (filled_in c) a _ _ (change_balances k id o found c a) o.instrument (way_of o.side)
        refl refl refl

    -- and the other side falls by what is filled
    pub change_other_side : (c : OrderChange) (v : Way) → way_of o.side ≡ opposite v
        → own_at (work k (Change id c)) v ≡ own_at k v -ℤ counts (filled_in c)
    unfolding potential
    change_other_side c v =
        let a = o.account in
        change_opposite (change_shift k id o found c) (filled_in c) a _ _ (change_balances k id o found c a) o.instrument v refl refl
