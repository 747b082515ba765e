-- By how much an event moves a group's potential positions: the magnitude of the weight times what it moves those of the instrument.
use Rattle.std.specs.Prelude.{◌+◌, ◌*◌, ◌≡◌, ◌≢◌, ◌+ℤ◌, ◌-ℤ◌, ◌*ℤ◌}
use Rattle.integers.specs.Basics.{ℕ, refl, ◌∙◌, sym, ap, Some, ℤ, pos, negsuc, neg_ℤ, nat_abs}
use Rattle.integers.specs.Basics.{difference_parts}
use Rattle.integers.specs.Ring.{*ℤ_neg_ℤ}
use Rattle.ledger.specs.declared.order.Order.{Order}
use Rattle.ledger.specs.declared.order.Side.{Side}
use Rattle.ledger.specs.Orders.{remaining}
use Rattle.ledger.specs.Roster.{Roster, Numbered, group_of_instrument}
use Rattle.ledger.specs.Positions.{Way, long, short, Scope, instrument, group, opposite, way_of, way_by, potential}
use Rattle.ledger.specs.Moves.{Moves}
use Rattle.ledger.proofs.Scopes.{weight_way, way_to, potential_same, group_moved}
use Rattle.ledger.proofs.Changes.{change_apart, shift_group}
use Rattle.ledger.proofs.Linear.{linear}
use Rattle.book.specs.declared.OrderChange.{OrderChange}
use Rattle.book.specs.declared.Event.TheVariants.{New, Change}
use Rattle.book.specs.OpenOrders.{find}
use Rattle.book.specs.Books.{new_order, order_after, filled_in, book_after}
use Rattle.book.specs.States.{State, work}
use Rattle.book.specs.Positions.{potential_of}
use Rattle.book.proofs.Shifts.{change_shift, change_balances, new_shift}
use Rattle.book.proofs.Potentials.{change_own, change_other_side, new_counts}

-- a group's side that a weight turns an order away from is the opposite of the order's own
against_way : (K : ℤ) (w v : Way) → way_by K v ≡ opposite w → v ≡ opposite (way_by K w)
against_way (pos k) w v e = e
against_way (negsuc k) w long e = ap opposite e
against_way (negsuc k) w short e = ap opposite e

-- ---- NEW and a change, at the group of the order's instrument
module _ (k : State) where
  abbrev r : Roster
  r = k.roster

  -- the side to which the order's fills move its group rises by |K| times the quantity
  pub new_group : (s : Side) (a i id : ℕ) (n : ℤ) (w : Way)
      → Numbered r.instruments i
      → Moves r (new_order s a i id n) (group (group_of_instrument r i)) w
      → potential_of (work k (New s a i id n)) a (group (group_of_instrument r i)) w
      ≡ potential_of k a (group (group_of_instrument r i)) w
      +ℤ pos (nat_abs (r.weight i)) *ℤ pos (k.market.unit (new_order s a i id n) * nat_abs n)
  unfolding book_after new_order
  new_group s a i id n w numbered moves =
      shift_group (new_shift k s a i id n) a (k.book.balance_of a) refl (pos (k.market.unit (new_order s a i id n) * nat_abs n))
      (new_counts k s a i id n) r w numbered moves.2

  module _ (id : ℕ) (o : Order) (found : find id k.book.orders ≡ Some o) (c : OrderChange) where
    abbrev after : State
    after = work k (Change id c)

    abbrev own : Scope
    own = group (group_of_instrument r o.instrument)

    abbrev of_account : State → Scope → Way → ℤ
    of_account h p w = potential_of h o.account p w

    abbrev counts : ℕ → ℤ
    counts m = pos (k.market.unit o * m)

    -- other instruments stay
    others : (j : ℕ) → j ≢ o.instrument → (v : Way) → of_account k (instrument j) v ≡ of_account after (instrument j) v
    unfolding potential
    others j apart v =
        let a = o.account in
        sym (change_apart (change_shift k id o found c) (filled_in c) a _ _ (change_balances k id o found c a) j v
        (λ h. apart (sym h.1)))

    group_changed : Numbered r.instruments o.instrument → (w : Way) (d : ℤ)
        → of_account after (instrument o.instrument) (way_by (r.weight o.instrument) w)
        ≡ of_account k (instrument o.instrument) (way_by (r.weight o.instrument) w) +ℤ d
        → of_account after own w ≡ of_account k own w +ℤ pos (nat_abs (r.weight o.instrument)) *ℤ d
    unfolding potential
    group_changed numbered w d moved =
        let a = o.account in
        group_moved k.market.unit r a k.book.orders after.book.orders (k.book.balance_of a) (after.book.balance_of a) w
        o.instrument numbered others d moved

    -- a change moves the side to which the order's fills move its group by |K| times what remains and is filled, less what remained
    pub change_group_own : (w : Way) → Numbered r.instruments o.instrument → Moves r o own w
        → of_account after own w ≡ of_account k own w
        +ℤ pos (nat_abs (r.weight o.instrument)) *ℤ (counts (remaining (order_after c o) + filled_in c) -ℤ counts (remaining o))
    change_group_own w numbered moves =
        let K = r.weight o.instrument in
        let x = counts (remaining (order_after c o) + filled_in c) in
        let y = counts (remaining o) in
        let way : way_by K w ≡ way_of o.side = ap (way_by K) (sym moves.2) ∙ weight_way K (way_of o.side) in
        group_changed numbered w (x -ℤ y) (rw way (omega (linear, change_own k id o found c, difference_parts x y)))

    -- and lowers the other by |K| times what is filled
    pub change_group_other_side : (w : Way) → Numbered r.instruments o.instrument → Moves r o own (opposite w)
        → of_account after own w ≡ of_account k own w -ℤ pos (nat_abs (r.weight o.instrument)) *ℤ counts (filled_in c)
    change_group_other_side w numbered moves =
        let K = r.weight o.instrument in
        let x = counts (filled_in c) in
        let against : way_of o.side ≡ opposite (way_by K w) = against_way K w (way_of o.side) moves.2 in
        group_changed numbered w (neg_ℤ x) (change_other_side k id o found c (way_by K w) against)
        ∙ ap (λ z. of_account k own w +ℤ z) (*ℤ_neg_ℤ (pos (nat_abs K)) x)

    -- at weight 0 it moves neither
    pub change_at_weight_0 : (w : Way) → r.weight o.instrument ≡ pos 0 → of_account after own w ≡ of_account k own w
    unfolding potential
    change_at_weight_0 w weightless =
        let a = o.account in
        potential_same k.market.unit r a after.book.orders k.book.orders (after.book.balance_of a) (k.book.balance_of a) own w
        (λ j bears. sym (others j (λ e. bears.1 (ap r.weight e ∙ weightless)) (way_to r own w j)))
