-- What a NEW and a change do to the open orders: what counts of one order is another number, and the balances move by what is filled.
use Rattle.std.specs.Prelude.{◌*◌, ◌-◌, ◌≡◌, ◌≢◌, ◌∷◌, ◌+ℤ◌}
use Rattle.integers.specs.Basics.{ℕ, refl, ◌∙◌, ap, fun_ext, by_cases, [], Option, None, Some, ℤ, pos}
use Rattle.integers.specs.Basics.{+ℤ_idr, ℕ_discrete, arith, ne_eqb, signed}
use Rattle.ledger.specs.declared.order.Order.{Order}
use Rattle.ledger.specs.declared.order.Side.{Side}
use Rattle.ledger.specs.Orders.{remaining, filled_by, closes}
use Rattle.ledger.specs.Positions.{way_of, stands_in}
use Rattle.ledger.specs.Fillings.{fill_moves}
use Rattle.ledger.proofs.Sums.{Joined, Changed}
use Rattle.ledger.proofs.Changes.{CountChanged, entered, becomes, left}
use Rattle.ledger.proofs.Ways.{by_test, zero_toward}
use Rattle.book.specs.declared.OrderChange.{OrderChange}
use Rattle.book.specs.declared.Event.TheVariants.{New, Change}
use Rattle.book.specs.OpenOrders.{find, insert, kept}
use Rattle.book.specs.Books.{new_order, order_after, changed, filled_in, filled_balances, book_after}
use Rattle.book.specs.States.{State, work}
use Rattle.book.proofs.Cuts.{standing, insert_sums, change_sums, leave_sums}
use Rattle.book.proofs.OrderChanges.{after_alike}

pub filled_remaining : (o : Order) (n : ℕ) → remaining (filled_by o n) ≡ remaining o - n
unfolding remaining filled_by
filled_remaining o n = omega arith

pub kept_none : (o : Order) → remaining o ≡ 0 → kept o ≡ []
unfolding kept closes
kept_none o e = rw e

pub kept_some : (o : Order) → remaining o ≢ 0 → kept o ≡ o ∷ []
unfolding kept closes
kept_some o h = rw (ne_eqb (remaining o) 0 h)

-- a fill of nothing moves nothing
pub no_fill : (unit : Order → ℕ) (a i : ℕ) (o : Order) → fill_moves unit a i o 0 ≡ pos 0
unfolding fill_moves
no_fill unit a i o =
    let nought : pos (unit o * 0) ≡ pos 0 = omega signed in
    by_test (stands_in a i o) (λ t. rw (t, nought) (zero_toward (way_of o.side))) (λ t. rw t)

pub none_filled : (unit : Order → ℕ) (x : Option Order) (s : ℕ → ℕ → ℤ) (a : ℕ) → filled_balances unit x 0 s a ≡ s a
none_filled unit None s a = refl
none_filled unit (Some o) s a = fun_ext (λ i. ap (λ z. s a i +ℤ z) (no_fill unit a i o) ∙ +ℤ_idr (s a i))

module _ (k : State) where
  pub new_shift : (s : Side) (a i id : ℕ) (n : ℤ)
      → CountChanged k.market.unit (new_order s a i id n) 0 (remaining (new_order s a i id n)) k.book.orders
      (work k (New s a i id n)).book.orders
  unfolding book_after
  new_shift s a i id n =
      let o = new_order s a i id n in
      entered k.market.unit o k.book.orders (insert o k.book.orders) (insert_sums o k.book.orders)

  module _ (id : ℕ) (o : Order) (found : find id k.book.orders ≡ Some o) where
    -- a change by which the order becomes o', or leaves
    stays : (c : OrderChange) (o' : Order) → changed c o ≡ o' ∷ [] → Changed o o' k.book.orders (work k (Change id c)).book.orders
    unfolding book_after
    stays c o' = change_sums (standing id k.book.orders o found) (changed c) o'

    leaves : (c : OrderChange) → changed c o ≡ [] → Joined o (work k (Change id c)).book.orders k.book.orders
    unfolding book_after
    leaves c = leave_sums (standing id k.book.orders o found) (changed c)

    -- what counts of the order goes from what remains of it to what remains after the change
    pub change_shift : (c : OrderChange) → CountChanged k.market.unit o (remaining o) (remaining (order_after c o)) k.book.orders
        (work k (Change id c)).book.orders
    unfolding changed
    change_shift c =
        by_cases (ℕ_discrete (remaining (order_after c o)) 0)
        (λ e. rw e
        (left k.market.unit o k.book.orders (work k (Change id c)).book.orders (leaves c (kept_none (order_after c o) e))))
        (λ h. becomes k.market.unit o k.book.orders (work k (Change id c)).book.orders (after_alike k.market c o)
        (stays c (order_after c o) (kept_some (order_after c o) h)))

    -- the balances move by what is filled
    pub change_balances : (c : OrderChange) (a i : ℕ)
        → (work k (Change id c)).book.balance_of a i ≡ k.book.balance_of a i +ℤ fill_moves k.market.unit a i o (filled_in c)
    unfolding book_after
    change_balances c a i = rw found
