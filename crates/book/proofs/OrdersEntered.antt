-- The event that N is: it enters or raises one order, of a marked account, and leaves every line as it is.
use Rattle.std.specs.Prelude.{◌≡◌}
use Rattle.integers.specs.Basics.{refl, true, Some}
use Rattle.ledger.specs.declared.order.Order.{Order}
use Rattle.ledger.specs.Orders.{replaced_total}
use Rattle.limits.proofs.LineLaws.{none_some}
use Rattle.book.specs.declared.Event.{Event}
use Rattle.book.specs.declared.Event.TheVariants.{Set, New, Change, Junk}
use Rattle.book.specs.OpenOrders.{find}
use Rattle.book.specs.Books.{new_order, book_after}
use Rattle.book.specs.States.{State, mark, work}
use Rattle.book.specs.Table.{entered}
use Rattle.book.specs.Sound.{Sound}
use Rattle.book.proofs.Cuts.{standing, standing_member}
use Rattle.book.proofs.Tables.{at_here}
use Rattle.book.proofs.OrderChanges.{raised_found}

pub enters_lines : (k : State) (e : Event) (o : Order) → entered k.book e ≡ Some o → (work k e).book.lines_of ≡ k.book.lines_of
unfolding entered book_after
enters_lines k (Set x) o enters = none_some o enters
enters_lines k (New s c i id n) o enters = refl
enters_lines k (Change id c) o enters = refl
enters_lines k Junk o enters = refl

pub enters_marked : (k : State) → Sound k → (e : Event) (o : Order) → entered k.book e ≡ Some o
    → (work k e).beside.trading o.account ≡ true
unfolding entered mark new_order replaced_total
enters_marked k sound (Set x) o enters = none_some o enters
enters_marked k sound (New s c i id n) o enters =
    let same : new_order s c i id n ≡ o = cc in
    rw (← same) (at_here c true k.beside.trading c refl)
enters_marked k sound (Change id c) o enters =
    let h = raised_found c (find id k.book.orders) o enters in
    rw h.5 (sound.marked h.1 (standing_member (standing id k.book.orders h.1 h.3)))
enters_marked k sound Junk o enters = none_some o enters
