-- The order that the later questions of an event's table are asked of.
use Rattle.std.specs.Prelude.{◌<◌, ◌≡◌, ◌⊎◌, ◌↔◌}
use Rattle.integers.specs.Basics.{ℕ, sym, ap, inl, inr, ⊎_elim, Some, ℤ, nat_abs, lt-ltb}
use Rattle.ledger.specs.declared.order.Order.{Order}
use Rattle.ledger.specs.Orders.{replaced_total}
use Rattle.limits.proofs.LineLaws.{none_some}
use Rattle.book.specs.declared.Event.{Event}
use Rattle.book.specs.declared.OrderChange.TheVariants.{Replace}
use Rattle.book.specs.declared.Event.TheVariants.{Set, New, Change, Junk}
use Rattle.book.specs.OpenOrders.{find}
use Rattle.book.specs.Books.{Book, new_order}
use Rattle.book.specs.Table.{entered}
use Rattle.book.proofs.OrderChanges.{raised_found}

-- ---- "The rest is for NEW, and for a REPLACE whose total rises": the order that such an event enters or raises to, and no other event
-- does either
-- a NEW: "an order joins, with id, account, instrument, side, total, filled 0"
abbrev pub IsNew : Event → Order → Type 0
IsNew e o = (n : ℤ) × (e ≡ New o.side o.account o.instrument o.id n) × (o.total ≡ nat_abs n) × (o.filled ≡ 0)

-- a REPLACE of an order x that is open, to a total above its own: "the order with that id gets the new total"
abbrev pub Raises : Book → Event → Order → Type 0
Raises b e o =
    (id : ℕ)
    × (n : ℤ)
    × (x : Order)
    × (e ≡ Change id (Replace n))
    × (find id b.orders ≡ Some x)
    × (x.total < nat_abs n)
    × (o ≡ record { id = x.id; account = x.account; instrument = x.instrument; side = x.side; total = nat_abs n; filled = x.filled })

pub entered_iff : (b : Book) (e : Event) (o : Order) → (entered b e ≡ Some o) ↔ (IsNew e o ⊎ Raises b e o)
unfolding entered new_order replaced_total
entered_iff b e o = (
  there e,
  ⊎_elim (λ h. rw h.1
      (λ i. Some (record {
        id = o.id;
        account = o.account;
        instrument = o.instrument;
        side = o.side;
        total = sym h.2 i;
        filled =
            sym h.3 i;
      })))
      (λ h. rw (h.3, h.4, lt-ltb h.2.total (nat_abs h.1) h.5, h.6)),
)
  where
    there : (e : Event) → entered b e ≡ Some o → IsNew e o ⊎ Raises b e o
    there (Set x) h = none_some o h
    there (New s a i id n) h = inl (n, cc, cc, cc)
    there (Change id c) h =
        let found = raised_found c (find id b.orders) o h in
        inr (id, found.0, found.1, ap (Change id) found.2, found.3, found.4, found.5)
    there Junk h = none_some o h
