-- Accepted FILLs are a filling: whatever FILLs the table accepts one after the other, what they make of a sound book is
-- what one filling of its open orders makes of it.
use Rattle.std.specs.Prelude.{◌+◌, ◌*◌, ◌≤◌, ◌≡◌, ◌∷◌, ◌++◌, ◌+ℤ◌}
use Rattle.integers.specs.Basics.{ℕ, refl, ◌∙◌, sym, ap, subst, fun_ext, by_cases, List, [], ListMemᴰ}
use Rattle.integers.specs.Basics.{ListMemᴰ_head, ListMemᴰ_tail, Some, ℤ, pos, nat_abs, +ℤ_idr, eqb, ℕ_discrete, arith, leb-true}
use Rattle.integers.specs.Basics.{sum_parts}
use Rattle.ledger.specs.declared.order.Order.{Order}
use Rattle.ledger.specs.Orders.{remaining, filled_by}
use Rattle.ledger.specs.Positions.{way_of, stands_in}
use Rattle.ledger.specs.Fillings.{Filling, none, fill, fill_moves, balance_after}
use Rattle.ledger.proofs.Ways.{by_test, toward_sum}
use Rattle.ledger.proofs.Linear.{linear}
use Rattle.book.specs.declared.OrderChange.TheVariants.{Fill}
use Rattle.book.specs.declared.Event.{Event}
use Rattle.book.specs.OpenOrders.{find, change, kept}
use Rattle.book.specs.Books.{order_after, changed, book_after}
use Rattle.book.specs.States.{State, work}
use Rattle.book.specs.Table.{answer}
use Rattle.book.specs.Sound.{Sound}
use Rattle.book.proofs.Accepted.{accepted}
use Rattle.book.proofs.Shifts.{filled_remaining, kept_none, kept_some, no_fill, change_balances}
use Rattle.book.proofs.Within.{named_order}
use Rattle.book.proofs.SoundSteps.{sound_step}
use Rattle.book.proofs.Fills.{leaves, kept_whole, after_moved, fill_of, Fills, done, then}

-- ---- a filling by nothing, and of one order
-- a filling f that moves each balance as `moved` says, and leaves `rest` open
abbrev pub Makes : (Order → ℕ) → List Order → (ℕ → ℕ → ℤ) → List Order → Type 0
Makes unit os moved rest =
    (f : Filling os) × ((a : ℕ) (S : ℕ → ℤ) (i : ℕ) → balance_after unit a S f i ≡ S i +ℤ moved a i) × (leaves f ≡ rest)

module _ (unit : Order → ℕ) where
  by_nothing : (os : List Order) → ((x : Order) → ListMemᴰ x os → 1 ≤ remaining x) → Makes unit os (λ a i. pos 0) os
  unfolding balance_after leaves
  by_nothing [] open-each = (none, λ a S i. sym (+ℤ_idr (S i)), refl)
  by_nothing (o ∷ os) open-each =
      let h = by_nothing os (λ x m. open-each x (ListMemᴰ_tail m)) in (
        fill {o = o} 0 (omega arith) h.0,
        λ a S i. ap (λ x. x +ℤ fill_moves unit a i o 0) (h.1 a S i) ∙ ap (λ x. S i +ℤ pos 0 +ℤ x) (no_fill unit a i o)
            ∙ +ℤ_idr (S i +ℤ pos 0),
        rw (kept_whole o (open-each o (ListMemᴰ_head refl)), h.2),
      )

  of_one : (os : List Order) → ((x : Order) → ListMemᴰ x os → 1 ≤ remaining x) → (id n : ℕ) (o : Order) → find id os ≡ Some o
      → n ≤ remaining o → Makes unit os (λ a i. fill_moves unit a i o n) (change id (λ y. kept (filled_by y n)) os)
  unfolding balance_after leaves find change
  of_one [] open-each id n o found most = cc
  of_one (x ∷ os) open-each id n o found most =
      by_test (eqb x.id id)
      (λ t.
      let there = rw t at found in
      let same : x ≡ o = cc in
      let h = by_nothing os (λ y m. open-each y (ListMemᴰ_tail m)) in (
        fill {o = x} n (rw same most) h.0,
        λ a S i. ap (λ z. z +ℤ fill_moves unit a i x n) (h.1 a S i ∙ +ℤ_idr (S i)) ∙ ap (λ y. S i +ℤ fill_moves unit a i y n) same,
        rw (t, h.2),
      ))
      (λ t.
      let h = of_one os (λ y m. open-each y (ListMemᴰ_tail m)) id n o (rw t at found) most in (
        fill {o = x} 0 (omega arith) h.0,
        λ a S i. ap (λ z. balance_after unit a S h.0 i +ℤ z) (no_fill unit a i x) ∙ +ℤ_idr (balance_after unit a S h.0 i)
            ∙ h.1 a S i,
        rw (t, kept_whole x (open-each x (ListMemᴰ_head refl)), h.2),
      ))

-- ---- a filling after a filling
-- an order that closes is gone, another stays
data Stays (o : Order) : List Order → Type 0 where
  closed : kept o ≡ [] → Stays o []
  stays : kept o ≡ o ∷ [] → Stays o (o ∷ [])

stays? : (o : Order) → Stays o (kept o)
stays? o =
    by_cases (ℕ_discrete (remaining o) 0) (λ e. rw (kept_none o e) (closed (kept_none o e)))
    (λ h. rw (kept_some o h) (stays (kept_some o h)))

fill_more : (unit : Order → ℕ) (a i : ℕ) (o : Order) (n m : ℕ) → unit (filled_by o n) ≡ unit o
    → fill_moves unit a i o (n + m) ≡ fill_moves unit a i o n +ℤ fill_moves unit a i (filled_by o n) m
unfolding fill_moves filled_by stands_in
fill_more unit a i o n m same =
    let sum : pos (unit o * (n + m)) ≡ pos (unit o * n) +ℤ pos (unit o * m) = ap pos (omega arith) in
    rw same (by_test (stands_in a i o)
    (λ t. rw (t, sum) (toward_sum (way_of o.side) (pos (unit o * n)) (pos (unit o * m)))) (λ t. rw t))

filled_twice : (o : Order) (n m : ℕ) → filled_by (filled_by o n) m ≡ filled_by o (n + m)
unfolding filled_by
filled_twice o n m =
    ap (λ k. record { id = o.id; account = o.account; instrument = o.instrument; side = o.side; total = o.total; filled = k })
    (omega arith)

abbrev Joins : (Order → ℕ) → {os : List Order} (f : Filling os) {rest : List Order} (g : Filling rest) → Type 0
Joins unit {os} f g =
    (h : Filling os) × ((a : ℕ) (S : ℕ → ℤ) (i : ℕ) → balance_after unit a S h i ≡ balance_after unit a (balance_after unit a S f) g i)
    × (leaves h ≡ leaves g)

module _ (unit : Order → ℕ) (same_unit : (o : Order) (n : ℕ) → unit (filled_by o n) ≡ unit o) where
  joined : {os : List Order} (f : Filling os) (g : Filling (leaves f)) → Joins unit f g
  unfolding balance_after leaves
  joined none g = ends g
    where
      ends : (g : Filling []) → Joins unit none g
      ends none = (none, λ a S i. refl, refl)
  joined (fill {o} {orders} n most f) g = go (kept (filled_by o n)) (stays? (filled_by o n)) g (joined f)
    where
      go : (l : List Order) → Stays (filled_by o n) l → (g : Filling (l ++ leaves f)) → ((g : Filling (leaves f)) → Joins unit f g)
          → Joins unit (fill {o = o} n most f) g
      go l (closed e) g rest =
          let h = rest g in (
            fill {o = o} n most h.0,
            λ a S i. ap (λ z. z +ℤ fill_moves unit a i o n) (h.1 a S i)
                ∙ sym (after_moved unit a (balance_after unit a S f) (λ j. balance_after unit a S f j +ℤ fill_moves unit a j o n)
                (λ j. fill_moves unit a j o n) g i refl),
            rw (e, h.2),
          )
      go l (stays e) (fill m most' g) rest =
          let h = rest g in
          let fits = filled_remaining o n in (
            fill {o = o} (n + m) (omega arith) h.0,
            λ a S i.
                let x = balance_after unit a (balance_after unit a S f) g i in
                let y = balance_after unit a (λ j. balance_after unit a S f j +ℤ fill_moves unit a j o n) g i in
                let more = fill_moves unit a i (filled_by o n) m in
                let first = fill_moves unit a i o n in
                omega (
                  linear,
                  h.1 a S i,
                  after_moved unit a (balance_after unit a S f)
                      (λ j. balance_after unit a S f j +ℤ fill_moves unit a j o n) (λ j. fill_moves unit a j o n) g i refl,
                  fill_more unit a i o n m (same_unit o n),
                  sum_parts x first,
                  sum_parts first more,
                ),
            rw (← filled_twice o n m, h.2),
          )

-- ---- accepted FILLs are a filling
-- of a state's open orders, with the balances and the orders that another has
pub record FilledTo (k k' : State) : Type 0 where
  pub filling : Filling k.book.orders
  pub balances : (a i : ℕ) → k'.book.balance_of a i ≡ balance_after k.market.unit a (k.book.balance_of a) filling i
  pub orders : k'.book.orders ≡ leaves filling

-- one accepted FILL is a filling of the order that it names, by its quantity
pub fill_filling : (k : State) → Sound k → (id : ℕ) (n : ℤ) → answer k (fill_of id n) ≡ 0 → FilledTo k (work k (fill_of id n))
unfolding book_after changed order_after
fill_filling k sound id n zero =
    let x = named_order k id (Fill n) (accepted k (fill_of id n) zero).passed in
    let o = x.order in
    let most = leb-true (nat_abs n) (remaining o) x.fits in
    let h = of_one k.market.unit k.book.orders (λ y m. (sound.fits y m).remains) id (nat_abs n) o x.found most in
    record {
      filling = h.0;
      balances = λ a i. change_balances k id o x.found (Fill n) a i ∙ sym (h.1 a (k.book.balance_of a) i);
      orders = sym h.2;
    }

then_filled : (k : State) (e : Event) (k' : State) → FilledTo k (work k e) → FilledTo (work k e) k' → FilledTo k k'
then_filled k e k' first second =
    let unit = k.market.unit in
    let join = joined unit k.market.unit_filled first.filling in
    let h = subst (λ l. (g : Filling l) → Joins unit first.filling g) (sym first.orders) join second.filling in
    record {
      filling = h.0;
      balances = λ a i.
          second.balances a i
          ∙ ap (λ S. balance_after unit a S second.filling i) (fun_ext (first.balances a))
          ∙ sym (h.1 a (k.book.balance_of a) i);
      orders = second.orders ∙ sym h.2;
    }

pub filling_of : {k k' : State} → Fills k k' → Sound k → FilledTo k k'
filling_of (done {k}) sound =
    let h = by_nothing k.market.unit k.book.orders (λ x m. (sound.fits x m).remains) in
    record {
      filling = h.0;
      balances = λ a i. sym (h.1 a (k.book.balance_of a) i ∙ +ℤ_idr (k.book.balance_of a i));
      orders = sym h.2;
    }
filling_of (then {k} {k'} id n zero rest) sound =
    then_filled k (fill_of id n) k' (fill_filling k sound id n zero)
    (filling_of rest (sound_step k sound (fill_of id n) tt zero))
