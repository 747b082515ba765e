-- Every filling of a sound book's open orders is worked by FILLs that the table accepts one after the other.
use Rattle.std.specs.Prelude.{◌+◌, ◌≤◌, ◌≡◌, ◌≢◌, ◌∷◌, ◌++◌, ◌+ℤ◌}
use Rattle.integers.specs.Basics.{ℕ, refl, ◌∙◌, sym, ap, by_cases, true, List, [], ListMemᴰ, ListMemᴰ_head}
use Rattle.integers.specs.Basics.{Some, ℤ, pos, +ℤ_idr, le_z, ℕ_discrete, arith, le-leb, signed, sum_parts}
use mathlib.Core.List.Memᴰ
use mathlib.Core.List.{append_assoc}
use Rattle.ledger.specs.declared.order.Order.{Order}
use Rattle.ledger.specs.Orders.{remaining, filled_by}
use Rattle.ledger.specs.Fillings.{Filling, none, fill, fill_moves, balance_after}
use Rattle.ledger.proofs.Linear.{linear}
use Rattle.limits.specs.Questions.{first_no}
use Rattle.limits.proofs.Answers.{and_true}
use Rattle.book.specs.declared.OrderChange.TheVariants.{Fill}
use Rattle.book.specs.declared.Event.{Event}
use Rattle.book.specs.declared.Event.TheVariants.{Change}
use Rattle.book.specs.OpenOrders.{find, change, kept}
use Rattle.book.specs.Books.{order_after, changed, book_after}
use Rattle.book.specs.States.{State, work}
use Rattle.book.specs.Table.{is_event, account_known, item_known, figures_fit, is_quantity, not_yet_trading, id_open, quantity_fits, entered}
use Rattle.book.specs.Table.{id_free, place_free, questions_before, limit_questions, answer}
use Rattle.book.specs.Sound.{OrderFits, Sound}
use Rattle.book.proofs.Ids.{find_member, ascending_before, change_between}
use Rattle.book.proofs.Shifts.{no_fill, kept_some, change_balances}
use Rattle.book.proofs.SoundSteps.{sound_step}

-- ---- fillings
-- what a filling leaves open
unfoldable pub leaves : {os : List Order} → Filling os → List Order
leaves none = []
leaves (fill {o} n most f) = kept (filled_by o n) ++ leaves f

pub kept_whole : (o : Order) → 1 ≤ remaining o → kept (filled_by o 0) ≡ o ∷ []
unfolding filled_by
kept_whole o l = let none : o.filled + 0 ≡ o.filled = omega arith in rw none (kept_some o (omega arith))

-- balances that differ by d differ by d after the same filling
pub after_moved : (unit : Order → ℕ) (a : ℕ) (S S' d : ℕ → ℤ) {os : List Order} (f : Filling os) (i : ℕ) → S' i ≡ S i +ℤ d i
    → balance_after unit a S' f i ≡ balance_after unit a S f i +ℤ d i
unfolding balance_after
after_moved unit a S S' d none i e = e
after_moved unit a S S' d (fill {o} n most f) i e =
    omega (linear, after_moved unit a S S' d f i e, sum_parts (balance_after unit a S f i) (fill_moves unit a i o n))

-- ---- accepted FILLs, worked one after the other
abbrev pub fill_of : ℕ → ℤ → Event
fill_of id n = Change id (Fill n)

pub data Fills : State → State → Type 0 where
  done : {k : State} → Fills k k
  then : {k k' : State} (id : ℕ) (n : ℤ) → answer k (fill_of id n) ≡ 0 → Fills (work k (fill_of id n)) k' → Fills k k'

-- a FILL of an open order by what remains or less is accepted
fill_accepted : (k : State) (id n : ℕ) (o : Order) → find id k.book.orders ≡ Some o → 1 ≤ n → n ≤ 1000000 → n ≤ remaining o
    → answer k (fill_of id (pos n)) ≡ 0
unfolding answer questions_before limit_questions first_no is_event account_known item_known figures_fit not_yet_trading id_open
    quantity_fits entered
    id_free place_free
fill_accepted k id n o found low high most = rw (quantity, found, le-leb n (remaining o) most)
  where
    quantity : is_quantity (pos n) ≡ true
    quantity = and_true (le_z (pos 1) (pos n)) (le_z (pos n) (pos 1000000)) (omega signed) (omega signed)

-- ---- every filling is worked by accepted FILLs
-- what the filling makes of the book: the balances after it, and what it leaves open, behind the orders in front
pub record Worked (k : State) (front : List Order) {os : List Order} (f : Filling os) : Type 0 where
  pub state : State
  pub fills : Fills k state
  pub balances : (a i : ℕ) → state.book.balance_of a i ≡ balance_after k.market.unit a (k.book.balance_of a) f i
  pub orders : state.book.orders ≡ front ++ leaves f

-- the orders in front are done
fills_behind : {os : List Order} (f : Filling os) (front : List Order) (k : State) → Sound k → k.book.orders ≡ front ++ os
    → Worked k front f
unfolding balance_after leaves book_after changed order_after remaining
fills_behind none front k sound whole = record { state = k; fills = done; balances = λ a i. refl; orders = whole }
fills_behind (fill {o} {orders} n most f) front k sound whole =
    by_cases (ℕ_discrete n 0)
    (λ e.
    let w = fills_behind f (front ++ (o ∷ [])) k sound (whole ∙ sym (append_assoc front (o ∷ []) orders)) in
    record {
      state = w.state;
      fills = w.fills;
      balances = λ a i.
          let x = balance_after k.market.unit a (k.book.balance_of a) f i in
          w.balances a i ∙ sym (ap (λ z. x +ℤ z) (ap (fill_moves k.market.unit a i o) e ∙ no_fill k.market.unit a i o) ∙ +ℤ_idr x);
      orders =
          w.orders ∙ append_assoc front (o ∷ []) (leaves f)
          ∙ ap (λ xs. front ++ (xs ++ leaves f)) (sym (ap (λ m. kept (filled_by o m)) e ∙ kept_whole o fits.remains));
    })
    (λ h.
    let sound₁ = sound_step k sound (fill_of o.id (pos n)) tt (accepted₁ h) in
    let w = fills_behind f (front ++ kept (filled_by o n)) k₁ sound₁ orders₁ in
    record {
      state = w.state;
      fills = then o.id (pos n) (accepted₁ h) w.fills;
      balances =
          λ a i. w.balances a i
          ∙ after_moved k.market.unit a (k.book.balance_of a) (k₁.book.balance_of a) (λ j. fill_moves k.market.unit a j o n) f i
          (change_balances k o.id o found (Fill (pos n)) a i);
      orders = w.orders ∙ append_assoc front (kept (filled_by o n)) (leaves f);
    })
  where
    k₁ : State
    k₁ = work k (fill_of o.id (pos n))

    stands : ListMemᴰ o k.book.orders
    stands = rw whole (Memᴰ.append_right front (ListMemᴰ_head refl))

    found : find o.id k.book.orders ≡ Some o
    found = (find_member sound.ids o.id o).1 (stands, refl)

    fits : OrderFits k.roster o
    fits = sound.fits o stands

    accepted₁ : n ≢ 0 → answer k (fill_of o.id (pos n)) ≡ 0
    accepted₁ h =
        let small : remaining o ≤ o.total = omega arith in
        fill_accepted k o.id n o found (omega arith) (omega (arith, fits.total)) most

    orders₁ : (work k (fill_of o.id (pos n))).book.orders ≡ front ++ kept (filled_by o n) ++ orders
    orders₁ =
        ap (change o.id (changed (Fill (pos n)))) whole
        ∙ change_between (changed (Fill (pos n))) front o orders (ascending_before front o orders (rw whole at sound.ids))
        ∙ sym (append_assoc front (kept (filled_by o n)) orders)

pub fills_of : (k : State) → Sound k → (f : Filling k.book.orders) → Worked k [] f
fills_of k sound f = fills_behind f [] k sound refl
