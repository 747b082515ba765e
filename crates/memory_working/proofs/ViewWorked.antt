-- The view of a memory after an accepted event is the view before it, worked.
use Rattle.std.specs.Prelude.{◌^◌, ◌≤◌, ◌<◌, ◌≡◌, ◌+ℤ◌}
use Rattle.integers.specs.Basics.{ℕ, refl, ◌∙◌, sym, ap, fun_ext, true, cond, List, ℤ, pos, nat_abs, +ℤ_idr, arith}
use Rattle.integers.specs.Magnitude.{sized, magnitude_sum, magnitude_negation}
use Rattle.words.specs.Bytes.{Bytes}
use Rattle.ledger.specs.declared.order.Order.{Order}
use Rattle.ledger.specs.declared.order.Side.{Side}
use Rattle.ledger.specs.declared.order.Side.TheVariants.{Buy, Sell}
use Rattle.ledger.specs.Orders.{remaining, place_from}
use Rattle.ledger.specs.Fillings.{fill_moves}
use Rattle.ledger.specs.Positions.{toward, way_of}
use Rattle.ledger.proofs.Amounts.{fill_apart}
use Rattle.ledger.proofs.Ways.{by_number}
use Rattle.book.specs.declared.Setting.TheVariants.{Balance}
use Rattle.book.specs.declared.Event.{Event}
use Rattle.book.specs.declared.OrderChange.{OrderChange}
use Rattle.book.specs.declared.Event.TheVariants.{Set, New, Change, Junk}
use Rattle.book.specs.OpenOrders.{change}
use Rattle.book.specs.Books.{at, changed, filled_in, book_after}
use Rattle.book.specs.States.{State, mark, work}
use Rattle.book.proofs.OrderChanges.{after_filled, after_fits}
use Rattle.memory_layout.specs.View.{market_of, roster_of, lines_of, balances_of, blocks_of, open_orders, book_of, trading_of, view}
use Rattle.memory_layout.specs.Stores.{store_from, joined_first, rank}
use Rattle.memory_layout.specs.Judged.{judged}
use Rattle.memory_layout.proofs.GuardedTables.{state_of}
use Rattle.memory_layout.proofs.FirstRecord.{joined_small}
use Rattle.memory_layout.proofs.ViewStores.{view_balance, view_mark}
use Rattle.memory_layout.proofs.ViewOrders.{view_orders, bounds_orders, roster_orders}
use Rattle.memory_soundness.specs.SoundMemory.{SoundMemory}
use Rattle.memory_soundness.proofs.Bounded.{balance_small}
use Rattle.memory_working.specs.Working.{first_after, records_changed, worked}
use Rattle.memory_working.proofs.AcceptedFacts.{laid, accepted_facts}
use Rattle.memory_working.proofs.FirstRecord.{after_small}
use Rattle.memory_working.proofs.SettingWorked.{setting_shown}
use Rattle.memory_working.proofs.Writes.{few_after}
use Rattle.memory_working.proofs.Filling.{fill_one}
use Rattle.memory_working.proofs.Small.{Sized, small_after}

-- a fill moves the balance of its order's account and instrument alone
fill_moves_lem : (unit : Order → ℕ) (o : Order) (n : ℕ) (S : ℕ → ℕ → ℤ)
    → at o.account (at o.instrument (S o.account o.instrument +ℤ fill_moves unit o.account o.instrument o n)
    (S o.account)) S ≡ (λ b k. S b k +ℤ fill_moves unit b k o n)
fill_moves_lem unit o n S =
    fun_ext
    (λ b. fun_ext (λ k. by_number b a (λ t. cond t (at i z (S a)) (S b) k ≡ S b k +ℤ fill_moves unit b k o n)
    (λ same_a. by_number k i (λ t. cond t z (S a k) ≡ S b k +ℤ fill_moves unit b k o n)
    (λ same_i. rw (same_a, same_i))
    (λ other. rw same_a (still a k (λ e. other (sym e.1)))))
    (λ other. still b k (λ e. other (sym e.0)))))
  where
    a : ℕ
    a = o.account

    i : ℕ
    i = o.instrument

    z : ℤ
    z = S o.account o.instrument +ℤ fill_moves unit o.account o.instrument o n

    still : (b k : ℕ) → ¬ ((o.account ≡ b) × (o.instrument ≡ k)) → S b k ≡ S b k +ℤ fill_moves unit b k o n
    still b k apart = sym (ap (S b k +ℤ◌) (fill_apart unit b k o n apart) ∙ +ℤ_idr (S b k))

-- by what is filled
fill_size : (m : List ℕ) (o : Order) (n : ℕ) → nat_abs (fill_moves (market_of m).unit o.account o.instrument o n) ≡ n
fill_size m o n = ap nat_abs (fill_one m o n) ∙ by o.side
  where
    by : (s : Side) → nat_abs (toward (way_of s) (pos n)) ≡ n
    by Buy = refl
    by Sell = magnitude_negation (pos n)

module _ (m : List ℕ) (bytes : Bytes m) (held : SoundMemory m) where
  -- the view with these orders
  abbrev with_orders : List Order → State
  with_orders os = state_of (market_of m) (roster_of m) (balances_of m) (lines_of m) (blocks_of m) os (trading_of m)

  -- the orders afterwards, stored
  orders_shown : (f : ℕ) → f ≤ 256 → (e : Event) → Sized e → judged m e ≡ 0
      → view (store_from m f (work (view m) e).book.orders) ≡ with_orders (work (view m) e).book.orders
  orders_shown f inside e id-word passes =
      view_orders m f (work (view m) e).book.orders (laid m held) inside (few_after m held e passes)
      (small_after m bytes held e id-word passes)

  new_shown : (s : Side) (a i id : ℕ) (n : ℤ) → id < 2 ^ 64 → judged m (New s a i id n) ≡ 0
      → view (worked m (New s a i id n)) ≡ work (view m) (New s a i id n)
  unfolding worked book_after book_of mark
  new_shown s a i id n id-word passes =
      let e = New s a i id n in
      let f = joined_first m (rank id (open_orders m)) in
      let inside = joined_small m (rank id (open_orders m)) held.first in
      let shown = orders_shown f inside e id-word passes in
      let l = store_from m f (work (view m) e).book.orders in
      let few = few_after m held e passes in
      view_mark l (bounds_orders m f _ (laid m held) inside few) a
      (rw (roster_orders m f _ (laid m held) inside few) (accepted_facts m held e passes).0)
      ∙ ap (λ (k : State). record {
        market = k.market;
        roster = k.roster;
        book = k.book;
        beside = record { trading = at a true k.beside.trading };
      }) shown

  change_shown : (id : ℕ) (c : OrderChange) → judged m (Change id c) ≡ 0 → view (worked m (Change id c)) ≡ work (view m) (Change id c)
  unfolding worked book_after book_of mark remaining
  change_shown id c passes =
      let t = accepted_facts m held (Change id c) passes in
      let o = t.0.order in
      let fits = t.0.fits in
      let whole = after_fits c o (omega (arith, fits.remains)) fits.total.1 t.1.0 t.1.1 in
      let e = Change id c in
      let a = o.account in
      let i = o.instrument in
      let n = filled_in c in
      let unit = (market_of m).unit in
      let os = change id (changed c) (open_orders m) in
      let z = balances_of m a i +ℤ fill_moves unit a i o n in
      let f = first_after m (place_from 0 id (open_orders m)) (changed c o) in
      let inside = after_small m held.first (place_from 0 id (open_orders m)) (changed c o) in
      let few = few_after m held e passes in
      let roster = roster_orders m f os (laid m held) inside few in
      rw t.0.found
      (view_balance (records_changed m id c o) (bounds_orders m f os (laid m held) inside few) a i z (rw roster fits.account)
      (rw roster fits.instrument) (omega (
        sized,
        balance_small m held a i,
        fill_size m o n,
        after_filled c o,
        magnitude_sum (balances_of m a i) (fill_moves unit a i o n),
      ))
      ∙ ap (λ (k : State). work k (Set (Balance a i z))) (orders_shown f inside e tt passes)
      ∙ ap (λ s. state_of (market_of m) (roster_of m) s (lines_of m) (blocks_of m) os (trading_of m))
      (fill_moves_lem unit o n (balances_of m)))

  pub view_worked : (e : Event) → Sized e → judged m e ≡ 0
      → view (worked m e) ≡ work (view m) e
  unfolding worked book_after book_of mark
  view_worked (Set x) id-word passes = setting_shown m held x (accepted_facts m held (Set x) passes)
  view_worked (New s a i id n) id-word passes = new_shown s a i id n id-word passes
  view_worked (Change id c) id-word passes = change_shown id c passes
  view_worked Junk id-word passes = refl
