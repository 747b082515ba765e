-- The cells after a change of one order: its own cell moves with what counts of it, and no other.
use Rattle.std.specs.Prelude.{◌+◌, ◌-◌, ◌≤◌, ◌≡◌, ◌⊎◌, ◌≢◌, ◌+ℤ◌}
use Rattle.integers.specs.Basics.{ℕ, refl, ◌∙◌, sym, ap, inl, inr, List, ℤ, pos, neg_ℤ, nat_abs, length}
use Rattle.integers.specs.Basics.{get_or, set, length-set, arith, signed, magnitude_parts, sum_parts, difference_parts}
use native.Mathlib.Nat.{one-mul}
use lib.Seq.{get_or-set_same, get_or-set_other}
use Rattle.ledger.specs.declared.order.Order.{Order}
use Rattle.ledger.specs.declared.order.Side.{Side}
use Rattle.ledger.specs.Roster.{Numbered}
use Rattle.ledger.specs.Positions.{open_on}
use Rattle.ledger.specs.Records.{order_of}
use Rattle.ledger.specs.Derivatives.{one}
use Rattle.ledger.proofs.Details.{packable_of}
use Rattle.ledger.proofs.Amounts.{Stands, stands?, amount_here, amount_apart}
use Rattle.ledger.proofs.Sums.{open_nonneg}
use Rattle.limits.specs.Raised.{added_on}
use Rattle.positions.specs.Gathered.{cell}
use Rattle.positions.proofs.Gathering.{same_cell}
use Rattle.memory_layout.specs.View.{open_orders}
use Rattle.memory_soundness.specs.Cells.{row, AllSums, Sums}
use Rattle.memory_soundness.specs.SoundMemory.{SoundMemory}
use Rattle.memory_soundness.proofs.Bounded.{unfilled_small}
use Rattle.memory_soundness.proofs.Gathering.{rows}
use Rattle.memory_soundness.proofs.Details.{cell_detail}
use Rattle.memory_working.specs.SumsChanged.{SumsChanged, cell_of, Countable}
use Rattle.memory_working.proofs.SumsMoved.{same_amount}

module _ (s : Side) (a i : ℕ) (o : Order) (n : ℕ) where
  added_here : Stands s a i o → added_on n o s a i ≡ pos n
  unfolding one
  added_here stands = sym (same_amount n o s a i) ∙ amount_here one s a i o n stands ∙ ap pos (one-mul n)

  added_apart : ¬ Stands s a i o → added_on n o s a i ≡ pos 0
  added_apart apart = sym (same_amount n o s a i) ∙ amount_apart one s a i o n apart

-- what a cell holds after a shift, as the code reckons it in contracts
pub settled : {c a b n : ℕ} {p q r x y : ℤ} → b ≤ c + a → p ≡ pos c → q ≡ pos a → r ≡ pos b → x ≡ p +ℤ q → y ≡ x +ℤ neg_ℤ r
    → n ≡ nat_abs y → n ≡ c + a - b
settled {p = p} {q = q} {r = r} {x = x} {y = y} enough in_cell more less sum rest counted =
    omega (signed, sum_parts p q, difference_parts x r, magnitude_parts y)

module _ (cells : List ℕ) (orders orders' : List Order) (held : AllSums cells orders) (id w before after : ℕ)
    (shift : SumsChanged (order_of id w) before after orders orders') where
  abbrev o : Order
  o = order_of id w

  abbrev own : ℕ
  own = cell_of w

  on_account : Numbered 16 o.account
  on_account = (packable_of id w).0

  on_instrument : Numbered 32 o.instrument
  on_instrument = (packable_of id w).1

  own_cell_lem : pos (get_or cells own 0) ≡ open_on one orders o.side o.account o.instrument
  own_cell_lem =
      ap (λ (j : ℕ). pos (get_or cells j 0)) (sym (cell_detail id w))
      ∙ (held.accounts o.account on_account).sums o.side o.instrument on_instrument

  pub own_small : ((s : Side) (a i : ℕ) → nat_abs (open_on one orders s a i) ≤ 256000000) → get_or cells own 0 ≤ 256000000
  own_small small = omega (arith, small o.side o.account o.instrument, ap nat_abs own_cell_lem)

  own_sum : open_on one orders' o.side o.account o.instrument +ℤ pos before ≡ pos (get_or cells own 0) +ℤ pos after
  own_sum =
      let s = o.side in
      let a = o.account in
      let i = o.instrument in
      ap (λ (z : ℤ). open_on one orders' s a i +ℤ z) (sym (added_here s a i o before (refl, refl, refl)))
      ∙ shift.sums s a i
      ∙ ap (λ (z : ℤ). z +ℤ added_on after o s a i) (sym own_cell_lem)
      ∙ ap (λ (z : ℤ). pos (get_or cells own 0) +ℤ z) (added_here s a i o after (refl, refl, refl))

  pub enough : before ≤ get_or cells own 0 + after
  enough =
      let z = open_on one orders' o.side o.account o.instrument in
      omega (
        signed,
        own_sum,
        open_nonneg one o.side o.account o.instrument orders',
        sum_parts z (pos before),
        sum_parts (pos (get_or cells own 0)) (pos after),
      )

  next : open_on one orders' o.side o.account o.instrument ≡ pos (get_or cells own 0 + after - before)
  next =
      let z = open_on one orders' o.side o.account o.instrument in
      omega (signed, own_sum, enough, sum_parts z (pos before), sum_parts (pos (get_or cells own 0)) (pos after))

  pub kept : (j : ℕ) → j ≡ own → AllSums (set cells j (get_or cells j 0 + after - before)) orders'
  kept j e =
      rw e
      (record {
        size = length-set cells own (get_or cells own 0 + after - before) ∙ held.size;
        accounts = λ a on. record { sums = λ s i in_roster. each s a i on in_roster (stands? s a i o) };
      })
    where
      each : (s : Side) (a i : ℕ) → Numbered 16 a → Numbered 32 i → Dec (Stands s a i o)
          → pos (get_or (set cells own (get_or cells own 0 + after - before)) (row a + cell s i) 0) ≡ open_on one orders' s a i
      each s a i on in_roster (yes stands) =
          let same : row a + cell s i ≡ own = rw (← stands.0, ← stands.1, ← stands.2) (cell_detail id w) in
          rw (same, get_or-set_same cells own (get_or cells own 0 + after - before) 0 (omega (arith, held.size)))
          (sym next ∙ rw (stands.0, stands.1, stands.2))
      each s a i on in_roster (no apart) =
          let other : row a + cell s i ≢ own = λ same. let all =
          same_cell (Numbered 16) row rows s o.side a i o.account o.instrument on in_roster on_account on_instrument
          (same ∙ sym (cell_detail id w)) in apart (sym all.0, sym all.1, sym all.2) in
          let z = open_on one orders s a i in
          let z' = open_on one orders' s a i in
          rw (get_or-set_other cells own (row a + cell s i) (get_or cells own 0 + after - before) 0 other)
          ((held.accounts a on).sums s i in_roster
          ∙ omega (
            signed,
            shift.sums s a i,
            added_apart s a i o before apart,
            added_apart s a i o after apart,
            sum_parts z (added_on after o s a i),
            sum_parts z' (added_on before o s a i),
          ))

  pub countable : ((s : Side) (a i : ℕ) → nat_abs (open_on one orders s a i) ≤ 256000000) → Countable cells w before after
  countable small = record { size = held.size; small = own_small small; added = shift.small; enough = enough }

-- at a sound desk the cell of an order that an event names can take what counts after it, where cells are kept
pub recountable : {m cells : List ℕ} (id w : ℕ) {before after : ℕ} {orders' : List Order} → SoundMemory m → Sums cells (open_orders m)
    → SumsChanged (order_of id w) before after (open_orders m) orders' → (length cells ≡ 0) ⊎ Countable cells w before after
recountable id w held (inl none) changes = inl none
recountable {m} {cells} id w {before} {after} {orders'} held (inr sums) changes =
    inr (countable cells (open_orders m) orders' sums id w before after changes (unfilled_small m held))
