-- What each change of the open orders does to every potential position. A change is a shift, what counts of one order goes from m
-- contracts to m' and nothing else changes, and it may fill some of that order, by which the balances move.
use Rattle.std.specs.Prelude.{◌+◌, ◌*◌, ◌-◌, ◌≤◌, ◌≡◌, ◌≢◌, ◌+ℤ◌, ◌-ℤ◌, ◌*ℤ◌, ◌≤ℤ◌}
use Rattle.integers.specs.Basics.{ℕ, refl, ◌∙◌, sym, ap, List, ListMemᴰ, ℤ, pos, nat_abs}
use Rattle.integers.specs.Basics.{by_cases, ℕ_discrete, sum_parts, difference_parts}
use lib.IntN.{+ℤ_comm, +ℤ_assoc}
use Rattle.ledger.specs.declared.order.Order.{Order}
use Rattle.ledger.specs.declared.order.Side.{Side}
use Rattle.ledger.specs.Orders.{remaining, replaced_total}
use Rattle.ledger.specs.Roster.{Roster, Numbered, group_of_instrument}
use Rattle.ledger.specs.Positions.{Way, Scope, opposite, toward, way_of, side_to, open_on, of_instrument, potential, position, group}
use Rattle.ledger.specs.Positions.{way_by}
use Rattle.ledger.specs.Fillings.{fill_moves}
use Rattle.ledger.specs.Moves.{Moves}
use Rattle.ledger.proofs.Ways.{side_back, other_side}
use Rattle.ledger.proofs.Amounts.{amount, Stands, Alike, amount_alike, amount_here, amount_apart, amount_none, amount_nonneg}
use Rattle.ledger.proofs.Amounts.{amount_sum, amount_≤}
use Rattle.ledger.proofs.Sums.{Joined, Changed, Permuted, open_joined, open_changed, open_nowhere, open_sum, sum_permuted, adds}
use Rattle.ledger.proofs.Scopes.{way_to, Bears, potential_≤, potential_same, potential_weighted, position_weighted, weighted_same}
use Rattle.ledger.proofs.Scopes.{weight_way, group_moved}
use Rattle.ledger.proofs.Movement.{fill_moves_lem, unmoved_amount}
use Rattle.ledger.proofs.Linear.{linear}

-- what counts of order o goes from m contracts to m'
pub record CountChanged (unit : Order → ℕ) (o : Order) (m m' : ℕ) (orders orders' : List Order) : Type 0 where
  pub sums : (s : Side) (a i : ℕ) → open_on unit orders' s a i +ℤ amount unit s a i o m
      ≡ open_on unit orders s a i +ℤ amount unit s a i o m'

pub shifted_back : {unit : Order → ℕ} {o : Order} {m m' : ℕ} {orders orders' : List Order} → CountChanged unit o m m' orders orders'
    → CountChanged unit o m' m orders' orders
shifted_back shift = record { sums = λ s a i. sym (shift.sums s a i) }

-- ---- the changes that are shifts
module _ (unit : Order → ℕ) (o : Order) (orders orders' : List Order) where
  pub entered : Joined o orders orders' → CountChanged unit o 0 (remaining o) orders orders'
  entered joined =
      record {
        sums = λ s a i. omega (linear, open_joined unit s a i o orders orders' joined, amount_none unit s a i o);
      }

  pub becomes : {o' : Order} → Alike unit o o' → Changed o o' orders orders'
      → CountChanged unit o (remaining o) (remaining o') orders orders'
  becomes {o'} alike change =
      record {
        sums = λ s a i.
            open_changed unit s a i o o' orders orders' change
            ∙ +ℤ_comm (amount unit s a i o' (remaining o')) (open_on unit orders s a i)
            ∙ ap (λ x. open_on unit orders s a i +ℤ x) (amount_alike alike s a i (remaining o'));
      }

  pub replaced : (n : ℕ) → unit (replaced_total o n) ≡ unit o → Changed o (replaced_total o n) orders orders'
      → CountChanged unit o (o.total - o.filled) (n - o.filled) orders orders'
  unfolding replaced_total remaining
  replaced n same = becomes (record { same_account = refl; same_instrument = refl; same_side_lem = refl; same_unit = same })

pub left : (unit : Order → ℕ) (o : Order) (orders orders' : List Order) → Joined o orders' orders
    → CountChanged unit o (remaining o) 0 orders orders'
left unit o orders orders' joined = shifted_back (entered unit o orders' orders joined)

-- ---- what a shift does, at any account, scope and side
module _ {unit : Order → ℕ} {o : Order} {m m' : ℕ} {orders orders' : List Order} (shift : CountChanged unit o m m' orders orders') (a : ℕ)
    (S : ℕ → ℤ) where
  pub shift_instrument : (i : ℕ) (v : Way) → of_instrument unit orders' a S i v +ℤ amount unit (side_to v) a i o m
      ≡ of_instrument unit orders a S i v +ℤ amount unit (side_to v) a i o m'
  unfolding of_instrument
  shift_instrument i v =
      rw (
        +ℤ_assoc (toward v (S i)) (open_on unit orders' (side_to v) a i) (amount unit (side_to v) a i o m),
        +ℤ_assoc (toward v (S i)) (open_on unit orders (side_to v) a i) (amount unit (side_to v) a i o m'),
      )
      (ap (λ x. toward v (S i) +ℤ x) (shift.sums (side_to v) a i))

  -- where it counts for nothing, before and after, nothing changes
  shift_level : (i : ℕ) (v : Way) → amount unit (side_to v) a i o m ≡ pos 0 → amount unit (side_to v) a i o m' ≡ pos 0
      → of_instrument unit orders' a S i v ≡ of_instrument unit orders a S i v
  shift_level i v before after =
      omega (linear, shift_instrument i v)

  pub shift_apart : (i : ℕ) (v : Way) → ¬ Stands (side_to v) a i o → of_instrument unit orders' a S i v ≡ of_instrument unit orders a S i v
  shift_apart i v out = shift_level i v (amount_apart unit (side_to v) a i o m out) (amount_apart unit (side_to v) a i o m' out)

  -- and where it stands
  pub shift_own : o.account ≡ a → (v : Way) → way_of o.side ≡ v
      → of_instrument unit orders' a S o.instrument v +ℤ pos (unit o * m) ≡ of_instrument unit orders a S o.instrument v +ℤ pos
      (unit o * m')
  shift_own own v way =
      let stands : Stands (side_to v) a o.instrument o = (cc (side_back o.side), own, refl) in
      rw (
        amount_here unit (side_to v) a o.instrument o m stands,
        amount_here unit (side_to v) a o.instrument o m' stands,
      ) at (shift_instrument o.instrument v)

  -- so that its instrument moves by what it counts for more, and its group by the weight's magnitude times that
  module _ (own : o.account ≡ a) (d : ℤ) (more : pos (unit o * m) +ℤ d ≡ pos (unit o * m')) where
    pub shift_by : (v : Way) → way_of o.side ≡ v
        → of_instrument unit orders' a S o.instrument v ≡ of_instrument unit orders a S o.instrument v +ℤ d
    shift_by v way = omega (linear, shift_own own v way)

    pub shift_group : (r : Roster) (w : Way) → Numbered r.instruments o.instrument
        → way_by (r.weight o.instrument) (way_of o.side) ≡ w
        → potential unit r orders' a S (group (group_of_instrument r o.instrument)) w
        ≡ potential unit r orders a S (group (group_of_instrument r o.instrument)) w +ℤ pos (nat_abs (r.weight o.instrument)) *ℤ d
    shift_group r w numbered way =
        let K = r.weight o.instrument in
        group_moved unit r a orders orders' S S w o.instrument numbered
        (λ j apart v. sym (shift_apart j v (λ h. apart (sym h.2)))) d
        (shift_by (way_by K w) (cc (weight_way K (way_of o.side))))

  module _ (r : Roster) (p : Scope) (w : Way) where
    pub shift_unmoved : ¬ Moves r o p w → potential unit r orders' a S p w ≡ potential unit r orders a S p w
    shift_unmoved out =
        potential_same unit r a orders' orders S S p w
        (λ i b. shift_level i (way_to r p w i) (unmoved_amount r o w p unit a m i out b) (unmoved_amount r o w p unit a m' i out b))

    pub shift_of_another : o.account ≢ a → potential unit r orders' a S p w ≡ potential unit r orders a S p w
    shift_of_another other = potential_same unit r a orders' orders S S p w (λ i _. shift_apart i (way_to r p w i) (λ h. other h.1))

-- ---- a change that fills n of the order: what counts of it goes from m contracts to m', and the balances move
module _ {unit : Order → ℕ} {o : Order} {m m' : ℕ} {orders orders' : List Order} (shift : CountChanged unit o m m' orders orders') (n a : ℕ)
    (S S' : ℕ → ℤ) (moved : (i : ℕ) → S' i ≡ S i +ℤ fill_moves unit a i o n) where
  -- a side falls by what is filled on the other, and goes from what counted on it to what counts and is filled
  change_instrument : (i : ℕ) (v : Way)
      → of_instrument unit orders' a S' i v +ℤ amount unit (side_to (opposite v)) a i o n +ℤ amount unit (side_to v) a i o m
      ≡ of_instrument unit orders a S i v +ℤ amount unit (side_to v) a i o (m' + n)
  unfolding of_instrument
  change_instrument i v =
      let here = amount unit (side_to v) a i o n in
      let there = amount unit (side_to (opposite v)) a i o n in
      let open' = open_on unit orders' (side_to v) a i in
      omega (
        linear,
        ap (toward v) (moved i),
        fill_moves_lem unit a S o n i v,
        shift.sums (side_to v) a i,
        amount_sum unit (side_to v) a i o m' n,
        difference_parts here there,
        sum_parts (toward v (S' i)) open',
        sum_parts (toward v (S' i) +ℤ open') there,
        sum_parts (toward v (S i)) (open_on unit orders (side_to v) a i),
      )

  -- read with what counted before, what counts and is filled, and what is filled on the other side
  module _ (i : ℕ) (v : Way) where
    abbrev of' : ℤ
    of' = of_instrument unit orders' a S' i v

    abbrev of : ℤ
    of = of_instrument unit orders a S i v

    abbrev there : ℤ
    there = amount unit (side_to (opposite v)) a i o n

    -- where no more counts and is filled than counted, a side does not rise
    instrument_lowers : amount unit (side_to v) a i o (m' + n) ≤ℤ amount unit (side_to v) a i o m → of' ≤ℤ of
    instrument_lowers fewer =
        omega (linear, change_instrument i v, amount_nonneg unit (side_to (opposite v)) a i o n, sum_parts of' there)

    -- an instrument where the order does not stand stays as it was
    pub change_apart : ¬ ((o.account ≡ a) × (o.instrument ≡ i)) → of' ≡ of
    change_apart out =
        omega (
          linear,
          change_instrument i v,
          amount_apart unit (side_to v) a i o m (λ h. out (h.1, h.2)),
          amount_apart unit (side_to v) a i o (m' + n) (λ h. out (h.1, h.2)),
          amount_apart unit (side_to (opposite v)) a i o n (λ h. out (h.1, h.2)),
          sum_parts of' there,
        )

    module _ (own : o.account ≡ a) (same : o.instrument ≡ i) where
      -- there, on the side to which its fills move, what counts and is filled takes the place of what counted
      pub change_here : way_of o.side ≡ v → of' +ℤ pos (unit o * m) ≡ of +ℤ pos (unit o * (m' + n))
      change_here way =
          let stands : Stands (side_to v) a i o = (cc (side_back o.side), own, same) in
          omega (
            linear,
            change_instrument i v,
            amount_here unit (side_to v) a i o m stands,
            amount_here unit (side_to v) a i o (m' + n) stands,
            amount_apart unit (side_to (opposite v)) a i o n (λ h. other_side v (cc (side_back o.side, h.0))),
            sum_parts of' there,
          )

      -- and the opposite side falls by what is filled
      pub change_opposite : way_of o.side ≡ opposite v → of' ≡ of -ℤ pos (unit o * n)
      change_opposite against =
          let apart : ¬ Stands (side_to v) a i o = λ h. other_side v (cc (side_back o.side, h.0)) in
          omega (
            linear,
            change_instrument i v,
            amount_apart unit (side_to v) a i o m apart,
            amount_apart unit (side_to v) a i o (m' + n) apart,
            amount_here unit (side_to (opposite v)) a i o n (cc (side_back o.side), own, same),
            sum_parts of' there,
          )

  module _ (r : Roster) (p : Scope) (w : Way) where
    -- where no more counts and is filled than counted, no position rises
    pub lowers : m' + n ≤ m → potential unit r orders' a S' p w ≤ℤ potential unit r orders a S p w
    lowers fewer =
        potential_≤ unit r a orders' orders S' S p w
        (λ i _. let v = way_to r p w i in instrument_lowers i v (amount_≤ unit (side_to v) a i o (m' + n) m fewer))

    -- nor does one that the order's fills do not move
    pub unmoved : ¬ ((o.account ≡ a) × Moves r o p w) → potential unit r orders' a S' p w ≤ℤ potential unit r orders a S p w
    unmoved out =
        potential_≤ unit r a orders' orders S' S p w
        (λ i b. instrument_lowers i (way_to r p w i) (omega (linear, none m i b, none (m' + n) i b)))
      where
        none : (x i : ℕ) → Bears r p i → amount unit (side_to (way_to r p w i)) a i o x ≡ pos 0
        none x i b =
            by_cases (ℕ_discrete o.account a) (λ own. unmoved_amount r o w p unit a x i (λ h. out (own, h)) b)
            (λ other. amount_apart unit (side_to (way_to r p w i)) a i o x (λ h. other h.1))

-- ---- other changes
module _ (unit : Order → ℕ) (r : Roster) (a : ℕ) (orders : List Order) (S : ℕ → ℤ) (p : Scope) (w : Way) where
  -- where no instrument's potential position changes none changes
  pub level : (orders' : List Order) (S' : ℕ → ℤ)
      → ((i : ℕ) (v : Way) → of_instrument unit orders' a S' i v ≡ of_instrument unit orders a S i v)
      → potential unit r orders' a S' p w ≡ potential unit r orders a S p w
  level orders' S' same = potential_same unit r a orders' orders S' S p w (λ i _. same i (way_to r p w i))

  pub potential_permuted : {orders' : List Order} → Permuted orders orders'
      → potential unit r orders' a S p w ≡ potential unit r orders a S p w
  unfolding of_instrument
  potential_permuted {orders'} permuted =
      level orders' S (λ i v. ap (λ x. toward v (S i) +ℤ x) (simp open_sum (sum_permuted (adds unit (side_to v) a i) permuted)))

  -- with no open order of the account the potential position is the position
  pub idle : ((o : Order) → ListMemᴰ o orders → o.account ≢ a) → potential unit r orders a S p w ≡ position r S p w
  unfolding of_instrument
  idle others =
      rw (potential_weighted unit r orders a S p w, position_weighted r S p w)
      (weighted_same r (λ i. of_instrument unit orders a S i (way_to r p w i)) (λ i. toward (way_to r p w i) (S i)) p
      (λ i _.
      let v = way_to r p w i in
      let none = open_nowhere unit (side_to v) a i orders (λ o m h. others o m h.1) in
      omega (linear, sum_parts (toward v (S i)) (open_on unit orders (side_to v) a i))))
