-- The cells in which B and V are gathered, order by order: of one account, or of each account in a row of its own.
use Rattle.std.specs.Prelude.{◌+◌, ◌≤◌, ◌<◌, ◌≡◌, ◌≢◌, ◌+ℤ◌}
use Rattle.integers.specs.Basics.{ℕ, zero, suc, refl, ◌∙◌, sym, ap, true, cond, List, [], pos, +ℤ_idl, eqb}
use Rattle.integers.specs.Basics.{length, get_or, replicate, length-set, ℕ_discrete, arith, eq-eqb, ne_eqb}
use lib.Seq.{get_or-set_same, get_or-set_other}
use Rattle.ledger.specs.declared.order.Order.{Order}
use Rattle.ledger.specs.declared.order.Side.{Side}
use Rattle.ledger.specs.declared.order.Side.TheVariants.{Buy, Sell}
use Rattle.ledger.specs.Orders.{remaining}
use Rattle.ledger.specs.Roster.{Numbered}
use Rattle.ledger.specs.Positions.{same_side}
use Rattle.ledger.specs.Records.{packed_side, packed_account, packed_instrument, detail_remaining, id_at, detail_at, order_of}
use Rattle.ledger.specs.Records.{order_at, orders_of}
use Rattle.ledger.proofs.Details.{remaining_of, order_of_lem}
use Rattle.ledger.proofs.RecordLists.{length_orders, order_in_record}
use Rattle.ledger.specs.Derivatives.{counted}
use Rattle.positions.specs.Gathered.{cell, added, Gathered}
use Rattle.positions.specs.Bounds.{GatherBounds}
use Rattle.positions.proofs.Counting.{counted_other_account, counted_other_instrument, counted_other_side, counted_own, left}
use Rattle.positions.proofs.Counting.{counted_more, counted_all, counted_small}

pub cell_numbered : (s : Side) (i : ℕ) → Numbered 32 i → Numbered 64 (cell s i)
cell_numbered Buy i h = omega arith
cell_numbered Sell i h = omega arith

pub cell_inside : (s : Side) (i : ℕ) → i ≤ 32 → cell s i < 65
cell_inside Buy i h = omega arith
cell_inside Sell i h = omega arith

same_itself : (s : Side) → same_side s s ≡ true
same_itself Buy = refl
same_itself Sell = refl

same_sides : (s t : Side) (i k : ℕ) → Numbered 32 i → Numbered 32 k → cell s i ≡ cell t k → (s ≡ t) × (i ≡ k)
same_sides Buy Buy i k h l e = (refl, e)
same_sides Sell Sell i k h l e = (refl, omega arith)
same_sides Buy Sell i k h l e = absurd (omega arith)
same_sides Sell Buy i k h l e = absurd (omega arith)

-- all cells are 0 at first
pub empty_at : (n j : ℕ) → ◌≡◌ {A = ℕ} (get_or (replicate n 0) j 0) 0
empty_at zero j = refl
empty_at (suc n) zero = refl
empty_at (suc n) (suc j) = empty_at n j

-- ---- one cell
module _ (cells : List ℕ) (j n : ℕ) where
  pub added_length : length (added cells j n) ≡ length cells
  unfolding added
  added_length = length-set cells j (get_or cells j 0 + n)

  pub added_same : j < length cells → get_or (added cells j n) j 0 ≡ get_or cells j 0 + n
  unfolding added
  added_same h = get_or-set_same cells j (get_or cells j 0 + n) 0 h

  pub added_other : (k : ℕ) → k ≢ j → get_or (added cells j n) k 0 ≡ get_or cells k 0
  unfolding added
  added_other k apart = get_or-set_other cells j k (get_or cells j 0 + n) 0 apart

  -- no cell grows by more than n
  pub added_small : (most more : ℕ) → j < length cells → ((k : ℕ) → get_or cells k 0 ≤ most) → n ≤ more → (k : ℕ) →
      get_or (added cells j n) k 0 ≤ most + more
  added_small most more inside small few k = by (ℕ_discrete k j)
    where
      by : Dec (k ≡ j) → get_or (added cells j n) k 0 ≤ most + more
      by (yes e) = rw e (omega (arith, added_same inside, small j))
      by (no apart) = omega (arith, added_other k apart, small k)

-- ---- the accounts that are gathered, and the first cell of each: their rows do not meet
pub record Rows (of : ℕ → Type 0) (first : ℕ → ℕ) : Type 1 where
  pub apart : (a b j k : ℕ) → of a → of b → Numbered 64 j → Numbered 64 k → first a + j ≡ first b + k → a ≡ b

-- the cell of an order
abbrev pub own_cell : (ℕ → ℕ) → Order → ℕ
own_cell first o = first o.account + cell o.side o.instrument

module _ (of : ℕ → Type 0) (first : ℕ → ℕ) (rows : Rows of first) where
  pub same_cell : (s t : Side) (a i b k : ℕ) → of a → Numbered 32 i → of b → Numbered 32 k → first a + cell s i ≡ first b + cell t k →
      (s ≡ t) × (a ≡ b) × (i ≡ k)
  same_cell s t a i b k u h v l e =
      let same : a ≡ b = rows.apart a b (cell s i) (cell t k) u v (cell_numbered s i h) (cell_numbered t k l) e in
      let row : first a ≡ first b = ap first same in
      let both = same_sides s t i k h l (omega arith) in
      (both.0, same, both.1)

-- ---- one order
-- an order adds n to cell j: it counts for so much there, and for nothing elsewhere
pub record Adds (of : ℕ → Type 0) (first : ℕ → ℕ) (o : Order) (j n : ℕ) : Type 0 where
  pub there : (s : Side) (a i : ℕ) → of a → Numbered 32 i → first a + cell s i ≡ j → counted o s a i ≡ n
  pub elsewhere : (s : Side) (a i : ℕ) → of a → Numbered 32 i → first a + cell s i ≢ j → counted o s a i ≡ 0

-- the cell of another side or instrument, or of another account that has its own row
other_cell : (first : ℕ → ℕ) (o : Order) (s : Side) (a i : ℕ) → first a + cell s i ≢ own_cell first o → counted o s a i ≡ 0
other_cell first o s a i apart = by (ℕ_discrete o.account a) (ℕ_discrete o.instrument i) s o.side refl apart
  where
    by : Dec (o.account ≡ a) → Dec (o.instrument ≡ i) → (s t : Side) → o.side ≡ t →
        first a + cell s i ≢ first o.account + cell t o.instrument → counted o s a i ≡ 0
    by (no other) d s t e apart = counted_other_account o s a i other
    by (yes same) (no other) s t e apart = counted_other_instrument o s a i other
    by (yes f) (yes g) Buy Buy e apart = absurd (apart (rw (f, g)))
    by (yes f) (yes g) Sell Sell e apart = absurd (apart (rw (f, g)))
    by (yes f) (yes g) Buy Sell e apart = counted_other_side o Buy a i (rw e)
    by (yes f) (yes g) Sell Buy e apart = counted_other_side o Sell a i (rw e)

-- where each account has its row, an order adds what remains of it to its own cell
pub adds_own : (of : ℕ → Type 0) (first : ℕ → ℕ) → Rows of first → (o : Order) → of o.account → Numbered 32 o.instrument →
    Adds of first o (own_cell first o) (remaining o)
adds_own of first rows o account instrument =
    record { there = at; elsewhere = λ s a i h l. other_cell first o s a i }
  where
    at : (s : Side) (a i : ℕ) → of a → Numbered 32 i → first a + cell s i ≡ own_cell first o → counted o s a i ≡ remaining o
    at s a i h l e =
        let same = same_cell of first rows s o.side a i o.account o.instrument h l account instrument e in
        counted_own o s a i (sym same.1) (sym same.2) (rw same.0 (same_itself o.side))

-- where one account alone is gathered, an order of any account adds what it counts for
pub adds_row : (a : ℕ) (o : Order) → Numbered 32 o.instrument → Adds (λ b. b ≡ a) (λ b. 0) o (cell o.side o.instrument)
    (counted o o.side a o.instrument)
adds_row a o instrument = record { there = at; elsewhere = λ s b i h l apart. other_cell (λ b. 0) o s b i (λ e. apart (omega arith)) }
  where
    at : (s : Side) (b i : ℕ) → b ≡ a → Numbered 32 i → 0 + cell s i ≡ cell o.side o.instrument →
        counted o s b i ≡ counted o o.side a o.instrument
    at s b i h l e =
        let same = same_sides s o.side i o.instrument l instrument (omega arith) in
        rw (h, same.0, same.1)

module _ (of : ℕ → Type 0) (first : ℕ → ℕ) (cells : List ℕ) (o : Order) (j n : ℕ) (adds : Adds of first o j n) where
  -- each cell grows by what the order counts for there
  pub added_at : j < length cells → (s : Side) (a i : ℕ) → of a → Numbered 32 i →
      get_or (added cells j n) (first a + cell s i) 0 ≡ get_or cells (first a + cell s i) 0 + counted o s a i
  added_at inside s a i h l = by (ℕ_discrete (first a + cell s i) j)
    where
      by : Dec (first a + cell s i ≡ j) →
          get_or (added cells j n) (first a + cell s i) 0 ≡ get_or cells (first a + cell s i) 0 + counted o s a i
      by (yes e) = rw (adds.there s a i h l e, e) (added_same cells j n inside)
      by (no apart) =
          added_other cells j n (first a + cell s i) apart ∙ omega (arith, adds.elsewhere s a i h l apart)

-- ---- the orders below p: what is gathered and what is left make the whole
pub record Passed (of : ℕ → Type 0) (first : ℕ → ℕ) (os : List Order) (cells : List ℕ) (p : ℕ) : Type 0 where
  pub sums : (s : Side) (a i : ℕ) → of a → Numbered 32 i → pos (get_or cells (first a + cell s i) 0) +ℤ left os s a i p ≡ left os s a i 0

module _ (of : ℕ → Type 0) (first : ℕ → ℕ) (os : List Order) (cells : List ℕ) where
  pub passed_none : ((j : ℕ) → get_or cells j 0 ≡ 0) → Passed of first os cells 0
  passed_none empty = record { sums = λ s a i h l. rw (empty (first a + cell s i)) (+ℤ_idl (left os s a i 0)) }

  module _ (p : ℕ) (past : Passed of first os cells p) where
    pub passed_all : length os ≤ p → (a : ℕ) → of a → Gathered cells (first a) os a
    passed_all h a on =
        record { sums = λ s i l. counted_all os s a i (get_or cells (first a + cell s i) 0) p h (past.sums s a i on l) }

    -- the next order
    module _ (o : Order) (here : get_or os p o ≡ o) (h : p < length os) where
      pub passed_more : (j r : ℕ) → Adds of first o j r → j < length cells → (cells' : List ℕ) → cells' ≡ added cells j r →
          Passed of first os cells' (p + 1)
      passed_more j r adds inside cells' e =
          record {
            sums = λ s a i k l. rw (e, added_at of first cells o j r adds inside s a i k l)
                (counted_more os s a i (get_or cells (first a + cell s i) 0) p (counted o s a i) o h here refl (past.sums s a i k l));
          }

-- ---- the cells of account a alone
abbrev pub PassedOf : List (List ℕ) → ℕ → List ℕ → ℕ → Type 0
PassedOf records a = Passed (λ b. b ≡ a) (λ b. 0) (orders_of records)

-- the next detail: w is that of record p, r what remains for the account
module _ (records : List (List ℕ)) (a : ℕ) (cells : List ℕ) (p : ℕ) (size : length cells ≡ 65) (past : PassedOf records a cells p)
    (bounds : GatherBounds (orders_of records) a) (h : p < length records) (w : ℕ) (is_detail : w ≡ detail_at (get_or records p []) 0)
    (r : ℕ) (rest : r ≡ cond (eqb (packed_account w) a) (detail_remaining w) 0) where
  abbrev o : Order
  o = order_at (get_or records p []) 0

  here : get_or (orders_of records) p o ≡ o
  here = order_in_record records p o h

  inside : p < length (orders_of records)
  inside = omega (arith, length_orders records)

  numbered : Numbered 32 o.instrument
  unfolding order_at order_of
  numbered = (omega arith, omega arith)

  -- the cell and what is added, of the order and of its detail
  own_cell_lem : cell (packed_side w) (packed_instrument w) ≡ cell o.side o.instrument
  unfolding order_at order_of
  own_cell_lem = rw is_detail

  account : packed_account w ≡ o.account
  unfolding order_at order_of
  account = rw is_detail

  own_part : r ≡ counted o o.side a o.instrument
  own_part = rest ∙ by (ℕ_discrete (packed_account w) a)
    where
      left_over : detail_remaining w ≡ remaining o
      left_over =
          let bytes = get_or records p [] in
          rw (is_detail, order_of_lem bytes 0) (sym (remaining_of (id_at bytes 0) (detail_at bytes 0)))

      by : Dec (packed_account w ≡ a) → cond (eqb (packed_account w) a) (detail_remaining w) 0 ≡ counted o o.side a o.instrument
      by (yes e) =
          rw (eq-eqb (packed_account w) a e, left_over)
          (sym (counted_own o o.side a o.instrument (sym account ∙ e) refl (same_itself o.side)))
      by (no other) =
          rw (ne_eqb (packed_account w) a other)
          (sym (counted_other_account o o.side a o.instrument (λ e. other (account ∙ e))))

  pub row_fits : (cell (packed_side w) (packed_instrument w) < 65)
      × (get_or cells (cell (packed_side w) (packed_instrument w)) 0 + r ≤ 100000000000)
  row_fits =
      let os = orders_of records in
      let s = o.side in
      let i = o.instrument in
      let first : 0 + cell s i ≡ cell s i = omega arith in
      rw own_cell_lem (
        cell_inside s i numbered.1,
        counted_small os s a i (get_or cells (cell s i) 0 + r) (p + 1) 100000000000
            (counted_more os s a i (get_or cells (cell s i) 0) p r o inside here own_part (rw first at (past.sums s a i refl numbered)))
            (bounds.unfilled s i),
      )

  pub row_more : (cells' : List ℕ) → cells' ≡ added cells (cell (packed_side w) (packed_instrument w)) r →
      (length cells' ≡ 65) × PassedOf records a cells' (p + 1)
  row_more cells' e =
      let j = cell (packed_side w) (packed_instrument w) in
      let adds : Adds (λ b. b ≡ a) (λ b. 0) o j r = rw (own_cell_lem, own_part) (adds_row a o numbered) in (
        rw (e, added_length cells j r) size,
        passed_more (λ b. b ≡ a) (λ b. 0) (orders_of records) cells p past o here inside j r adds (omega (arith, row_fits.0)) cells' e,
      )
