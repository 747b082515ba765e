-- Demand 3, of a desk D whose memory m₀ holds what k₀ says: a single claim about every list of events.
use Rattle.std.specs.Prelude.{◌≡◌, ◌⊎◌, ◌↔◌, ◌∷◌, ◌≤ℤ◌, ◌<ℤ◌}
use Rattle.integers.specs.Basics.{ℕ, true, List, [], Some, ℤ}
use Rattle.ledger.specs.declared.order.Order.{Order}
use Rattle.ledger.specs.Positions.{Scope, Way, position}
use Rattle.ledger.specs.Fillings.{Filling, balance_after}
use Rattle.ledger.specs.Moves.{Moves}
use Rattle.limits.specs.Lines.{limit}
use Rattle.limits.specs.Questions.{all_pass}
use Rattle.book.specs.States.{State, work}
use Rattle.book.specs.Table.{questions_before, entered}
use Rattle.book.specs.EventLists.{RawEvent, as_event, Desk, keep, memory_after, state_after}
use Rattle.book.specs.SetAgain.{SetsAgain}

-- refused for a position limit: answered 21, 22, 23 or 24
abbrev pub ForPositionLimit : ℕ → Type 0
ForPositionLimit n = (n ≡ 21) ⊎ ((n ≡ 22) ⊎ ((n ≡ 23) ⊎ (n ≡ 24)))

-- of account a at p, on side w: the limit, the position as it stands, and the position after a filling of the open orders
abbrev pub limit_of : State → ℕ → Scope → Way → ℤ
limit_of k a p w = limit k.roster (k.book.lines_of a) p w

abbrev pub position_of : State → ℕ → Scope → Way → ℤ
position_of k a p w = position k.roster (k.book.balance_of a) p w

abbrev pub position_after : (k : State) → ℕ → Scope → Way → Filling k.book.orders → ℤ
position_after k a p w f = position k.roster (balance_after k.market.unit a (k.book.balance_of a) f) p w

-- some filling of the open orders puts the position past its limit
abbrev pub SomeFillingPasses : State → ℕ → Scope → Way → Type 0
SomeFillingPasses k a p w = (f : Filling k.book.orders) × (limit_of k a p w <ℤ position_after k a p w f)

-- N enters or raises order o, and passes every check before the position limits
pub record Judged (k : State) (n : RawEvent) (o : Order) : Type 0 where
  pub enters : entered k.book (as_event n) ≡ Some o
  pub passes : all_pass (questions_before k (as_event n)) ≡ true

-- refused for a position limit exactly when some filling of the open orders and N puts the instrument's or group's position
-- past its limit on a side to which N's own fills move it
abbrev pub RefusedExactly : State → RawEvent → Order → ℕ → Type 0
RefusedExactly k n o answer =
    ForPositionLimit answer
    ↔ ((p : Scope) × (w : Way) × Moves k.roster o p w × SomeFillingPasses (work k (as_event n)) o.account p w)

-- no accepted event of the list sets the limit of account a's position p again
abbrev pub NotSetAgain : (D : Desk) → D.Memory → State → ℕ → Scope → List RawEvent → Type 0
NotSetAgain D m k a p [] = Unit
NotSetAgain D m k a p (e ∷ es) =
    (D.answer_to m e ≡ 0 → SetsAgain k (as_event e) a p → ⊥)
    × NotSetAgain D (D.next m e) (keep k (as_event e) (D.answer_to m e)) a p es

-- the limit is still the one that N was judged by, the position as it stands is not past it, and no filling of what is open puts it past
pub record NotPast (at_n now : State) (a : ℕ) (p : Scope) (w : Way) : Type 0 where
  pub same : limit_of now a p w ≡ limit_of at_n a p w
  pub stands : position_of now a p w ≤ℤ limit_of at_n a p w
  pub filled : (f : Filling now.book.orders) → position_after now a p w f ≤ℤ limit_of at_n a p w

-- the two halves, of N after a list of events
pub record JudgedSo (D : Desk) (m : D.Memory) (k : State) (n : RawEvent) (o : Order) : Type 0 where
  pub refused : RefusedExactly k n o (D.answer_to m n)
  pub accepted :
      D.answer_to m n ≡ 0
      → (p : Scope) (w : Way)
      → Moves k.roster o p w
      → (later : List RawEvent)
      → NotSetAgain D (D.next m n) (keep k (as_event n) (D.answer_to m n)) o.account p later
      → NotPast k (state_after D (D.next m n) (keep k (as_event n) (D.answer_to m n)) later) o.account p w

-- over every list of events and every N
abbrev pub Demand3At : (D : Desk) → D.Memory → State → Type 0
Demand3At D m₀ k₀ =
    (events : List RawEvent) (n : RawEvent) (o : Order)
    → Judged (state_after D m₀ k₀ events) n o
    → JudgedSo D (memory_after D m₀ events) (state_after D m₀ k₀ events) n o
