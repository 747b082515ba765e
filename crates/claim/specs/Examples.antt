-- What an instance of the claim shows, over bytes: the premises of a demand met, and its conclusion drawn. Lists are of events written out.
use Rattle.std.specs.Prelude.{◌≡◌, ◌⊎◌, ◌∷◌, ◌++◌, ◌≤ℤ◌, ◌<ℤ◌}
use Rattle.integers.specs.Basics.{ℕ, true, List, [], Some, ℤ}
use Rattle.ledger.specs.declared.order.Order.{Order}
use Rattle.ledger.specs.Derivatives.{one}
use Rattle.ledger.specs.Positions.{Scope, Way, position}
use Rattle.ledger.specs.Fillings.{Filling, balance_after}
use Rattle.ledger.specs.Moves.{Moves}
use Rattle.ledger.specs.Roster.{Roster}
use Rattle.limits.specs.Lines.{limit}
use Rattle.limits.specs.Questions.{all_pass}
use Rattle.book.specs.declared.LimitLine.{LimitLine}
use Rattle.book.specs.declared.Setting.TheVariants.{Limit}
use Rattle.book.specs.declared.Event.TheVariants.{Set}
use Rattle.book.specs.Market.{derivatives}
use Rattle.book.specs.Books.{Book, book_after}
use Rattle.book.specs.Table.{entered, questions_before}
use Rattle.book.specs.States.{State, begun}
use Rattle.book.specs.EventLists.{RawEvent, as_event, memory_after, state_after}
use Rattle.book.specs.SetAgain.{name_of, line_over}
use Rattle.book.specs.Written.{as_bytes, written, written_all}
use Rattle.memory_opening.specs.Questions.{roster_from}
use Rattle.memory_opening.specs.Opening.{after_opening}
use Rattle.desk.specs.Step.{event_questions, answer_to, after_event}
use Rattle.claim.specs.GateDemands.{gate}
use Rattle.claim.specs.Claim.{FirstNo}

-- the memory m, opened with roster s, and what is kept of the events, after the events
abbrev pub memory_at : (m s : List ℕ) → List (List ℕ) → List ℕ
memory_at m s events = memory_after gate (after_opening m s) (written_all events)

abbrev pub state_at : (m s : List ℕ) → List (List ℕ) → State
state_at m s events = state_after gate (after_opening m s) (begun derivatives (roster_from s)) (written_all events)

-- ---- N after events: an order o is entered, or raised to its new total, and every check before the position limits is passed
pub record OrderAsked (m s : List ℕ) (events : List (List ℕ)) (n : List ℕ) (o : Order) : Type 0 where
  pub bytes : as_bytes n ≡ n
  pub enters : entered (state_at m s events).book (as_event (written n)) ≡ Some o
  pub passes : all_pass (questions_before (state_at m s events) (as_event (written n))) ≡ true

-- some filling of book b's orders puts a position of o's account past its limit on a side to which o's fills move it
abbrev pub SomeFillingPast : Roster → Book → Order → Type 0
SomeFillingPast r b o =
    (p : Scope)
    × (w : Way)
    × Moves r o p w
    × ((f : Filling b.orders)
    × (limit r (b.lines_of o.account) p w <ℤ position r (balance_after one o.account (b.balance_of o.account) f) p w))

-- N is refused by a position limit's question
pub record OrderRefused (m s : List ℕ) (events : List (List ℕ)) (n : List ℕ) (o : Order) (number : ℕ) : Type 0 where
  pub asked : OrderAsked m s events n o
  pub answered : answer_to (memory_at m s events) n ≡ number
  -- demand 3, from the answer
  pub past : SomeFillingPast (roster_from s) (book_after one (state_at m s events).book (as_event (written n))) o
  -- demand 3, from a filling that is shown
  pub refused :
      (answer_to (memory_at m s events) n ≡ 21)
      ⊎ ((answer_to (memory_at m s events) n ≡ 22)
      ⊎ ((answer_to (memory_at m s events) n ≡ 23) ⊎ (answer_to (memory_at m s events) n ≡ 24)))
  -- demand 2: every question before it is answered yes
  pub first_failed : FirstNo (event_questions (memory_at m s events) n) number
  -- demand 1
  pub unchanged : after_event (memory_at m s events) n ≡ memory_at m s events

-- from memory m on, of which k is kept: no accepted LIMIT of the events is on the line that the position of account a is under before it
-- or after it
abbrev pub NoneOnTheLine : Roster → List ℕ → State → ℕ → Scope → List RawEvent → Type 0
NoneOnTheLine r m k a p events =
    (before : List RawEvent) (e : RawEvent) (behind : List RawEvent) (c : ℕ) (l : LimitLine)
    → events ≡ before ++ (e ∷ behind)
    → as_event e ≡ Set (Limit c l)
    → answer_to (memory_after gate m before) e.bytes ≡ 0
    → (let b = (state_after gate m k before).book in
    (name_of c l ≡ line_over r b a p) ⊎ (name_of c l ≡ line_over r (book_after one b (as_event e)) a p) → ⊥)

abbrev pub NoneSetsAgain : (m s : List ℕ) (events later : List (List ℕ)) (a : ℕ) (p : Scope) → Type 0
NoneSetsAgain m s events later a p = NoneOnTheLine (roster_from s) (memory_at m s events) (state_at m s events) a p (written_all later)

-- N is accepted, and after later events the position p is not past the limit, `figure`, on side w
pub record OrderAccepted (m s : List ℕ) (events : List (List ℕ)) (n : List ℕ) (o : Order) (p : Scope) (w : Way) (figure : ℤ)
    (later : List (List ℕ)) : Type 0 where
  pub asked : OrderAsked m s events n o
  pub answered : answer_to (memory_at m s events) n ≡ 0
  -- demand 2: every question is answered yes
  pub all_passed : all_pass (event_questions (memory_at m s events) n) ≡ true
  pub moves : Moves (roster_from s) o p w
  pub judged_by : limit (roster_from s) ((state_at m s events).book.lines_of o.account) p w ≡ figure
  pub none_sets_again : NoneSetsAgain m s (events ++ (n ∷ [])) later o.account p
  -- demand 3
  pub same : limit (roster_from s) ((state_at m s (events ++ (n ∷ later))).book.lines_of o.account) p w ≡ figure
  pub stands : position (roster_from s) ((state_at m s (events ++ (n ∷ later))).book.balance_of o.account) p w ≤ℤ figure
  pub filled :
      (f : Filling (state_at m s (events ++ (n ∷ later))).book.orders)
      → position (roster_from s) (balance_after one o.account ((state_at m s (events ++ (n ∷ later))).book.balance_of o.account) f) p w
      ≤ℤ figure

-- a later event sets the limit again: the premise of demand 3 fails, and a filling of what is open then does put the position past
-- the figure that N was judged by
pub record LimitSetAgain (m s : List ℕ) (events : List (List ℕ)) (n : List ℕ) (o : Order) (p : Scope) (w : Way) (figure : ℤ)
    (later : List (List ℕ)) : Type 0 where
  pub set_again : NoneSetsAgain m s (events ++ (n ∷ [])) later o.account p → ⊥
  pub past :
      (f : Filling (state_at m s (events ++ (n ∷ later))).book.orders)
      × (figure <ℤ position (roster_from s) (balance_after one o.account
      ((state_at m s (events ++ (n ∷ later))).book.balance_of o.account)
      f) p w)
