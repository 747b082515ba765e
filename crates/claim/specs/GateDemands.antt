-- The three demands of the gate over bytes, by the tables' own numbers: types over the definitions that the exported functions' contracts
-- cite, opening_answer and after_opening, answer_to and after_event, instrument_answer, group_answer and what they report. Bytes are
-- numbers, a memory and an event any list of them.
use Rattle.std.specs.Prelude.{◌≤◌, ◌≡◌, ◌⊎◌, ◌↔◌, ◌≢◌, ◌∷◌, ◌++◌, ◌+ℤ◌}
use Rattle.integers.specs.Basics.{ℕ, true, false, List, [], ℤ, neg_ℤ, get_or}
use Rattle.words.specs.Bytes.{Bytes}
use Rattle.ledger.specs.declared.order.Side.TheVariants.{Buy, Sell}
use Rattle.ledger.specs.Derivatives.{one}
use Rattle.ledger.specs.Positions.{Way, long, short, open_on, group_part, sum_group, of_instrument}
use Rattle.limits.specs.Questions.{Question, numbers_of, all_pass}
use Rattle.book.specs.Decoding.{between}
use Rattle.book.specs.Market.{derivatives}
use Rattle.book.specs.States.{State, begun}
use Rattle.book.specs.Table.{answer}
use Rattle.book.specs.EventLists.{RawEvent, as_event, Desk, memory_after, state_after}
use Rattle.book.specs.Demand3.{Demand3At}
use Rattle.memory_layout.specs.View.{roster_of, balances_of, open_orders}
use Rattle.memory_opening.specs.Questions.{roster_from, opening_questions, opening_answer}
use Rattle.memory_opening.specs.Opening.{after_opening}
use Rattle.memory_reading.specs.Reading.{reading_questions, instrument_answer, group_answer, instrument_report, group_report, reported}
use Rattle.desk.specs.Step.{event_questions, answer_to, after_event}
use Rattle.book.specs.Positions.{instrument_in, group_in}

-- ---- demand 1
-- n is one of the numbers
abbrev pub OneOf : ℕ → List ℕ → Type 0
OneOf n [] = ⊥
OneOf n (k ∷ ks) = (n ≡ k) ⊎ OneOf n ks

-- "The answer to every roster and every event, sound or junk, is an acceptance or one numbered refusal, it always comes, and a
-- refusal leaves every byte of the desk's memory unchanged." The answers are total functions of any lists; that the code always
-- answers with them is the checker's claim of termination.
pub record GateDemand1 : Type 0 where
  -- the numbers are those of the questions that are asked
  pub roster : (m s : List ℕ) → OneOf (opening_answer m s) (0 ∷ numbers_of (opening_questions m s))
  pub roster_refused : (m s : List ℕ) → opening_answer m s ≢ 0 → after_opening m s ≡ m
  pub event : (m e : List ℕ) → OneOf (answer_to m e) (0 ∷ numbers_of (event_questions m e))
  pub event_refused : (m e : List ℕ) → answer_to m e ≢ 0 → after_event m e ≡ m
  -- "later bytes are never touched"
  pub later_opening : (m s : List ℕ) (k : ℕ) → 65536 ≤ k → get_or (after_opening m s) k 0 ≡ get_or m k 0
  pub later_event : (m e : List ℕ) (k : ℕ) → 65536 ≤ k → get_or (after_event m e) k 0 ≡ get_or m k 0

-- ---- demand 2
-- question n is answered no, and every question before it yes
pub record FirstFailed (qs : List Question) (n : ℕ) : Type 0 where
  pub before : List Question
  pub asked : Question
  pub behind : List Question
  pub table : qs ≡ before ++ (asked ∷ behind)
  pub passed : all_pass before ≡ true
  pub failed : asked.passes ≡ false
  pub number : asked.number ≡ n

-- the answer to a table of questions: n exactly where n is the first that fails, 0 exactly where all pass
pub record Answers (qs : List Question) (answer : ℕ) : Type 0 where
  pub refused : (n : ℕ) → n ≢ 0 → answer ≡ n ↔ FirstFailed qs n
  pub accepted : answer ≡ 0 ↔ (all_pass qs ≡ true)

-- PCC (long) and PVC (short): the sum, over the group's instruments with weight K, of K times the same side's S + B or V − S if
-- K ≥ 0, or −K times the other side's if K < 0
abbrev pub group_sum : List ℕ → ℕ → ℕ → Way → ℤ
group_sum m a g w =
    sum_group (roster_of m) g (λ i. group_part w ((roster_of m).weight i) (of_instrument one (open_orders m) a (balances_of m a) i))

-- "The answer to a roster or an event is the first check that it fails, the EntryPoint LiNe phases among them, as document 01
-- lists them, or an acceptance if it fails none, and every potential position reported is the one that the open orders and
-- balances give."
pub record GateDemand2 : Type 0 where
  pub roster : (m s : List ℕ) → Answers (opening_questions m s) (opening_answer m s)
  pub event : (m e : List ℕ) → Answers (event_questions m e) (answer_to m e)
  pub instrument : (m : List ℕ) (a i : ℕ) → Answers (reading_questions m (roster_of m).instruments a i) (instrument_answer m a i)
  pub group : (m : List ℕ) (a g : ℕ) → Answers (reading_questions m (roster_of m).groups a g) (group_answer m a g)
  -- S, PCI = S + B and PVI = −S + V; `before` is what the output held
  pub instrument_reported :
      (m : List ℕ) (a i : ℕ) (before : List ℤ)
      → instrument_answer m a i ≡ 0
      → reported (instrument_answer m a i) (instrument_report m a i) before
      ≡ balances_of m a i
      ∷ (balances_of m a i +ℤ open_on one (open_orders m) Buy a i)
      ∷ (neg_ℤ (balances_of m a i) +ℤ open_on one (open_orders m) Sell a i)
      ∷ []
  -- PCC and PVC
  pub group_reported :
      (m : List ℕ) (a g : ℕ) (before : List ℤ)
      → group_answer m a g ≡ 0
      → reported (group_answer m a g) (group_report m a g) before ≡ group_sum m a g long ∷ group_sum m a g short ∷ []
  pub instrument_refused : (m : List ℕ) (a i : ℕ) (before : List ℤ) → instrument_answer m a i ≢ 0
      → reported (instrument_answer m a i) (instrument_report m a i) before ≡ before
  pub group_refused : (m : List ℕ) (a g : ℕ) (before : List ℤ) → group_answer m a g ≢ 0
      → reported (group_answer m a g) (group_report m a g) before ≡ before

-- ---- demand 3
-- the gate as a desk over bytes: the exported event function's answer, and the memory that it leaves
abbrev pub gate : Desk
gate = record { Memory = List ℕ; answer_to = λ m e. answer_to m e.bytes; next = λ m e. after_event m e.bytes }

-- what is kept after a list of events, from an accepted opening of memory m with roster s: the plain book, and what stands beside it
abbrev pub kept_after : List ℕ → List ℕ → List RawEvent → State
kept_after m s events = state_after gate (after_opening m s) (begun derivatives (roster_from s)) events

-- from an accepted opening of memory m with roster s
pub record Demand3From (m s : List ℕ) : Type 0 where
  -- over every list of events and every N: see Demand3At in crates/book/specs/Demand3.antt, sentence by sentence
  pub judged : Demand3At gate (after_opening m s) (begun derivatives (roster_from s))
  -- "Positions read after the list are those that the book gives"
  pub instrument_read :
      (events : List RawEvent) (a i : ℕ)
      → between 1 (roster_from s).accounts a ≡ true
      → between 1 (roster_from s).instruments i ≡ true
      → (let now = memory_after gate (after_opening m s) events in
      (instrument_answer now a i ≡ 0) × (instrument_report now a i ≡ instrument_in (kept_after m s events) a i))
  pub group_read :
      (events : List RawEvent) (a g : ℕ)
      → between 1 (roster_from s).accounts a ≡ true
      → between 1 (roster_from s).groups g ≡ true
      → (let now = memory_after gate (after_opening m s) events in
      (group_answer now a g ≡ 0) × (group_report now a g ≡ group_in (kept_after m s events) a g))
  -- "Answers are demand 2's": after the list an event is answered by the table asked of what is kept
  pub answered :
      (events : List RawEvent) (e : RawEvent)
      → answer_to (memory_after gate (after_opening m s) events) e.bytes ≡ answer (kept_after m s events) (as_event e)
  -- the desk stays sound: question 5 is never answered no
  pub never_5 : (events : List RawEvent) (e : RawEvent) → answer_to (memory_after gate (after_opening m s) events) e.bytes ≢ 5

abbrev pub GateDemand3 : Type 0
GateDemand3 = (m s : List ℕ) → Bytes m → opening_answer m s ≡ 0 → Demand3From m s
