-- The claim: the user's three demands in the order of their words, each with its whole type. m is a memory, s the bytes of a roster and e
-- those of an event: any lists of numbers, of any length. The contracts of the exported functions (include/exported.txt) say that the code
-- computes the functions named here: opening_answer and after_opening (desk_open), answer_to and after_event (desk_event),
-- instrument_answer, group_answer, their reports and `reported` (the readers), and answer_to and after_event along a list of events
-- (desk_run).
use Rattle.std.specs.Prelude.{◌≤◌, ◌<◌, ◌≡◌, ◌⊎◌, ◌↔◌, ◌≢◌, ◌∷◌, ◌++◌, ◌+ℤ◌, ◌≤ℤ◌, ◌<ℤ◌}
use Rattle.integers.specs.Basics.{ℕ, true, false, cond, List, [], map, ListMemᴰ, Some, ℤ, neg_ℤ}
use Rattle.integers.specs.Basics.{length, get_or, drop, replicate}
use Rattle.words.specs.Bytes.{Bytes}
use Rattle.ledger.specs.declared.order.Order.{Order}
use Rattle.ledger.specs.declared.order.Side.TheVariants.{Buy, Sell}
use Rattle.ledger.specs.Derivatives.{one}
use Rattle.ledger.specs.Positions.{Way, long, short, Scope, open_on, of_instrument, group_part, sum_group, position}
use Rattle.ledger.specs.Fillings.{Filling, balance_after}
use Rattle.ledger.specs.Moves.{Moves}
use Rattle.limits.specs.Lines.{is_set, limit}
use Rattle.limits.specs.Questions.{Question, all_pass, numbers_of}
use Rattle.book.specs.declared.LimitLine.{LimitLine}
use Rattle.book.specs.declared.Setting.TheVariants.{Limit}
use Rattle.book.specs.declared.Event.TheVariants.{Set}
use Rattle.book.specs.Market.{derivatives}
use Rattle.book.specs.Decoding.{between, decode}
use Rattle.book.specs.Books.{book_after}
use Rattle.book.specs.Table.{q, entered, questions_before, answer}
use Rattle.book.specs.States.{begun}
use Rattle.book.specs.EventLists.{RawEvent, as_event, keep, memory_after, state_after}
use Rattle.book.specs.SetAgain.{name_of, line_over}
use Rattle.memory_layout.specs.View.{roster_of, balances_of, open_orders, book_of}
use Rattle.memory_soundness.specs.Soundness.{sound_desk}
use Rattle.memory_opening.specs.Questions.{roster_from, opening_questions, opening_answer}
use Rattle.memory_opening.specs.Opening.{after_opening}
use Rattle.memory_reading.specs.Reading.{reading_questions, instrument_answer, group_answer, instrument_report, group_report, reported}
use Rattle.desk.specs.Step.{event_questions, answer_to, after_event}
use Rattle.book.specs.Positions.{instrument_in, group_in}
use Rattle.desk.specs.Days.{answers_over, memory_over}
use Rattle.desk.specs.Run.{events_for, answered}
use Rattle.claim.specs.RunList.{concatenated}
use Rattle.claim.specs.GateDemands.{gate}

-- the numbers of an event's questions, in document 01's order: what every event is asked, and what is asked of an order that is entered, or
-- raised
abbrev pub asked_first : List ℕ
asked_first = 5 ∷ 6 ∷ 7 ∷ 8 ∷ 9 ∷ 10 ∷ 11 ∷ 12 ∷ 13 ∷ 14 ∷ 15 ∷ 16 ∷ 17 ∷ 18 ∷ 19 ∷ 20 ∷ []

abbrev pub asked_last : List ℕ
asked_last = 21 ∷ 22 ∷ 23 ∷ 24 ∷ []

-- ---- 1. "The answer to every roster and every event, sound or junk, is an acceptance or one numbered refusal, it always comes, and a
-- refusal leaves every byte of the desk's memory unchanged." That it always comes is the checker's: every proved function ends.
pub record Demand1 : Type 0 where
  pub roster : (m s : List ℕ) → ListMemᴰ (opening_answer m s) (0 ∷ 1 ∷ 2 ∷ 3 ∷ 4 ∷ [])
  pub event : (m e : List ℕ) → ListMemᴰ (answer_to m e) (0 ∷ (asked_first ++ asked_last))
  pub roster_refused : (m s : List ℕ) → opening_answer m s ≢ 0 → after_opening m s ≡ m
  pub event_refused : (m e : List ℕ) → answer_to m e ≢ 0 → after_event m e ≡ m
  -- document 01: "later bytes are never touched", accepted or not
  pub behind_roster : (m s : List ℕ) (k : ℕ) → 65536 ≤ k → get_or (after_opening m s) k 0 ≡ get_or m k 0
  pub behind_event : (m e : List ℕ) (k : ℕ) → 65536 ≤ k → get_or (after_event m e) k 0 ≡ get_or m k 0

-- ---- 2. "The answer to a roster or an event is the first check that it fails, the EntryPoint LiNe phases among them, as document 01
-- lists them, or an acceptance if it fails none, and every potential position reported is the one that the open orders and balances give."
-- A table lists questions in document 01's order, each a number and whether it is answered yes; `q n false` is question n answered no.
-- Question n is answered no, and each before it yes
abbrev pub FirstNo : List Question → ℕ → Type 0
FirstNo table n =
    (before : List Question)
    × (behind : List Question)
    × (table ≡ before ++ (q n false ∷ behind))
    × (all_pass before ≡ true)

pub record Demand2 : Type 0 where
  -- a roster is answered n, not 0, exactly where question n is answered no and each before it yes, and 0 exactly where each is answered yes
  pub roster_refused : (m s : List ℕ) (n : ℕ) → n ≢ 0 → (opening_answer m s ≡ n) ↔ FirstNo (opening_questions m s) n
  pub roster_accepted : (m s : List ℕ) → (opening_answer m s ≡ 0) ↔ (all_pass (opening_questions m s) ≡ true)
  pub roster_numbers : (m s : List ℕ) → numbers_of (opening_questions m s) ≡ 1 ∷ 2 ∷ 3 ∷ 4 ∷ []
  -- an event likewise
  pub event_refused : (m e : List ℕ) (n : ℕ) → n ≢ 0 → (answer_to m e ≡ n) ↔ FirstNo (event_questions m e) n
  pub event_accepted : (m e : List ℕ) → (answer_to m e ≡ 0) ↔ (all_pass (event_questions m e) ≡ true)
  pub event_numbers :
      (m e : List ℕ)
      → numbers_of (event_questions m e) ≡ asked_first ++ cond (is_set (entered (book_of m) (decode e))) asked_last []
  -- a reading of an instrument's or a group's position likewise
  pub instrument_refused :
      (m : List ℕ) (a i n : ℕ) → n ≢ 0 → (instrument_answer m a i ≡ n) ↔ FirstNo (reading_questions m (roster_of m).instruments a i) n
  pub instrument_accepted :
      (m : List ℕ) (a i : ℕ)
      → (instrument_answer m a i ≡ 0) ↔ (all_pass (reading_questions m (roster_of m).instruments a i) ≡ true)
  pub group_refused :
      (m : List ℕ) (a g n : ℕ) → n ≢ 0 → (group_answer m a g ≡ n) ↔ FirstNo (reading_questions m (roster_of m).groups a g) n
  pub group_accepted :
      (m : List ℕ) (a g : ℕ)
      → (group_answer m a g ≡ 0) ↔ (all_pass (reading_questions m (roster_of m).groups a g) ≡ true)
  pub reading_numbers : (m : List ℕ) (items a n : ℕ) → numbers_of (reading_questions m items a n) ≡ 5 ∷ 7 ∷ 8 ∷ []
  -- what is reported: S, PCI = S + B and PVI = −S + V; PCC and PVC. `before` is what the output held, and a refusal leaves it
  pub instrument_reported :
      (m : List ℕ) (a i : ℕ) (before : List ℤ)
      → instrument_answer m a i ≡ 0
      → reported (instrument_answer m a i) (instrument_report m a i) before
      ≡ balances_of m a i
      ∷ (balances_of m a i +ℤ open_on one (open_orders m) Buy a i)
      ∷ (neg_ℤ (balances_of m a i) +ℤ open_on one (open_orders m) Sell a i)
      ∷ []
  pub group_reported :
      (m : List ℕ) (a g : ℕ) (before : List ℤ)
      → group_answer m a g ≡ 0
      → reported (group_answer m a g) (group_report m a g) before
      ≡ sum_group (roster_of m) g (λ i. group_part long ((roster_of m).weight i) (of_instrument one (open_orders m) a (balances_of m a) i))
      ∷ sum_group (roster_of m) g (λ i. group_part short ((roster_of m).weight i) (of_instrument one (open_orders m) a (balances_of m a) i))
      ∷ []
  pub instrument_left :
      (m : List ℕ) (a i : ℕ) (before : List ℤ)
      → instrument_answer m a i ≢ 0
      → reported (instrument_answer m a i) (instrument_report m a i) before ≡ before
  pub group_left :
      (m : List ℕ) (a g : ℕ) (before : List ℤ)
      → group_answer m a g ≢ 0
      → reported (group_answer m a g) (group_report m a g) before ≡ before

-- ---- 3. One theorem over every list of events.
abbrev pub Demand3 : Type 0
Demand3 =
    -- "Take every list of events of every kind …, junk and refused ones included, from a freshly opened desk."
    (m s : List ℕ)
    → Bytes m
    → opening_answer m s ≡ 0
    → (events : List RawEvent)
    → (let r = roster_from s in
    -- each event gets the memory as the one before left it; the plain book is kept from the roster, the events and their answers. What is
    -- kept holds the market and the roster that it began with (`market_after` and `roster_after` in crates/book/proofs/StateLaws.antt)
    let now = memory_after gate (after_opening m s) events in
    let kept = state_after gate (after_opening m s) (begun derivatives r) events in
    let book = kept.book in
    -- "After it let N be a new order, or a replace that raises one (then counted once, at its new total), that passes every check before
    -- the position limits." o is the order that N enters, or raises to its new total
    ((n : RawEvent) (o : Order)
    → entered book (as_event n) ≡ Some o
    → all_pass (questions_before kept (as_event n)) ≡ true
    → (let with_n = book_after one book (as_event n) in
    -- "N is refused for a position limit exactly when some filling of the open orders and N, each by any whole number from none to all
    -- that remains, puts the instrument's or group's position past its limit on a side to which N's own fills move it."
    (((answer_to now n.bytes ≡ 21)
    ⊎ ((answer_to now n.bytes ≡ 22) ⊎ ((answer_to now n.bytes ≡ 23) ⊎ (answer_to now n.bytes ≡ 24))))
    ↔ ((p : Scope)
    × (w : Way)
    × Moves r o p w
    × ((f : Filling with_n.orders)
    × (limit r (with_n.lines_of o.account) p w <ℤ position r (balance_after one o.account (with_n.balance_of o.account) f) p w))))
    -- "If N is accepted, then whatever events follow, those positions are not past those limits on those sides, after N and after each
    -- event, until a limit that applies to them is set again." Every beginning of a list is a list
    × (answer_to now n.bytes ≡ 0
    → (p : Scope) (w : Way)
    → Moves r o p w
    → (later : List RawEvent)
    → (let next = after_event now n.bytes in
    let kept_n = keep kept (as_event n) (answer_to now n.bytes) in
    -- no accepted LIMIT among them is on the line that the position is under before it or after it
    ((before : List RawEvent) (e : RawEvent) (behind : List RawEvent) (a : ℕ) (l : LimitLine)
    → later ≡ before ++ (e ∷ behind)
    → as_event e ≡ Set (Limit a l)
    → answer_to (memory_after gate next before) e.bytes ≡ 0
    → (let b = (state_after gate next kept_n before).book in
    (name_of a l ≡ line_over r b o.account p) ⊎ (name_of a l ≡ line_over r (book_after one b (as_event e)) o.account p) → ⊥))
    -- the limit is the one that N was judged by, the position is not past it, and no filling of what is open then puts it past
    → (let b = (state_after gate next kept_n later).book in
    (limit r (b.lines_of o.account) p w ≡ limit r (book.lines_of o.account) p w)
    × (position r (b.balance_of o.account) p w ≤ℤ limit r (book.lines_of o.account) p w)
    × ((f : Filling b.orders)
    → position r (balance_after one o.account (b.balance_of o.account) f) p w ≤ℤ limit r (book.lines_of o.account) p w))))))
    -- "Answers are demand 2's": the same table, asked of the plain book, so that 5 is never the answer
    × ((e : RawEvent) → answer_to now e.bytes ≡ answer kept (as_event e))
    × ((e : RawEvent) → answer_to now e.bytes ≢ 5)
    -- document 01: "Positions read after the list are those that the book gives"
    × ((a i : ℕ)
    → between 1 r.accounts a ≡ true
    → between 1 r.instruments i ≡ true
    → (instrument_answer now a i ≡ 0) × (instrument_report now a i ≡ instrument_in kept a i))
    × ((a g : ℕ)
    → between 1 r.accounts a ≡ true
    → between 1 r.groups g ≡ true
    → (group_answer now a g ≡ 0) × (group_report now a g ≡ group_in kept a g)))

-- ---- The run: desk_run answers many events in one call, as desk_event does one after the other.
pub record Run : Type 0 where
  -- events of 48 bytes, of which the last may be shorter, joined; `room` is what the answers are written to, and the rest of it is left
  pub events :
      (m : List ℕ) (whole : List RawEvent) (last : RawEvent) (room : List ℕ)
      → ((e : RawEvent) → ListMemᴰ e whole → length e.bytes ≡ 48)
      → 1 ≤ length last.bytes
      → length last.bytes ≤ 48
      → length whole < length room
      → (let events = whole ++ (last ∷ []) in
      let each = map (λ e. e.bytes) events in
      (events_for (concatenated events) room ≡ each)
      × (memory_over m each ≡ memory_after gate m events)
      × (answered m (concatenated events) room ≡ answers_over m each ++ drop (length events) room))
  -- one event more: its answer stands behind the others, and is that at the memory which they leave
  pub next :
      (m : List ℕ) (es : List RawEvent) (n : RawEvent)
      → answers_over m (map (λ e. e.bytes) (es ++ (n ∷ [])))
      ≡ answers_over m (map (λ e. e.bytes) es) ++ (answer_to (memory_after gate m es) n.bytes ∷ [])
  -- question 5 is asked once: a memory that holds no sound desk answers 5 to each, and stays as it was
  pub unsound :
      (m : List ℕ) (es : List (List ℕ))
      → sound_desk m ≡ false
      → (answers_over m es ≡ replicate (length es) 5) × (memory_over m es ≡ m)
