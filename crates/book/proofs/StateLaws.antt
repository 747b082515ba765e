-- "The plain book is kept from the roster, the events and their answers": what is kept after a list, event by event.
use Rattle.std.specs.Prelude.{◌<◌, ◌≡◌, ◌∷◌, ◌++◌}
use Rattle.integers.specs.Basics.{ℕ, refl, ◌∙◌, false, List, [], None, pos, eqb, get_or}
use Rattle.ledger.specs.Roster.{Roster}
use Rattle.ledger.proofs.Ways.{by_test}
use Rattle.book.specs.declared.Event.{Event}
use Rattle.book.specs.Market.{Market}
use Rattle.book.specs.Books.{empty_book}
use Rattle.book.specs.States.{State, begun, work}
use Rattle.book.specs.EventLists.{RawEvent, as_event, Desk, keep, memory_after, state_after}

-- "An event in it is any bytes": every list of them is one
pub any_bytes : (l : List ℕ) → ((i : ℕ) → get_or l i 0 < 256) → (e : RawEvent) × (e.bytes ≡ l)
any_bytes l bytes = (record { bytes = l; are = bytes }, refl)

-- and nothing else is
pub only_bytes : (e : RawEvent) (i : ℕ) → get_or e.bytes i 0 < 256
only_bytes e = e.are

-- "It begins with balances 0 and no line, block or open order", and no account is trading
pub begins_empty : (mk : Market) (r : Roster) → ((begun mk r).book.orders ≡ [])
    × ((a i : ℕ) → (begun mk r).book.balance_of a i ≡ pos 0)
    × ((a i : ℕ) → ((begun mk r).book.lines_of a).own_of i ≡ None)
    × ((a c : ℕ) → ((begun mk r).book.lines_of a).default_of c ≡ None)
    × ((a g : ℕ) → ((begun mk r).book.lines_of a).line_of_group g ≡ None)
    × ((a : ℕ) → (begun mk r).book.blocks.account a ≡ false)
    × ((i : ℕ) → (begun mk r).book.blocks.instrument i ≡ false)
    × ((a g : ℕ) → (begun mk r).book.blocks.group a g ≡ false)
    × ((a : ℕ) → (begun mk r).beside.trading a ≡ false)
unfolding empty_book
begins_empty mk r = (refl, (λ a i. refl), (λ a i. refl), (λ a c. refl), (λ a g. refl), (λ a. refl), (λ i. refl), (λ a g. refl), λ a. refl)

-- an accepted event is worked, and may set a mark; of a refused one nothing is kept (`keep_refused` of Runs)
pub state_at_an_acceptance : (k : State) (e : Event) → keep k e 0 ≡ work k e
unfolding keep
state_at_an_acceptance k e = refl

-- what no accepted event changes is kept
kept_alike : {A : Type 0} (part : State → A) → ((k : State) (e : Event) → part (work k e) ≡ part k)
    → (k : State) (e : Event) (n : ℕ) → part (keep k e n) ≡ part k
unfolding keep
kept_alike part same k e n = by_test (eqb n 0) (λ t. rw t (same k e)) (λ t. rw t)

-- market and roster stay
pub market_kept : (k : State) (e : Event) (n : ℕ) → (keep k e n).market ≡ k.market
market_kept = kept_alike (λ k. k.market) (λ k e. refl)

pub roster_kept : (k : State) (e : Event) (n : ℕ) → (keep k e n).roster ≡ k.roster
roster_kept = kept_alike (λ k. k.roster) (λ k e. refl)

-- "Each, N and later events too, gets the desk's memory as the one before left it"
module _ (D : Desk) where
  pub memory_of_none : (m : D.Memory) → memory_after D m [] ≡ m
  unfolding memory_after
  memory_of_none m = refl

  pub memory_joined : (m : D.Memory) (xs ys : List RawEvent) → memory_after D m (xs ++ ys) ≡ memory_after D (memory_after D m xs) ys
  unfolding memory_after
  memory_joined m [] ys = refl
  memory_joined m (x ∷ xs) ys = memory_joined (D.next m x) xs ys

  pub memory_of_more : (m : D.Memory) (es : List RawEvent) (e : RawEvent)
      → memory_after D m (es ++ (e ∷ [])) ≡ D.next (memory_after D m es) e
  unfolding memory_after
  memory_of_more m es e = memory_joined m es (e ∷ [])

  -- a list cut at one of its events
  pub memory_past : (m : D.Memory) (xs : List RawEvent) (n : RawEvent) (ys : List RawEvent)
      → memory_after D m (xs ++ (n ∷ ys)) ≡ memory_after D (D.next (memory_after D m xs) n) ys
  unfolding memory_after
  memory_past m xs n ys = memory_joined m xs (n ∷ ys)

  pub state_of_none : (m : D.Memory) (k : State) → state_after D m k [] ≡ k
  unfolding state_after
  state_of_none m k = refl

  pub state_joined : (m : D.Memory) (k : State) (xs ys : List RawEvent)
      → state_after D m k (xs ++ ys) ≡ state_after D (memory_after D m xs) (state_after D m k xs) ys
  unfolding state_after memory_after
  state_joined m k [] ys = refl
  state_joined m k (x ∷ xs) ys = state_joined (D.next m x) (keep k (as_event x) (D.answer_to m x)) xs ys

  -- the book is kept by the answer that the event gets there
  pub state_of_more : (m : D.Memory) (k : State) (es : List RawEvent) (e : RawEvent)
      → state_after D m k (es ++ (e ∷ [])) ≡ keep (state_after D m k es) (as_event e) (D.answer_to (memory_after D m es) e)
  unfolding state_after
  state_of_more m k es e = state_joined m k es (e ∷ [])

  pub state_past : (m : D.Memory) (k : State) (xs : List RawEvent) (n : RawEvent) (ys : List RawEvent)
      → state_after D m k (xs ++ (n ∷ ys)) ≡ state_after D (D.next (memory_after D m xs) n)
      (keep (state_after D m k xs) (as_event n) (D.answer_to (memory_after D m xs) n)) ys
  unfolding state_after
  state_past m k xs n ys = state_joined m k xs (n ∷ ys)

  after_alike : {A : Type 0} (part : State → A) → ((k : State) (e : Event) (n : ℕ) → part (keep k e n) ≡ part k)
      → (m : D.Memory) (k : State) (es : List RawEvent) → part (state_after D m k es) ≡ part k
  unfolding state_after
  after_alike part same m k [] = refl
  after_alike part same m k (e ∷ es) =
      after_alike part same (D.next m e) (keep k (as_event e) (D.answer_to m e)) es ∙ same k (as_event e) (D.answer_to m e)

  -- market and roster are those that it began with
  pub market_after : (m : D.Memory) (k : State) (es : List RawEvent) → (state_after D m k es).market ≡ k.market
  market_after = after_alike (λ k. k.market) market_kept

  pub roster_after : (m : D.Memory) (k : State) (es : List RawEvent) → (state_after D m k es).roster ≡ k.roster
  roster_after = after_alike (λ k. k.roster) roster_kept
