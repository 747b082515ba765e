-- Demand 3 at the plain desk, used of events in bytes: N after a list, and a later list after N.
use Rattle.std.specs.Prelude.{◌≡◌, ◌⊎◌, ◌∷◌, ◌++◌, ◌≤ℤ◌}
use Rattle.integers.specs.Basics.{ℕ, Bool, true, List, Some, ℤ}
use Rattle.ledger.specs.declared.order.Order.{Order}
use Rattle.ledger.specs.Roster.{Roster}
use Rattle.ledger.specs.Positions.{Scope, Way}
use Rattle.ledger.specs.Fillings.{Filling}
use Rattle.ledger.specs.Moves.{Moves}
use Rattle.limits.specs.Questions.{all_pass}
use Rattle.book.specs.Market.{derivatives}
use Rattle.book.specs.States.{State, begun, work}
use Rattle.book.specs.Table.{entered, questions_before}
use Rattle.book.specs.Sound.{RosterFits}
use Rattle.book.specs.EventLists.{RawEvent, as_event, memory_after, state_after}
use Rattle.book.specs.Demand3.{limit_of, position_of, position_after, SomeFillingPasses}
use Rattle.book.specs.Written.{written, written_all}
use Rattle.book.proofs.Plain.{plain, plain_demand3}
use Rattle.book.proofs.NotSetAgainLaws.{sets_none, sets_none_lem}
use Rattle.book.proofs.Demand3InFull.{InFull, in_full, none_later, memory_with, state_with}

module _ (r : Roster) where
  abbrev k₀ : State
  k₀ = begun derivatives r

  -- what is kept after a list of events
  abbrev pub state_of : List RawEvent → State
  state_of es = state_after plain k₀ k₀ es

  promise : RosterFits r → InFull plain k₀ k₀
  promise fits = (in_full plain k₀ k₀).0 (plain_demand3 derivatives r fits)

  module _ (before : List (List ℕ)) (n : List ℕ) where
    abbrev state_before : State
    state_before = state_of (written_all before)

    -- N enters or raises o, and passes every check before the position limits
    abbrev pub Meets : Order → Type 0
    Meets o =
        (entered state_before.book (as_event (written n)) ≡ Some o)
        × (all_pass (questions_before state_before (as_event (written n))) ≡ true)

    abbrev pub answer_to : ℕ
    answer_to = plain.answer_to (memory_after plain k₀ (written_all before)) (written n)

    abbrev pub Refused : Type 0
    Refused = (answer_to ≡ 21) ⊎ ((answer_to ≡ 22) ⊎ ((answer_to ≡ 23) ⊎ (answer_to ≡ 24)))

    -- some filling of the open orders and N puts a position that o's fills move past its limit
    abbrev pub Past : Order → Type 0
    Past o =
        (p : Scope) × (w : Way) × Moves state_before.roster o p w
        × SomeFillingPasses (work state_before (as_event (written n))) o.account p w

    -- from the answer a filling, and from a filling the answer
    pub both_ways : RosterFits r → (o : Order) → Meets o → Refused → Past o → Past o × Refused
    both_ways fits o j refused past =
        let so = (promise fits (written_all before) (written n) o j.0 j.1).0 in
        (so.0 refused, so.1 past)

    abbrev pub state_then : List (List ℕ) → State
    state_then later = state_of (written_all before ++ (written n ∷ written_all later))

    -- account a's position at p, after the later list: its limit is the figure, it is not past it, and no filling puts it past
    abbrev pub Within : List (List ℕ) → ℕ → Scope → Way → ℤ → Type 0
    Within later a p w figure =
        let k = state_then later in
        (limit_of k a p w ≡ figure)
        × (position_of k a p w ≤ℤ figure)
        × ((f : Filling k.book.orders) → position_after k a p w f ≤ℤ figure)

    -- no accepted event of the later list sets the limit again, tested
    abbrev pub none_again : ℕ → Scope → List (List ℕ) → Bool
    none_again a p later =
        sets_none plain (memory_with plain k₀ k₀ (written_all before) (written n))
        (state_with plain k₀ k₀ (written_all before) (written n)) a p
        (written_all later)

    pub promised : RosterFits r → (o : Order) → Meets o → answer_to ≡ 0 → (p : Scope) (w : Way) → Moves state_before.roster o p w
        → (later : List (List ℕ)) → none_again o.account p later ≡ true
        → Within later o.account p w (limit_of state_before o.account p w)
    promised fits o j zero p w moves later test =
        let events = written_all before in
        (promise fits events (written n) o j.0 j.1).1 zero p w moves (written_all later)
        ((none_later plain k₀ k₀ events (written n) o.account p (written_all later)).0
        (sets_none_lem plain (memory_with plain k₀ k₀ events (written n)) (state_with plain k₀ k₀ events (written n)) o.account p
        (written_all later) test))
