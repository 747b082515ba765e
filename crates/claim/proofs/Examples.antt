-- Instances from what is computed of the plain book: each conclusion is drawn by one of the three demands.
use Rattle.std.specs.Prelude.{◌≡◌, ◌⊎◌, ◌≢◌, ◌∷◌, ◌++◌, ◌<ℤ◌}
use Rattle.integers.specs.Basics.{ℕ, refl, ◌∙◌, sym, ap, inl, ⊎_elim, true, List, [], Some, ℤ, arith}
use Rattle.words.specs.Bytes.{Bytes}
use Rattle.ledger.specs.declared.order.Order.{Order}
use Rattle.ledger.specs.Derivatives.{one}
use Rattle.ledger.specs.Positions.{Scope, Way, position}
use Rattle.ledger.specs.Fillings.{Filling, balance_after}
use Rattle.ledger.specs.Moves.{Moves}
use Rattle.limits.specs.Lines.{limit}
use Rattle.limits.specs.Questions.{all_pass}
use Rattle.book.specs.declared.LimitLine.{LimitLine}
use Rattle.book.specs.declared.Setting.TheVariants.{Limit}
use Rattle.book.specs.declared.Event.TheVariants.{Set}
use Rattle.book.specs.Market.{derivatives}
use Rattle.book.specs.Books.{book_after}
use Rattle.book.specs.Table.{entered, questions_before, answer}
use Rattle.book.specs.States.{State, begun}
use Rattle.book.specs.EventLists.{RawEvent, as_event, keep, state_after}
use Rattle.book.specs.SetAgain.{name_of, line_over}
use Rattle.book.specs.Written.{as_bytes, written, written_all}
use Rattle.book.specs.Days.{end_of}
use Rattle.book.proofs.Plain.{plain}
use Rattle.book.proofs.StateLaws.{memory_of_more, state_of_more, state_joined}
use Rattle.book.proofs.NotSetAgainLaws.{sets_none}
use Rattle.memory_opening.specs.Questions.{roster_from, opening_answer}
use Rattle.memory_opening.specs.Opening.{after_opening}
use Rattle.desk.specs.Step.{answer_to, after_event}
use Rattle.claim.specs.GateDemands.{gate}
use Rattle.claim.specs.Examples.{memory_at, state_at, OrderAsked, SomeFillingPast, OrderRefused, NoneSetsAgain, OrderAccepted}
use Rattle.claim.specs.Examples.{LimitSetAgain}
use Rattle.claim.proofs.Demands.{demand_1, demand_2, demand_3}
use Rattle.claim.proofs.Held.{held_from_opening}
use Rattle.claim.proofs.Plainly.{as_events, plainly, plainly_after, state_plainly, none_sets_again}

-- what the plain book of roster s keeps of the events, and what it answers to one more
abbrev pub plain_state : List ℕ → List (List ℕ) → State
plain_state s events = end_of (begun derivatives (roster_from s)) (as_events (written_all events))

abbrev pub plain_answer : List ℕ → List (List ℕ) → List ℕ → ℕ
plain_answer s events n = answer (plain_state s events) (as_event (written n))

abbrev pub ForPositionLimit : ℕ → Type 0
ForPositionLimit n = (n ≡ 21) ⊎ ((n ≡ 22) ⊎ ((n ≡ 23) ⊎ (n ≡ 24)))

no_acceptance : (n : ℕ) → ForPositionLimit n → n ≢ 0
no_acceptance n h zero =
    ⊎_elim (λ e. omega arith) (⊎_elim (λ e. omega arith) (⊎_elim (λ e. omega arith) (λ e. omega arith))) h

written_joined : (xs ys : List (List ℕ)) → written_all (xs ++ ys) ≡ written_all xs ++ written_all ys
written_joined [] ys = refl
written_joined (x ∷ xs) ys = ap (λ (l : List RawEvent). written x ∷ l) (written_joined xs ys)

-- N after events enters or raises o, and passes every check before the position limits
abbrev Asks : List ℕ → List (List ℕ) → List ℕ → Order → Type 0
Asks s events n o =
    let kept = plain_state s events in
    (as_bytes n ≡ n)
    × (entered kept.book (as_event (written n)) ≡ Some o)
    × (all_pass (questions_before kept (as_event (written n))) ≡ true)

-- no accepted event of the later ones sets the limit of o's position again
abbrev NoneSets : List ℕ → List (List ℕ) → List ℕ → Order → Scope → List (List ℕ) → Type 0
NoneSets s events n o p later =
    let kept = plain_state s (events ++ (n ∷ [])) in
    sets_none plain kept kept o.account p (written_all later) ≡ true

module _ (m s : List ℕ) (bytes : Bytes m) (opens : opening_answer m s ≡ 0) where
  pub state_at_lem : (events : List (List ℕ)) → state_at m s events ≡ plain_state s events
  state_at_lem events = state_plainly (after_opening m s) (begun derivatives (roster_from s)) (plainly m s bytes opens) (written_all events)

  module _ (events : List (List ℕ)) (n : List ℕ) (o : Order) where
    asked : Asks s events n o → OrderAsked m s events n o
    asked (same, enters, passes) =
        record { bytes = same; enters = rw (state_at_lem events) enters; passes = rw (state_at_lem events) passes }

    answered : as_bytes n ≡ n → (number : ℕ) → plain_answer s events n ≡ number → answer_to (memory_at m s events) n ≡ number
    answered same number h =
        ap (answer_to (memory_at m s events)) (sym same) ∙ plainly m s bytes opens (written_all events) (written n)
        ∙ rw (state_at_lem events) h

    -- refused: `shown` is a filling that passes the limit
    refused_at : Asks s events n o → (number : ℕ) → plain_answer s events n ≡ number → ForPositionLimit number
        → SomeFillingPast (roster_from s) (book_after one (plain_state s events).book (as_event (written n))) o
        → OrderRefused m s events n o number
    refused_at asks number computed which shown =
        let a = asked asks in
        let answer_is = answered a.bytes number computed in
        let judged = ((demand_3 m s bytes opens (written_all events)).0 (written n) o a.enters a.passes).0 in
        let other = no_acceptance number which in
        record {
          asked = a;
          answered = answer_is;
          past = judged.0 (rw (a.bytes, answer_is) which);
          refused = rw a.bytes at (judged.1 (rw (state_at_lem events) shown));
          first_failed = (demand_2.event_refused (memory_at m s events) n number other).0 answer_is;
          unchanged = demand_1.event_refused (memory_at m s events) n (λ zero. other (sym answer_is ∙ zero));
        }

    -- ---- accepted
    abbrev next : List ℕ
    next = after_event (memory_at m s events) (written n).bytes

    abbrev state_next : State
    state_next = keep (state_at m s events) (as_event (written n)) (answer_to (memory_at m s events) (written n).bytes)

    memory_next : memory_at m s (events ++ (n ∷ [])) ≡ next
    memory_next = rw (written_joined events (n ∷ [])) (memory_of_more gate (after_opening m s) (written_all events) (written n))

    state_next_lem : state_at m s (events ++ (n ∷ [])) ≡ state_next
    state_next_lem =
        rw (written_joined events (n ∷ [])) (state_of_more gate (after_opening m s) (begun derivatives (roster_from s)) (written_all events)
        (written n))

    state_later : (later : List (List ℕ)) → state_at m s (events ++ (n ∷ later)) ≡ state_after gate next state_next
        (written_all later)
    unfolding state_after
    state_later later =
        rw (written_joined events (n ∷ later)) (state_joined gate (after_opening m s) (begun derivatives (roster_from s))
        (written_all events)
        (written n ∷ written_all later))

    module _ (p : Scope) (w : Way) (figure : ℤ) (later : List (List ℕ)) where
      none_sets : NoneSets s events n o p later → NoneSetsAgain m s (events ++ (n ∷ [])) later o.account p
      none_sets test =
          none_sets_again (roster_from s) (memory_at m s (events ++ (n ∷ []))) (state_at m s (events ++ (n ∷ [])))
          (held_from_opening m s (written_all (events ++ (n ∷ []))))
          (plainly_after (after_opening m s) (begun derivatives (roster_from s)) (plainly m s bytes opens)
          (written_all (events ++ (n ∷ []))))
          o.account p (written_all later) (rw (state_at_lem (events ++ (n ∷ []))) test)

      accepted_at : Asks s events n o → plain_answer s events n ≡ 0 → Moves (roster_from s) o p w
          → limit (roster_from s) ((plain_state s events).book.lines_of o.account) p w ≡ figure
          → NoneSets s events n o p later
          → OrderAccepted m s events n o p w figure later
      accepted_at asks computed moves figure-is test =
          let a = asked asks in
          let zero = answered a.bytes 0 computed in
          let judged = ((demand_3 m s bytes opens (written_all events)).0 (written n) o a.enters a.passes).1 in
          let by : limit (roster_from s) ((state_at m s events).book.lines_of o.account) p w
          ≡ figure = rw (state_at_lem events) figure-is in
          let none = none_sets test in
          let kept = rw by at (judged (rw a.bytes zero) p w moves (written_all later) (rw (memory_next, state_next_lem) at none)) in
          record {
            asked = a;
            answered = zero;
            all_passed = (demand_2.event_accepted (memory_at m s events) n).0 zero;
            moves = moves;
            judged_by = by;
            none_sets_again = none;
            same = rw (state_later later) kept.0;
            stands = rw (state_later later) kept.1;
            filled = rw (state_later later) kept.2;
          }

      -- `e`, on the line that the position is under, is accepted
      pub limit_set_again : (before : List RawEvent) (e : RawEvent) (behind : List RawEvent) (c : ℕ) (l : LimitLine)
          → written_all later ≡ before ++ (e ∷ behind)
          → as_event e ≡ Set (Limit c l)
          → answer (end_of (plain_state s (events ++ (n ∷ []))) (as_events before)) (as_event e) ≡ 0
          → name_of c l ≡ line_over (roster_from s) (end_of (plain_state s (events ++ (n ∷ []))) (as_events before)).book
          o.account p
          → (f : Filling (plain_state s (events ++ (n ∷ later))).book.orders)
          × (figure <ℤ position (roster_from s) (balance_after one o.account
          ((plain_state s (events ++ (n ∷ later))).book.balance_of o.account) f) p w)
          → LimitSetAgain m s events n o p w figure later
      limit_set_again before e behind c l cut limits computed under shown =
          let there = plainly_after (after_opening m s) (begun derivatives (roster_from s)) (plainly m s bytes opens)
          (written_all (events ++ (n ∷ []))) in
          let kept_is : state_after gate (memory_at m s (events ++ (n ∷ []))) (state_at m s (events ++ (n ∷ []))) before ≡ end_of
          (plain_state s (events ++ (n ∷ []))) (as_events before) =
          state_plainly _ _ there before
          ∙ ap (λ k. end_of k (as_events before)) (state_at_lem (events ++ (n ∷ []))) in
          record {
            set_again = λ none. none before e behind c l cut limits (there before e ∙ rw kept_is computed) (inl (rw kept_is under));
            past = rw (state_at_lem (events ++ (n ∷ later))) shown;
          }

-- ---- the same, of the memory, the order and the position that are to be shown
module _ {m s : List ℕ} {events : List (List ℕ)} {n : List ℕ} {o : Order} (bytes : Bytes m) (opens : opening_answer m s ≡ 0) where
  -- filled by f, the orders open with N and N itself put position p past its limit on side w
  pub refused : Asks s events n o → {number : ℕ} → plain_answer s events n ≡ number → ForPositionLimit number
      → (let r = roster_from s in
      let b = book_after one (plain_state s events).book (as_event (written n)) in
      (p : Scope) (w : Way) → Moves r o p w
      → (f : Filling b.orders)
      → limit r (b.lines_of o.account) p w <ℤ position r (balance_after one o.account (b.balance_of o.account) f) p w
      → OrderRefused m s events n o number)
  refused asks computed which p w moves f past = refused_at m s bytes opens events n o asks _ computed which (p, w, moves, (f, past))

  pub accepted : Asks s events n o → plain_answer s events n ≡ 0 → {p : Scope} {w : Way} → Moves (roster_from s) o p w → {figure : ℤ}
      → limit (roster_from s) ((plain_state s events).book.lines_of o.account) p w ≡ figure
      → {later : List (List ℕ)} → NoneSets s events n o p later
      → OrderAccepted m s events n o p w figure later
  accepted asks computed moves figure-is test = accepted_at m s bytes opens events n o _ _ _ _ asks computed moves figure-is test
