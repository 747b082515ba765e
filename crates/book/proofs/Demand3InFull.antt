-- Demand 3 with every premise and conclusion written out, in the order of document 01's words.
use Rattle.std.specs.Prelude.{◌≡◌, ◌⊎◌, ◌↔◌, ◌∷◌, ◌++◌, ◌≤ℤ◌, ◌<ℤ◌}
use Rattle.integers.specs.Basics.{ℕ, ◌∙◌, sym, ap, subst, true, List, Some}
use Rattle.ledger.specs.declared.order.Order.{Order}
use Rattle.ledger.specs.Positions.{Scope, Way, position}
use Rattle.ledger.specs.Fillings.{Filling, balance_after}
use Rattle.ledger.specs.Moves.{Moves}
use Rattle.limits.specs.Lines.{limit}
use Rattle.limits.specs.Questions.{all_pass}
use Rattle.book.specs.States.{State, work}
use Rattle.book.specs.Table.{entered, questions_before}
use Rattle.book.specs.EventLists.{RawEvent, as_event, Desk, keep, memory_after, state_after}
use Rattle.book.specs.SetAgain.{SetsAgain}
use Rattle.book.specs.Demand3.{Judged, NotSetAgain, Demand3At}
use Rattle.book.proofs.StateLaws.{memory_past, state_past}
use Rattle.book.proofs.NotSetAgainLaws.{not_set_again_iff}

-- N is an event that enters or raises order o and passes every check before the position limits, and it says nothing else
pub judged_iff : (k : State) (n : RawEvent) (o : Order) → Judged k n o
    ↔ ((entered k.book (as_event n) ≡ Some o) × (all_pass (questions_before k (as_event n)) ≡ true))
judged_iff k n o = (λ j. (j.enters, j.passes), λ h. record { enters = h.0; passes = h.1 })

-- of the position of account a at p: the limit is as it was at N, the position as it stands now is not past it, and no filling of what is
-- open now puts it past
abbrev pub Keeps : State → State → ℕ → Scope → Way → Type 0
Keeps at_n now a p w =
    let figure = limit at_n.roster (at_n.book.lines_of a) p w in
    (limit now.roster (now.book.lines_of a) p w ≡ figure)
    × (position now.roster (now.book.balance_of a) p w ≤ℤ figure)
    × ((f : Filling now.book.orders)
    → position now.roster (balance_after now.market.unit a (now.book.balance_of a) f) p w ≤ℤ figure)

module _ (D : Desk) (m₀ : D.Memory) (k₀ : State) where
  -- what is kept after a list of events, and the answer to one more
  abbrev pub kept_at : List RawEvent → State
  kept_at es = state_after D m₀ k₀ es

  abbrev pub answer_at : List RawEvent → RawEvent → ℕ
  answer_at es n = D.answer_to (memory_after D m₀ es) n

  -- after every list of events, of every N that enters or raises an order o and passes every check before the position limits:
  -- - it is answered 21, 22, 23 or 24 exactly when some filling of the open orders and N puts a position past its limit on a side to
  --   which N's own fills move it;
  -- - where it is accepted, after every later list in which no accepted event sets the limit again, that limit is the same, the position
  --   as it stands is not past it, and no filling of what is then open puts it past.
  abbrev pub InFull : Type 0
  InFull =
      (events : List RawEvent) (n : RawEvent) (o : Order)
      → entered (kept_at events).book (as_event n) ≡ Some o
      → all_pass (questions_before (kept_at events) (as_event n)) ≡ true
      → ((answer_at events n ≡ 21) ⊎ ((answer_at events n ≡ 22) ⊎ ((answer_at events n ≡ 23) ⊎ (answer_at events n ≡ 24)))
      ↔ ((p : Scope)
      × (w : Way)
      × Moves (kept_at events).roster o p w
      × (let with_n = work (kept_at events) (as_event n) in
      (f : Filling with_n.book.orders)
      × (limit with_n.roster (with_n.book.lines_of o.account) p w
      <ℤ position with_n.roster (balance_after with_n.market.unit o.account (with_n.book.balance_of o.account) f) p w))))
      × (answer_at events n ≡ 0
      → (p : Scope) (w : Way)
      → Moves (kept_at events).roster o p w
      → (later : List RawEvent)
      → ((before : List RawEvent) (e : RawEvent) (behind : List RawEvent)
      → later ≡ before ++ (e ∷ behind)
      → answer_at (events ++ (n ∷ before)) e ≡ 0
      → SetsAgain (kept_at (events ++ (n ∷ before))) (as_event e) o.account p
      → ⊥)
      → Keeps (kept_at events) (kept_at (events ++ (n ∷ later))) o.account p w)

  -- the memory and the state that N leaves, and "no later event that is accepted sets the limit again"
  abbrev pub memory_with : List RawEvent → RawEvent → D.Memory
  memory_with events n = D.next (memory_after D m₀ events) n

  abbrev pub state_with : List RawEvent → RawEvent → State
  state_with events n = keep (kept_at events) (as_event n) (answer_at events n)

  pub none_later : (events : List RawEvent) (n : RawEvent) (a : ℕ) (p : Scope) (later : List RawEvent)
      → NotSetAgain D (memory_with events n) (state_with events n) a p later
      ↔ ((before : List RawEvent) (e : RawEvent) (behind : List RawEvent) → later ≡ before ++ (e ∷ behind)
      → answer_at (events ++ (n ∷ before)) e ≡ 0 → SetsAgain (kept_at (events ++ (n ∷ before))) (as_event e) a p → ⊥)
  none_later events n a p later =
      let law = not_set_again_iff D a p (memory_with events n) (state_with events n) later in (
        λ out before e behind cut zero sets.
            law.0 out before e behind cut (ap (λ x. D.answer_to x e) (sym (memory_past D m₀ events n before)) ∙ zero)
            (subst (λ (x : State). SetsAgain x (as_event e) a p) (state_past D m₀ k₀ events n before) sets),
        λ out.
            law.1
            (λ before e behind cut zero sets.
            out before e behind cut (ap (λ x. D.answer_to x e) (memory_past D m₀ events n before) ∙ zero)
            (subst (λ (x : State). SetsAgain x (as_event e) a p) (sym (state_past D m₀ k₀ events n before)) sets)),
      )

  pub in_full : Demand3At D m₀ k₀ ↔ InFull
  in_full = (
    λ d events n o enters passes.
        let so = d events n o ((judged_iff (kept_at events) n o).1 (enters, passes)) in (
          so.refused,
          λ zero p w moves later out.
              let h = so.accepted zero p w moves later ((none_later events n o.account p later).1 out) in
              subst (λ (x : State). Keeps (kept_at events) x o.account p w) (sym (state_past D m₀ k₀ events n later))
              (h.same, h.stands, h.filled),
        ),
    λ full events n o j.
        let so = full events n o j.enters j.passes in
        record {
          refused = so.0;
          accepted = λ zero p w moves later out.
              let h = so.1 zero p w moves later ((none_later events n o.account p later).0 out) in
              let h' = subst (λ (x : State). Keeps (kept_at events) x o.account p w) (state_past D m₀ k₀ events n later) h in
              record { same = h'.0; stands = h'.1; filled = h'.2 };
        },
  )
