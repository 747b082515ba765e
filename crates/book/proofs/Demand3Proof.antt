-- Demand 3, of every desk that meets the contract.
use Rattle.std.specs.Prelude.{◌≡◌, ◌∷◌, ◌≤ℤ◌}
use Rattle.integers.specs.Basics.{ℕ, ◌∙◌, sym, ap, by_cases, true, true≢false, List, [], Some, ℤ, ℕ_discrete, not-true}
use Rattle.integers.specs.Basics.{signed}
use Rattle.ledger.specs.declared.order.Order.{Order}
use Rattle.ledger.specs.Positions.{Scope, Way}
use Rattle.ledger.specs.Moves.{Moves}
use Rattle.ledger.proofs.Upper.{upper, upper_standing}
use Rattle.limits.specs.Lines.{limit}
use Rattle.limits.proofs.Refusals.{refused_before}
use Rattle.book.specs.declared.Event.{Event}
use Rattle.book.specs.States.{State, work}
use Rattle.book.specs.Positions.{potential_of}
use Rattle.book.specs.Table.{not_yet_trading, entered}
use Rattle.book.specs.Sound.{Sound}
use Rattle.book.specs.EventLists.{RawEvent, as_event, Desk, keep, memory_after, state_after}
use Rattle.book.specs.SetAgain.{SetsAgain}
use Rattle.book.specs.Contract.{Contract}
use Rattle.book.specs.Demand3.{limit_of, Judged, RefusedExactly, NotSetAgain, NotPast, JudgedSo, Demand3At}
use Rattle.book.proofs.Accepted.{Passed, accepted, answer_after, limits_of, no_position}
use Rattle.book.proofs.Within.{SetsNoBalance, kept_within}
use Rattle.book.proofs.Marks.{marks_stay}
use Rattle.book.proofs.LimitsStay.{limit_stays}
use Rattle.book.proofs.OrdersEntered.{enters_lines, enters_marked}
use Rattle.book.proofs.Runs.{Holds, answers, holds_worked, holds_after, keep_accepted, keep_refused}

-- an accepted event sets no balance of an account that is trading
no_balance : (k : State) (a : ℕ) → k.beside.trading a ≡ true → (e : Event) → Passed k e → SetsNoBalance a e
unfolding not_yet_trading
no_balance k a marked e ok own =
    let idle = rw own at ok.idle in
    true≢false (sym marked ∙ not-true (k.beside.trading a) idle)

module _ {D : Desk} (C : Contract D) where
  -- ---- the first half: refused for a position limit exactly when some filling passes one
  refused_so : (m : D.Memory) (k : State) (n : RawEvent) (o : Order) → Holds C m k → Judged k n o
      → RefusedExactly k n o (D.answer_to m n)
  refused_so m k n o h j =
      let b = (work k (as_event n)).book in
      rw (answers C m k n h, answer_after k (as_event n) j.passes, limits_of k (as_event n) o j.enters)
      (refused_before k.market.unit k.roster (b.lines_of o.account) b.orders (b.balance_of o.account) o _
      (no_position k (as_event n) o j.enters))

  -- ---- the second half: a run after N
  -- the account is trading, the limit is still the same, and the potential position is within it
  record Safe (a : ℕ) (p : Scope) (w : Way) (figure : ℤ) (m : D.Memory) (k : State) : Type 0 where
    holds : Holds C m k
    trading : k.beside.trading a ≡ true
    same : limit_of k a p w ≡ figure
    within : potential_of k a p w ≤ℤ figure

  module _ (a : ℕ) (p : Scope) (w : Way) (figure : ℤ) where
    safe_next : (m : D.Memory) (k : State) (e : RawEvent) → Safe a p w figure m k
        → (D.answer_to m e ≡ 0 → SetsAgain k (as_event e) a p → ⊥)
        → Safe a p w figure (D.next m e) (keep k (as_event e) (D.answer_to m e))
    safe_next m k e s out =
        by_cases (ℕ_discrete (D.answer_to m e) 0)
        (λ zero.
        let acc = accepted k (as_event e) (sym (answers C m k e s.holds) ∙ zero) in
        let le : limit_of k a p w ≤ℤ figure = (let d = s.same in omega signed) in
        rw (keep_accepted k e (D.answer_to m e) zero) (record {
          holds = holds_worked C m k e s.holds zero;
          trading = marks_stay k.beside.trading (as_event e) a s.trading;
          same = limit_stays k a w (as_event e) p (out zero) ∙ s.same;
          within =
              kept_within k a p w figure (as_event e) acc (no_balance k a s.trading (as_event e) acc.passed) le s.within;
        }))
        (λ other. rw (keep_refused k e (D.answer_to m e) other, C.refused m e other) s)

    safe_after : (m : D.Memory) (k : State) (es : List RawEvent) → Safe a p w figure m k → NotSetAgain D m k a p es
        → Safe a p w figure (memory_after D m es) (state_after D m k es)
    unfolding memory_after state_after
    safe_after m k [] s out = s
    safe_after m k (e ∷ es) s out =
        safe_after (D.next m e) (keep k (as_event e) (D.answer_to m e)) es (safe_next m k e s out.0) out.1

  -- N itself leaves it so
  safe_at_first : (m : D.Memory) (k : State) (n : RawEvent) (o : Order) → Holds C m k → entered k.book (as_event n) ≡ Some o
      → D.answer_to m n ≡ 0 → (p : Scope) (w : Way) → Moves k.roster o p w
      → Safe o.account p w (limit_of k o.account p w) (D.next m n) (work k (as_event n))
  safe_at_first m k n o h enters zero p w moves =
      let acc = accepted k (as_event n) (sym (answers C m k n h) ∙ zero) in
      let lines = enters_lines k (as_event n) o enters in
      record {
        holds = holds_worked C m k n h zero;
        trading = enters_marked k h.sound (as_event n) o enters;
        same = ap (λ ls. limit k.roster (ls o.account) p w) lines;
        within = rw lines at (acc.within o enters p w moves);
      }

  not_past : (k₀ : State) (a : ℕ) (p : Scope) (w : Way) (m : D.Memory) (k : State) → Safe a p w (limit_of k₀ a p w) m k → NotPast k₀ k a p w
  not_past k₀ a p w m k s =
      record {
        same = s.same;
        stands =
            let u = upper_standing k.market.unit a (k.book.balance_of a) k.book.orders k.roster p w in
            omega (signed, s.within);
        filled = λ f. let u = upper k.market.unit a (k.book.balance_of a) f k.roster p w in omega (signed, s.within);
      }

  judged_so : (m : D.Memory) (k : State) (n : RawEvent) (o : Order) → Holds C m k → Judged k n o → JudgedSo D m k n o
  judged_so m k n o h j =
      record {
        refused = refused_so m k n o h j;
        accepted = λ zero p w moves later out.
            let a = o.account in
            let figure = limit_of k a p w in
            let k' = keep k (as_event n) (D.answer_to m n) in
            let first : Safe a p w figure (D.next m n) k' =
            rw (keep_accepted k n (D.answer_to m n) zero) (safe_at_first m k n o h j.enters zero p w moves) in
            not_past k a p w (memory_after D (D.next m n) later) (state_after D (D.next m n) k' later)
            (safe_after a p w figure (D.next m n) k' later first out);
      }

  -- from a memory that shows a sound book, over every list of events and every N
  pub demand3 : (m₀ : D.Memory) (k₀ : State) → C.Shows m₀ k₀ → Sound k₀ → Demand3At D m₀ k₀
  demand3 m₀ k₀ shown sound events n o j =
      judged_so (memory_after D m₀ events) (state_after D m₀ k₀ events) n o
      (holds_after C m₀ k₀ events (record { shown = shown; sound = sound })) j
