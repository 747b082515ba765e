-- What an answer of 0 says: the event passed every question, each by its name.
use Rattle.std.specs.Prelude.{◌≤◌, ◌≡◌, ◌≢◌, ◌++◌, ◌≤ℤ◌}
use Rattle.integers.specs.Basics.{ℕ, refl, ◌∙◌, sym, ap, inl, inr, true, false, List, [], Option, None, Some}
use Rattle.integers.specs.Basics.{arith}
use Rattle.ledger.specs.declared.order.Order.{Order}
use Rattle.ledger.specs.Positions.{Way, Scope}
use Rattle.ledger.specs.Moves.{Moves}
use Rattle.limits.specs.Questions.{Question, first_no, all_pass, behind}
use Rattle.limits.specs.Asked.{limits_set, position_questions}
use Rattle.limits.proofs.Answers.{passed, append_zero, append_passed, first_zero, never_answered}
use Rattle.limits.proofs.Refusals.{PositionNumber, accepted_within}
use Rattle.book.specs.declared.Event.{Event}
use Rattle.book.specs.States.{State, work}
use Rattle.book.specs.Table.{is_event, account_known, item_known, figures_fit, not_yet_trading, id_open, quantity_fits, entered, id_free}
use Rattle.book.specs.Table.{place_free, where_some, questions_before, positions_after, limit_questions, questions, answer}
use Rattle.book.specs.Positions.{potential_of}
use Rattle.book.specs.Demand3.{limit_of}

pub record Passed (k : State) (e : Event) : Type 0 where
  pub event : is_event e ≡ true
  pub account : account_known k.roster e ≡ true
  pub item : item_known k.roster e ≡ true
  pub figures : figures_fit k.market e ≡ true
  pub idle : not_yet_trading k.beside.trading e ≡ true
  pub found : id_open k.book e ≡ true
  pub quantity : quantity_fits k.book e ≡ true
  pub fresh : id_free k.book e ≡ true
  pub limits : where_some (λ o. limits_set k.roster (k.book.lines_of o.account) o) (entered k.book e) ≡ true
  pub room : place_free k.book e ≡ true

-- it passed, and every position that the order entered or raised moves is within its limit, with the event applied
pub record Accepted (k : State) (e : Event) : Type 0 where
  pub passed : Passed k e
  pub within :
      (o : Order)
      → entered k.book e ≡ Some o
      → (p : Scope) (w : Way)
      → Moves k.roster o p w
      → potential_of (work k e) o.account p w ≤ℤ limit_of (work k e) o.account p w

-- the order entered or raised is asked 21 to 24, and then what stands behind 24
module _ (k : State) (e : Event) (o : Order) (enters : entered k.book e ≡ Some o) where
  abbrev pub asked_of : List Question
  asked_of =
      let b = (work k e).book in
      position_questions k.market.unit k.roster (b.lines_of o.account) b.orders (b.balance_of o.account) o

  pub limits_of : limit_questions k e ≡ asked_of ++ behind 24 (limit_questions k e)
  unfolding limit_questions position_questions
  limits_of = rw enters refl

  -- which is no position limit
  others : (n : ℕ) → 21 ≤ n → n ≤ 24 → first_no (behind 24 (limit_questions k e)) ≢ n
  unfolding limit_questions position_questions
  others n low high = rw enters (never_answered n (behind 24 (positions_after (work k e) (Some o))) (omega arith) (omega arith))

  pub no_position : PositionNumber (first_no (behind 24 (limit_questions k e))) → ⊥
  no_position (inl z) = others 21 (omega arith) (omega arith) z
  no_position (inr (inl z)) = others 22 (omega arith) (omega arith) z
  no_position (inr (inr (inl z))) = others 23 (omega arith) (omega arith) z
  no_position (inr (inr (inr z))) = others 24 (omega arith) (omega arith) z

module _ (k : State) (e : Event) where
  -- past the questions before the position limits, the answer is theirs
  pub answer_after : all_pass (questions_before k e) ≡ true → answer k e ≡ first_no (limit_questions k e)
  unfolding answer
  answer_after h = append_passed (questions_before k e) (limit_questions k e) h

  pub accepted : answer k e ≡ 0 → Accepted k e
  unfolding answer questions_before
  accepted z = record { passed = each; within = inside }
    where
      both : (all_pass (questions_before k e) ≡ true) × (first_no (limit_questions k e) ≡ 0)
      both = append_zero (questions_before k e) (limit_questions k e) (omega arith) z

      each : Passed k e
      each =
          let yes = passed (questions_before k e) both.0 in
          record {
            event = yes 6;
            account = yes 7;
            item = yes 8;
            figures = yes 9;
            idle = yes 10;
            found = yes 11;
            quantity = yes 12;
            fresh = yes 13;
            limits = yes 17;
            room = yes 18;
          }

      inside : (o : Order) → entered k.book e ≡ Some o → (p : Scope) (w : Way) → Moves k.roster o p w
          → potential_of (work k e) o.account p w ≤ℤ limit_of (work k e) o.account p w
      inside o enters =
          let b = (work k e).book in
          accepted_within k.market.unit k.roster (b.lines_of o.account) b.orders (b.balance_of o.account) o
          (first_zero (asked_of k e o enters) (behind 24 (limit_questions k e)) (sym (ap first_no (limits_of k e o enters)) ∙ both.1))

-- 5 is asked of the memory alone: the table never answers it
pub never_5 : (k : State) (e : Event) → answer k e ≢ 5
unfolding answer questions_before limit_questions position_questions
never_5 k e = by (entered k.book e)
  where
    by : (x : Option Order) → first_no (questions_before k e ++ positions_after (work k e) x) ≢ 5
    by None = never_answered 5 (questions_before k e ++ []) (omega arith) (omega arith)
    by (Some o) =
        never_answered 5 (questions_before k e ++ positions_after (work k e) (Some o)) (omega arith)
        (omega arith)

-- of a sound desk the whole table answers as the rest of it does; of any other it answers 5
pub sound_answer : (k : State) (e : Event)
    → first_no (questions true k e) ≡ answer k e
unfolding questions answer first_no
sound_answer k e = refl

pub unsound_answer : (k : State) (e : Event) → first_no (questions false k e) ≡ 5
unfolding questions first_no
unsound_answer k e = refl
