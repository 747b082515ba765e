-- The three demands of the gate over bytes.
use Rattle.std.specs.Prelude.{◌≤◌, ◌≡◌, ◌≢◌, ◌∷◌, ◌++◌}
use Rattle.integers.specs.Basics.{ℕ, refl, ◌∙◌, sym, ap, by_cases, List, Option, None, Some, ℤ, get_or, ℕ_discrete}
use Rattle.integers.specs.Basics.{arith, eq-eqb, ne_eqb}
use Rattle.ledger.specs.declared.order.Order.{Order}
use Rattle.ledger.specs.Positions.{potential, of_instrument}
use Rattle.limits.specs.Questions.{Question, numbers_of, first_no}
use Rattle.limits.specs.Asked.{position_questions}
use Rattle.limits.proofs.Answers.{Counted}
use Rattle.book.specs.Decoding.{decode}
use Rattle.book.specs.Market.{market_of_kind, derivatives}
use Rattle.book.specs.States.{begun, work}
use Rattle.book.specs.Table.{q, entered, questions_before, positions_after, limit_questions, questions}
use Rattle.book.specs.EventLists.{RawEvent, as_event, state_after}
use Rattle.book.proofs.Accepted.{never_5}
use Rattle.book.proofs.StateLaws.{roster_after}
use Rattle.memory_layout.specs.View.{roster_of, book_of, view}
use Rattle.memory_opening.specs.Questions.{opening_questions, opening_answer, roster_from}
use Rattle.memory_opening.specs.Opening.{after_opening}
use Rattle.memory_opening.proofs.Opened.{later_after}
use Rattle.memory_reading.specs.Reading.{reading_questions, instrument_answer, group_answer, instrument_report, group_report, position_in}
use Rattle.memory_reading.specs.Reading.{reported}
use Rattle.memory_soundness.specs.Soundness.{sound_desk}
use Rattle.memory_soundness.proofs.SoundDesk.{sound_out}
use Rattle.memory_working.proofs.Writes.{later_worked}
use Rattle.desk.specs.Step.{event_questions, answer_to, after_event}
use Rattle.claim.specs.GateDemands.{OneOf, GateDemand1, Answers, GateDemand2, gate, GateDemand3}
use Rattle.claim.proofs.Readings.{instrument_read, group_read, shown_opened}
use Rattle.claim.proofs.Checks.{answers, answer_one_of}
use Rattle.desk.proofs.Events.{first_passes, after_refused, after_accepted, answer_sound}
use Rattle.claim.proofs.Gate.{shown_after, answers_table, demand_3_at}

-- ---- an event
-- the table of an event, x being the order that it enters or raises
abbrev table : List ℕ → List ℕ → Option Order → List Question
table m e x =
    q 5 (sound_desk m)
    ∷ (questions_before (view m) (decode e) ++ positions_after (work (view m) (decode e)) x)

is_table : (m e : List ℕ) → event_questions m e ≡ table m e (entered (book_of m) (decode e))
unfolding event_questions questions limit_questions
is_table m e = refl

counted_table : (m e : List ℕ) (x : Option Order) → Counted (table m e x)
unfolding questions_before position_questions
counted_table m e None = omega arith
counted_table m e (Some o) = omega arith

event_answers : (m e : List ℕ) → Answers (event_questions m e) (answer_to m e)
unfolding answer_to
event_answers m e =
    rw (is_table m e) (answers (table m e (entered (book_of m) (decode e))) (counted_table m e (entered (book_of m) (decode e))))

event_one_of : (m e : List ℕ) → OneOf (answer_to m e) (0 ∷ numbers_of (event_questions m e))
unfolding answer_to
event_one_of m e = answer_one_of (event_questions m e)

-- ---- an opening and a reading
opening_answers : (m s : List ℕ) → Answers (opening_questions m s) (opening_answer m s)
unfolding opening_answer opening_questions
opening_answers m s = answers (opening_questions m s) (omega arith)

opening_one_of : (m s : List ℕ) → OneOf (opening_answer m s) (0 ∷ numbers_of (opening_questions m s))
unfolding opening_answer
opening_one_of m s = answer_one_of (opening_questions m s)

opening_refused : (m s : List ℕ) → opening_answer m s ≢ 0 → after_opening m s ≡ m
unfolding after_opening
opening_refused m s h = rw (ne_eqb (opening_answer m s) 0 h)

reading_answers : (m : List ℕ) (items a n : ℕ) → Answers (reading_questions m items a n) (first_no (reading_questions m items a n))
unfolding reading_questions
reading_answers m items a n = answers (reading_questions m items a n) (omega arith)

report_accepted : (n : ℕ) (report before : List ℤ) → n ≡ 0 → reported n report before ≡ report
unfolding reported
report_accepted n report before h = rw (eq-eqb n 0 h)

report_refused : (n : ℕ) (report before : List ℤ) → n ≢ 0 → reported n report before ≡ before
unfolding reported
report_refused n report before h = rw (ne_eqb n 0 h)

-- ---- bytes behind the desk
later_event : (m e : List ℕ) (k : ℕ) → 65536 ≤ k → get_or (after_event m e) k 0 ≡ get_or m k 0
later_event m e k h =
    by_cases (ℕ_discrete (answer_to m e) 0)
    (λ zero. let held = sound_out m (first_passes m e zero) in ap (λ l. get_or l k 0) (after_accepted m e zero)
    ∙ later_worked m held (decode e) (sym (answer_sound m e held) ∙ zero) k h)
    (λ other. ap (λ l. get_or l k 0) (after_refused m e other))

pub gate_demand_1 : GateDemand1
gate_demand_1 =
    record {
      roster = opening_one_of;
      roster_refused = opening_refused;
      event = event_one_of;
      event_refused = after_refused;
      later_opening = later_after;
      later_event = later_event;
    }

pub gate_demand_2 : GateDemand2
unfolding instrument_answer group_answer instrument_report group_report position_in potential of_instrument market_of_kind
gate_demand_2 =
    record {
      roster = opening_answers;
      event = event_answers;
      instrument = λ m a i. reading_answers m (roster_of m).instruments a i;
      group = λ m a g. reading_answers m (roster_of m).groups a g;
      instrument_reported = λ m a i before h. report_accepted _ _ before h;
      group_reported = λ m a g before h. report_accepted _ _ before h;
      instrument_refused = λ m a i before h. report_refused _ _ before h;
      group_refused = λ m a g before h. report_refused _ _ before h;
    }

-- ---- demand 3
pub gate_demand_3 : GateDemand3
gate_demand_3 m s bytes zero =
    let start = after_opening m s in
    let k = begun derivatives (roster_from s) in
    let shown = shown_opened m s bytes zero in
    let later = shown_after start k shown in
    -- the roster of what is kept is the one that it began with
    let on : (events : List RawEvent) → (state_after gate start k events).roster ≡ roster_from s = roster_after gate start k in
    record {
      judged = demand_3_at start k shown;
      instrument_read = λ events a i on_a on_i. instrument_read _ _ (later events) a i (rw (on events) on_a) (rw (on events) on_i);
      group_read = λ events a g on_a on_g. group_read _ _ (later events) a g (rw (on events) on_a) (rw (on events) on_g);
      answered = answers_table start k shown;
      never_5 =
          λ events e five. never_5 (state_after gate start k events) (as_event e) (sym (answers_table start k shown events e) ∙ five);
    }
