-- The three demands as the claim says them, each taken from what is proved of the gate.
use Rattle.std.specs.Prelude.{◌≤◌, ◌≡◌, ◌↔◌, ◌≢◌, ◌∷◌, ◌++◌}
use Rattle.integers.specs.Basics.{ℕ, refl, ◌∙◌, ap, subst, inl, inr, ⊎_elim, Bool, true, false, cond, List}
use Rattle.integers.specs.Basics.{[], map, ListMemᴰ, ListMemᴰ_head, ListMemᴰ_tail, ListMemᴰ_not_nil, Option, None, Some}
use Rattle.integers.specs.Basics.{length, arith}
use mathlib.Core.List.Memᴰ
use lib.ListN.{length-append, length-map}
use Rattle.ledger.specs.declared.order.Order.{Order}
use Rattle.limits.specs.Lines.{is_set}
use Rattle.limits.specs.Questions.{Question, numbers_of}
use Rattle.limits.specs.Asked.{position_questions}
use Rattle.book.specs.declared.Event.{Event}
use Rattle.book.specs.Market.{derivatives}
use Rattle.book.specs.Decoding.{decode}
use Rattle.book.specs.Table.{q, entered, questions_before, positions_after, limit_questions, questions}
use Rattle.book.specs.States.{State, work}
use Rattle.book.specs.EventLists.{RawEvent, as_event, keep, memory_after, state_after}
use Rattle.book.specs.Demand3.{RefusedExactly, NotPast}
use Rattle.memory_layout.specs.View.{book_of, view}
use Rattle.memory_soundness.specs.Soundness.{sound_desk}
use Rattle.memory_opening.specs.Questions.{roster_from, opening_questions}
use Rattle.memory_opening.specs.Opening.{after_opening}
use Rattle.memory_reading.specs.Reading.{reading_questions}
use Rattle.desk.specs.Step.{event_questions, answer_to, after_event}
use Rattle.desk.proofs.RunLoop.{length_answers}
use Rattle.claim.specs.RunList.{Whole}
use Rattle.claim.specs.GateDemands.{OneOf, FirstFailed, Answers, gate, kept_after}
use Rattle.claim.proofs.GateDemands.{gate_demand_1, gate_demand_2, gate_demand_3}
use Rattle.claim.proofs.RunList.{run_is_the_list, unsound_run}
use Rattle.claim.specs.Claim.{asked_first, asked_last, FirstNo, Demand1, Demand2, Demand3, Run}
use Rattle.claim.proofs.Held.{held_kept, held_after, held_from_opening, named, by_name, none_on_the_line}

-- ---- the numbers of an event's questions
-- "Questions, in order": of any desk's table and any event those that the claim lists, the last of them "for NEW, and for a REPLACE whose
-- total rises"
pub numbers_in_order : (sound : Bool) (k : State) (e : Event)
    → numbers_of (questions sound k e) ≡ asked_first ++ cond (is_set (entered k.book e)) asked_last []
unfolding questions questions_before limit_questions position_questions
numbers_in_order sound k e = rw (at_the_end (entered k.book e))
  where
    at_the_end : (x : Option Order) → numbers_of (positions_after (work k e) x) ≡ cond (is_set x) asked_last []
    at_the_end None = refl
    at_the_end (Some o) = refl

event_numbers : (m e : List ℕ) → numbers_of (event_questions m e)
    ≡ asked_first ++ cond (is_set (entered (book_of m) (decode e))) asked_last []
unfolding event_questions
event_numbers m e = numbers_in_order (sound_desk m) (view m) (decode e)

-- ---- demand 1
listed : (n : ℕ) (ns : List ℕ) → OneOf n ns → ListMemᴰ n ns
listed n [] h = absurd h
listed n (k ∷ ks) (inl e) = ListMemᴰ_head e
listed n (k ∷ ks) (inr h) = ListMemᴰ_tail (listed n ks h)

-- of a list whose last part is there or not
with_the_last : (n : ℕ) (xs ys : List ℕ) (t : Bool) → ListMemᴰ n (xs ++ cond t ys []) → ListMemᴰ n (xs ++ ys)
with_the_last n xs ys true k = k
with_the_last n xs ys false k =
    ⊎_elim (λ j. Memᴰ.append_left ys j) (λ j. absurd (ListMemᴰ_not_nil j)) (Memᴰ.append_cases xs k)

event_listed : (m e : List ℕ) → ListMemᴰ (answer_to m e) (0 ∷ (asked_first ++ asked_last))
event_listed m e =
    with_the_last (answer_to m e) (0 ∷ asked_first) asked_last (is_set (entered (book_of m) (decode e)))
    (rw (event_numbers m e) at (listed (answer_to m e) (0 ∷ numbers_of (event_questions m e)) (gate_demand_1.event m e)))

pub demand_1 : Demand1
unfolding opening_questions
demand_1 =
    record {
      roster = λ m s. listed _ _ (gate_demand_1.roster m s);
      event = event_listed;
      roster_refused = gate_demand_1.roster_refused;
      event_refused = gate_demand_1.event_refused;
      behind_roster = gate_demand_1.later_opening;
      behind_event = gate_demand_1.later_event;
    }

-- ---- demand 2
-- the first that fails, as the demand of the gate says it and as the claim does
pub failed_first : (qs : List Question) (n : ℕ) → FirstFailed qs n ↔ FirstNo qs n
failed_first qs n = (there, back)
  where
    answered_no : (x : Question) → x.passes ≡ false → x.number ≡ n → x ≡ q n false
    answered_no x failed number = rw (← number, ← failed) refl

    there : FirstFailed qs n → FirstNo qs n
    there f =
        let no = answered_no f.asked f.failed f.number in
        (f.before, f.behind, f.table ∙ ap (λ (x : Question). f.before ++ (x ∷ f.behind)) no, f.passed)

    back : FirstNo qs n → FirstFailed qs n
    back x =
        record { before = x.0; asked = q n false; behind = x.1; table = x.2; passed = x.3; failed = refl; number = refl }

first_failed : (qs : List Question) (answer n : ℕ) → Answers qs answer → n ≢ 0 → (answer ≡ n) ↔ FirstNo qs n
first_failed qs answer n a other =
    let same = failed_first qs n in
    (λ e. same.0 ((a.refused n other).0 e), λ x. (a.refused n other).1 (same.1 x))

opening_numbers : (m s : List ℕ) → numbers_of (opening_questions m s) ≡ 1 ∷ 2 ∷ 3 ∷ 4 ∷ []
unfolding opening_questions
opening_numbers m s = refl

reading_numbers : (m : List ℕ) (items a n : ℕ) → numbers_of (reading_questions m items a n) ≡ 5 ∷ 7 ∷ 8 ∷ []
unfolding reading_questions
reading_numbers m items a n = refl

pub demand_2 : Demand2
demand_2 =
    let d = gate_demand_2 in
    record {
      roster_refused = λ m s n. first_failed _ _ n (d.roster m s);
      roster_accepted = λ m s. (d.roster m s).accepted;
      roster_numbers = opening_numbers;
      event_refused = λ m e n. first_failed _ _ n (d.event m e);
      event_accepted = λ m e. (d.event m e).accepted;
      event_numbers = event_numbers;
      instrument_refused = λ m a i n. first_failed _ _ n (d.instrument m a i);
      instrument_accepted = λ m a i. (d.instrument m a i).accepted;
      group_refused = λ m a g n. first_failed _ _ n (d.group m a g);
      group_accepted = λ m a g. (d.group m a g).accepted;
      reading_numbers = reading_numbers;
      instrument_reported = d.instrument_reported;
      group_reported = d.group_reported;
      instrument_left = d.instrument_refused;
      group_left = d.group_refused;
    }

-- ---- demand 3
pub demand_3 : Demand3
unfolding derivatives
demand_3 m s bytes opens events =
    let d = gate_demand_3 m s bytes opens in
    let r = roster_from s in
    let held = held_from_opening m s events in (
      λ n o enters passes.
          let kept = kept_after m s events in
          let now = memory_after gate (after_opening m s) events in
          let kept_n = keep kept (as_event n) (answer_to now n.bytes) in
          let held_n = held_kept r kept (as_event n) (answer_to now n.bytes) held in
          let j = d.judged events n o (record { enters = enters; passes = passes }) in
          let refused = subst (λ (k : State). RefusedExactly k n o (answer_to now n.bytes)) (by_name r kept held) j.refused in (
            refused,
            λ zero p w moves later out.
                let next = after_event now n.bytes in
                let end = state_after gate next kept_n later in
                let unset = (none_on_the_line r next kept_n held_n o.account p later).1 out in
                let so = j.accepted zero p w (rw held.1 moves) later unset in
                let past =
                subst (λ (k : State). NotPast k (named r end) o.account p w) (by_name r kept held)
                (subst (λ (k : State). NotPast kept k o.account p w) (by_name r end (held_after r next kept_n later held_n)) so) in
                (past.same, past.stands, past.filled),
          ),
      d.answered events,
      d.never_5 events,
      d.instrument_read events,
      d.group_read events,
    )

-- ---- the run
one_by_one : (whole : List RawEvent) (last : RawEvent) → ((e : RawEvent) → ListMemᴰ e whole → length e.bytes ≡ 48)
    → 1 ≤ length last.bytes → length last.bytes ≤ 48 → Whole (whole ++ (last ∷ []))
one_by_one [] last full some_bytes short = (some_bytes, short)
one_by_one (e ∷ []) last full some_bytes short = (full e (ListMemᴰ_head refl), (some_bytes, short))
one_by_one (e ∷ f ∷ es) last full some_bytes short =
    (full e (ListMemᴰ_head refl), one_by_one (f ∷ es) last (λ x there. full x (ListMemᴰ_tail there)) some_bytes short)

pub run : Run
run =
    record {
      events = λ m whole last room full some_bytes short space.
          let es = whole ++ (last ∷ []) in
          let worked = run_is_the_list.worked es room (one_by_one whole last full some_bytes short)
          (omega (arith, length-append whole (last ∷ []))) in (
            worked,
            run_is_the_list.memory m es,
            rw worked (rw (length_answers m (map (λ e. e.bytes) es), length-map es (λ e. e.bytes)) refl),
          );
      next = run_is_the_list.next;
      unsound = unsound_run;
    }
