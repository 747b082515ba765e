-- The way back: each demand as the claim says it gives the demand of the gate that it was taken from, so neither can be weakened alone.
use Rattle.std.specs.Prelude.{◌≤◌, ◌<◌, ◌≡◌, ◌↔◌, ◌≢◌, ◌∷◌, ◌++◌}
use Rattle.integers.specs.Basics.{ℕ, refl, ◌∙◌, sym, ap, subst, inl, inr, by_cases, Bool, true, false, List, []}
use Rattle.integers.specs.Basics.{ListMemᴰ, ListMemᴰ_head, ListMemᴰ_tail, length, drop, ℕ_discrete}
use Rattle.limits.specs.Lines.{is_set}
use Rattle.limits.specs.Questions.{Question, numbers_of, all_pass}
use Rattle.book.specs.Market.{derivatives}
use Rattle.book.specs.Decoding.{decode}
use Rattle.book.specs.Table.{q, entered}
use Rattle.book.specs.States.{State}
use Rattle.book.specs.EventLists.{RawEvent, as_event, keep, memory_after, state_after}
use Rattle.book.specs.Demand3.{RefusedExactly, NotPast}
use Rattle.memory_layout.specs.View.{book_of}
use Rattle.memory_opening.specs.Questions.{roster_from}
use Rattle.memory_opening.specs.Opening.{after_opening}
use Rattle.desk.specs.Step.{event_questions, answer_to, after_event}
use Rattle.desk.specs.Days.{answers_over, memory_over}
use Rattle.desk.specs.Run.{events_for, answered}
use Rattle.claim.specs.RunList.{Whole, bytes_of_each, concatenated, UnsoundRun}
use Rattle.claim.specs.GateDemands.{OneOf, Answers, gate, kept_after, GateDemand1, GateDemand2, GateDemand3}
use Rattle.claim.specs.Claim.{FirstNo, Demand1, Demand2, Demand3, Run}
use Rattle.claim.proofs.Held.{held_kept, held_after, held_from_opening, named, by_name, none_on_the_line}
use Rattle.claim.proofs.Demands.{failed_first}

-- ---- demand 1
one_of : (n : ℕ) (ns : List ℕ) → ListMemᴰ n ns → OneOf n ns
one_of n [] x = elim x [ ]
one_of n (k ∷ ks) (ListMemᴰ_head e) = inl e
one_of n (k ∷ ks) (ListMemᴰ_tail m) = inr (one_of n ks m)

-- where 21 to 24 are asked, the claim's list is the table's; where they are not, demand 2 says that the answer is a question's that is
event_one_of : Demand1 → Demand2 → (m e : List ℕ) → OneOf (answer_to m e) (0 ∷ numbers_of (event_questions m e))
event_one_of d two m e = by (is_set (entered (book_of m) (decode e))) refl
  where
    in_table : (n : ℕ) (before behind : List Question) → OneOf n (numbers_of (before ++ (q n false ∷ behind)))
    in_table n [] behind = inl refl
    in_table n (x ∷ before) behind = inr (in_table n before behind)

    refused : answer_to m e ≢ 0 → OneOf (answer_to m e) (0 ∷ numbers_of (event_questions m e))
    refused other =
        let f = (two.event_refused m e (answer_to m e) other).0 refl in
        inr (rw f.2 (in_table (answer_to m e) f.0 f.1))

    by : (t : Bool) → is_set (entered (book_of m) (decode e)) ≡ t → OneOf (answer_to m e) (0 ∷ numbers_of (event_questions m e))
    by true asked = rw (two.event_numbers m e, asked) (one_of _ _ (d.event m e))
    by false asked = by_cases (ℕ_discrete (answer_to m e) 0) (λ z. inl z) refused

pub back_1 : Demand1 → Demand2 → GateDemand1
back_1 d two =
    record {
      roster = λ m s. rw (two.roster_numbers m s) (one_of _ _ (d.roster m s));
      roster_refused = d.roster_refused;
      event = event_one_of d two;
      event_refused = d.event_refused;
      later_opening = d.behind_roster;
      later_event = d.behind_event;
    }

-- ---- demand 2
module _ (qs : List Question) (answer : ℕ) where
  answers_back : ((n : ℕ) → n ≢ 0 → (answer ≡ n) ↔ FirstNo qs n) → ((answer ≡ 0) ↔ (all_pass qs ≡ true)) → Answers qs answer
  answers_back refused accepted =
      let same = failed_first qs in
      record {
        refused = λ n other. (λ e. (same n).1 ((refused n other).0 e), λ f. (refused n other).1 ((same n).0 f));
        accepted = accepted;
      }

pub back_2 : Demand2 → GateDemand2
back_2 d =
    record {
      roster = λ m s. answers_back _ _ (d.roster_refused m s) (d.roster_accepted m s);
      event = λ m e. answers_back _ _ (d.event_refused m e) (d.event_accepted m e);
      instrument = λ m a i. answers_back _ _ (d.instrument_refused m a i) (d.instrument_accepted m a i);
      group = λ m a g. answers_back _ _ (d.group_refused m a g) (d.group_accepted m a g);
      instrument_reported = d.instrument_reported;
      group_reported = d.group_reported;
      instrument_refused = d.instrument_left;
      group_refused = d.group_left;
    }

-- ---- demand 3
pub back_3 : Demand3 → GateDemand3
unfolding derivatives
back_3 d m s bytes opens =
    let r = roster_from s in
    record {
      judged = λ events n o j.
          let so = (d m s bytes opens events).0 n o j.enters j.passes in
          let kept = kept_after m s events in
          let held = held_from_opening m s events in
          let now = memory_after gate (after_opening m s) events in
          let kept_n = keep kept (as_event n) (answer_to now n.bytes) in
          let held_n = held_kept r kept (as_event n) (answer_to now n.bytes) held in
          record {
            refused = subst (λ (k : State). RefusedExactly k n o (answer_to now n.bytes)) (sym (by_name r kept held)) so.0;
            accepted = λ zero p w moves later out.
                let next = after_event now n.bytes in
                let end = state_after gate next kept_n later in
                let h = so.1 zero p w (rw held.1 at moves) later ((none_on_the_line r next kept_n held_n o.account p later).0 out) in
                let past : NotPast (named r kept) (named r end) o.account p w = record { same = h.0; stands = h.1; filled = h.2 } in
                subst (λ (k : State). NotPast kept k o.account p w) (sym (by_name r end (held_after r next kept_n later held_n)))
                (subst (λ (k : State). NotPast k (named r end) o.account p w) (sym (by_name r kept held)) past);
          };
      instrument_read = λ events. (d m s bytes opens events).3;
      group_read = λ events. (d m s bytes opens events).4;
      answered = λ events. (d m s bytes opens events).1;
      never_5 = λ events. (d m s bytes opens events).2;
    }

-- ---- the run
full_before : (es : List RawEvent) (n : RawEvent) → Whole (es ++ (n ∷ [])) → (e : RawEvent) → ListMemᴰ e es → length e.bytes ≡ 48
full_before [] n w e x = elim x [ ]
full_before (x ∷ []) n w e (ListMemᴰ_head h) = ap (λ (z : RawEvent). length z.bytes) h ∙ w.0
full_before (x ∷ []) n w e (ListMemᴰ_tail h) = elim h [ ]
full_before (x ∷ y ∷ es) n w e (ListMemᴰ_head h) = ap (λ (z : RawEvent). length z.bytes) h ∙ w.0
full_before (x ∷ y ∷ es) n w e (ListMemᴰ_tail h) = full_before (y ∷ es) n w.1 e h

last_of : (es : List RawEvent) (n : RawEvent) → Whole (es ++ (n ∷ [])) → (1 ≤ length n.bytes) × (length n.bytes ≤ 48)
last_of [] n w = w
last_of (x ∷ []) n w = w.1
last_of (x ∷ y ∷ es) n w = last_of (y ∷ es) n w.1

pub run_back : Run → (m : List ℕ) (es : List RawEvent) (n : RawEvent) (room : List ℕ) → Whole (es ++ (n ∷ [])) → length es < length room
    → (events_for (concatenated (es ++ (n ∷ []))) room ≡ bytes_of_each (es ++ (n ∷ [])))
    × (memory_over m (bytes_of_each (es ++ (n ∷ []))) ≡ memory_after gate m (es ++ (n ∷ [])))
    × (answered m (concatenated (es ++ (n ∷ []))) room
    ≡ answers_over m (bytes_of_each (es ++ (n ∷ []))) ++ drop (length (es ++ (n ∷ []))) room)
run_back r m es n room w space =
    let last = last_of es n w in
    r.events m es n room (full_before es n w) last.0 last.1 space

pub next_back : Run → (m : List ℕ) (es : List RawEvent) (n : RawEvent)
    → answers_over m (bytes_of_each (es ++ (n ∷ []))) ≡ answers_over m (bytes_of_each es)
    ++ (answer_to (memory_after gate m es) n.bytes ∷ [])
next_back r = r.next

pub unsound_back : Run → UnsoundRun
unsound_back r = r.unsound
