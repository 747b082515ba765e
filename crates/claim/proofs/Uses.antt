-- What follows from the demands alone.
use Rattle.std.specs.Prelude.{◌≤◌, ◌<◌, ◌≡◌, ◌⊎◌, ◌↔◌, ◌≢◌, ◌&&◌, ◌∷◌, ◌++◌}
use Rattle.integers.specs.Basics.{ℕ, refl, ◌∙◌, sym, ap, inl, inr, ⊎_elim, Bool, true, false, not}
use Rattle.integers.specs.Basics.{cond, List, [], ListMemᴰ, ListMemᴰ_head, ListMemᴰ_tail, leb, eqb, length, get_or, arith}
use Rattle.integers.specs.Basics.{not-true, leb-true, eqb-false, lt-leb}
use Rattle.limits.specs.Lines.{is_set}
use Rattle.limits.specs.Questions.{Question, first_no, all_pass, numbers_of}
use Rattle.limits.proofs.Answers.{both_true, pass_zero}
use Rattle.book.specs.declared.Event.TheVariants.{Junk}
use Rattle.book.specs.Decoding.{decode}
use Rattle.book.specs.Table.{q, is_event, entered, questions_before, questions}
use Rattle.book.specs.EventLists.{RawEvent, memory_after}
use Rattle.book.specs.Written.{written}
use Rattle.memory_layout.specs.Rosters.{long_enough}
use Rattle.memory_layout.specs.View.{roster_of, book_of}
use Rattle.memory_soundness.specs.Soundness.{sound_desk}
use Rattle.memory_opening.specs.Questions.{opening_questions, opening_answer}
use Rattle.memory_opening.specs.Opening.{after_opening}
use Rattle.memory_reading.specs.Reading.{reading_questions, instrument_answer, group_answer}
use Rattle.desk.specs.Step.{event_questions, answer_to, after_event}
use Rattle.claim.specs.GateDemands.{gate}
use Rattle.claim.specs.Claim.{asked_first, asked_last, FirstNo}
use Rattle.claim.specs.Uses.{is_one_of, NumbersAndBytes, Determined, Refusals, Acceptances, Examples, StaysSound}
use Rattle.claim.proofs.Demands.{demand_1, demand_2, demand_3, run}

-- ---- demand 1
-- a test that all of a list pass, each that is listed passes
abbrev pub all_of : {A : Type 0} → (A → Bool) → List A → Bool
all_of test [] = true
all_of test (k ∷ ks) = test k && all_of test ks

pub listed_passes : {A : Type 0} (test : A → Bool) (n : A) (ns : List A) → ListMemᴰ n ns → all_of test ns ≡ true → test n ≡ true
listed_passes test n [] x h = elim x [ ]
listed_passes test n (k ∷ ks) (ListMemᴰ_head e) h = ap test e ∙ (both_true (test k) (all_of test ks) h).0
listed_passes test n (k ∷ ks) (ListMemᴰ_tail m) h = listed_passes test n ks m (both_true (test k) (all_of test ks) h).1

behind_events : (m : List ℕ) (events : List RawEvent) (k : ℕ) → 65536 ≤ k → get_or (memory_after gate m events) k 0 ≡ get_or m k 0
unfolding memory_after
behind_events m [] k h = refl
behind_events m (e ∷ es) k h = behind_events (after_event m e.bytes) es k h ∙ demand_1.behind_event m e.bytes k h

pub numbers_and_bytes : NumbersAndBytes
numbers_and_bytes =
    record {
      roster = λ m s. leb-true (opening_answer m s) 4 (listed_passes (λ n. leb n 4) _ _ (demand_1.roster m s) refl);
      event = λ m e. listed_passes (is_one_of (0 ∷ (asked_first ++ asked_last))) _ _ (demand_1.event m e) refl;
      no_other = (refl, refl);
      refused_roster = λ m s k other. ap (λ l. get_or l k 0) (demand_1.roster_refused m s other);
      refused_event = λ m e k other. ap (λ l. get_or l k 0) (demand_1.event_refused m e other);
      behind = λ m s events k h. behind_events (after_opening m s) events k h ∙ demand_1.behind_roster m s k h;
    }

-- ---- demand 2
-- a table's answer, as demand 2 says it
abbrev AnsweredBy : List Question → ℕ → Type 0
AnsweredBy qs answer =
    ((n : ℕ) → n ≢ 0 → (answer ≡ n) ↔ FirstNo qs n)
    × ((answer ≡ 0) ↔ (all_pass qs ≡ true))

-- all pass, or a first one fails
abbrev Failed : List Question → Type 0
Failed qs = (n : ℕ) × FirstNo qs n × (first_no qs ≡ n)

split : (qs : List Question) → (all_pass qs ≡ true) ⊎ Failed qs
unfolding all_pass first_no
split [] = inl refl
split (x ∷ qs) = by x.passes refl (split qs)
  where
    by : (t : Bool) → x.passes ≡ t → (all_pass qs ≡ true) ⊎ Failed qs → (all_pass (x ∷ qs) ≡ true) ⊎ Failed (x ∷ qs)
    by true p (inl h) = inl (rw p h)
    by true p (inr (n, failed, answered)) =
        inr (n, (x ∷ failed.0, failed.1, ap (λ (l : List Question). x ∷ l) failed.2, rw p failed.3), rw p answered)
    by false p rest = inr (x.number, ([], qs, ap (λ t. q x.number t ∷ qs) p, refl), rw p refl)

-- the numbers of a table, none of them 0
abbrev Numbers : List Question → Type 0
Numbers qs = all_of (λ n. not (eqb n 0)) (numbers_of qs) ≡ true

asked_there : (before : List Question) (x : Question) (behind : List Question) → ListMemᴰ x (before ++ (x ∷ behind))
asked_there [] x behind = ListMemᴰ_head refl
asked_there (y ∷ before) x behind = ListMemᴰ_tail (asked_there before x behind)

number_there : (x : Question) (qs : List Question) → ListMemᴰ x qs → ListMemᴰ x.number (numbers_of qs)
number_there x [] h = elim h [ ]
number_there x (y ∷ qs) (ListMemᴰ_head e) = ListMemᴰ_head (ap (λ z. z.number) e)
number_there x (y ∷ qs) (ListMemᴰ_tail m) = ListMemᴰ_tail (number_there x qs m)

module _ (qs : List Question) (answer : ℕ) (by : AnsweredBy qs answer) where
  determined : Numbers qs → answer ≡ first_no qs
  determined numbers = ⊎_elim passed failed (split qs)
    where
      passed : all_pass qs ≡ true → answer ≡ first_no qs
      passed h = by.1.1 h ∙ sym (pass_zero qs h)

      failed : Failed qs → answer ≡ first_no qs
      failed (n, first, answered) =
          let asked : ListMemᴰ (q n false) qs = rw first.2 (asked_there first.0 (q n false) first.1) in
          let there : ListMemᴰ n (numbers_of qs) = number_there (q n false) qs asked in
          let passes = listed_passes (λ k. not (eqb k 0)) n (numbers_of qs) there numbers in
          (by.0 n (eqb-false n 0 (not-true (eqb n 0) passes))).1 first ∙ sym answered

  answered_no : answer ≢ 0 → ListMemᴰ (q answer false) qs
  answered_no other =
      let h = (by.0 answer other).0 refl in
      rw h.2 (asked_there h.0 (q answer false) h.1)

  first_yes : (x : Question) (rest : List Question) → qs ≡ x ∷ rest → answer ≡ 0 → x.passes ≡ true
  unfolding all_pass
  first_yes x rest table zero = (both_true x.passes (all_pass rest) (rw table at (by.1.0 zero))).0

-- ---- the four tables
opening_by : (m s : List ℕ) → AnsweredBy (opening_questions m s) (opening_answer m s)
opening_by m s = (demand_2.roster_refused m s, demand_2.roster_accepted m s)

event_by : (m e : List ℕ) → AnsweredBy (event_questions m e) (answer_to m e)
event_by m e = (demand_2.event_refused m e, demand_2.event_accepted m e)

instrument_by : (m : List ℕ) (a i : ℕ) → AnsweredBy (reading_questions m (roster_of m).instruments a i) (instrument_answer m a i)
instrument_by m a i = (demand_2.instrument_refused m a i, demand_2.instrument_accepted m a i)

group_by : (m : List ℕ) (a g : ℕ) → AnsweredBy (reading_questions m (roster_of m).groups a g) (group_answer m a g)
group_by m a g = (demand_2.group_refused m a g, demand_2.group_accepted m a g)

event_numbers : (m e : List ℕ) → Numbers (event_questions m e)
event_numbers m e = rw (demand_2.event_numbers m e) (none_0 (is_set (entered (book_of m) (decode e))))
  where
    none_0 : (t : Bool) → all_of (λ n. not (eqb n 0)) (asked_first ++ cond t asked_last []) ≡ true
    none_0 true = refl
    none_0 false = refl

reading_numbers : (m : List ℕ) (items a n : ℕ) → Numbers (reading_questions m items a n)
reading_numbers m items a n = rw (demand_2.reading_numbers m items a n) refl

pub answers_determined : Determined
answers_determined =
    record {
      roster = λ m s. determined _ _ (opening_by m s) (rw (demand_2.roster_numbers m s) refl);
      event = λ m e. determined _ _ (event_by m e) (event_numbers m e);
      instrument = λ m a i. determined _ _ (instrument_by m a i) (reading_numbers m (roster_of m).instruments a i);
      group = λ m a g. determined _ _ (group_by m a g) (reading_numbers m (roster_of m).groups a g);
    }

pub refusals_told : Refusals
refusals_told =
    record {
      roster = λ m s. answered_no _ _ (opening_by m s);
      event = λ m e. answered_no _ _ (event_by m e);
      instrument = λ m a i. answered_no _ _ (instrument_by m a i);
      group = λ m a g. answered_no _ _ (group_by m a g);
    }

pub acceptances_told : Acceptances
unfolding opening_questions event_questions questions reading_questions
acceptances_told =
    record {
      roster = λ m s. first_yes _ _ (opening_by m s) _ _ refl;
      event = λ m e. first_yes _ _ (event_by m e) _ _ refl;
      instrument = λ m a i. first_yes _ _ (instrument_by m a i) _ _ refl;
      group = λ m a g. first_yes _ _ (group_by m a g) _ _ refl;
    }

-- ---- examples
short_is_1 : (m s : List ℕ) → length m < 65536 → opening_answer m s ≡ 1
unfolding opening_questions first_no long_enough
short_is_1 m s short = answers_determined.roster m s ∙ rw (lt-leb 65536 (length m) short) refl

unsound_is_5 : (m e : List ℕ) → sound_desk m ≡ false → answer_to m e ≡ 5
unfolding event_questions questions first_no
unsound_is_5 m e h = answers_determined.event m e ∙ rw h refl

junk_is_6 : (m e : List ℕ) → sound_desk m ≡ true → decode e ≡ Junk → answer_to m e ≡ 6
unfolding event_questions questions questions_before is_event first_no
junk_is_6 m e h junk = answers_determined.event m e ∙ rw (h, junk) refl

reading_is_5 : (m : List ℕ) (items a n : ℕ) → sound_desk m ≡ false → first_no (reading_questions m items a n) ≡ 5
unfolding reading_questions first_no
reading_is_5 m items a n h = rw h refl

other : (n k : ℕ) → n ≡ k → 1 ≤ k → n ≢ 0
other n k e some zero = omega arith

pub examples : Examples
examples =
    record {
      short = λ m s h. let e = short_is_1 m s h in (e, demand_1.roster_refused m s (other _ 1 e (omega arith)));
      unsound = λ m x h. let e = unsound_is_5 m x h in (e, demand_1.event_refused m x (other _ 5 e (omega arith)));
      junk = λ m x h j. let e = junk_is_6 m x h j in (e, demand_1.event_refused m x (other _ 6 e (omega arith)));
      run = λ m e f h. run.unsound m (e ∷ f ∷ []) h;
      instrument = λ m a i before h.
          let e = answers_determined.instrument m a i ∙ reading_is_5 m (roster_of m).instruments a i h in
          (e, demand_2.instrument_left m a i before (other _ 5 e (omega arith)));
      group = λ m a g before h.
          let e = answers_determined.group m a g ∙ reading_is_5 m (roster_of m).groups a g h in
          (e, demand_2.group_left m a g before (other _ 5 e (omega arith)));
    }

-- ---- demand 3
pub stays_sound : StaysSound
stays_sound m s bytes opens events = by (sound_desk now) refl
  where
    now : List ℕ
    now = memory_after gate (after_opening m s) events

    by : (t : Bool) → sound_desk (memory_after gate (after_opening m s) events) ≡ t
        → sound_desk (memory_after gate (after_opening m s) events) ≡ true
    by true h = h
    by false h =
        absurd ((demand_3 m s bytes opens events).2 (written [])
        (unsound_is_5 (memory_after gate (after_opening m s) events) (written []).bytes h))
