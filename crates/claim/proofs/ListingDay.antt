-- Document 01's listing as an instance of the demands: computed of the plain book, each conclusion drawn by a demand.
use Rattle.std.specs.Prelude.{◌≤◌, ◌≡◌, ◌∷◌}
use Rattle.integers.specs.Basics.{ℕ, refl, ◌∙◌, ap, inl, inr, true, List, [], map, ListMemᴰ, ℤ, eqb, length, take, drop}
use Rattle.integers.specs.Basics.{arith, eqb-true}
use Rattle.words.specs.Bytes.{Bytes}
use Rattle.ledger.specs.declared.order.Side.TheVariants.{Buy, Sell}
use Rattle.ledger.specs.Positions.{group, long, of_instrument, potential}
use Rattle.ledger.specs.Fillings.{none, fill}
use Rattle.book.specs.EventBytes.{cancel_bytes}
use Rattle.book.specs.Decoding.{between}
use Rattle.book.specs.Market.{derivatives}
use Rattle.book.specs.States.{begun}
use Rattle.book.specs.EventLists.{RawEvent}
use Rattle.book.specs.Listing.{listing_events}
use Rattle.book.specs.Written.{written, written_all}
use Rattle.book.proofs.LongerDay.{weighs_more, weighs_less}
use Rattle.memory_opening.specs.Questions.{roster_from, opening_answer}
use Rattle.memory_opening.specs.Opening.{after_opening}
use Rattle.memory_reading.specs.Reading.{instrument_answer, group_answer, instrument_report, group_report, position_in, reported}
use Rattle.book.specs.Positions.{instrument_in, group_in}
use Rattle.desk.specs.Days.{answers_over, memory_over}
use Rattle.desk.specs.Run.{events_for, answered}
use Rattle.claim.specs.RunList.{concatenated}
use Rattle.claim.specs.Examples.{memory_at}
use Rattle.claim.specs.Days.{order, listing_roster, ListingDay, InEveryMemory}
use Rattle.claim.proofs.Demands.{demand_2, demand_3, run}
use Rattle.claim.proofs.Uses.{listed_passes}
use Rattle.claim.proofs.Plainly.{plainly, answers_plainly}
use Rattle.claim.proofs.DaysOpened.{opened, opens_long}
use Rattle.claim.proofs.Examples.{plain_state, state_at_lem, refused, accepted}

-- ---- document 01's listing
listing_opens : (m : List ℕ) → 65536 ≤ length m → opening_answer m listing_roster ≡ 0
unfolding opened
listing_opens m enough = opens_long m listing_roster enough refl

module _ (m : List ℕ) (bytes : Bytes m) (opens : opening_answer m listing_roster ≡ 0) where
  -- what is reported of an instrument, by demand 2, is what the book gives, by demand 3
  instrument_line : (i : ℕ) → between 1 (roster_from listing_roster).instruments i ≡ true → (before : List ℤ)
      → reported (instrument_answer (memory_at m listing_roster listing_events) 1 i)
      (instrument_report (memory_at m listing_roster listing_events) 1 i) before ≡ instrument_in
      (plain_state listing_roster listing_events) 1 i
  unfolding opened instrument_report position_in potential of_instrument
  instrument_line i on before =
      let read = (demand_3 m listing_roster bytes opens (written_all listing_events)).3 1 i refl on in
      demand_2.instrument_reported (memory_at m listing_roster listing_events) 1 i before read.0 ∙ read.1
      ∙ ap (λ k. instrument_in k 1 i) (state_at_lem m listing_roster bytes opens listing_events)

  group_line_lem : (before : List ℤ) → reported (group_answer (memory_at m listing_roster listing_events) 1 1)
      (group_report (memory_at m listing_roster listing_events) 1 1) before ≡ group_in
      (plain_state listing_roster listing_events) 1 1
  unfolding opened group_report position_in potential of_instrument
  group_line_lem before =
      let read = (demand_3 m listing_roster bytes opens (written_all listing_events)).4 1 1 refl refl in
      demand_2.group_reported (memory_at m listing_roster listing_events) 1 1 before read.0 ∙ read.1
      ∙ ap (λ k. group_in k 1 1) (state_at_lem m listing_roster bytes opens listing_events)

  answered_so : answers_over (after_opening m listing_roster) (map (λ e. e.bytes) (written_all listing_events))
      ≡ 0 ∷ 0 ∷ 0 ∷ 0 ∷ 23 ∷ 0 ∷ 0 ∷ 0
      ∷ []
  unfolding opened
  answered_so =
      answers_plainly (after_opening m listing_roster) (begun derivatives (roster_from listing_roster))
      (plainly m listing_roster bytes opens)
      (written_all listing_events)

  in_one_run : (room : List ℕ) → 8 ≤ length room
      → (answered (after_opening m listing_roster) (concatenated (written_all listing_events)) room ≡ 0 ∷ 0 ∷ 0 ∷ 0 ∷ 23 ∷ 0 ∷ 0 ∷ 0
      ∷ drop 8 room) × (memory_over (after_opening m listing_roster) (events_for (concatenated (written_all listing_events)) room)
      ≡ memory_at m listing_roster listing_events)
  unfolding opened
  in_one_run room enough =
      let whole = written_all (take 7 listing_events) in
      let seven : length whole ≡ 7 = refl in
      let full : (e : RawEvent) → ListMemᴰ e whole → length e.bytes ≡ 48 =
      λ e there. eqb-true (length e.bytes) 48 (listed_passes (λ x. eqb (length x.bytes) 48) e whole there refl) in
      let so = run.events (after_opening m listing_roster) whole (written (cancel_bytes 7)) room full (omega arith) (omega arith)
      (omega arith) in
      (so.2 ∙ rw answered_so, rw so.0 so.1)

  all_of_it : ListingDay m
  unfolding opened
  all_of_it =
      record {
        opens = opens;
        answers = answered_so;
        run = in_one_run;
        buy_of_instrument = accepted bytes opens (refl, refl, refl) refl (refl, refl) refl refl;
        buy_of_group = accepted bytes opens (refl, refl, refl) refl (refl, weighs_more, refl) refl refl;
        -- all 62 of order 7 and the 1 of N put the group at 605,000
        put_sold_lem =
            refused bytes opens (refl, refl, refl) refl (inr (inr (inl refl))) (group 1) long (refl, weighs_less, refl)
            (fill {o = order 7 1 Buy 62} 62 (omega arith) (fill {o = order 8 2 Sell 1} 1 (omega arith) none)) (record { lt = tt });
        first = instrument_line 1 refl;
        second = instrument_line 2 refl;
        of_group = group_line_lem;
      }

pub listing_day : InEveryMemory ListingDay
listing_day m bytes enough = all_of_it m bytes (listing_opens m enough)
