-- What is read of a memory that shows a book is what the book gives; and an opened desk shows the beginning of the plain book.
use Rattle.std.specs.Prelude.{◌≡◌}
use Rattle.integers.specs.Basics.{ℕ, sym, ap, true, List}
use Rattle.words.specs.Bytes.{Bytes}
use Rattle.limits.specs.Questions.{first_no}
use Rattle.book.specs.Decoding.{between}
use Rattle.book.specs.Market.{derivatives}
use Rattle.book.specs.States.{State, begun}
use Rattle.memory_layout.specs.View.{roster_of, book_of}
use Rattle.memory_opening.specs.Questions.{opening_answer, roster_from}
use Rattle.memory_opening.specs.Opening.{after_opening}
use Rattle.memory_opening.proofs.Opened.{bytes_after}
use Rattle.memory_reading.specs.Reading.{reading_questions, instrument_answer, group_answer, instrument_report, group_report, position_in}
use Rattle.memory_reading.proofs.Reports.{answered}
use Rattle.memory_soundness.proofs.SoundDesk.{sound_in}
use Rattle.book.specs.Positions.{instrument_in, group_in}
use Rattle.claim.proofs.Opened.{sound_opened, view_after}
use Rattle.claim.proofs.Gate.{Shown}

-- what is read of a memory that shows a book is what the book gives
module _ (m : List ℕ) (k : State) (sh : Shown m k) where
  roster : roster_of m ≡ k.roster
  roster = ap (λ (x : State). x.roster) sh.shows

  reads : (items a n : ℕ) → between 1 k.roster.accounts a ≡ true → between 1 items n ≡ true → first_no (reading_questions m items a n) ≡ 0
  reads items a n on_a on_n = sym (answered m items a n (sound_in m sh.held) (rw roster on_a) on_n)

  pub instrument_read : (a i : ℕ) → between 1 k.roster.accounts a ≡ true → between 1 k.roster.instruments i ≡ true
      → (instrument_answer m a i ≡ 0) × (instrument_report m a i ≡ instrument_in k a i)
  unfolding instrument_answer instrument_report position_in instrument_in book_of
  instrument_read a i on_a on_i =
      (reads (roster_of m).instruments a i on_a (rw roster on_i), ap (λ (x : State). instrument_in x a i) sh.shows)

  pub group_read : (a g : ℕ) → between 1 k.roster.accounts a ≡ true → between 1 k.roster.groups g ≡ true
      → (group_answer m a g ≡ 0) × (group_report m a g ≡ group_in k a g)
  unfolding group_answer group_report position_in group_in book_of
  group_read a g on_a on_g = (reads (roster_of m).groups a g on_a (rw roster on_g), ap (λ (x : State). group_in x a g) sh.shows)

-- an opened desk shows the beginning of the plain book
pub shown_opened : (m s : List ℕ) → Bytes m → opening_answer m s ≡ 0 → Shown (after_opening m s) (begun derivatives (roster_from s))
shown_opened m s bytes zero =
    record { bytes = bytes_after m s bytes; held = sound_opened m s zero; shows = view_after m s zero }
