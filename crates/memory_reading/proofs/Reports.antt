-- What a reader answers and reports.
use Rattle.std.specs.Prelude.{◌≡◌, ◌∷◌}
use Rattle.integers.specs.Basics.{ℕ, refl, ◌∙◌, sym, true, false, List, [], ℤ, arith, eq-eqb, ne_eqb}
use Rattle.positions.specs.declared.InstrumentPosition.{InstrumentPosition}
use Rattle.positions.specs.declared.GroupPosition.{GroupPosition}
use Rattle.ledger.specs.Roster.{Numbered}
use Rattle.ledger.specs.Positions.{long, short, instrument, group, potential}
use Rattle.ledger.specs.Derivatives.{one}
use Rattle.positions.specs.Answers.{InInstrument, InGroup}
use Rattle.limits.specs.Questions.{first_no}
use Rattle.limits.specs.declared.answer.Refusal.{Refusal}
use Rattle.limits.specs.Answers.{refusal_number}
use Rattle.book.specs.Decoding.{between}
use Rattle.limits.proofs.Answers.{zero_pass, passed}
use Rattle.limits.proofs.Refused.{not_zero}
use Rattle.book.specs.Market.{market_of_kind}
use Rattle.book.specs.Table.{q, is_listed}
use Rattle.book.specs.declared.Item.{Item}
use Rattle.book.specs.declared.Item.TheVariants.{Instrument, Group}
use Rattle.book.proofs.Tables.{between_numbered}
use Rattle.memory_layout.specs.View.{roster_part, roster_of, balances_part, open_orders}
use Rattle.memory_layout.proofs.FieldsRead.{balance_in}
use Rattle.memory_soundness.specs.Soundness.{sound_desk}
use Rattle.memory_soundness.specs.SoundMemory.{SoundMemory}
use Rattle.memory_soundness.proofs.SoundDesk.{sound_out}
use Rattle.memory_soundness.proofs.Bounded.{sound_readable}
use Rattle.memory_soundness.proofs.Agreement.{words_potential}
use Rattle.memory_reading.specs.Reading.{item_answer, instrument_answer, group_answer, reading_questions, position_in}
use Rattle.memory_reading.specs.Reading.{instrument_report, group_report, reported}

-- ---- the answers
-- `items` and `n` are the roster's number of instruments or groups and the one asked for
module _ (m : List ℕ) (items a n : ℕ) where
  pub unsound : sound_desk m ≡ false → 5 ≡ first_no (reading_questions m items a n)
  unfolding first_no reading_questions
  unsound h = rw h

  module _ (sound : sound_desk m ≡ true) where
    pub no_account : between 1 (roster_of m).accounts a ≡ false → 7 ≡ first_no (reading_questions m items a n)
    unfolding first_no reading_questions
    no_account h = rw (sound, h)

    pub no_item : between 1 (roster_of m).accounts a ≡ true → between 1 items n ≡ false → 8 ≡ first_no (reading_questions m items a n)
    unfolding first_no reading_questions
    no_item known h = rw (sound, known, h)

pub answered : (m : List ℕ) (items a n : ℕ) → sound_desk m ≡ true → between 1 (roster_of m).accounts a ≡ true → between 1 items n ≡ true
    → 0 ≡ first_no (reading_questions m items a n)
unfolding first_no reading_questions
answered m items a n sound known listed = rw (sound, known, listed)

module _ (m : List ℕ) (a : ℕ) where
  pub of_instrument : (i : ℕ) → item_answer m a (Instrument i) ≡ instrument_answer m a i
  unfolding item_answer instrument_answer reading_questions
  of_instrument i = refl

  pub of_group : (g : ℕ) → item_answer m a (Group g) ≡ group_answer m a g
  unfolding item_answer group_answer reading_questions
  of_group g = refl

  -- 0 is answered where each question is answered yes
  allowed : (item : Item) → 0 ≡ item_answer m a item → Numbered (roster_of m).accounts a × (is_listed (roster_of m) item ≡ true)
  unfolding item_answer
  allowed item zero =
      let qs = q 5 (sound_desk m) ∷ q 7 (between 1 (roster_of m).accounts a) ∷ q 8 (is_listed (roster_of m) item) ∷ [] in
      let yes = passed qs (zero_pass qs (omega arith) (sym zero)) in
      (between_numbered (roster_of m).accounts a (yes 7), yes 8)

  pub instrument_allowed : (i : ℕ) → 0 ≡ item_answer m a (Instrument i)
      → Numbered (roster_of m).accounts a × Numbered (roster_of m).instruments i
  instrument_allowed i zero =
      let yes = allowed (Instrument i) zero in
      (yes.0, between_numbered (roster_of m).instruments i yes.1)

  pub group_allowed : (g : ℕ) → 0 ≡ item_answer m a (Group g) → Numbered (roster_of m).accounts a
  group_allowed g zero = (allowed (Group g) zero).0

-- ---- the report of an acceptance, or of a refusal
module _ {answer : ℕ} (report before : List ℤ) where
  pub accepts : 0 ≡ answer → report ≡ reported answer report before
  unfolding reported
  accepts zero = rw (eq-eqb answer 0 (sym zero))

  pub refuses : (r : Refusal) → refusal_number r ≡ answer → before ≡ reported answer report before
  unfolding reported
  refuses r told = rw (ne_eqb answer 0 (λ z. not_zero r (told ∙ z)))

-- ---- what the ledger answers over the desk's parts is the report
module _ (m : List ℕ) (a : ℕ) (held : SoundMemory m) (account : Numbered (roster_of m).accounts a) where
  pub instrument_told : (i : ℕ) → Numbered (roster_of m).instruments i → (p : InstrumentPosition)
      → InInstrument (open_orders m) (balances_part m a) a i p
      → p.balance.0 ∷ p.long.0 ∷ p.short.0 ∷ [] ≡ instrument_report m a i
  unfolding instrument_report position_in market_of_kind potential
  instrument_told i on p told =
      let os = open_orders m in
      rw (
        told.its_balance,
        balance_in m a account (sound_readable m held) i on,
        told.its_long,
        told.its_short,
        ← words_potential m held a account one os (instrument i) on long,
        ← words_potential m held a account one os (instrument i) on short,
      )

  pub group_told : (g : ℕ) (p : GroupPosition)
      → InGroup (open_orders m) (balances_part m a) (roster_part m) a g p
      → p.long.0 ∷ p.short.0 ∷ [] ≡ group_report m a g
  unfolding group_report position_in market_of_kind
  group_told g p told =
      let os = open_orders m in
      rw (
        told.its_long,
        told.its_short,
        words_potential m held a account one os (group g) tt long,
        words_potential m held a account one os (group g) tt short,
      )

-- what a yes of question 5 says of the memory
pub ruleset held = (sound_out)
