-- An accepted opening: the roster that it leaves is that of the bytes, the view has just begun, and nothing else changed.
use Rattle.std.specs.Prelude.{◌+◌, ◌*◌, ◌≤◌, ◌<◌, ◌≡◌}
use Rattle.integers.specs.Basics.{ℕ, refl, ◌∙◌, sym, List, nat_abs, leb, eqb, length, get_or, arith, leb-true}
use Rattle.integers.specs.Basics.{eqb-true}
use Rattle.integers.specs.Magnitude.{sized}
use Rattle.words.specs.Bytes.{Bytes}
use Rattle.words.specs.Fields.{u8_at, u16_at, i32_at}
use Rattle.words.specs.Words.{word_at}
use Rattle.ledger.specs.Roster.{Numbered}
use Rattle.limits.proofs.Answers.{both_true, zero_pass, passed}
use Rattle.book.specs.Decoding.{between}
use Rattle.book.specs.Market.{derivatives}
use Rattle.book.specs.States.{begun}
use Rattle.book.proofs.Tables.{between_numbered}
use Rattle.memory_layout.specs.Layout.{kind_word}
use Rattle.memory_layout.specs.Rosters.{listed, every, long_enough}
use Rattle.memory_layout.specs.View.{market_of, roster_of, view}
use Rattle.memory_layout.proofs.RosterLaws.{Sized, by_test}
use Rattle.memory_layout.proofs.Every.{every_out}
use Rattle.memory_layout.proofs.Begun.{bytes_begun, kind_begun, blank_begun, roster_begun, market_begun, view_begun, length_begun}
use Rattle.memory_layout.proofs.Begun.{later_begun}
use Rattle.memory_opening.specs.Questions.{roster_from, opening_questions, opening_answer}
use Rattle.memory_opening.specs.Opening.{opened, after_opening}
use Rattle.memory_opening.proofs.Tests.{Lengths, lengths_out, names_by, weights_by}

-- ---- what an answer of 0 says
pub record Accepted (m s : List ℕ) : Type 0 where
  pub long : 65536 ≤ length m
  pub sizes : Lengths s
  pub groups : (k : ℕ) → 1 ≤ k → k ≤ u16_at s 4 → Numbered (u16_at s 2) (u8_at s (7 + k))
  pub contracts : (k : ℕ) → 1 ≤ k → k ≤ u16_at s 6 → Numbered (u16_at s 4) (u8_at s (7 + u16_at s 4 + k))
  pub weights : (k : ℕ) → 1 ≤ k → k ≤ u16_at s 6 → nat_abs (i32_at s (4 + u16_at s 4 + u16_at s 6 + 4 * k)) ≤ 1000000

pub accepted_out : (m s : List ℕ) → opening_answer m s ≡ 0 → Accepted m s
unfolding opening_answer opening_questions long_enough
accepted_out m s e =
    let yes = passed (opening_questions m s) (zero_pass (opening_questions m s) (omega arith) e) in
    let names = both_true (every (u16_at s 4) (λ k. between 1 (u16_at s 2) (u8_at s (7 + k))))
    (every (u16_at s 6) (λ k. between 1 (u16_at s 4) (u8_at s (7 + u16_at s 4 + k)))) (sym (names_by s) ∙ yes 3) in
    record {
      long = leb-true 65536 (length m) (yes 1);
      sizes = lengths_out s (yes 2);
      groups =
          λ k low high. between_numbered (u16_at s 2) (u8_at s (7 + k))
          (every_out (λ j. between 1 (u16_at s 2) (u8_at s (7 + j))) (u16_at s 4) names.0 k (low, high));
      contracts =
          λ k low high. between_numbered (u16_at s 4) (u8_at s (7 + u16_at s 4 + k))
          (every_out (λ j. between 1 (u16_at s 4) (u8_at s (7 + u16_at s 4 + j))) (u16_at s 6) names.1 k (low, high));
      weights =
          λ k low high. leb-true (nat_abs (i32_at s (4 + u16_at s 4 + u16_at s 6 + 4 * k))) 1000000
          (every_out (λ j. leb (nat_abs (i32_at s (4 + u16_at s 4 + u16_at s 6 + 4 * j))) 1000000) (u16_at s 6)
          (sym (weights_by s) ∙ yes 4) k (low, high));
    }

-- ---- what it leaves
module _ (m s : List ℕ) (ok : Accepted m s) where
  sized_from : Sized (roster_from s)
  unfolding roster_from listed
  sized_from =
      let sizes = ok.sizes in
      record { accounts = omega arith; groups = omega arith; contracts = omega arith; instruments = omega arith }

  pub kind_opened : word_at (opened m s) kind_word ≡ 1
  unfolding opened
  kind_opened = kind_begun m ok.long (roster_from s) sized_from

  -- the words behind the roster are 0
  pub blank_opened : (k : ℕ) → 77 ≤ k → k < 8192 → word_at (opened m s) k ≡ 0
  unfolding opened
  blank_opened = blank_begun m ok.long (roster_from s) sized_from

  pub roster_opened : roster_of (opened m s) ≡ roster_from s
  unfolding opened roster_from
  roster_opened =
      let sizes = ok.sizes in
      roster_begun m ok.long (u16_at s 0) (u16_at s 2) (u16_at s 4) (u16_at s 6) _ _ _ sized_from
      (λ k low high. omega (arith, ok.groups k low high))
      (λ k low high. omega (arith, ok.contracts k low high))
      (λ k low high. omega (sized, ok.weights k low high))

  pub sized_opened : Sized (roster_of (opened m s))
  sized_opened = rw roster_opened sized_from

  -- the market of an opened memory is the derivatives market
  pub market_opened : market_of (opened m s) ≡ derivatives
  unfolding opened
  market_opened = market_begun m ok.long (roster_from s) sized_from

  pub view_opened : view (opened m s) ≡ begun derivatives (roster_from s)
  unfolding opened
  view_opened = view_begun m ok.long (roster_from s) sized_from roster_opened

  pub length_opened : length (opened m s) ≡ length m
  unfolding opened
  length_opened = length_begun m ok.long (roster_from s) sized_from

  -- bytes from 65,536 on are as they were
  pub later_opened : (i : ℕ) → 65536 ≤ i → get_or (opened m s) i 0 ≡ get_or m i 0
  unfolding opened
  later_opened = later_begun m ok.long (roster_from s) sized_from

-- ---- whatever the answer
module _ (m s : List ℕ) where
  -- what holds of a memory as it was, and of an opened one, holds of the memory after an opening
  after_each : (P : List ℕ → Type 0) → P m → (Accepted m s → P (opened m s)) → P (after_opening m s)
  unfolding after_opening
  after_each P same new =
      by_test (eqb (opening_answer m s) 0) (opened m s) m P (λ e. new (accepted_out m s (eqb-true (opening_answer m s) 0 e))) (λ e. same)

  pub later_after : (i : ℕ) → 65536 ≤ i → get_or (after_opening m s) i 0 ≡ get_or m i 0
  later_after i h = after_each (λ l. get_or l i 0 ≡ get_or m i 0) refl (λ ok. later_opened m s ok i h)

  pub bytes_after : Bytes m → Bytes (after_opening m s)
  unfolding opened
  bytes_after bytes = after_each Bytes bytes (λ ok. bytes_begun m (roster_from s) bytes)
