-- What a memory that passes question 5 is, as facts: it shows a sound book, its records stand inside their region, and the figures of lines
-- that are not set are in range too.
use Rattle.std.specs.Prelude.{◌≤◌, ◌≡◌}
use Rattle.integers.specs.Basics.{ℕ, List, length}
use Rattle.words.specs.Words.{word_at}
use Rattle.ledger.specs.Roster.{Numbered}
use Rattle.book.specs.Sound.{LineFits, GroupLineFits, Sound}
use Rattle.memory_layout.specs.Layout.{kind_word}
use Rattle.memory_layout.specs.View.{market_of, roster_of, own_figures, default_figures, group_figures, first_of, view}

-- the figures of each line on the roster are in range, whether the line is set or not
pub record Figures (m : List ℕ) : Type 0 where
  pub own : (a i : ℕ) → Numbered (roster_of m).accounts a → Numbered (roster_of m).instruments i
      → LineFits (market_of m).largest (own_figures m a i)
  pub default : (a c : ℕ) → Numbered (roster_of m).accounts a → Numbered (roster_of m).contracts c
      → LineFits (market_of m).largest (default_figures m a c)
  pub of_group : (a g : ℕ) → Numbered (roster_of m).accounts a → Numbered (roster_of m).groups g
      → GroupLineFits (market_of m).largest (group_figures m a g)

pub record SoundMemory (m : List ℕ) : Type 0 where
  pub long : 65536 ≤ length m
  pub kind : word_at m kind_word ≡ 1
  pub first : first_of m ≤ 256
  pub figures : Figures m
  pub book : Sound (view m)
