-- What the first answers of question 5 give to those after them.
use Rattle.std.specs.Prelude.{◌≡◌, ◌&&◌}
use Rattle.integers.specs.Basics.{ℕ, true, List, leb, eqb, leb-true}
use Rattle.words.specs.Words.{word_at}
use Rattle.limits.proofs.Answers.{both_true}
use Rattle.memory_layout.specs.Layout.{kind_word, count_word}
use Rattle.memory_layout.specs.Rosters.{long_enough}
use Rattle.memory_layout.specs.View.{first_of, open_orders}
use Rattle.memory_layout.specs.Readable.{Readable}
use Rattle.memory_layout.specs.Stores.{Records}
use Rattle.memory_layout.proofs.FieldsRead.{long_out}
use Rattle.memory_soundness.specs.Soundness.{ascend, holds, roster_sound, orders_sound}
use Rattle.memory_soundness.proofs.Questions.{Conditions}
use Rattle.memory_soundness.proofs.RosterLaws.{sound_sizes}
use Rattle.memory_soundness.proofs.RosterLaws as roster

module _ (m : List ℕ) where
  pub readable : Records m → roster_sound m ≡ true → Readable m
  readable h e = roster.readable m h.long (sound_sizes m e)

  pub orders_alone : (ascend 0 (open_orders m) && orders_sound m) ≡ true → orders_sound m ≡ true
  orders_alone h = (both_true (ascend 0 (open_orders m)) (orders_sound m) h).1

  pub held : long_enough m ≡ true → holds m ≡ true → Records m
  unfolding holds
  held long e =
      let counts = both_true (eqb (word_at m kind_word) 1 && leb (word_at m count_word) 256) (leb (first_of m) 256) e in
      record {
        long = long_out m long;
        count = leb-true (word_at m count_word) 256 (both_true (eqb (word_at m kind_word) 1) (leb (word_at m count_word) 256) counts.0).1;
        first = leb-true (first_of m) 256 counts.1;
      }

  -- what passes question 5 can be read
  pub held_readable : Conditions m → Readable m × Records m
  held_readable c =
      let records : Records m = record { long = c.long; count = c.count; first = c.first } in
      (readable records c.roster, records)
