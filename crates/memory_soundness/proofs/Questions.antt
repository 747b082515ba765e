-- Question 5 and its parts: the conditions one by one, and all of them together.
use Rattle.std.specs.Prelude.{◌≤◌, ◌≡◌, ◌&&◌}
use Rattle.integers.specs.Basics.{ℕ, true, List, leb, eqb, length, leb-true, eqb-true, le-leb, eq-eqb}
use Rattle.words.specs.Words.{word_at}
use Rattle.limits.proofs.Answers.{both_true}
use Rattle.memory_layout.specs.Layout.{kind_word, count_word}
use Rattle.memory_layout.specs.Rosters.{long_enough}
use Rattle.memory_layout.specs.View.{first_of}
use Rattle.memory_soundness.specs.Soundness.{holds, roster_sound, lines_sound, ids_sound, orders_sound, positions_sound, sound, sound_desk}

pub record Conditions (m : List ℕ) : Type 0 where
  pub long : 65536 ≤ length m
  pub kind : word_at m kind_word ≡ 1
  pub count : word_at m count_word ≤ 256
  pub first : first_of m ≤ 256
  pub ids : ids_sound m ≡ true
  pub roster : roster_sound m ≡ true
  pub lines : lines_sound m ≡ true
  pub orders : orders_sound m ≡ true
  pub positions : positions_sound m ≡ true

module _ (m : List ℕ) where
  pub each_out : sound_desk m ≡ true → Conditions m
  unfolding sound_desk long_enough holds sound
  each_out e =
      let whole = both_true (long_enough m && holds m) (sound m) e in
      let long = both_true (long_enough m) (holds m) whole.0 in
      let few = both_true (eqb (word_at m kind_word) 1 && leb (word_at m count_word) 256) (leb (first_of m) 256) long.1 in
      let words = both_true (eqb (word_at m kind_word) 1) (leb (word_at m count_word) 256) few.0 in
      let p = both_true (roster_sound m && lines_sound m && ids_sound m && orders_sound m) (positions_sound m) whole.1 in
      let o = both_true (roster_sound m && lines_sound m && ids_sound m) (orders_sound m) p.0 in
      let i = both_true (roster_sound m && lines_sound m) (ids_sound m) o.0 in
      let r = both_true (roster_sound m) (lines_sound m) i.0 in
      record {
        long = leb-true 65536 (length m) long.0;
        kind = eqb-true (word_at m kind_word) 1 words.0;
        count = leb-true (word_at m count_word) 256 words.1;
        first = leb-true (first_of m) 256 few.1;
        ids = i.1;
        roster = r.0;
        lines = r.1;
        orders = o.1;
        positions = p.1;
      }

  pub each_in : Conditions m → sound_desk m ≡ true
  unfolding sound_desk long_enough holds sound
  each_in c =
      rw (
        le-leb 65536 (length m) c.long,
        eq-eqb (word_at m kind_word) 1 c.kind,
        le-leb (word_at m count_word) 256 c.count,
        le-leb (first_of m) 256 c.first,
        c.roster,
        c.lines,
        c.ids,
        c.orders,
        c.positions,
      )
