-- Question 5 by its tests one after the other.
use Rattle.std.specs.Prelude.{◌≡◌, ◌&&◌}
use Rattle.integers.specs.Basics.{ℕ, refl, Bool, true, false, List, leb, eqb}
use Rattle.words.specs.Words.{word_at}
use Rattle.memory_layout.specs.Layout.{kind_word, count_word}
use Rattle.memory_layout.specs.Rosters.{long_enough}
use Rattle.memory_layout.specs.View.{first_of, open_orders}
use Rattle.memory_soundness.specs.Soundness.{ascend, holds, roster_sound, lines_sound, orders_sound, positions_sound, sound, sound_desk}

-- the tests in the code's order; a no refuses whatever the others say
in_order : (l k c f r n i o p : Bool)
    → (l && (k && c && f) && (r && n && i && o && p)) ≡ (l && (k && (c && (f && (r && (n && (i && o && p)))))))
in_order false k c f r n i o p = refl
in_order true false c f r n i o p = refl
in_order true true false f r n i o p = refl
in_order true true true false r n i o p = refl
in_order true true true true false n i o p = refl
in_order true true true true true false i o p = refl
in_order true true true true true true i o p = refl

module _ (m : List ℕ) where
  pub asked : sound_desk m ≡ (long_enough m && (eqb (word_at m kind_word) 1 && (leb (word_at m count_word) 256 && (leb (first_of m) 256
      && (roster_sound m && (lines_sound m && (ascend 0 (open_orders m) && orders_sound m && positions_sound m)))))))
  unfolding sound_desk holds sound
  asked =
      in_order (long_enough m) (eqb (word_at m kind_word) 1) (leb (word_at m count_word) 256) (leb (first_of m) 256) (roster_sound m)
      (lines_sound m) (ascend 0 (open_orders m)) (orders_sound m) (positions_sound m)
