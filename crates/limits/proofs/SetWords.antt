-- What a word says of whether its line is set: any number but 0 does.
use Rattle.std.specs.Prelude.{◌≡◌, ◌≢◌}
use Rattle.integers.specs.Basics.{ℕ, true, false, eq-eqb, ne_eqb}
use Rattle.limits.specs.InBytes.{says_set}

pub word_set : (w : ℕ) → w ≢ 0 → says_set w ≡ true
unfolding says_set
word_set w h = rw (ne_eqb w 0 h)

pub word_unset : (w : ℕ) → w ≡ 0 → says_set w ≡ false
unfolding says_set
word_unset w h = rw (eq-eqb w 0 h)
