-- The two ways in which a test comes out.
use Rattle.std.specs.Prelude.{◌≡◌}
use Rattle.integers.specs.Basics.{refl, Bool, true, false}

pub by_test : {P : Type 0} (t : Bool) → (t ≡ true → P) → (t ≡ false → P) → P
by_test true holds fails = holds refl
by_test false holds fails = fails refl
