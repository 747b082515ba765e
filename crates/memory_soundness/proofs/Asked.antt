-- Tests as the code asks them, and the facts that they stand for.
use Rattle.std.specs.Prelude.{◌≡◌}
use Rattle.integers.specs.Basics.{refl, ◌∙◌, sym, Bool, true, false, not, not-true, not-false}

-- the answer t to a test u, asked by `!`
pub answered_no : (t u : Bool) → t ≡ u → not t ≡ true → u ≡ false
answered_no t u e h = sym e ∙ not-true t h

pub answered_yes : (t u : Bool) → t ≡ u → not t ≡ false → u ≡ true
answered_yes t u e h = sym e ∙ not-false t h

-- two tests that mean the same
pub same_test : (t u : Bool) → (t ≡ true → u ≡ true) → (t ≡ false → u ≡ false) → t ≡ u
same_test true u f g = sym (f refl)
same_test false u f g = sym (g refl)
