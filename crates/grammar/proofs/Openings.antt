-- What code finds of a literal l behind blanks, where there are some.
use Rattle.std.specs.Prelude.{◌≡◌, ◌≢◌}
use Rattle.integers.specs.Basics.{ℕ, List, arith, lt-ltb}
use Rattle.grammar.specs.Reader.{literal_at, past_blanks, opening_at}
use Rattle.grammar.specs.Found.{place_of, past_literal}
use Rattle.grammar.proofs.Tests.{by_test}
use Rattle.grammar.proofs.Spans.{past_least}

pub opening_named : (s l : List ℕ) (p q : ℕ) → q ≡ past_blanks s p → q ≢ p → past_literal s l q ≡ place_of s (opening_at s l p)
unfolding opening_at
opening_named s l p q is some =
    let least = past_least s p in
    rw (← is, lt-ltb p q (omega (arith, is, some))) (by_test (literal_at s l q) (λ e. rw e) (λ e. rw e))
