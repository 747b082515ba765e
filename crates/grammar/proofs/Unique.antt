-- Bytes are one element at most: the reader finds each of two that they are.
use Rattle.std.specs.Prelude.{◌≡◌}
use Rattle.integers.specs.Basics.{ℕ, sym, true, List, []}
use mathlib.Core.List.{append-nil}
use Rattle.grammar.specs.Grammar.{Element, Value, Written}
use Rattle.grammar.specs.Readable.{readable}
use Rattle.grammar.proofs.Complete.{element_complete}

pub element_unique : (e : Element) (v w : Value e) (x : List ℕ) → readable e ≡ true → Written e v x → Written e w x → v ≡ w
element_unique e v w x ok h i =
    let a = element_complete x e 0 v x [] ok h (sym (append-nil x)) in
    let b = element_complete x e 0 w x [] ok i (sym (append-nil x)) in
    cc
