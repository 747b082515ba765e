-- What a reader finds and what it leaves behind that: one reader behind another, and bytes that are there.
use Rattle.std.specs.Prelude.{◌≡◌, ◌++◌}
use Rattle.integers.specs.Basics.{ℕ, ◌∙◌, ap, true, List, drop}
use mathlib.Core.List.{append_assoc}
use Rattle.grammar.specs.Bytes.{is_blank, Each}
use Rattle.grammar.specs.Reader.{Reading, up_to, next, with, literal_at, past_blanks}
use Rattle.grammar.proofs.Places.{behind}
use Rattle.grammar.proofs.Spans.{Stops, past_append}
use Rattle.grammar.proofs.Starts.{starts_append}

-- r finds v, and leaves y
pub record Leaves {A : Type 0} (s : List ℕ) (r : Reading A) (v : A) (y : List ℕ) : Type 0 where
  pub place : ℕ
  pub reads : r ≡ up_to v place
  pub left : drop place s ≡ y

pub leaves_next : {A B : Type 0} {s y z : List ℕ} {r : Reading A} {v : A} {w : B} (f : A → ℕ → Reading B) → Leaves s r v z
    → ((q : ℕ) → drop q s ≡ z → Leaves s (f v q) w y) → Leaves s (next r f) w y
leaves_next f a more =
    let b = more a.place a.left in
    record { place = b.place; reads = rw a.reads b.reads; left = b.left }

pub leaves_with : {A B : Type 0} {s y : List ℕ} {r : Reading A} {v : A} (g : A → B) → Leaves s r v y → Leaves s (with g r) (g v) y
leaves_with g a = record { place = a.place; reads = rw a.reads; left = a.left }

-- what is there is one piece and then another
pub cut : {l x : List ℕ} (a c y : List ℕ) → l ≡ x ++ y → x ≡ a ++ c → l ≡ a ++ (c ++ y)
cut a c y e f = e ∙ ap (λ z. z ++ y) f ∙ append_assoc a c y

module _ (s : List ℕ) (p : ℕ) where
  pub literal_there : (l y : List ℕ) → drop p s ≡ l ++ y → literal_at s l p ≡ true
  literal_there l y e = rw e (starts_append l y)

  pub past_there : (x y : List ℕ) → drop p s ≡ x ++ y → Each is_blank x → Stops is_blank y → drop (past_blanks s p) s ≡ y
  past_there x y e each stops = rw (past_append s p x y e each stops) (behind s p x y e)
