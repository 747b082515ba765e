-- How tags and elements begin: with bytes that are known, so with no blank, and many elements have a byte each at least.
use Prim.Native.String.{String}
use Rattle.std.specs.Prelude.{◌≤◌, ◌≡◌, ◌∷◌, ◌++◌}
use Rattle.integers.specs.Basics.{ℕ, refl, ap, inl, inr, true, false≢true, List, [], length, arith}
use mathlib.Core.List.{append_assoc}
use lib.ListN.{length-append}
use Rattle.grammar.specs.Bytes.{is_blank, Then}
use Rattle.grammar.specs.Grammar.{Attribute, Element, leaf, holding, Values, Value, Attributes, Enclosed, Many, Tag, Written}
use Rattle.grammar.specs.Reader.{opening, closing}
use Rattle.grammar.specs.Readable.{begins_solid, name_of}
use Rattle.grammar.proofs.Spans.{Stops, solid_stops}
use Rattle.grammar.proofs.Leaving.{cut}

-- ---- how tags begin
pub closing_solid : (name : String) → begins_solid (closing name) ≡ true
unfolding begins_solid is_blank
closing_solid name = refl

pub opening_solid : (name : String) → begins_solid (opening name) ≡ true
unfolding begins_solid is_blank
opening_solid name = refl

solid_long : (l : List ℕ) → begins_solid l ≡ true → 1 ≤ length l
unfolding begins_solid
solid_long [] h = absurd (false≢true h)
solid_long (b ∷ l) h = omega arith

pub tag_opens : (name : String) (l : List Attribute) (v : Values l) (x : List ℕ) → Tag name l v x
    → (z : List ℕ) × (x ≡ opening name ++ z) × Attributes l v z
tag_opens name l v x (a, x₁, e, h, (n, z, f, i, w)) = (z, rw (e, h, f, i), w)

-- bytes that begin with l
abbrev pub Begins : List ℕ → List ℕ → Type 0
Begins l x = (z : List ℕ) × (x ≡ l ++ z)

begins_long : (l x : List ℕ) → Begins l x → length l ≤ length x
begins_long l x (z, e) = omega (arith, ap length e, length-append l z)

pub begins_before : (l x y : List ℕ) → Begins l x → Begins l (x ++ y)
begins_before l x y (z, e) = (z ++ y, cut l z y refl e)

pub begins_stops : (l x : List ℕ) → begins_solid l ≡ true → Begins l x → Stops is_blank x
begins_stops l x solid (z, e) = rw e (solid_stops l z solid)

tag_begins : (name : String) (l : List Attribute) (v : Values l) (P : List ℕ → Type 0) (x : List ℕ) → Then (Tag name l v) P x
    → Begins (opening name) x
tag_begins name l v P x (a, b, e, h, i) =
    let (z, f, is) = tag_opens name l v a h in
    rw e (begins_before (opening name) a b (z, f))

pub written_opens : (e : Element) (v : Value e) (x : List ℕ) → Written e v x → Begins (opening (name_of e)) x
written_opens (leaf n l) v = tag_begins n l v (Enclosed n (λ z. z ≡ []))
written_opens (holding n l c) (v, vs) = tag_begins n l v (Enclosed n (Many (Written c) vs))

pub enclosed_stops : (name : String) (P : List ℕ → Type 0) (x y : List ℕ) → Enclosed name P x → Stops is_blank (x ++ y)
unfolding is_blank
enclosed_stops name P x y (inl (e, h)) = rw e refl
enclosed_stops name P x y (inr (a, b, e, h, i)) = rw (e, h) refl

-- ---- many that begin alike: no more than bytes, and no blank before them
module _ {A : Type 0} (P : A → List ℕ → Type 0) (opens : List ℕ) (solid : begins_solid opens ≡ true)
    (begins : (v : A) (x : List ℕ) → P v x → Begins opens x) where
  pub many_long : (vs : List A) (x : List ℕ) → Many P vs x → length vs ≤ length x
  many_long [] x w = omega arith
  many_long (v ∷ vs) x (a, b, e, h, (c, d, f, i, w)) =
      let one = solid_long opens solid in
      let first = begins_long opens a (begins v a h) in
      let more = many_long vs d w in
      omega (arith, ap length e, length-append a b, ap length f, length-append c d)

  pub many_stops : (vs : List A) (x y : List ℕ) → Many P vs x → Stops is_blank y → Stops is_blank (x ++ y)
  many_stops [] x y w stops = rw w stops
  many_stops (v ∷ vs) x y (a, b, e, h, i) stops =
      rw (e, append_assoc a b y) (begins_stops opens (a ++ (b ++ y)) solid (begins_before opens a (b ++ y) (begins v a h)))
