-- Elements that are written are found.
use Prim.Native.String.{String}
use Rattle.std.specs.Prelude.{◌+◌, ◌<◌, ◌≡◌, ◌&&◌, ◌∷◌, ◌++◌}
use Rattle.integers.specs.Basics.{ℕ, zero, suc, refl, ◌∙◌, ap, inl, inr, true, false, cond, List, []}
use Rattle.integers.specs.Basics.{length, drop, arith}
use mathlib.Core.Bool.{and-eq-true_iff}
use mathlib.Core.List.{append_assoc}
use Rattle.grammar.specs.Bytes.{bytes, is_blank}
use Rattle.grammar.specs.Grammar.{Attribute, Element, leaf, holding, Values, Value, Enclosed, Many, Tag, Written}
use Rattle.grammar.specs.Reader.{Reading, nothing, up_to, literal_at, past_blanks, opening, closing, tag_at, childless_at, starts, many_at}
use Rattle.grammar.specs.Reader.{children_at, element_at}
use Rattle.grammar.specs.Readable.{apart, begins_solid, attributes_readable, name_of, readable}
use Rattle.grammar.proofs.Places.{behind, room}
use Rattle.grammar.proofs.Spans.{Stops, solid_stops}
use Rattle.grammar.proofs.Starts.{apart_sym, apart_append, apart_starts}
use Rattle.grammar.proofs.Readings.{end_at}
use Rattle.grammar.proofs.Leaving.{Leaves, leaves_next, leaves_with, cut, literal_there, past_there}
use Rattle.grammar.proofs.Beginnings.{Begins, begins_before, opening_solid, closing_solid, tag_opens, written_opens, enclosed_stops}
use Rattle.grammar.proofs.Beginnings.{many_long, many_stops}
use Rattle.grammar.proofs.AttributesFound.{attributes_complete}

not_empty : (y : List ℕ) → starts (bytes "/>") (bytes ">" ++ y) ≡ false
unfolding starts
not_empty y = refl

regroup : (a b c d : List ℕ) → a ++ (b ++ c) ++ d ≡ a ++ (b ++ (c ++ d))
regroup a b c d = simp append_assoc

module _ (s : List ℕ) where
  pub tag_complete : (name : String) (l : List Attribute) (p : ℕ) (v : Values l) (x y : List ℕ) → attributes_readable l ≡ true
      → Tag name l v x → drop p s ≡ x ++ y → Stops is_blank y → Leaves s (tag_at s name l p) v y
  unfolding tag_at
  tag_complete name l p v x y ok w there stops =
      let (z, e, is) = tag_opens name l v x w in
      let whole = cut (opening name) z y there e in
      rw (literal_there s p (opening name) (z ++ y) whole)
      (attributes_complete s l (p + length (opening name)) v z y ok is (behind s p (opening name) (z ++ y) whole) stops)

  -- ---- what an element holds
  module _ {A : Type 0} (name : String) (P : A → List ℕ → Type 0) (v : A) (f : ℕ → Reading A)
      (empty : (w : A) → P w [] → v ≡ w)
      (solid : (w : A) (x y : List ℕ) → P w x → Stops is_blank (x ++ (closing name ++ y)))
      (each : (q : ℕ) (w : A) (x y : List ℕ) → P w x → drop q s ≡ x ++ (closing name ++ y) → Leaves s (f q) w y) where
    enclosed_complete : (p : ℕ) (w : A) (x y : List ℕ) → Enclosed name (P w) x → drop p s ≡ x ++ y
        → Leaves s
        (cond (literal_at s (bytes "/>") p) (up_to v (p + 2)) (cond (literal_at s (bytes ">") p) (f (past_blanks s (p + 1))) nothing)) w y
    enclosed_complete p w x y (inl (e, h)) there =
        let whole : drop p s ≡ bytes "/>" ++ y = rw e at there in
        record {
          place = p + 2;
          reads = rw (literal_there s p (bytes "/>") y whole, empty w h);
          left = behind s p (bytes "/>") y whole;
        }
    enclosed_complete p w x y (inr (a, x₁, e, h, (b, x₂, g, blank, (c, x₃, k, is, (m, x₄, n, o, (t, u, z, i, j)))))) there =
        let rest = c ++ (closing name ++ y) in
        let bytes_are : x ≡ bytes ">" ++ (b ++ (c ++ closing name)) = rw (e, h, g, k, n, o, z, i, j) in
        let whole : drop p s ≡ bytes ">" ++ (b ++ rest) =
        cut (bytes ">") (b ++ (c ++ closing name)) y there bytes_are ∙ ap (λ r. bytes ">" ++ r) (regroup b c (closing name) y) in
        let no_end : literal_at s (bytes "/>") p ≡ false = rw whole (not_empty (b ++ rest)) in
        let past = past_there s (p + 1) b rest (behind s p (bytes ">") (b ++ rest) whole) blank (solid w c y is) in
        rw (no_end, literal_there s p (bytes ">") (b ++ rest) whole) (each (past_blanks s (p + 1)) w c y is past)

  pub childless_complete : (name : String) (p : ℕ) (x y : List ℕ) → Enclosed name (λ z. z ≡ []) x → drop p s ≡ x ++ y
      → Leaves s (childless_at s name p) tt y
  unfolding childless_at
  childless_complete name p x y w there =
      enclosed_complete name (λ u z. z ≡ []) tt (end_at s (closing name)) (λ u h. refl)
      (λ u z t e. rw e (solid_stops (closing name) t (closing_solid name)))
      (λ q u z t e i.
      let whole : drop q s ≡ closing name ++ t = rw e at i in
      record {
        place = q + length (closing name);
        reads = rw (literal_there s q (closing name) t whole);
        left = behind s q (closing name) t whole;
      })
      p tt x y w there

  module _ {A : Type 0} (r : ℕ → Reading A) (P : A → List ℕ → Type 0) (opens : List ℕ) (solid : begins_solid opens ≡ true)
      (begins : (v : A) (x : List ℕ) → P v x → Begins opens x)
      (each : (q : ℕ) (w : A) (x y : List ℕ) → P w x → drop q s ≡ x ++ y → Leaves s (r q) w y) where
    pub many_complete : (close : List ℕ) → begins_solid close ≡ true → apart close opens ≡ true → (m p : ℕ) (vs : List A) (x y : List ℕ)
        → length vs < m → Many P vs x → drop p s ≡ x ++ (close ++ y) → Leaves s (many_at s r close m p) vs y
    unfolding many_at
    many_complete close ends other zero p vs x y enough w there = absurd (omega arith)
    many_complete close ends other (suc m) p [] x y enough w there =
        let whole : drop p s ≡ close ++ y = rw w at there in
        record {
          place = p + length close;
          reads = rw (literal_there s p close y whole);
          left = behind s p close y whole;
        }
    many_complete close ends other (suc m) p (v ∷ vs) x y enough (a, b, e, h, (c, d, f, blank, w)) there =
        let rest = close ++ y in
        let here = cut a b rest there e in
        let (z, g) = begins_before opens a (b ++ rest) (begins v a h) in
        let more : literal_at s close p ≡ false = rw (here ∙ g) (apart_starts close (opens ++ z) (apart_append close opens z other)) in
        rw more (leaves_next _ (each p v a (b ++ rest) h here) (λ q i.
        let stops = many_stops P opens solid begins vs d rest w (solid_stops close y ends) in
        let past = past_there s q c (d ++ rest) (cut c d rest i f) blank stops in
        leaves_with (λ us. v ∷ us) (many_complete close ends other m (past_blanks s q) vs d y (omega arith) w past)))

    none_there : (vs : List A) → Many P vs [] → [] ≡ vs
    none_there [] w = refl
    none_there (v ∷ vs) w = absurd (omega (arith, many_long P opens solid begins (v ∷ vs) [] w))

    pub children_complete : (name : String) → apart opens (bytes "</") ≡ true → (p : ℕ) (vs : List A) (x y : List ℕ)
        → Enclosed name (Many P vs) x → drop p s ≡ x ++ y → Leaves s (children_at s r name p) vs y
    unfolding children_at
    children_complete name other =
        enclosed_complete name (Many P) [] (many_at s r (closing name) (suc (length s))) none_there
        (λ vs x y w. many_stops P opens solid begins vs x (closing name ++ y) w (solid_stops (closing name) y (closing_solid name)))
        (λ q vs x y w there.
        let long = many_long P opens solid begins vs x w in
        let fits = room s q x (closing name ++ y) there in
        many_complete (closing name) (closing_solid name)
        (apart_sym opens (closing name) (apart_append opens (bytes "</") (bytes name ++ bytes ">") other))
        (suc (length s)) q vs x y (omega arith) w there)

  pub element_leaves : (e : Element) (p : ℕ) (v : Value e) (x y : List ℕ) → readable e ≡ true → Written e v x → drop p s ≡ x ++ y
      → Leaves s (element_at s e p) v y
  unfolding element_at readable
  element_leaves (leaf n l) p v x y ok (a, b, e, h, i) there =
      leaves_next _ (tag_complete n l p v a (b ++ y) ok h (cut a b y there e) (enclosed_stops n (λ z. z ≡ []) b y i))
      (λ q g. leaves_with (λ u. v) (childless_complete n q b y i g))
  element_leaves (holding n l c) p (v, vs) x y ok (a, b, e, h, i) there =
      let All_three = (and-eq-true_iff (attributes_readable l) (apart (opening (name_of c)) (bytes "</") && readable c)).0 ok in
      let both = (and-eq-true_iff (apart (opening (name_of c)) (bytes "</")) (readable c)).0 All_three.1 in
      leaves_next _ (tag_complete n l p v a (b ++ y) All_three.0 h (cut a b y there e) (enclosed_stops n (Many (Written c) vs) b y i))
      (λ q g. leaves_with (λ us. (v, us))
      (children_complete (element_at s c) (Written c) (opening (name_of c)) (opening_solid (name_of c)) (written_opens c)
      (λ k w z t. element_leaves c k w z t both.1) n both.0 q vs b y i g))

pub element_complete : (s : List ℕ) (e : Element) (p : ℕ) (v : Value e) (x y : List ℕ) → readable e ≡ true → Written e v x
    → drop p s ≡ x ++ y → (n : ℕ) × (element_at s e p ≡ up_to v n) × (drop n s ≡ y)
element_complete s e p v x y ok w there =
    let a = element_leaves s e p v x y ok w there in
    (a.place, a.reads, a.left)
