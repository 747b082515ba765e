-- The elements that another holds, read one after the other: how far a loop has come, and each of its ways on.
use Prim.Native.String.{String}
use Rattle.std.specs.Prelude.{◌+◌, ◌-◌, ◌≤◌, ◌<◌, ◌≡◌, ◌&&◌, ◌∷◌, ◌++◌}
use Rattle.integers.specs.Basics.{ℕ, suc, refl, ◌∙◌, sym, ap, subst, Bool, true, false, cond, List, [], Option, None, Some, eqb}
use Rattle.integers.specs.Basics.{length, drop, arith}
use lib.ListN.{length-append, length-drop}
use mathlib.Core.List.{append_assoc, append-nil}
use Rattle.grammar.specs.Grammar.{Element, Value}
use Rattle.grammar.specs.Reader.{Reading, nothing, up_to, with, literal_at, past_blanks, many_at, children_at, closing, element_at}
use Rattle.grammar.proofs.Spans.{past_least, past_within}
use Rattle.grammar.proofs.Starts.{literal_stands, literal_missing, starts_within}
use Rattle.grammar.proofs.Within.{element_within}
use Rattle.memory_soundness.specs.SoundMemory.{SoundMemory}
use Rattle.memory_loading.specs.declared.progress.Progress.{Progress}
use Rattle.grammar.specs.Place.{Place, place}
use Rattle.grammar.specs.declared.tags.Inside.{Inside}
use Rattle.grammar.specs.declared.tags.Inside.TheVariants.{Closed, Holds}
use Rattle.grammar.specs.Inside.{inside_at}
use Rattle.grammar.specs.Found.{past_literal}
use Rattle.grammar.proofs.Handed.{found_some, found_up}
use Rattle.grammar.proofs.Tests.{by_test}
use Rattle.grammar.specs.Bytes.{bytes, all}
use Rattle.memory_loading.specs.Entries.{Entry, entries_of}
use Rattle.memory_loading.specs.Passing.{with_count, Passed, ElementRead, ChildrenRead}
use Rattle.memory_loading.proofs.Passes.{and_true, all_append, kept_self, kept_on, passed_none, passed_on, passed_counted}

entries_append : {A : Type 0} (f : A → List Entry) (xs ys : List A) → entries_of f (xs ++ ys) ≡ entries_of f xs ++ entries_of f ys
unfolding entries_of
entries_append f [] ys = refl
entries_append f (x ∷ xs) ys =
    ap (λ l. f x ++ l) (entries_append f xs ys) ∙ sym (append_assoc (f x) (entries_of f xs) (entries_of f ys))

-- one element more
entries_one : {A : Type 0} (f : A → List Entry) (xs : List A) (v : A) → entries_of f (xs ++ (v ∷ [])) ≡ entries_of f xs ++ f v
unfolding entries_of
entries_one f xs v = entries_append f xs (v ∷ []) ∙ ap (λ l. entries_of f xs ++ l) (append-nil (f v))

all_one : {A : Type 0} (c : A → Bool) (xs : List A) (v : A) → all c (xs ++ (v ∷ [])) ≡ (all c xs && c v)
unfolding all
all_one c xs v = all_append c xs (v ∷ []) ∙ ap (λ b. all c xs && b) (sym (and_true (c v)))

-- ---- one step of the reader of children
module _ {A : Type 0} (s : List ℕ) (r : ℕ → Reading A) (close : List ℕ) (n p : ℕ) where
  many_done : literal_at s close p ≡ true → many_at s r close (suc n) p ≡ up_to [] (p + length close)
  unfolding many_at
  many_done t = rw t

  many_stuck : literal_at s close p ≡ false → r p ≡ nothing → many_at s r close (suc n) p ≡ nothing
  unfolding many_at
  many_stuck t h = rw (t, h)

  many_more : {v : A} {q : ℕ} → literal_at s close p ≡ false → r p ≡ up_to v q
      → many_at s r close (suc n) p ≡ with (λ vs. v ∷ vs) (many_at s r close n (past_blanks s q))
  unfolding many_at
  many_more t h = rw (t, h)

with_with : {A B C : Type 0} (f : B → C) (g : A → B) (r : Reading A) → with f (with g r) ≡ with (λ x. f (g x)) r
with_with f g nothing = refl
with_with f g (up_to v n) = refl

with_itself : {A : Type 0} (r : Reading A) → r ≡ with (λ x. x) r
with_itself nothing = refl
with_itself (up_to v n) = refl

with_same : {A B : Type 0} (f g : A → B) → ((x : A) → f x ≡ g x) → (r : Reading A) → with f r ≡ with g r
with_same f g same nothing = refl
with_same f g same (up_to v n) = ap (λ x. up_to x n) (same v)

-- what an element holds, by how it goes on behind its attributes
module _ {A : Type 0} (s : List ℕ) (r : ℕ → Reading A) (name : String) where
  abbrev children_from : Option Inside → Reading (List A)
  children_from None = nothing
  children_from (Some (Closed q)) = up_to [] q.at
  children_from (Some (Holds q)) = many_at s r (closing name) (suc (length s)) q.at

  by_two : {X : Type 0} (f : Option Inside → X) (b d : Bool) (x y z : Option Inside)
      → cond b (f x) (cond d (f y) (f z)) ≡ f (cond b x (cond d y z))
  by_two f true d x y z = refl
  by_two f false true x y z = refl
  by_two f false false x y z = refl

  pub children_inside : (p : ℕ) {i : Option Inside} → i ≡ inside_at s p → children_at s r name p ≡ children_from i
  unfolding children_at inside_at
  children_inside p is =
      rw is (by_two children_from (literal_at s (bytes "/>") p) (literal_at s (bytes ">") p) (Some (Closed (place s (p + 2)))) (Some (Holds
      (place s (past_blanks s (p + 1))))) None)

-- n of them at most, from place p on
abbrev read_many : (s : List ℕ) (e : Element) → String → ℕ → ℕ → Reading (List (Value e))
read_many s e name n p = many_at s (element_at s e) (closing name) n p

-- it goes on in the same bytes
abbrev bytes_in : List ℕ → Option Inside → List ℕ
bytes_in s None = s
bytes_in s (Some (Closed q)) = q.bytes
bytes_in s (Some (Holds q)) = q.bytes

inside_bytes : (s : List ℕ) (p : ℕ) {i : Option Inside} → i ≡ inside_at s p → bytes_in s i ≡ s
unfolding inside_at
inside_bytes s p is =
    rw is
    (by_test (literal_at s (bytes "/>") p) (λ t. rw t) (λ t. by_test (literal_at s (bytes ">") p) (λ d. rw (t, d)) (λ d. rw (t, d))))

-- and where it holds others, from a place of theirs on
first_within : (s : List ℕ) (p : ℕ) {q : Place} → Some (Holds q) ≡ inside_at s p → q.at ≤ length s
unfolding inside_at
first_within s p {q} e =
    by_test (literal_at s (bytes "/>") p)
    (λ t. absurd (let closed : Some (Holds q) ≡ Some (Closed (place s (p + 2))) = rw t at e in cc))
    (λ t. by_test (literal_at s (bytes ">") p)
    (λ d.
    let holds : Some (Holds q) ≡ Some (Holds (place s (past_blanks s (p + 1)))) = rw (t, d) at e in
    let same : q ≡ place s (past_blanks s (p + 1)) = cc in
    rw same (past_within s (p + 1) (omega (arith, starts_within (bytes ">") (drop p s) d, length-drop p s))))
    (λ d. absurd (let none : Some (Holds q) ≡ None = rw (t, d) at e in cc)))

module _ (e : Element) (f : Value e → List Entry) (c : Value e → Bool) (name : String) where
  -- from behind the attributes at `at` on, at memory m and progress j, a loop has come to place p, with n elements, at memory o and
  -- progress k
  pub record Held (at : Place) (m : List ℕ) (j : Progress) (p : Place) (n : ℕ) (o : List ℕ) (k : Progress) : Type 0 where
    pub elements : List (Value e)
    pub left : ℕ
    pub same : p.bytes ≡ at.bytes
    pub place : p.at ≤ length at.bytes
    pub count : n ≡ length elements
    pub few : n ≤ p.at
    pub enough : length at.bytes < p.at + left
    pub rest :
        children_at at.bytes (element_at at.bytes e) name at.at ≡ with (λ vs. elements ++ vs) (read_many at.bytes e name left p.at)
    pub passed : Passed m (entries_of f elements) (all c elements) j o k

  module _ (at : Place) {m : List ℕ} (j : Progress) (sound : SoundMemory m) {i : Option Inside} (is : i ≡ inside_at at.bytes at.at) where
    holds : {g : Option Inside} → i ≡ g → children_at at.bytes (element_at at.bytes e) name at.at
        ≡ children_from at.bytes (element_at at.bytes e) name g
    holds d = children_inside at.bytes (element_at at.bytes e) name at.at (sym d ∙ is)

    -- there are none, or nothing that can be read
    pub held_nothing : (said : ℕ) → i ≡ None → ChildrenRead e f c name said at m j m None
    held_nothing said none = (holds none, kept_self sound)

    pub held_closed : (said : ℕ) {q : Place} → i ≡ Some (Closed q)
        → ChildrenRead e f c name said at m j m (Some (with_count j (eqb said 0), q))
    unfolding entries_of all
    held_closed said {q} closed = (
      [],
      found_up at.bytes (holds closed) (inside_bytes at.bytes at.at (sym closed ∙ is)),
      passed_counted (passed_none sound) (eqb said 0),
    )

    -- they begin at place p
    pub held_none : {p : Place} → i ≡ Some (Holds p) → Held at m j p 0 m j
    unfolding entries_of all
    held_none {p = p} begin =
        record {
          elements = [];
          left = suc (length at.bytes);
          same = inside_bytes at.bytes at.at (sym begin ∙ is);
          place = first_within at.bytes at.at (sym begin ∙ is);
          count = refl;
          few = omega arith;
          enough = omega arith;
          rest = holds begin ∙ with_itself (read_many at.bytes e name (suc (length at.bytes)) p.at);
          passed = passed_none sound;
        }

module _ {e : Element} {f : Value e → List Entry} {c : Value e → Bool} {name : String} {at : Place} {m : List ℕ} {j : Progress}
    {p : Place} {n : ℕ} {o : List ℕ} {k : Progress} (h : Held e f c name at m j p n o k) where
  abbrev s : List ℕ
  s = at.bytes

  -- a turn more is left
  turn : read_many s e name h.left p.at ≡ read_many s e name (suc (h.left - 1)) p.at
  turn =
      let place = h.place in
      let enough = h.enough in
      let more : h.left ≡ suc (h.left - 1) = omega arith in
      ap (λ l. read_many s e name l p.at) more

  -- all of them by what is read from here
  whole : {r : Reading (List (Value e))} → read_many s e name (suc (h.left - 1)) p.at ≡ r
      → children_at s (element_at s e) name at.at ≡ with (λ vs. h.elements ++ vs) r
  whole is = h.rest ∙ ap (with (λ vs. h.elements ++ vs)) (turn ∙ is)

  -- the end tag l was looked for here
  module _ {l : List ℕ} (tag : l ≡ closing name) {b : Option Place} (looked : b ≡ past_literal p.bytes l p.at) where
    told : b ≡ past_literal s (closing name) p.at
    told = looked ∙ ap (λ l. past_literal p.bytes l p.at) tag ∙ ap (λ a. past_literal a (closing name) p.at) h.same

    pub held_done : (said : ℕ) {q : Place} → b ≡ Some q → ChildrenRead e f c name said at m j o (Some (with_count k (eqb said n), q))
    held_done said {q} ends =
        let (there, place) = literal_stands s (closing name) p.at (sym told ∙ ends) in (
          h.elements,
          found_up s (whole (many_done s (element_at s e) (closing name) (h.left - 1) p.at there)
              ∙ ap (λ vs. up_to vs (p.at + length (closing name))) (append-nil h.elements)
              ∙ ap (λ (a : Place). up_to h.elements a.at) place) (sym (ap (λ (a : Place). a.bytes) place)),
          rw (← h.count) (passed_counted h.passed (eqb said n)),
        )

    -- an element is read here, or none
    module _ (goes_on : b ≡ None) (o' : List ℕ) (r : Option (Progress × Place)) (read : ElementRead e f c p o k o' r) where
      absent : literal_at s (closing name) p.at ≡ false
      absent = literal_missing s (closing name) p.at (sym told ∙ goes_on)

      reads : {g : Option (Progress × Place)} → r ≡ g → ElementRead e f c (place s p.at) o k o' g
      reads {g} d = subst (λ a. ElementRead e f c (place a p.at) o k o' g) h.same (subst (ElementRead e f c p o k o') d read)

      pub held_stuck : (said : ℕ) → r ≡ None → ChildrenRead e f c name said at m j o' None
      held_stuck said d =
          let none = reads d in (
            whole (many_stuck s (element_at s e) (closing name) (h.left - 1) p.at absent none.0),
            kept_on h.passed.kept none.1,
          )

      module _ {x : Progress × Place} (d : r ≡ Some x) where
        found_there : (element_at s e p.at ≡ up_to (reads d).0 x.1.at) × (x.1.bytes ≡ s)
        found_there = found_some s (element_at s e p.at) (reads d).1

        behind : (p.at < x.1.at) × (x.1.at ≤ length s)
        behind = element_within s e p.at h.place found_there.0

        module _ {p' : Place} (past : p' ≡ place x.1.bytes (past_blanks x.1.bytes x.1.at)) where
          after : p'.at ≡ past_blanks s x.1.at
          after = ap (λ (a : Place). a.at) past ∙ ap (λ a. past_blanks a x.1.at) found_there.1

          pub held_on : (p.at < p'.at) × (p.at < length s)
          held_on = (omega (arith, behind.0, after, past_least s x.1.at), omega (arith, behind.0, behind.1))

          pub held_more : Held e f c name at m j p' (n + 1) o' x.0
          held_more =
              let one = reads d in
              let v = one.0 in
              let enough = h.enough in
              let few = h.few in
              let inside = h.place in
              let count = h.count in
              let on = held_on in
              record {
                elements = h.elements ++ (v ∷ []);
                left = h.left - 1;
                same = ap (λ (a : Place). a.bytes) past ∙ found_there.1;
                place = subst (λ a. a ≤ length s) (sym after) (past_within s x.1.at behind.1);
                count = ap (λ a. a + 1) count ∙ sym (length-append h.elements (v ∷ []));
                few = omega arith;
                enough = omega arith;
                rest =
                    whole (many_more s (element_at s e) (closing name) (h.left - 1) p.at absent found_there.0)
                    ∙ ap (λ a. with (λ vs. h.elements ++ vs) (with (λ vs. v ∷ vs) (read_many s e name (h.left - 1) a))) (sym after)
                    ∙ with_with (λ vs. h.elements ++ vs) (λ vs. v ∷ vs) (read_many s e name (h.left - 1) p'.at)
                    ∙ with_same (λ vs. h.elements ++ (v ∷ vs)) (λ vs. (h.elements ++ (v ∷ [])) ++ vs)
                    (λ vs. sym (append_assoc h.elements (v ∷ []) vs)) (read_many s e name (h.left - 1) p'.at);
                passed =
                    subst (λ es. Passed m es (all c (h.elements ++ (v ∷ []))) j o' x.0) (sym (entries_one f h.elements v))
                    (subst (λ b. Passed m (entries_of f h.elements ++ f v) b j o' x.0) (sym (all_one c h.elements v))
                    (passed_on h.passed one.2));
              }
