-- One who reads attribute after attribute with no branch, and asks what stands behind the last alone, finds what the reader finds.
use Prim.Native.String.{String}
use Rattle.std.specs.Prelude.{◌+◌, ◌≡◌, ◌∷◌, ◌&&◌}
use Rattle.integers.specs.Basics.{ℕ, refl, ◌∙◌, sym, true, false, false≢true, cond, List, [], Option, None, Some}
use Rattle.integers.specs.Basics.{length, drop, eqb, arith, eqb-true, ltb, ltb-true}
use mathlib.Core.Bool.{and-eq-true_iff}
use Rattle.grammar.specs.Bytes.{bytes, is_blank}
use Rattle.grammar.specs.Grammar.{Attribute, number, text, together, Numbers, Values}
use Rattle.grammar.specs.Reader.{Reading, nothing, up_to, next, with, literal_at, past_blanks, opened, opening_at, number_at, text_at}
use Rattle.grammar.specs.Reader.{numbers_at, or_none, attributes_at, opening, tag_at}
use Rattle.grammar.specs.Readable.{apart, begins_solid, names_solid, told, attributes_readable}
use Rattle.grammar.specs.Ends.{end_of, number_of}
use Rattle.grammar.specs.Inside.{inside_at}
use Rattle.grammar.proofs.Tests.{by_test}
use Rattle.grammar.proofs.Starts.{starts_split, apart_sym, apart_append, apart_starts}
use Rattle.grammar.proofs.Spans.{all_nil, solid_stops, past_append}
use Rattle.grammar.proofs.Readings.{by_reading, read_both, read_next}
use Rattle.grammar.proofs.Within.{numbers_within}
use Rattle.grammar.proofs.Ends.{number_at_end, text_at_end, inside_at_end}

-- ---- what is made of a reading and its end; z where nothing is read
module _ {X : Type 0} (z : X) where
  abbrev pub found_or : {A : Type 0} → (A → ℕ → X) → Reading A → X
  found_or k nothing = z
  found_or k (up_to v n) = k v n

  found_with : {A B : Type 0} (g : A → B) (k : B → ℕ → X) (r : Reading A) → found_or (λ v. k (g v)) r ≡ found_or k (with g r)
  found_with g k nothing = refl
  found_with g k (up_to v n) = refl

-- numbers of which all are there or none, and the place behind them, in a file that ends at e: none where the file ends with them
abbrev pub numbers_or : {A : Type 0} → ℕ → Reading A → Option A
numbers_or e nothing = None
numbers_or e (up_to v n) = cond (eqb n e) None (Some v)

abbrev pub place_or : {A : Type 0} → ℕ → ℕ → Reading A → ℕ
place_or e p nothing = p
place_or e p (up_to v n) = cond (eqb n e) p n

place_at_end : {A : Type 0} (r : Reading A) (e : ℕ) → ((v : A) (n : ℕ) → r ≡ up_to v n → n ≡ e) → place_or e e r ≡ e
place_at_end nothing e each = refl
place_at_end (up_to v n) e each = by_test (eqb n e) (λ t. rw t) (λ t. rw t (each v n refl))

module _ (s : List ℕ) where
  -- ---- where a name stands no other does, nor a tag's end
  module _ (l : List ℕ) (p : ℕ) {n : ℕ} (there : opening_at s l p ≡ up_to tt n) where
    other_opening : (m : List ℕ) → apart l m ≡ true → opening_at s m p ≡ nothing
    unfolding opening_at
    other_opening m other =
        let q = past_blanks s p in
        let r = read_both (ltb p q) (literal_at s l q) _ _ there in
        let differs = apart_append m l (drop (length l) (drop q s)) (apart_sym l m other) in
        let none : literal_at s m q ≡ false = rw (starts_split l (drop q s) r.1) (apart_starts m _ differs) in
        rw (r.0, none)

    solid_literal : (m : List ℕ) → begins_solid m ≡ true → literal_at s m p ≡ false
    unfolding opening_at
    solid_literal m solid =
        let q = past_blanks s p in
        let r = read_both (ltb p q) (literal_at s l q) _ _ there in
        by_test (literal_at s m p)
        (λ e.
        let split = starts_split m (drop p s) e in
        let past = past_append s p [] (drop p s) refl (all_nil is_blank) (rw split (solid_stops m _ solid)) in
        absurd (omega (arith, ltb-true p q r.0)))
        (λ e. e)

  numbers_open : (n : String) (ns : List String) (p : ℕ) {v : Numbers (n ∷ ns)} {k : ℕ} → numbers_at s (n ∷ ns) p ≡ up_to v k
      → (q : ℕ) × (opening_at s (opened n) p ≡ up_to tt q)
  unfolding numbers_at number_at
  numbers_open n ns p e = let r = read_next (opening_at s (opened n) p) _ (read_next _ _ e).2 in (r.1, r.2)

  module _ (n : String) (ns : List String) (p : ℕ) {v : Numbers (n ∷ ns)} {k : ℕ} (there : numbers_at s (n ∷ ns) p ≡ up_to v k) where
    pub other_number : (m : String) → apart (opened n) (opened m) ≡ true → number_at s (opened m) p ≡ nothing
    unfolding number_at
    other_number m other = rw (other_opening (opened n) p (numbers_open n ns p there).1 (opened m) other)

    pub other_text : (m : String) → apart (opened n) (opened m) ≡ true → text_at s (opened m) p ≡ nothing
    unfolding text_at
    other_text m other = rw (other_opening (opened n) p (numbers_open n ns p there).1 (opened m) other)

    pub no_end : inside_at s p ≡ None
    unfolding inside_at begins_solid is_blank
    no_end =
        let opens = (numbers_open n ns p there).1 in
        rw (solid_literal (opened n) p opens (bytes "/>") refl, solid_literal (opened n) p opens (bytes ">") refl)

  module _ {X : Type 0} where
    -- ---- the same by places alone: each number, or each attribute, from the place behind the one before it on
    abbrev pub along : (ns : List String) → (Numbers ns → ℕ → X) → ℕ → X
    along [] k p = k tt p
    along (n ∷ ns) k p =
        let x = number_of (length s) (number_at s (opened n) p) in
        along ns (λ v. k (x.value, v)) x.next

    abbrev pub straight : (l : List Attribute) → (Values l → ℕ → X) → ℕ → X
    straight [] k p = k tt p
    straight (number n ∷ l) k p =
        let x = number_of (length s) (number_at s (opened n) p) in
        straight l (λ v. k (x.value, v)) x.next
    straight (text n ∷ l) k p = straight l k (end_of (length s) (text_at s (opened n) p))
    straight (together ns ∷ l) k p =
        let r = numbers_at s ns p in
        straight l (λ v. k (numbers_or (length s) r, v)) (place_or (length s) p r)

  module _ {X : Type 0} (z : X) where
    -- a number, and others that `more` reads: z at the end of the file, what `read` finds at any place
    behind_number : {B : Type 0} (more : (B → ℕ → X) → ℕ → X) (read : ℕ → Reading B) (k : ℕ × B → ℕ → X)
        → ((x : ℕ) → more (λ v. k (x, v)) (length s) ≡ z)
        → ((x p : ℕ) → more (λ v. k (x, v)) p ≡ found_or z (λ v. k (x, v)) (read p)) → (r : Reading ℕ)
        → more (λ v. k ((number_of (length s) r).value, v)) (number_of (length s) r).next
        ≡ found_or z k (next r (λ x q. with (λ v. (x, v)) (read q)))
    behind_number more read k end each nothing = end 0
    behind_number more read k end each (up_to x n) = each x n ∙ found_with z (λ v. (x, v)) k (read n)

    -- ---- numbers
    along_end : (ns : List String) (k : Numbers ns → ℕ → X) → ((v : Numbers ns) → k v (length s) ≡ z) → along ns k (length s) ≡ z
    along_end [] k ends = ends tt
    along_end (n ∷ ns) k ends = rw (number_at_end s (opened n)) (along_end ns _ (λ v. ends (0, v)))

    pub along_reads : (ns : List String) (k : Numbers ns → ℕ → X) → ((v : Numbers ns) → k v (length s) ≡ z) → (p : ℕ)
        → along ns k p ≡ found_or z k (numbers_at s ns p)
    unfolding numbers_at
    along_reads [] k ends p = refl
    along_reads (n ∷ ns) k ends p =
        behind_number (along ns) (numbers_at s ns) k (λ x. along_end ns _ (λ v. ends (x, v)))
        (λ x. along_reads ns _ (λ v. ends (x, v))) (number_at s (opened n) p)

    -- ---- attributes
    -- nothing is made where no start tag ends
    abbrev pub Ends : {A : Type 0} → (A → ℕ → X) → Type 0
    Ends {A} k = (v : A) (p : ℕ) → inside_at s p ≡ None → k v p ≡ z

    straight_end : (l : List Attribute) (k : Values l → ℕ → X) → Ends k → straight l k (length s) ≡ z
    straight_end [] k ends = ends tt (length s) (inside_at_end s)
    straight_end (number n ∷ l) k ends = rw (number_at_end s (opened n)) (straight_end l _ (λ v. ends (0, v)))
    straight_end (text n ∷ l) k ends = rw (text_at_end s (opened n)) (straight_end l k ends)
    straight_end (together ns ∷ l) k ends =
        rw (place_at_end (numbers_at s ns (length s)) (length s)
        (λ v n e. let b = numbers_within s ns (length s) (omega arith) e in omega arith)) (straight_end l _ (λ v. ends (_, v)))

    -- numbers that were passed over as the file ends with them: what comes behind them is not there
    straight_over : (ns : List String) (l : List Attribute) (k : Values l → ℕ → X) → Ends k → told ns l ≡ true → (p : ℕ)
        {v : Numbers ns} {n : ℕ} → numbers_at s ns p ≡ up_to v n → straight l k p ≡ z
    unfolding told
    straight_over [] l k ends tells p there = absurd (false≢true tells)
    straight_over (n ∷ ns) [] k ends tells p there = ends tt p (no_end n ns p there)
    straight_over (n ∷ ns) (number m ∷ l) k ends tells p there =
        rw (other_number n ns p there m tells) (straight_end l _ (λ v. ends (0, v)))
    straight_over (n ∷ ns) (text m ∷ l) k ends tells p there = rw (other_text n ns p there m tells) (straight_end l k ends)
    straight_over (n ∷ ns) (together ms ∷ l) k ends tells p there = absurd (false≢true tells)

    -- the rest l, behind a text, and behind numbers of which all are there or none
    module _ (l : List Attribute)
        (rest : (k : Values l → ℕ → X) → Ends k → (p : ℕ) → straight l k p ≡ found_or z k (attributes_at s l p)) where
      behind_text : (k : Values l → ℕ → X) → Ends k → (r : Reading (Unit {0}))
          → straight l k (end_of (length s) r) ≡ found_or z k (next r (λ t q. attributes_at s l q))
      behind_text k ends nothing = straight_end l k ends
      behind_text k ends (up_to x n) = rest k ends n

      behind_numbers : {A : Type 0} (k : Option A × Values l → ℕ → X) → Ends k → (p : ℕ) (r : Reading A)
          → ((x : A) (n : ℕ) → r ≡ up_to x n → (h : Values l → ℕ → X) → Ends h → straight l h p ≡ z)
          → straight l (λ v. k (numbers_or (length s) r, v)) (place_or (length s) p r)
          ≡ found_or z k (next (or_none p r) (λ x q. with (λ v. (x, v)) (attributes_at s l q)))
      behind_numbers k ends p nothing over =
          rest _ (λ v. ends (None, v)) p ∙ found_with z (λ v. (None, v)) k (attributes_at s l p)
      behind_numbers k ends p (up_to x n) over =
          let more = rest (λ v. k (Some x, v)) (λ v. ends (Some x, v)) n ∙ found_with z (λ v. (Some x, v)) k (attributes_at s l n) in
          by_test (eqb n (length s))
          (λ e.
          let last = eqb-true n (length s) e in
          rw e (over x n refl _ (λ v. ends (None, v)) ∙ sym (straight_end l (λ v. k (Some x, v)) (λ v. ends (Some x, v)))
          ∙ rw (← last) more))
          (λ e. rw e more)

    pub straight_reads : (l : List Attribute) → attributes_readable l ≡ true → (k : Values l → ℕ → X) → Ends k → (p : ℕ)
        → straight l k p ≡ found_or z k (attributes_at s l p)
    unfolding attributes_at attributes_readable
    straight_reads [] ok k ends p = refl
    straight_reads (number n ∷ l) ok k ends p =
        let both = (and-eq-true_iff (begins_solid (opened n)) (attributes_readable l)).0 ok in
        behind_number (straight l) (attributes_at s l) k (λ x. straight_end l _ (λ v. ends (x, v)))
        (λ x. straight_reads l both.1 _ (λ v. ends (x, v))) (number_at s (opened n) p)
    straight_reads (text n ∷ l) ok k ends p =
        let both = (and-eq-true_iff (begins_solid (opened n)) (attributes_readable l)).0 ok in
        behind_text l (straight_reads l both.1) k ends (text_at s (opened n) p)
    straight_reads (together ns ∷ l) ok k ends p =
        let All_three = (and-eq-true_iff (names_solid ns) (told ns l && attributes_readable l)).0 ok in
        let both = (and-eq-true_iff (told ns l) (attributes_readable l)).0 All_three.1 in
        behind_numbers l (straight_reads l both.1) k ends p (numbers_at s ns p)
        (λ x n there h stops. straight_over ns l h stops both.0 p there)

    -- and a tag's name before them
    pub tag_reads : (name : String) (l : List Attribute) → attributes_readable l ≡ true → (k : Values l → ℕ → X) → Ends k → (p : ℕ)
        → straight l k (cond (literal_at s (opening name) p) (p + length (opening name)) (length s)) ≡ found_or z k (tag_at s name l p)
    unfolding tag_at
    tag_reads name l ok k ends p =
        by_test (literal_at s (opening name) p) (λ e. rw e (straight_reads l ok k ends (p + length (opening name))))
        (λ e. rw e (straight_end l k ends))

    -- whatever is made of the tag, if it is z where there is none
    pub tag_made : (name : String) (l : List Attribute) → attributes_readable l ≡ true → (k : Values l → ℕ → X) → Ends k
        → (p : ℕ) (made : X)
        → (tag_at s name l p ≡ nothing → z ≡ made) → ((v : Values l) (n : ℕ) → tag_at s name l p ≡ up_to v n → k v n ≡ made)
        → straight l k (cond (literal_at s (opening name) p) (p + length (opening name)) (length s)) ≡ made
    tag_made name l ok k ends p made absent there =
        tag_reads name l ok k ends p
        ∙ by_reading (tag_at s name l p) (λ e. rw e (absent e)) (λ v n e. rw e (there v n e))
