-- A whole element by its start tag: its own entries, then those of what it holds, and its count beside their number.
use Prim.Native.String.{String}
use Rattle.std.specs.Prelude.{◌≡◌, ◌&&◌, ◌++◌}
use Rattle.integers.specs.Basics.{ℕ, refl, ◌∙◌, sym, ap, subst, Bool, true, List, None, Some, Option, eqb, length}
use Rattle.grammar.specs.Bytes.{all}
use Rattle.grammar.specs.Grammar.{Attribute, Element, holding, Values, Value}
use Rattle.grammar.specs.Reader.{Reading, nothing, up_to, with, tag_at, children_at, element_at}
use Rattle.grammar.specs.Found.{found}
use Rattle.grammar.specs.declared.tags.Inside.{Inside}
use Rattle.grammar.specs.Inside.{inside_at}
use Rattle.grammar.specs.Place.{Place, place}
use Rattle.grammar.proofs.Handed.{found_some}
use Rattle.memory_soundness.specs.SoundMemory.{SoundMemory}
use Rattle.memory_loading.specs.declared.progress.Progress.{Progress}
use Rattle.memory_loading.specs.Entries.{Entry, entries_of}
use Rattle.memory_loading.specs.Passing.{Kept, Passed, ElementRead, ChildrenRead}
use Rattle.memory_loading.proofs.Passes.{kept_self, kept_on, passed_on}
use Rattle.memory_loading.proofs.HeldElements.{children_inside}

-- what code hands on of a reading r of bytes s, made by g of what is read
module _ {A T : Type 0} (s : List ℕ) (g : A → T) where
  not_found : (r : Reading A) → found s (with g r) ≡ None → r ≡ nothing
  not_found nothing e = refl
  not_found (up_to v n) e = absurd (let some : Some (g v, place s n) ≡ None = e in cc)

  was_found : (r : Reading A) {x : T × Place} → found s (with g r) ≡ Some x → (v : A) × (found s r ≡ Some (v, x.1)) × (g v ≡ x.0)
  was_found nothing {x} e = absurd (let none : None ≡ Some x = e in cc)
  was_found (up_to v n) {x} e =
      let same : (g v, place s n) ≡ x = cc in
      (v, ap (λ (y : T × Place). Some (v, y.1)) same, ap (λ (y : T × Place). y.0) same)

-- ---- an element that holds no others
module _ (p : Place) (e : Element) {T : Type 0} (g : Value e → T) {r : Option (T × Place)}
    (read : r ≡ found p.bytes (with g (element_at p.bytes e p.at))) {m : List ℕ} where
  pub leaf_missing : SoundMemory m → r ≡ None → (element_at p.bytes e p.at ≡ nothing) × Kept m m
  leaf_missing sound none = (not_found p.bytes g (element_at p.bytes e p.at) (sym read ∙ none), kept_self sound)

  pub leaf_read : (entered : T → List Entry) {j : Progress} {x : T × Place} → r ≡ Some x → (n : List ℕ) (k : Progress)
      → Passed m (entered x.0) true j n k → ElementRead e (λ v. entered (g v)) (λ v. true) p m j n (Some (k, x.1))
  leaf_read entered {j} there n k enters =
      let (v, reads, tag) = was_found p.bytes g (element_at p.bytes e p.at) (sym read ∙ there) in
      (v, reads, subst (λ t. Passed m (entered t) true j n k) (sym tag) enters)

-- ---- one that holds others, by its start tag
module _ (p : Place) (name : String) (l : List Attribute) (c : Element) {T : Type 0} (g : Values l → T) {r : Option (T × Place)}
    (read : r ≡ found p.bytes (with g (tag_at p.bytes name l p.at))) where
  pub tag_missing : {m : List ℕ} → SoundMemory m → r ≡ None → (element_at p.bytes (holding name l c) p.at ≡ nothing) × Kept m m
  unfolding element_at
  tag_missing sound none = (rw (not_found p.bytes g (tag_at p.bytes name l p.at) (sym read ∙ none)), kept_self sound)

  -- nor is it one where its tag does not end behind the attributes
  pub tag_unended : {m : List ℕ} {x : T × Place} {i : Option Inside} → SoundMemory m → r ≡ Some x → i ≡ inside_at x.1.bytes x.1.at
      → i ≡ None → (element_at p.bytes (holding name l c) p.at ≡ nothing) × Kept m m
  unfolding element_at
  tag_unended {x = x} sound there is none =
      let (v, reads, tag) = was_found p.bytes g (tag_at p.bytes name l p.at) (sym read ∙ there) in
      let (up, same) = found_some p.bytes (tag_at p.bytes name l p.at) reads in
      let ends : None ≡ inside_at p.bytes x.1.at = sym none ∙ rw same at is in
      (rw (up, children_inside p.bytes (element_at p.bytes c) name x.1.at ends), kept_self sound)

  module _ (entered : T → List Entry) (below : T → Value c → List Entry) (said : T → ℕ) (counts : Value c → Bool) where
    abbrev pub WholeRead : List ℕ → Progress → List ℕ → Option (Progress × Place) → Type 0
    WholeRead =
        ElementRead (holding name l c) (λ v. entered (g v.0) ++ entries_of (below (g v.0)) v.1)
        (λ v. eqb (said (g v.0)) (length v.1) && all counts v.1) p

    pub tag_read : {m : List ℕ} {j : Progress} {x : T × Place} → r ≡ Some x → (n : List ℕ) (k : Progress) → Passed m
        (entered x.0) true j n k
        → (o : List ℕ) (a : Option (Progress × Place)) → ChildrenRead c (below x.0) counts name (said x.0) x.1 n k o a
        → WholeRead m j o a
    unfolding element_at
    tag_read {m} {j} {x} there n k enters o a held =
        let (v, reads, tag) = was_found p.bytes g (tag_at p.bytes name l p.at) (sym read ∙ there) in
        let (is, same) = found_some p.bytes (tag_at p.bytes name l p.at) reads in
        by v is a (rw tag enters) (rw (tag, ← same) held)
      where
        by : (v : Values l) → tag_at p.bytes name l p.at ≡ up_to v x.1.at → (a : Option (Progress × Place))
            → Passed m (entered (g v)) true j n k
            → ChildrenRead c (below (g v)) counts name (said (g v)) (place p.bytes x.1.at) n k o a → WholeRead m j o a
        by v reads None enters (none, kept) = (rw (reads, none), kept_on enters.kept kept)
        by v reads (Some (y, q)) enters (vs, held, passed) =
            let (is, same) = found_some p.bytes (children_at p.bytes (element_at p.bytes c) name x.1.at) held in
            ((v, vs), rw (reads, is, ← same), passed_on enters passed)
