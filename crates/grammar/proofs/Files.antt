-- A file is read as what it is, and is one thing at most.
use Rattle.std.specs.Prelude.{◌≤◌, ◌≡◌, ◌⊎◌, ◌↔◌, ◌&&◌, ◌∷◌, ◌++◌}
use Rattle.integers.specs.Basics.{ℕ, refl, ◌∙◌, sym, ap, subst, inl, inr, true, false, true≢false, false≢true}
use Rattle.integers.specs.Basics.{List, [], Some, eqb, length, drop, arith, not-true, eqb-true, eq-eqb, ne_eqb}
use mathlib.Core.Bool.{and-eq-true_iff}
use mathlib.Core.List.{append-nil}
use lib.ListN.{length-drop}
use lib.Seq.{drop-append_seam, drop-length}
use native.Mathlib.Nat.{zero-add}
use Rattle.grammar.specs.Bytes.{bytes, is_blank, Literal, Each}
use Rattle.grammar.specs.Grammar.{Value}
use Rattle.grammar.specs.Reader.{Reading, nothing, up_to, starts, literal_at}
use Rattle.grammar.specs.Readable.{apart, begins_solid, readable}
use Rattle.grammar.specs.Document.{Document, root_opens, File, file_starts, document_at, file_of, document_readable}
use Rattle.grammar.proofs.Tests.{by_test}
use Rattle.grammar.proofs.Spans.{all_cons}
use Rattle.grammar.proofs.Starts.{apart_append, apart_starts, starts_within}
use Rattle.grammar.proofs.Standing.{Stands, stands_as, stands_then, stands_nothing, stands_literal}
use Rattle.grammar.proofs.Leaving.{literal_there}
use Rattle.grammar.proofs.Roots.{Root, root_sound, root_within, root_complete}

-- another beginning, behind blanks or none
blank_apart : (l m b y : List ℕ) → begins_solid l ≡ true → apart l m ≡ true → Each is_blank b → starts l (b ++ (m ++ y)) ≡ false
unfolding begins_solid starts
blank_apart l m [] y solid other blank = apart_starts l (m ++ y) (apart_append l m y other)
blank_apart [] m (c ∷ b) y solid other blank = absurd (false≢true solid)
blank_apart (a ∷ l) m (c ∷ b) y solid other blank =
    let first = (all_cons is_blank c b blank).0 in
    rw (ne_eqb a c (λ e. true≢false (sym first ∙ ap is_blank (sym e) ∙ not-true (is_blank a) solid)))

module _ (d : Document) where
  readable_parts : document_readable d ≡ true → (begins_solid (bytes d.declaration) ≡ true)
      × (apart (bytes d.declaration) (root_opens d) ≡ true) × (readable d.element ≡ true)
  unfolding document_readable
  readable_parts ok =
      let l = bytes d.declaration in
      let a = (and-eq-true_iff (begins_solid (root_opens d)) _).0 ok in
      let b = (and-eq-true_iff (begins_solid l) (apart l (root_opens d) && readable d.element)).0 a.1 in
      let c = (and-eq-true_iff (apart l (root_opens d)) (readable d.element)).0 b.1 in
      (b.0, c.0, c.1)

  module _ (s : List ℕ) where
    -- ---- the declaration
    declared_sound : Stands s 0 (file_starts d s) (λ x. (x ≡ []) ⊎ Literal d.declaration x)
    declared_sound =
        let l = bytes d.declaration in
        by_test (literal_at s l 0)
        (λ e. rw e (rw (← zero-add (length l)) (stands_as (λ x t. inr t) (stands_literal s 0 l e))))
        (λ e. rw e (stands_as (λ x t. inl t) (stands_nothing s 0)))

    declared_within : file_starts d s ≤ length s
    declared_within =
        let l = bytes d.declaration in
        by_test (literal_at s l 0) (λ e. rw e (starts_within l s e)) (λ e. rw e (omega arith))

    declared_complete : (a x : List ℕ) (v : Value d.element) → document_readable d ≡ true → s ≡ a ++ x
        → (a ≡ []) ⊎ Literal d.declaration a → Root d v x → drop (file_starts d s) s ≡ x
    declared_complete a x v ok e (inl nothing-there) (b, x₁, f, blank, (o, x₂, g, opens, rest)) =
        let l = bytes d.declaration in
        let whole : s ≡ x = e ∙ rw nothing-there in
        let begins : s ≡ b ++ (root_opens d ++ x₂) = whole ∙ rw (f, g, opens) in
        let parts = readable_parts ok in
        let none_there : literal_at s l 0 ≡ false = rw begins (blank_apart l (root_opens d) b x₂ parts.0 parts.1 blank) in
        rw none_there whole
    declared_complete a x v ok e (inr is) w =
        let l = bytes d.declaration in
        let whole : s ≡ l ++ x = rw (e, is) in
        rw (literal_there s 0 l x whole) (rw whole (drop-append_seam l x))

    -- ---- all of a file
    pub document_sound : {v : Value d.element} {n : ℕ} → document_at d s ≡ up_to v n → Stands s 0 n (File d v)
    unfolding document_at
    document_sound e = stands_then declared_sound (root_sound d s (file_starts d s) e)

    pub document_complete : (v : Value d.element) → document_readable d ≡ true → File d v s → document_at d s ≡ up_to v (length s)
    unfolding document_at
    document_complete v ok (a, x, e, is, w) =
        let found = root_complete d s (file_starts d s) v x (readable_parts ok).2 w (declared_complete a x v ok e is w) in
        let n = found.place in
        let within : n ≤ length s = root_within d s (file_starts d s) declared_within found.reads in
        let whole : n ≡ length s = omega (arith, ap length found.left, length-drop n s) in
        found.reads ∙ ap (up_to v) whole

    -- it is read where all of it is
    pub file_all : (v : Value d.element) → (file_of d s ≡ Some v) ↔ (document_at d s ≡ up_to v (length s))
    unfolding file_of
    file_all v = (go (document_at d s) refl, λ e. rw (e, eq-eqb (length s) (length s) refl))
      where
        go : (r : Reading (Value d.element)) → document_at d s ≡ r → file_of d s ≡ Some v → document_at d s ≡ up_to v (length s)
        go nothing e h = let i = rw e at h in absurd (let z : ◌≡◌ {A = ℕ} 0 1 = cc in omega arith)
        go (up_to w n) e h =
            by_test (eqb n (length s)) (λ t.
            let i = rw (e, t) at h in
            let whole = eqb-true n (length s) t in
            e ∙ cc)
            (λ t. let i = rw (e, t) at h in absurd (let z : ◌≡◌ {A = ℕ} 0 1 = cc in omega arith))

-- ---- what is read of a file is what it is, and it is one thing at most
pub file_sound : (d : Document) (s : List ℕ) (v : Value d.element) → file_of d s ≡ Some v → File d v s
file_sound d s v e =
    let a = document_sound d s ((file_all d s v).0 e) in
    let whole : s ≡ a.piece = a.there ∙ rw (drop-length s) (append-nil a.piece) in
    subst (File d v) (sym whole) a.is

pub file_iff : (d : Document) (s : List ℕ) (v : Value d.element) → document_readable d ≡ true → (file_of d s ≡ Some v) ↔ File d v s
file_iff d s v ok = (file_sound d s v, λ w. (file_all d s v).1 (document_complete d s v ok w))

pub file_one : (d : Document) (s : List ℕ) (v w : Value d.element) → document_readable d ≡ true → File d v s → File d w s → v ≡ w
file_one d s v w ok f g =
    let a = document_complete d s v ok f in
    let b = document_complete d s w ok g in
    cc
