-- The root of a file, with the element in it: what is read of it is written, lies in the file, and is read where it is written.
use Rattle.std.specs.Prelude.{◌+◌, ◌≤◌, ◌≡◌, ◌++◌}
use Rattle.integers.specs.Basics.{ℕ, refl, ◌∙◌, sym, ap, true, cond, List, [], length, drop}
use mathlib.Core.List.{append-nil}
use Rattle.grammar.specs.Bytes.{is_blank, Then, Each}
use Rattle.grammar.specs.Grammar.{Value, Written}
use Rattle.grammar.specs.Reader.{Reading, nothing, up_to, next, literal_at, past_blanks, opening, element_at}
use Rattle.grammar.specs.Readable.{begins_solid, name_of, readable}
use Rattle.grammar.specs.Document.{Document, root_opens, root_closes}
use Rattle.grammar.proofs.Places.{behind}
use Rattle.grammar.proofs.Spans.{Stops, solid_stops, past_within}
use Rattle.grammar.proofs.Readings.{read_if, read_next, read_same}
use Rattle.grammar.proofs.Within.{literal_within, element_within}
use Rattle.grammar.proofs.Standing.{Stands, stands_then, stands_literal, stands_blank}
use Rattle.grammar.proofs.Sound.{element_stands}
use Rattle.grammar.proofs.Leaving.{Leaves, leaves_next, literal_there, past_there}
use Rattle.grammar.proofs.Complete.{element_leaves}
use Rattle.grammar.proofs.Beginnings.{begins_before, begins_stops, opening_solid, written_opens}

-- blanks, and bytes l behind them
blank_literal : (s : List ℕ) (p : ℕ) (b x y k l : List ℕ) → drop p s ≡ b ++ x → Each is_blank b → x ≡ k ++ y → k ≡ l
    → begins_solid l ≡ true → drop (past_blanks s p) s ≡ l ++ y
blank_literal s p b x y k l there blank e is solid =
    let behind_blanks : x ≡ l ++ y = rw (e, is) in
    past_there s p b x there blank (rw behind_blanks (solid_stops l y solid)) ∙ behind_blanks

module _ (d : Document) where
  abbrev pub Root : Value d.element → List ℕ → Type 0
  Root v =
      Then (Each is_blank) (Then (λ x. x ≡ root_opens d) (Then (Each is_blank) (Then (Written d.element v)
      (Then (Each is_blank) (Then (λ x. x ≡ root_closes d) (Each is_blank))))))

  abbrev pub in_root : List ℕ → ℕ → ℕ
  in_root s p = past_blanks s (past_blanks s p + length (root_opens d))

  abbrev pub past_root : List ℕ → ℕ → ℕ
  past_root s p = past_blanks s (past_blanks s p + length (root_closes d))

  abbrev pub root_at : List ℕ → ℕ → Reading (Value d.element)
  root_at s p =
      cond (literal_at s (root_opens d) (past_blanks s p)) (next (element_at s d.element (in_root s p))
      (λ v n. cond (literal_at s (root_closes d) (past_blanks s n)) (up_to v (past_root s n)) nothing)) nothing

  root_solid : begins_solid (root_opens d) ≡ true
  unfolding begins_solid is_blank
  root_solid = refl

  root_ends : begins_solid (root_closes d) ≡ true
  unfolding begins_solid is_blank
  root_ends = refl

  module _ (s : List ℕ) where
    root_read : (p : ℕ) {v : Value d.element} {n : ℕ} → root_at s p ≡ up_to v n
        → (m : ℕ) × (literal_at s (root_opens d) (past_blanks s p) ≡ true) × (element_at s d.element (in_root s p) ≡ up_to v m)
        × (literal_at s (root_closes d) (past_blanks s m) ≡ true) × (past_root s m ≡ n)
    root_read p e =
        let a = read_if (literal_at s (root_opens d) (past_blanks s p)) _ e in
        let b = read_next (element_at s d.element (in_root s p)) _ a.1 in
        let c = read_if (literal_at s (root_closes d) (past_blanks s b.1)) _ b.3 in
        let same = read_same c.1 in
        (b.1, a.0, b.2 ∙ ap (λ u. up_to u b.1) same.0, c.0, same.1)

    pub root_sound : (p : ℕ) {v : Value d.element} {n : ℕ} → root_at s p ≡ up_to v n → Stands s p n (Root v)
    root_sound p e =
        let (m, opens, is, closes, ends) = root_read p e in
        let q = past_blanks s p in
        let r = past_blanks s m in
        rw (← ends) (stands_then (stands_blank s p) (stands_then (stands_literal s q (root_opens d) opens)
        (stands_then (stands_blank s (q + length (root_opens d))) (stands_then (element_stands s d.element (in_root s p) is)
        (stands_then (stands_blank s m) (stands_then (stands_literal s r (root_closes d) closes)
        (stands_blank s (r + length (root_closes d)))))))))

    pub root_within : (p : ℕ) {v : Value d.element} {n : ℕ} → p ≤ length s → root_at s p ≡ up_to v n → n ≤ length s
    root_within p h e =
        let (m, opens, is, closes, ends) = root_read p e in
        let q = past_blanks s p in
        let a = literal_within s (root_opens d) q (past_within s p h) opens in
        let b = element_within s d.element (in_root s p) (past_within s (q + length (root_opens d)) a) is in
        let c = literal_within s (root_closes d) (past_blanks s m) (past_within s m b.1) closes in
        rw (← ends) (past_within s (past_blanks s m + length (root_closes d)) c)

    pub root_complete : (p : ℕ) (v : Value d.element) (x : List ℕ) → readable d.element ≡ true → Root v x → drop p s ≡ x
        → Leaves s (root_at s p) v []
    root_complete p v x ok
        (a, x₁, e, blank, (o, x₂, f, opens, (b, x₃, g, blank₂, (w, x₄, h, is, (c, x₅, i, blank₃, (k, z, j, closes, blank₄)))))) there =
        let q = past_blanks s p in
        let name = name_of d.element in
        let at_root = blank_literal s p a x₁ x₂ o (root_opens d) (there ∙ e) blank f opens root_solid in
        let solid : Stops is_blank x₃ =
        rw h (begins_stops (opening name) (w ++ x₄) (opening_solid name)
        (begins_before (opening name) w x₄ (written_opens d.element v w is))) in
        let inside = past_there s (q + length (root_opens d)) b x₃ (behind s q (root_opens d) x₂ at_root ∙ g) blank₂ solid in
        rw (literal_there s q (root_opens d) x₂ at_root)
        (leaves_next _ (element_leaves s d.element (in_root s p) v w x₄ ok is (inside ∙ h))
        (λ m u.
        let r = past_blanks s m in
        let at_end = blank_literal s m c x₅ z k (root_closes d) (u ∙ i) blank₃ j closes root_ends in
        let left = behind s r (root_closes d) z at_end ∙ sym (append-nil z) in
        record {
          place = past_root s m;
          reads = rw (literal_there s r (root_closes d) z at_end);
          left = past_there s (r + length (root_closes d)) z [] left blank₄ tt;
        }))
