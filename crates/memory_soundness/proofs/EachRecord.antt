-- What `all` over a slice answers, where each call decides a fact of one element: of any slice of arrays of bytes, and of the records.
use Rattle.std.specs.Prelude.{◌<◌, ◌≡◌}
use Rattle.integers.specs.Basics.{ℕ, refl, sym, subst, Bool, true, false, false≢true, List, [], length, get_or, arith}
use denote.Ref.{Bor}
use denote.Param.Members.{Mut}
use Rattle.std.specs.Fn.{Called}
use Rattle.std.specs.Bool.{Decides, MatchBool}
use Rattle.std.specs.List.{AllWithin, HoldsAt}
use Rattle.std.specs.Iterator.{ChecksAll}
use Rattle.std.specs.Slice.Iter.{iter_rest}
use Rattle.std.specs.declared.slice.Iter.{Iter}
use Rattle.std.proofs.iter.Yields.{fronts}
use Rattle.std.proofs.lemmas.Iterator.{YieldsList-from_slice, cases_from_all}
use Rattle.ledger.specs.declared.order.Order.{Order}
use Rattle.ledger.specs.Records.{order_at, orders_of}
use Rattle.words.specs.Words.{word_at}
use Rattle.memory_layout.specs.Layout.{count_word}
use Rattle.memory_layout.specs.View.{open_orders}
use Rattle.memory_layout.specs.Stores.{order_in}
use Rattle.memory_layout.proofs.OpenRecords.{length_records, order_in_records}
use Rattle.memory_soundness.specs.Each.{Each}

-- ---- n elements, of which `read` reads in element p what is at p
module _ {A : Type 0} (P : A → Type 0) (read : List ℕ → A) (at_place : ℕ → A) (n : ℕ) (elements : List (List ℕ))
    (long : length elements ≡ n) (same : (p : ℕ) → p < n → read (get_or elements p []) ≡ at_place p) where
  abbrev Of : List ℕ → Type 0
  Of x = P (read x)

  decided : (t : Bool)
      → MatchBool t (AllWithin Of elements 0 (length elements)) ((p : ℕ) × (p < length elements) × HoldsAt (λ x. Of x → ⊥) elements p)
      → Decides t ((p : ℕ) → p < n → P (at_place p))
  decided true h = (
    (λ e p l. subst P (same p l) (h p [] (omega arith) (omega (arith, long)))),
    λ each. refl,
  )
  decided false h = (
    (λ e. absurd (false≢true e)),
    λ each. absurd (let l : h.0 < n = omega (arith, h.1, long) in h.2 [] (subst P (sym (same h.0 l)) (each h.0 l))),
  )

  pub decides_elements : {F : Type 0} {g : Mut F (Bor (List ℕ) × Unit {0}) Bool} {s u : Iter (List ℕ)} {f : F} {t : Bool}
      → ChecksAll fronts g s f t u → iter_rest s ≡ elements
      → ((x : Bor (List ℕ)) (b : Bool) (q : F) → Called g f (x, tt) b q → (q ≡ f) × Decides b (Of x.now))
      → Decides t ((p : ℕ) → p < n → P (at_place p))
  decides_elements {t = t} ran from called =
      decided t (cases_from_all _ _ _ Of (λ x. Of x → ⊥) ran (YieldsList-from_slice elements from)
      (λ x q k. let d = called x true q k in (d.0, d.1.0 refl)) (λ x q k p. false≢true ((called x false q k).1.1 p)))

-- ---- the records of the open orders
module _ (m : List ℕ) (records : List (List ℕ)) (are : orders_of records ≡ open_orders m) (P : Order → Type 0) where
  pub decides_each : {F : Type 0} {g : Mut F (Bor (List ℕ) × Unit {0}) Bool} {s u : Iter (List ℕ)} {f : F} {t : Bool}
      → ChecksAll fronts g s f t u → iter_rest s ≡ records
      → ((x : Bor (List ℕ)) (b : Bool) (q : F) → Called g f (x, tt) b q → (q ≡ f) × Decides b (P (order_at x.now 0))) → Decides t (Each m P)
  decides_each =
      decides_elements P (λ r. order_at r 0) (order_in m) (word_at m count_word) records (length_records m records are)
      (order_in_records m records are)
