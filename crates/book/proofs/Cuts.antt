-- Where an order joins the open orders, where it stands in them, and what changing it changes: the list cut in two.
use Rattle.std.specs.Prelude.{◌+◌, ◌<◌, ◌≡◌, ◌⊎◌, ◌↔◌, ◌∷◌, ◌++◌}
use Rattle.integers.specs.Basics.{ℕ, suc, refl, sym, ap, inl, inr, ⊎_elim, List, [], ListMemᴰ}
use Rattle.integers.specs.Basics.{ListMemᴰ_head, ListMemᴰ_tail, None, Some, ltb, eqb, length, arith, ltb-true, ltb-false, eqb-true}
use Rattle.integers.specs.Basics.{eqb-false}
use mathlib.Core.List.Memᴰ
use lib.ListN.{length-append}
use Rattle.ledger.specs.declared.order.Order.{Order}
use Rattle.ledger.proofs.Sums.{Joined, Changed, joined_between, changed_between}
use Rattle.ledger.proofs.Ways.{by_test}
use Rattle.limits.proofs.LineLaws.{none_some}
use Rattle.book.specs.OpenOrders.{find, insert, change}
use Rattle.book.specs.Sound.{Ascending, nothing, next}

-- ---- an order joins
-- one whose id is not open joins where ids stay ascending
pub insert_ascending : {least : ℕ} {os : List Order} → Ascending least os → (o : Order) → least < o.id → find o.id os ≡ None
    → Ascending least (insert o os)
unfolding insert find
insert_ascending nothing o l e = next l nothing
insert_ascending (next {o = x} h a) o l e =
    by_test (ltb o.id x.id) (λ d. rw d (next l (next (ltb-true o.id x.id d) a)))
    (λ d. by_test (eqb x.id o.id) (λ f. none_some x (sym (rw f at e)))
    (λ f.
    let le = ltb-false o.id x.id d in
    let apart = eqb-false x.id o.id f in
    rw d (next h (insert_ascending a o (omega arith) (rw f at e)))))

pub record Joins (o : Order) (os : List Order) : Type 0 where
  pub front : List Order
  pub back : List Order
  pub whole : os ≡ front ++ back
  pub joined : insert o os ≡ front ++ (o ∷ back)

pub joins : (o : Order) (os : List Order) → Joins o os
unfolding insert
joins o [] = record { front = []; back = []; whole = refl; joined = refl }
joins o (x ∷ os) =
    let j = joins o os in
    by_test (ltb o.id x.id) (λ e. record { front = []; back = x ∷ os; whole = refl; joined = rw e })
    (λ e. record { front = x ∷ j.front; back = j.back; whole = rw (← j.whole); joined = rw (e, j.joined) })

module _ {o : Order} {os : List Order} (j : Joins o os) where
  joined_sums : Joined o os (insert o os)
  joined_sums = rw (j.joined, j.whole) (joined_between o j.front j.back)

  joined_members : (x : Order) → ListMemᴰ x (insert o os) ↔ ((x ≡ o) ⊎ ListMemᴰ x os)
  joined_members x =
      rw (j.joined, j.whole) (
        λ m. ⊎_elim (λ k. inr (Memᴰ.append_left j.back k))
            (λ k. ⊎_elim (λ e. inl e) (λ h. inr (Memᴰ.append_right j.front h)) (Memᴰ.cases_cons k))
            (Memᴰ.append_cases j.front m),
        ⊎_elim (λ e. Memᴰ.append_right j.front (ListMemᴰ_head e))
            (λ m. ⊎_elim (λ k. Memᴰ.append_left (o ∷ j.back) k) (λ k. Memᴰ.append_right j.front (ListMemᴰ_tail k))
            (Memᴰ.append_cases j.front m)),
      )

  joined_length : length (insert o os) ≡ suc (length os)
  joined_length =
      rw (j.joined, j.whole) (omega (arith, length-append j.front (o ∷ j.back), length-append j.front j.back))

module _ (o : Order) (os : List Order) where
  pub insert_sums : Joined o os (insert o os)
  insert_sums = joined_sums (joins o os)

  -- the members after it are the old ones and the new one
  pub insert_members : (x : Order) → ListMemᴰ x (insert o os) ↔ ((x ≡ o) ⊎ ListMemᴰ x os)
  insert_members = joined_members (joins o os)

  pub insert_length : length (insert o os) ≡ suc (length os)
  insert_length = joined_length (joins o os)

-- ---- an order is found
pub record Standing (id : ℕ) (os : List Order) (o : Order) : Type 0 where
  pub front : List Order
  pub back : List Order
  pub whole : os ≡ front ++ (o ∷ back)
  pub named : o.id ≡ id
  pub changed : (f : Order → List Order) → change id f os ≡ front ++ (f o ++ back)

pub standing : (id : ℕ) (os : List Order) (o : Order) → find id os ≡ Some o → Standing id os o
unfolding find change
standing id [] o e = cc
standing id (x ∷ os) o e =
    by_test (eqb x.id id)
    (λ d.
    let there = rw d at e in
    let same : x ≡ o = cc in
    record { front = []; back = os; whole = rw same; named = rw (← same) (eqb-true x.id id d); changed = λ f. rw (d, same) })
    (λ d.
    let s = standing id os o (rw d at e) in
    record {
      front = x ∷ s.front;
      back = s.back;
      whole = ap (λ xs. x ∷ xs) s.whole;
      named = s.named;
      changed =
          λ f. rw d (ap (λ xs. x ∷ xs) (s.changed f));
    })

module _ {id : ℕ} {os : List Order} {o : Order} (s : Standing id os o) where
  pub standing_member : ListMemᴰ o os
  standing_member = rw s.whole (Memᴰ.append_right s.front (ListMemᴰ_head refl))

  -- it becomes o', or it leaves
  pub change_sums : (f : Order → List Order) (o' : Order) → f o ≡ o' ∷ [] → Changed o o' os (change id f os)
  change_sums f o' e = rw (s.changed f, e, s.whole) (changed_between o o' s.front s.back)

  pub leave_sums : (f : Order → List Order) → f o ≡ [] → Joined o (change id f os) os
  leave_sums f e = rw (s.changed f, e, s.whole) (joined_between o s.front s.back)

  -- a member after it is what the order became, or one of the old
  pub change_members : (f : Order → List Order) (x : Order) → ListMemᴰ x (change id f os) → ListMemᴰ x (f o) ⊎ ListMemᴰ x os
  change_members f x m =
      ⊎_elim (λ k. inr (rw s.whole (Memᴰ.append_left (o ∷ s.back) k)))
      (λ k. ⊎_elim (λ h. inl h) (λ h. inr (rw s.whole (Memᴰ.append_right s.front (ListMemᴰ_tail h))))
      (Memᴰ.append_cases (f o) k))
      (Memᴰ.append_cases s.front (rw (s.changed f) at m))

  pub change_length : (f : Order → List Order) → length (change id f os) + 1 ≡ length os + length (f o)
  change_length f =
      rw (s.changed f, s.whole)
      (omega (arith, length-append s.front (f o ++ s.back), length-append (f o) s.back, length-append s.front (o ∷ s.back)))
