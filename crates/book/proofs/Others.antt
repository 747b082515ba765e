-- An event of one account leaves every other account's orders, balances and lines as they were.
use Rattle.std.specs.Prelude.{◌≡◌, ◌↔◌, ◌≢◌, ◌+ℤ◌}
use Rattle.integers.specs.Basics.{ℕ, refl, ◌∙◌, sym, ap, inr, ⊎_elim, List, ListMemᴰ, Option, None, Some, ℤ, +ℤ_idr}
use mathlib.Core.Logic.Iff
use Rattle.ledger.specs.declared.order.Order.{Order}
use Rattle.ledger.proofs.Amounts.{fill_apart}
use Rattle.limits.specs.Lines.{Lines}
use Rattle.book.specs.declared.Setting.{Setting}
use Rattle.book.specs.declared.Event.{Event}
use Rattle.book.specs.declared.Event.TheVariants.{Set, New, Change, Junk}
use Rattle.book.specs.Settings.{IsLimit, as_limit, IsBalance, as_balance}
use Rattle.book.specs.OpenOrders.{find, change}
use Rattle.book.specs.Books.{Book, at, set_line, set_lines, set_balances, new_order, changed, filled_in, book_after}
use Rattle.book.specs.States.{State, work}
use Rattle.book.specs.Sound.{Ascending, Sound}
use Rattle.book.proofs.Cuts.{insert_members}
use Rattle.book.proofs.Ids.{find_member, change_exactly}
use Rattle.book.proofs.Accepted.{Passed}
use Rattle.book.proofs.Tables.{at_elsewhere}
use Rattle.book.proofs.Shifts.{change_balances}
use Rattle.book.proofs.Within.{named_order}
use Rattle.book.proofs.SoundOrders.{changed_account}

-- the event is not of account a: it sets a line or a balance of another, or enters or changes an order of another
abbrev pub OfAnother : ℕ → Book → Event → Type 0
OfAnother a b (Set x) = ((l : IsLimit x) → a ≢ l.account) × ((z : IsBalance x) → a ≢ z.account)
OfAnother a b (New s c i id n) = a ≢ c
OfAnother a b (Change id c) = (o : Order) → find id b.orders ≡ Some o → a ≢ o.account
OfAnother a b Junk = Unit

-- the open orders, balances and lines of account a are as they were
pub record Untouched (a : ℕ) (b b' : Book) : Type 0 where
  pub orders : (x : Order) → x.account ≡ a → ListMemᴰ x b'.orders ↔ ListMemᴰ x b.orders
  pub balances : (i : ℕ) → b'.balance_of a i ≡ b.balance_of a i
  pub lines : b'.lines_of a ≡ b.lines_of a

-- a change of one order, to orders of the same account
changed_elsewhere : {least : ℕ} {os : List Order} → Ascending least os → (a id : ℕ) (f : Order → List Order) (o : Order)
    → find id os ≡ Some o → a ≢ o.account → ((x : Order) → ListMemᴰ x (f o) → x.account ≡ o.account) → (x : Order) → x.account ≡ a
    → ListMemᴰ x (change id f os) ↔ ListMemᴰ x os
changed_elsewhere {least} {os} asc a id f o found other same x own = (
  λ m. ⊎_elim (λ k. absurd (other (sym own ∙ same x k))) (λ k. k.0) ((change_exactly asc id f o found x).0 m),
  λ m. (change_exactly asc id f o found x).1 (inr (m, apart m)),
)
  where
    apart : ListMemᴰ x os → x.id ≢ id
    apart m e =
        let found_x = (find_member asc id x).1 (m, e) in
        let one : x ≡ o = cc in
        other (sym own ∙ ap (λ y. y.account) one)

-- lines and balances with those set of another account
module _ {x : Setting} (a : ℕ) where
  lines_elsewhere : (ls : ℕ → Lines) → ((l : IsLimit x) → a ≢ l.account) → (y : Option (IsLimit x)) → set_lines y ls a ≡ ls a
  lines_elsewhere ls other None = refl
  lines_elsewhere ls other (Some s) = at_elsewhere s.account (set_line s.line (ls s.account)) ls a (other s)

  balances_elsewhere : (S : ℕ → ℕ → ℤ) → ((z : IsBalance x) → a ≢ z.account) → (y : Option (IsBalance x)) → set_balances y S a ≡ S a
  balances_elsewhere S other None = refl
  balances_elsewhere S other (Some s) = at_elsewhere s.account (at s.instrument s.balance (S s.account)) S a (other s)

module _ (k : State) (sound : Sound k) (a : ℕ) where
  pub untouched : (e : Event) → Passed k e → OfAnother a k.book e → Untouched a k.book (work k e).book
  unfolding book_after new_order
  untouched (Set x) ok other =
      record {
        orders = λ y own. Iff.rfl;
        balances = λ j. ap (λ S. S j) (balances_elsewhere a k.book.balance_of other.1 (as_balance x));
        lines = lines_elsewhere a k.book.lines_of other.0 (as_limit x);
      }
  untouched (New s c i id n) ok other =
      record {
        orders = λ x own. (
          λ m. ⊎_elim (λ e. absurd (other (sym own ∙ ap (λ y. y.account) e))) (λ there. there)
              ((insert_members (new_order s c i id n) k.book.orders x).0 m),
          λ m. (insert_members (new_order s c i id n) k.book.orders x).1 (inr m),
        );
        balances = λ j. refl;
        lines = refl;
      }
  untouched (Change id c) ok other =
      let f = named_order k id c ok in
      let apart = other f.order f.found in
      record {
        orders = changed_elsewhere sound.ids a id (changed c) f.order f.found apart (changed_account c f.order);
        balances =
            λ j. change_balances k id f.order f.found c a j
            ∙ ap (λ z. k.book.balance_of a j +ℤ z) (fill_apart k.market.unit a j f.order (filled_in c) (λ h. apart (sym h.0)))
            ∙ +ℤ_idr (k.book.balance_of a j);
        lines = refl;
      }
  untouched Junk ok other = record { orders = λ x own. Iff.rfl; balances = λ i. refl; lines = refl }
