-- Tables by account and number that say nothing of what is not on the roster, and the records of the view.
use Rattle.std.specs.Prelude.{◌≡◌, ◌&&◌}
use Rattle.integers.specs.Basics.{ℕ, refl, ◌∙◌, ap, fun_ext, Bool, true, false, cond, List, Option, ℤ}
use Rattle.ledger.specs.declared.order.Order.{Order}
use Rattle.ledger.specs.Roster.{Roster, Numbered}
use Rattle.ledger.proofs.Ways.{by_number}
use Rattle.limits.specs.declared.lines.Line.{Line}
use Rattle.limits.specs.declared.lines.GroupLine.{GroupLine}
use Rattle.limits.specs.Lines.{Lines}
use Rattle.limits.proofs.Answers.{both_true, and_true}
use Rattle.book.specs.Decoding.{between}
use Rattle.book.specs.Books.{Blocks, at}
use Rattle.book.specs.Market.{Market}
use Rattle.book.specs.States.{State}
use Rattle.book.proofs.Tables.{between_numbered}
use Rattle.memory_layout.specs.View.{on_roster}
use Rattle.memory_layout.proofs.RosterLaws.{by_test, same_where, numbered_between}

-- the view's records, field by field
pub same_lines : (o o' d d' : ℕ → Option Line) (g g' : ℕ → Option GroupLine) → o ≡ o' → d ≡ d' → g ≡ g'
    → ◌≡◌ {A = Lines} (record { own_of = o; default_of = d; line_of_group = g })
    (record { own_of = o'; default_of = d'; line_of_group = g' })
same_lines o o' d d' g g' x y z = cc

pub same_blocks : (a a' i i' : ℕ → Bool) (g g' : ℕ → ℕ → Bool) → a ≡ a' → i ≡ i' → g ≡ g'
    → ◌≡◌ {A = Blocks} (record { account = a; instrument = i; group = g }) (record { account = a'; instrument = i'; group = g' })
same_blocks a a' i i' g g' x y z = cc

-- a state, from its fields
abbrev pub state_of : Market → Roster → (ℕ → ℕ → ℤ) → (ℕ → Lines) → Blocks → List Order → (ℕ → Bool) → State
state_of k r s l b o t =
    record {
      market = k;
      roster = r;
      book = record { balance_of = s; lines_of = l; blocks = b; orders = o };
      beside = record { trading = t };
    }

pub same_view : {k k' : Market} {r r' : Roster} {s s' : ℕ → ℕ → ℤ} {l l' : ℕ → Lines} {b b' : Blocks} {o o' : List Order} {t t' : ℕ → Bool}
    → k ≡ k' → r ≡ r' → s ≡ s' → l ≡ l' → b ≡ b' → o ≡ o' → t ≡ t' → state_of k r s l b o t ≡ state_of k' r' s' l' b' o' t'
same_view market roster balances lines blocks orders marks = cc

-- ---- tables by account and number
-- what is said where account and number are on the roster, and otherwise
pub on_each : {A : Type 0} (accounts numbers a n : ℕ) (x otherwise : A) (P : A → Type 0) → (Numbered accounts a → Numbered numbers n → P x)
    → P otherwise → P (on_roster accounts numbers a n x otherwise)
on_each accounts numbers a n x otherwise P on off =
    by_test (between 1 accounts a && between 1 numbers n) x otherwise P
    (λ e.
    let h = both_true (between 1 accounts a) (between 1 numbers n) e in
    on (between_numbered accounts a h.0) (between_numbered numbers n h.1))
    (λ e. off)

pub on_same : {A : Type 0} (accounts numbers a n : ℕ) (x y otherwise : A) → (Numbered accounts a → Numbered numbers n → x ≡ y)
    → on_roster accounts numbers a n x otherwise ≡ on_roster accounts numbers a n y otherwise
on_same accounts numbers a n x y otherwise same =
    same_where (between 1 accounts a && between 1 numbers n) x y otherwise
    (λ e.
    let h = both_true (between 1 accounts a) (between 1 numbers n) e in
    same (between_numbered accounts a h.0) (between_numbered numbers n h.1))

pub on_here : {A : Type 0} (accounts numbers a n : ℕ) (x otherwise : A) → Numbered accounts a → Numbered numbers n
    → on_roster accounts numbers a n x otherwise ≡ x
on_here accounts numbers a n x otherwise on_a on_n =
    ap (λ t. cond t x otherwise) (and_true (between 1 accounts a) (between 1 numbers n) (numbered_between accounts a on_a)
    (numbered_between numbers n on_n))

abbrev pub table_of : {A : Type 0} → ℕ → ℕ → A → (ℕ → ℕ → A) → ℕ → ℕ → A
table_of accounts numbers otherwise t a n = on_roster accounts numbers a n (t a n) otherwise

module _ {A : Type 0} (accounts numbers : ℕ) (otherwise : A) (old new : ℕ → ℕ → A) where
  pub table_same : ((a n : ℕ) → Numbered accounts a → Numbered numbers n → new a n ≡ old a n)
      → table_of accounts numbers otherwise new ≡ table_of accounts numbers otherwise old
  table_same same =
      fun_ext (λ a. fun_ext (λ n. on_same accounts numbers a n (new a n) (old a n) otherwise (same a n)))

  -- a table that differs in one place
  pub table_at : (a n : ℕ) (x : A) → Numbered accounts a → Numbered numbers n → new a n ≡ x
      → ((b k : ℕ) → Numbered accounts b → Numbered numbers k → (b ≡ a → k ≡ n → ⊥) → new b k ≡ old b k)
      → table_of accounts numbers otherwise new ≡ at a (at n x (table_of accounts numbers otherwise old a))
      (table_of accounts numbers otherwise old)
  table_at a n x on_a on_n here apart =
      let before : ℕ → ℕ → A = table_of accounts numbers otherwise old in
      let after : ℕ → ℕ → A = table_of accounts numbers otherwise new in
      fun_ext
      (λ b. fun_ext (λ k. by_number b a (λ t. after b k ≡ cond t (at n x (before a)) (before b) k)
      (λ same_a. by_number k n (λ t. after b k ≡ cond t x (before a k))
      (λ same_n. rw (same_a, same_n) (on_here accounts numbers a n (new a n) otherwise on_a on_n ∙ here))
      (λ other. rw same_a (on_same accounts numbers a k (new a k) (old a k) otherwise (λ on_b on_k. apart a k on_b on_k (λ d e. other e)))))
      (λ other. on_same accounts numbers b k (new b k) (old b k) otherwise (λ on_b on_k. apart b k on_b on_k (λ d e. other d)))))

-- ---- yes or no by number
abbrev pub row_of : ℕ → (ℕ → Bool) → ℕ → Bool
row_of numbers t b = between 1 numbers b && t b

module _ (numbers : ℕ) (old new : ℕ → Bool) where
  row_part : (b : ℕ) → (Numbered numbers b → new b ≡ old b) → between 1 numbers b && new b ≡ (between 1 numbers b && old b)
  row_part b same = by (between 1 numbers b) (λ e. same (between_numbered numbers b e))
    where
      by : (t : Bool) → (t ≡ true → new b ≡ old b) → t && new b ≡ (t && old b)
      by true e = e refl
      by false e = refl

  pub row_same : ((b : ℕ) → Numbered numbers b → new b ≡ old b) → row_of numbers new ≡ row_of numbers old
  row_same same = fun_ext (λ b. row_part b (same b))

  pub row_at : (a : ℕ) (x : Bool) → Numbered numbers a → new a ≡ x → ((b : ℕ) → Numbered numbers b → (b ≡ a → ⊥) → new b ≡ old b)
      → row_of numbers new ≡ at a x (row_of numbers old)
  row_at a x on_a here apart =
      fun_ext
      (λ b. by_number b a (λ t. between 1 numbers b && new b ≡ cond t x (between 1 numbers b && old b))
      (λ same_a. rw (same_a, numbered_between numbers a on_a) here)
      (λ other. row_part b (λ on_b. apart b on_b other)))
