-- Stores of records that lie apart can change places.
use Rattle.std.specs.Prelude.{◌+◌, ◌<◌, ◌≡◌, ◌∷◌}
use Rattle.integers.specs.Basics.{ℕ, refl, ◌∙◌, ap, List, [], arith}
use Rattle.words.proofs.Apart.{words_pass, past_words}
use Rattle.ledger.specs.declared.order.Order.{Order}
use Rattle.memory_layout.specs.Stores.{record_word, fields, put_order, put_orders}

past_order : (m : List ℕ) (p q : ℕ) (x y : Order) → p < q → put_order (put_order m q y) p x ≡ put_order (put_order m p x) q y
unfolding put_order fields
past_order m p q x y h =
    past_words (λ l. put_order l p x) (fields y) (record_word q)
    (λ i low high. words_pass i (fields x) (record_word p) (λ a b. omega arith)) m

pub past_orders : (os : List Order) (m : List ℕ) (p q : ℕ) (x : Order) → p < q
    → put_order (put_orders m q os) p x ≡ put_orders (put_order m p x) q os
unfolding put_orders
past_orders [] m p q x h = refl
past_orders (o ∷ os) m p q x h =
    past_orders os (put_order m q o) p (q + 1) x (omega arith)
    ∙ ap (λ (l : List ℕ). put_orders l (q + 1) os) (past_order m p q x o h)
