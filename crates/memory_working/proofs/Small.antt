-- The figures that an accepted event stores fit their words and halves of words.
use Rattle.std.specs.Prelude.{◌^◌, ◌≤◌, ◌<◌, ◌≡◌, ◌∷◌}
use Rattle.integers.specs.Basics.{ℕ, refl, ⊎_elim, List, [], ListMemᴰ, ListMemᴰ_head, ListMemᴰ_tail}
use Rattle.integers.specs.Basics.{ListMemᴰ_not_nil, Option, None, Some, arith}
use mathlib.Core.List.Memᴰ
use Rattle.words.specs.Bytes.{Bytes}
use Rattle.words.specs.Fields.{u64_at}
use Rattle.words.specs.Words.{word_at}
use Rattle.words.proofs.Numbers.{number_below}
use Rattle.ledger.specs.declared.order.Order.{Order}
use Rattle.ledger.specs.Orders.{remaining}
use Rattle.limits.specs.declared.lines.Line.{Line}
use Rattle.limits.specs.declared.lines.GroupLine.{GroupLine}
use Rattle.book.specs.declared.Event.{Event}
use Rattle.book.specs.declared.Event.TheVariants.{Set, New, Change, Junk}
use Rattle.book.specs.Decoding.{decode}
use Rattle.book.specs.OpenOrders.{change}
use Rattle.book.specs.declared.OrderChange.{OrderChange}
use Rattle.book.specs.Books.{new_order, changed, book_after}
use Rattle.book.specs.States.{work}
use Rattle.book.specs.Sound.{LineFits, GroupLineFits}
use Rattle.book.proofs.Decoded.{decoded_each}
use Rattle.book.proofs.Cuts.{standing, standing_member, insert_members}
use Rattle.book.proofs.Ids.{Became, gone, became, changed_became}
use Rattle.book.proofs.SoundOrders.{change_each, fits_after}
use Rattle.memory_layout.specs.Layout.{count_word}
use Rattle.memory_layout.specs.View.{records_of, open_orders, book_of, view}
use Rattle.memory_layout.specs.Stores.{SmallOrder, SmallOrders}
use Rattle.memory_layout.specs.Judged.{judged}
use Rattle.memory_layout.proofs.OrderRecords.{small_open}
use Rattle.memory_layout.proofs.StoreWords.{SmallLine, SmallGroupLine}
use Rattle.memory_soundness.specs.SoundMemory.{SoundMemory}
use Rattle.memory_soundness.proofs.OrderFacts.{each_member}
use Rattle.memory_soundness.proofs.SoundDesk.{sound_count}
use Rattle.memory_soundness.proofs.Bounded.{storable}
use Rattle.memory_working.proofs.AcceptedFacts.{Found, sound, passed, accepted_facts}

-- ---- lines in range
pub small_line : {largest : ℕ} → largest ≤ 1000000000 → (x : Option Line) → ((l : Line) → x ≡ Some l → LineFits largest l) → SmallLine x
unfolding SmallLine
small_line most None fits = tt
small_line most (Some l) fits = let f = fits l refl in omega arith

pub small_group_line : {largest : ℕ} → largest ≤ 1000000000 → (x : Option GroupLine)
    → ((l : GroupLine) → x ≡ Some l → GroupLineFits largest l) → SmallGroupLine x
unfolding SmallGroupLine
small_group_line most None fits = tt
small_group_line most (Some l) fits = let f = fits l refl in omega arith

-- ---- open orders
-- the id of a NEW is a word
abbrev pub Sized : Event → Type 0
Sized (Set x) = Unit
Sized (New s a i id n) = id < 2 ^ 64
Sized (Change id c) = Unit
Sized Junk = Unit

-- so it is of every decoded event
pub decoded_sized : (e : List ℕ) → Bytes e → Sized (decode e)
unfolding u64_at
decoded_sized e bytes = decoded_each Sized e (λ x. tt) (λ s a i n has. number_below 8 e 8 bytes) (λ id c. tt) tt

members_small : (os : List Order) → ((o : Order) → ListMemᴰ o os → SmallOrder o) → SmallOrders os
members_small [] small = tt
members_small (o ∷ os) small =
    (small o (ListMemᴰ_head refl), members_small os (λ x k. small x (ListMemᴰ_tail k)))

became_small : (o : Order) → o.id < 2 ^ 64 → (l : List Order) → Became o l → (x : Order) → ListMemᴰ x l → x.id < 2 ^ 64
became_small o small l gone x k = absurd (ListMemᴰ_not_nil k)
became_small o small l (became e) x k = rw (Memᴰ.eq_of_singleton k, e) small

module _ (m : List ℕ) (bytes : Bytes m) (held : SoundMemory m) where
  open_ids : (o : Order) → ListMemᴰ o (open_orders m) → o.id < 2 ^ 64
  unfolding open_orders
  open_ids =
      each_member (records_of m) (λ o. o.id < 2 ^ 64) 0 (word_at m count_word)
      (λ q a b. (small_open m held.first q (omega (arith, sound_count m held)) bytes).id)

  changed_ids : (id : ℕ) (c : OrderChange) → Found m id → (x : Order) → ListMemᴰ x (change id (changed c) (open_orders m))
      → x.id < 2 ^ 64
  changed_ids id c d =
      let o = d.order in
      change_each id (changed c) (open_orders m) o d.found (λ x. x.id < 2 ^ 64) open_ids
      (became_small o (open_ids o (standing_member (standing id (open_orders m) o d.found))) (changed c o) (changed_became c o))

  ids_after : (e : Event) → Sized e → judged m e ≡ 0 → (x : Order) → ListMemᴰ x (work (view m) e).book.orders → x.id < 2 ^ 64
  unfolding book_after book_of new_order
  ids_after (Set x) sized passes = open_ids
  ids_after (New s a i id n) sized passes =
      λ x k. ⊎_elim (λ e. rw e sized) (open_ids x) ((insert_members (new_order s a i id n) (open_orders m) x).0 k)
  ids_after (Change id c) sized passes = changed_ids id c (accepted_facts m held (Change id c) passes).0
  ids_after Junk sized passes = open_ids

  pub small_after : (e : Event) → Sized e → judged m e ≡ 0 → SmallOrders (work (view m) e).book.orders
  unfolding remaining
  small_after e sized passes =
      members_small (work (view m) e).book.orders
      (λ x k.
      let f = fits_after (view m) (sound m held) e (passed m e passes) x k in
      let fits = storable m held x f.account f.instrument (omega (arith, f.remains)) f.total.1 in
      record { id = ids_after e sized passes x k; detail = fits })
