-- What an acceptance tells of the event, kind by kind: its numbers are on the roster, its figures in range, its order open.
use Rattle.std.specs.Prelude.{◌≤◌, ◌<◌, ◌≡◌, ◌≤ℤ◌}
use Rattle.integers.specs.Basics.{ℕ, Bool, true, List, Option, None, Some, ℤ, pos, neg_ℤ, nat_abs, length, arith}
use Rattle.integers.specs.Basics.{ltb-true, signed}
use Rattle.integers.specs.Magnitude.{within_in}
use Rattle.words.specs.Words.{word_at}
use Rattle.ledger.specs.declared.order.Order.{Order}
use Rattle.ledger.specs.Roster.{Roster, Numbered}
use Rattle.book.specs.declared.Event.{Event}
use Rattle.book.specs.declared.OrderChange.{OrderChange}
use Rattle.book.specs.declared.Event.TheVariants.{Set, New, Change, Junk}
use Rattle.book.specs.OpenOrders.{find}
use Rattle.book.specs.Sound.{OrderFits, Sound}
use Rattle.book.specs.Decoding.{between}
use Rattle.book.specs.declared.Item.{Item}
use Rattle.book.specs.declared.Item.TheVariants as item
use Rattle.book.specs.Settings.{setting_account, setting_item}
use Rattle.book.specs.Table.{where_some, account_known, is_listed, item_known, between_ℤ, is_quantity, change_in_range, setting_in_range, figures_fit}
use Rattle.book.specs.Table.{fits_order, place_free}
use Rattle.book.proofs.Accepted.{Passed, accepted}
use Rattle.book.proofs.Cuts.{standing, standing_member}
use Rattle.book.proofs.Tables.{between_numbered, between_ℤ_both, quantity_numbered}
use Rattle.book.proofs.Within.{named_order}
use Rattle.memory_layout.specs.Layout.{count_word}
use Rattle.memory_layout.specs.View.{market_of, roster_of, open_orders, book_of, view}
use Rattle.memory_layout.specs.Stores.{Records}
use Rattle.memory_layout.specs.Judged.{judged}
use Rattle.memory_layout.proofs.SameFields as layout
use Rattle.memory_soundness.specs.SoundMemory.{SoundMemory}
use Rattle.memory_soundness.proofs.SoundDesk.{sound_count, sound_records}
use Rattle.memory_layout.proofs.Lengths.{length_open}

-- an item is on the roster
abbrev pub OnRoster : Roster → Item → Type 0
OnRoster r (item.Instrument i) = Numbered r.instruments i
OnRoster r (item.Contract c) = Numbered r.contracts c
OnRoster r (item.Group g) = Numbered r.groups g

-- of what is named, where something is
abbrev pub WhereSome : {A : Type 0} → (A → Type 0) → Option A → Type 0
WhereSome P None = Unit
WhereSome P (Some x) = P x

-- the order with an id is open, and in range
pub record Found (m : List ℕ) (id : ℕ) : Type 0 where
  pub order : Order
  pub found : find id (open_orders m) ≡ Some order
  pub fits : OrderFits (roster_of m) order

abbrev pub Quantity : ℤ → Type 0
Quantity n = (pos 0 ≤ℤ n) × Numbered 1000000 (nat_abs n)

abbrev pub ChangeFacts : OrderChange → Order → Type 0
ChangeFacts c o = (change_in_range c ≡ true) × (fits_order c o ≡ true)

abbrev pub AcceptedFacts : List ℕ → Event → Type 0
AcceptedFacts m (Set x) =
    WhereSome (Numbered (roster_of m).accounts) (setting_account x)
    × WhereSome (OnRoster (roster_of m)) (setting_item x)
    × (setting_in_range (market_of m) x ≡ true)
AcceptedFacts m (New s a i id n) =
    Numbered (roster_of m).accounts a × Numbered (roster_of m).instruments i × Quantity n × (word_at m count_word < 256)
AcceptedFacts m (Change id c) = (f : Found m id) × ChangeFacts c f.order
AcceptedFacts m Junk = Unit

-- ---- a sound desk
module _ (m : List ℕ) (held : SoundMemory m) where
  pub sound : Sound (view m)
  sound = held.book

  pub laid : layout.InBounds m
  laid =
      let f = held.book.roster in
      record {
        long = held.long;
        sized = record { accounts = f.accounts.1; groups = f.groups.1; contracts = f.contracts.1; instruments = f.instruments.1 };
        count = sound_count m held;
        first = held.first;
      }

  -- its records can be worked on
  pub records : Records m
  records = sound_records m held

pub passed : (m : List ℕ) (e : Event) → judged m e ≡ 0 → Passed (view m) e
unfolding judged
passed m e passes = (accepted (view m) e passes).passed

-- ---- an accepted event
item_told : (r : Roster) (x : Item) → is_listed r x ≡ true → OnRoster r x
item_told r (item.Instrument i) h = between_numbered r.instruments i h
item_told r (item.Contract c) h = between_numbered r.contracts c h
item_told r (item.Group g) h = between_numbered r.groups g h

some_told : {A : Type 0} (f : A → Bool) (P : A → Type 0) → ((x : A) → f x ≡ true → P x) → (y : Option A) → where_some f y ≡ true
    → WhereSome P y
some_told f P each None h = tt
some_told f P each (Some x) h = each x h

-- a balance in range
pub balance_told : (largest : ℕ) (z : ℤ) → between_ℤ (neg_ℤ (pos largest)) (pos largest) z ≡ true → nat_abs z ≤ largest
balance_told largest z h =
    let in_range = between_ℤ_both (neg_ℤ (pos largest)) (pos largest) z h in
    within_in z largest in_range.0 in_range.1

pub quantity : (n : ℤ) → is_quantity n ≡ true → Quantity n
quantity n e =
    let h = between_ℤ_both (pos 1) (pos 1000000) n e in
    (omega signed, quantity_numbered n e)

module _ (m : List ℕ) (held : SoundMemory m) where
  change_facts : (id : ℕ) (c : OrderChange) → judged m (Change id c) ≡ 0 → AcceptedFacts m (Change id c)
  unfolding book_of
  change_facts id c passes =
      let x = named_order (view m) id c (passed m (Change id c) passes) in
      let o = x.order in (
        record { order = o; found = x.found; fits = (sound m held).fits o (standing_member (standing id (open_orders m) o x.found)) },
        (x.figures, x.fits),
      )

  pub accepted_facts : (e : Event) → judged m e ≡ 0 → AcceptedFacts m e
  unfolding account_known item_known figures_fit place_free book_of
  accepted_facts (Set x) passes =
      let ok = passed m (Set x) passes in
      let r = roster_of m in (
        some_told (between 1 r.accounts) (Numbered r.accounts) (between_numbered r.accounts) (setting_account x) ok.account,
        some_told (is_listed r) (OnRoster r) (item_told r) (setting_item x) ok.item,
        ok.figures,
      )
  accepted_facts (New s a i id n) passes =
      let ok = passed m (New s a i id n) passes in
      let few = ltb-true (length (open_orders m)) 256 ok.room in (
        between_numbered (roster_of m).accounts a ok.account,
        between_numbered (roster_of m).instruments i ok.item,
        quantity n ok.figures,
        omega (arith, length_open m),
      )
  accepted_facts (Change id c) passes = change_facts id c passes
  accepted_facts Junk passes = tt
