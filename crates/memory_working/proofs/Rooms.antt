-- What the functions over a desk's fields ask of an accepted setting: its places are inside the memory.
use Rattle.std.specs.Prelude.{◌≤◌, IfSome}
use Rattle.integers.specs.Basics.{ℕ, List, Option, None, Some, length}
use Rattle.integers.specs.Basics.{arith}
use Rattle.ledger.specs.Roster.{Numbered}
use Rattle.book.specs.declared.Setting.{Setting}
use Rattle.book.specs.declared.Event.TheVariants.{Set}
use Rattle.book.specs.declared.Item.{Item}
use Rattle.book.specs.declared.Item.TheVariants as item
use Rattle.book.specs.Settings.{setting_account, setting_item}
use Rattle.memory_layout.specs.Layout.{memory_bytes}
use Rattle.memory_layout.specs.View.{roster_of}
use Rattle.memory_layout.proofs.SameFields.{InBounds}
use Rattle.memory_working.specs.Working.{AcceptedEvent}
use Rattle.memory_working.proofs.AcceptedFacts.{OnRoster, WhereSome, laid, accepted_facts}

-- an account or an item is in its row's range
abbrev pub ItemRoom : Item → Type 0
ItemRoom (item.Instrument i) = i ≤ 32
ItemRoom (item.Contract c) = c ≤ 8
ItemRoom (item.Group g) = g ≤ 4

abbrev pub Room : List ℕ → Setting → Type 0
Room m x = (memory_bytes ≤ length m) × WhereSome (λ a. a ≤ 16) (setting_account x) × WhereSome ItemRoom (setting_item x)

module _ (m : List ℕ) (held : InBounds m) where
  item_room : (x : Item) → OnRoster (roster_of m) x → ItemRoom x
  item_room (item.Instrument i) on = omega (arith, held.sized.instruments)
  item_room (item.Contract c) on = omega (arith, held.sized.contracts)
  item_room (item.Group g) on = omega (arith, held.sized.groups)

where_some_lem : {A : Type 0} (P Q : A → Type 0) → ((x : A) → P x → Q x) → (y : Option A) → WhereSome P y → WhereSome Q y
where_some_lem P Q each None h = tt
where_some_lem P Q each (Some x) h = each x h

pub room : {m : List ℕ} {x : Setting} → AcceptedEvent m (Set x) → Room m x
room {m} {x} r =
    let held = laid m r.held in
    let t = accepted_facts m r.held (Set x) r.accepted in (
      held.long,
      where_some_lem (Numbered (roster_of m).accounts) (λ a. a ≤ 16) (λ a on. omega (arith, held.sized.accounts)) (setting_account x) t.0,
      where_some_lem (OnRoster (roster_of m)) ItemRoom (item_room m held) (setting_item x) t.1,
    )

-- what holds in any case holds of what there is
pub if_any : {A : Type 0} {P : A → Type 0} (o : Option A) → ((x : A) → P x) → IfSome o P
if_any None p = tt
if_any (Some x) p = p x
