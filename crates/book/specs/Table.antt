-- Document 01, "Questions, in order": each question about an event is one definition, true also of an event that is not
-- asked it, and the table has them in the document's order. Question 5 is asked of the memory, before these.
use Rattle.std.specs.Prelude.{◌&&◌, ◌||◌, ◌∷◌, ◌++◌}
use Rattle.integers.specs.Basics.{ℕ, Bool, true, false, not, cond, List, [], Option, None, Some, ℤ, pos, neg_ℤ}
use Rattle.integers.specs.Basics.{nat_abs, le_z, leb, ltb, length}
use Rattle.ledger.specs.declared.order.Order.{Order}
use Rattle.ledger.specs.declared.order.Side.TheVariants.{Buy, Sell}
use Rattle.ledger.specs.Orders.{remaining, replaced_total}
use Rattle.ledger.specs.Roster.{Roster, group_of_instrument}
use Rattle.limits.specs.Lines.{is_set}
use Rattle.limits.specs.Questions.{Question, first_no}
use Rattle.limits.specs.Asked.{limits_set, size_fits, position_questions}
use Rattle.book.specs.declared.Figures.{Figures}
use Rattle.book.specs.declared.LimitLine.{LimitLine}
use Rattle.book.specs.declared.LimitLine.TheVariants.{Own, Default, OfGroup}
use Rattle.book.specs.declared.Setting.{Setting}
use Rattle.book.specs.declared.Setting.TheVariants.{Limit, Balance, Block}
use Rattle.book.specs.declared.OrderChange.{OrderChange}
use Rattle.book.specs.declared.OrderChange.TheVariants.{Replace, Cancel, Fill}
use Rattle.book.specs.declared.Event.{Event}
use Rattle.book.specs.declared.Event.TheVariants.{Set, New, Change, Junk}
use Rattle.book.specs.Market.{Market}
use Rattle.book.specs.Decoding.{between}
use Rattle.book.specs.OpenOrders.{find}
use Rattle.book.specs.Books.{Book, is_minus_one, unsets, new_order}
use Rattle.book.specs.States.{State, work}
use Rattle.book.specs.declared.Item.{Item}
use Rattle.book.specs.declared.Item.TheVariants as item
use Rattle.book.specs.Names.{named_account, named_item, balance_account, new_order_of, change_of}

-- is it so of what is named, where something is
abbrev pub where_some : {A : Type 0} → (A → Bool) → Option A → Bool
where_some test None = true
where_some test (Some x) = test x

-- 6: is it an event?
unfoldable pub is_event : Event → Bool
is_event (Set x) = true
is_event (New s a i id n) = true
is_event (Change id c) = true
is_event Junk = false

-- 7: is a named account on the roster?
unfoldable pub account_known : Roster → Event → Bool
account_known r e = where_some (between 1 r.accounts) (named_account e)

-- 8: is a named item on the roster?
abbrev pub is_listed : Roster → Item → Bool
is_listed r (item.Instrument i) = between 1 r.instruments i
is_listed r (item.Contract c) = between 1 r.contracts c
is_listed r (item.Group g) = between 1 r.groups g

unfoldable pub item_known : Roster → Event → Bool
item_known r e = where_some (is_listed r) (named_item e)

-- 9: are the figures in range: limits from 0 to the largest or −1 throughout, a balance as far either way, a block 0 or 1, a
-- quantity or total from 1 to 1,000,000?
abbrev pub between_ℤ : ℤ → ℤ → ℤ → Bool
between_ℤ low high z = le_z low z && le_z z high

abbrev pub is_limit : ℕ → ℤ → Bool
is_limit largest z = between_ℤ (pos 0) (pos largest) z

abbrev pub figures_of_line_fit : ℕ → Figures → Bool
figures_of_line_fit largest f =
    unsets f || (is_limit largest f.tci && is_limit largest f.tvi && is_limit largest f.lci && is_limit largest f.lvi)

abbrev pub line_fits : ℕ → LimitLine → Bool
line_fits largest (Own i f) = figures_of_line_fit largest f
line_fits largest (Default c f) = figures_of_line_fit largest f
line_fits largest (OfGroup g x y) = (is_minus_one x && is_minus_one y) || (is_limit largest x && is_limit largest y)

abbrev pub is_quantity : ℤ → Bool
is_quantity n = between_ℤ (pos 1) (pos 1000000) n

abbrev pub change_in_range : OrderChange → Bool
change_in_range (Replace n) = is_quantity n
change_in_range Cancel = true
change_in_range (Fill n) = is_quantity n

abbrev pub setting_in_range : Market → Setting → Bool
setting_in_range mk (Limit a l) = line_fits mk.largest l
setting_in_range mk (Balance a i z) = between_ℤ (neg_ℤ (pos mk.largest)) (pos mk.largest) z
setting_in_range mk (Block what z) = between_ℤ (pos 0) (pos 1) z

unfoldable pub figures_fit : Market → Event → Bool
figures_fit mk (Set x) = setting_in_range mk x
figures_fit mk (New s a i id n) = is_quantity n
figures_fit mk (Change id c) = change_in_range c
figures_fit mk Junk = true

-- 10: BALANCE: is the account not yet trading?
unfoldable pub not_yet_trading : (ℕ → Bool) → Event → Bool
not_yet_trading trading e = where_some (λ a. not (trading a)) (balance_account e)

-- 11: REPLACE, CANCEL, FILL: is the id open?
unfoldable pub id_open : Book → Event → Bool
id_open b e = where_some (λ x. is_set (find x.id b.orders)) (change_of e)

-- 12: REPLACE: is the new total above what is filled? FILL: is it at most what remains?
abbrev pub fits_order : OrderChange → Order → Bool
fits_order (Replace n) o = ltb o.filled (nat_abs n)
fits_order Cancel o = true
fits_order (Fill n) o = leb (nat_abs n) (remaining o)

unfoldable pub quantity_fits : Book → Event → Bool
quantity_fits b e = where_some (λ x. where_some (fits_order x.change) (find x.id b.orders)) (change_of e)

-- the order that a REPLACE whose total rises raises to
abbrev pub raised : OrderChange → Option Order → Option Order
raised (Replace n) None = None
raised (Replace n) (Some o) = cond (ltb o.total (nat_abs n)) (Some (replaced_total o (nat_abs n))) None
raised Cancel x = None
raised (Fill n) x = None

-- the order entered, by a NEW, or raised: questions 14 to 24 are asked of it
unfoldable pub entered : Book → Event → Option Order
entered b (Set x) = None
entered b (New s a i id n) = Some (new_order s a i id n)
entered b (Change id c) = raised c (find id b.orders)
entered b Junk = None

-- 13: NEW: is the id not open?
unfoldable pub id_free : Book → Event → Bool
id_free b e = where_some (λ o. not (is_set (find o.id b.orders))) (new_order_of e)

-- 18: NEW: are fewer than 256 orders open?
unfoldable pub place_free : Book → Event → Bool
place_free b e = where_some (λ o. ltb (length b.orders) 256) (new_order_of e)

abbrev pub q : ℕ → Bool → Question
q n test = record { number = n; passes = test }

-- 14 to 17, of the order entered or raised: are account, instrument and group unblocked, and are the limits set? The judge of an order has
-- the same list
abbrev pub admission_questions : State → Option Order → List Question
admission_questions k x =
    let b = k.book in
    q 14 (where_some (λ o. not (b.blocks.account o.account)) x)
    ∷ q 15 (where_some (λ o. not (b.blocks.instrument o.instrument)) x)
    ∷ q 16 (where_some (λ o. not (b.blocks.group o.account (group_of_instrument k.roster o.instrument))) x)
    ∷ q 17 (where_some (λ o. limits_set k.roster (b.lines_of o.account) o) x)
    ∷ []

-- the questions before the position limits, 5 left aside, asked of what the desk holds
unfoldable pub questions_before : State → Event → List Question
questions_before k e =
    let b = k.book in
    q 6 (is_event e)
    ∷ q 7 (account_known k.roster e)
    ∷ q 8 (item_known k.roster e)
    ∷ q 9 (figures_fit k.market e)
    ∷ q 10 (not_yet_trading k.beside.trading e)
    ∷ q 11 (id_open b e)
    ∷ q 12 (quantity_fits b e)
    ∷ q 13 (id_free b e)
    ∷ (admission_questions k (entered b e)
    ++ (q 18 (place_free b e)
    ∷ q 19 (where_some (λ o. size_fits k.market.unit k.roster (b.lines_of o.account) o Buy) (entered b e))
    ∷ q 20 (where_some (λ o. size_fits k.market.unit k.roster (b.lines_of o.account) o Sell) (entered b e))
    ∷ []))

-- questions 21 to 24, of a state with the event applied
abbrev pub positions_after : State → Option Order → List Question
positions_after k None = []
positions_after k (Some o) =
    position_questions k.market.unit k.roster (k.book.lines_of o.account) k.book.orders (k.book.balance_of o.account) o

unfoldable pub limit_questions : State → Event → List Question
limit_questions k e = positions_after (work k e) (entered k.book e)

-- the whole table of an event, 5 first: `sound` says whether the memory is long enough and holds a sound desk
unfoldable pub questions : Bool → State → Event → List Question
questions sound k e = q 5 sound ∷ (questions_before k e ++ limit_questions k e)

-- the answer at a sound desk: the number of the first question that is answered no, or 0, an acceptance
unfoldable pub answer : State → Event → ℕ
answer k e = first_no (questions_before k e ++ limit_questions k e)
