-- The questions of a load, in W1's order: after 5, 25 of the bytes, 26 of the whole file, then 7, 8 and 9 of entry after entry; and the
-- LIMIT events that it yields, in file order.
use Rattle.std.specs.Prelude.{◌&&◌, ◌||◌, ◌∷◌, ◌++◌}
use Rattle.integers.specs.Basics.{ℕ, Bool, true, false, not, List, [], Option, None, Some, pos, eqb}
use Rattle.ledger.specs.Roster.{Roster}
use Rattle.limits.specs.Questions.{Question}
use Rattle.book.specs.declared.Figures.{Figures}
use Rattle.book.specs.declared.LimitLine.{LimitLine}
use Rattle.book.specs.declared.LimitLine.TheVariants.{Own, Default, OfGroup}
use Rattle.book.specs.declared.Setting.TheVariants.{Limit}
use Rattle.book.specs.declared.Event.{Event}
use Rattle.book.specs.declared.Event.TheVariants.{Set}
use Rattle.book.specs.Decoding.{between}
use Rattle.book.specs.declared.Item.{Item}
use Rattle.book.specs.declared.Item.TheVariants as item
use Rattle.book.specs.Market.{Market}
use Rattle.book.specs.States.{State}
use Rattle.book.specs.Table.{q, where_some, is_listed, line_fits}
use Rattle.grammar.specs.Grammar.{Numbers, Value}
use Rattle.grammar.specs.Document.{file_of}
use Rattle.limit_file.specs.Layout.{two, four, request, limit_file}
use Rattle.memory_working.specs.Working.{worked}
use Rattle.grammar.specs.Bytes.{all}
use Rattle.memory_loading.specs.Entries.{Entry, account_entry, group_entry, contract_entry, instrument_entry, entries, counts_right}

-- ---- what an entry names
abbrev pub entry_account : Entry → ℕ
entry_account (account_entry a) = a
entry_account (group_entry a g l) = a
entry_account (contract_entry a g c l) = a
entry_account (instrument_entry a c i l) = a

abbrev pub entry_item : Entry → Option Item
entry_item (account_entry a) = None
entry_item (group_entry a g l) = Some (item.Group g)
entry_item (contract_entry a g c l) = Some (item.Contract c)
entry_item (instrument_entry a c i l) = Some (item.Instrument i)

-- the file's order is long, short, bid, offer; an event's is TCI, TVI, LCI, LVI
abbrev group_line : ℕ → Option (Numbers two) → Option LimitLine
group_line g None = None
group_line g (Some (long, (short, t))) = Some (OfGroup g (pos long) (pos short))

abbrev four_figures : Option (Numbers four) → Option Figures
four_figures None = None
four_figures (Some (long, (short, (bid, (offer, t))))) = Some (record { tci = pos bid; tvi = pos offer; lci = pos long; lvi = pos short })

abbrev line_with : (Figures → LimitLine) → Option Figures → Option LimitLine
line_with f None = None
line_with f (Some x) = Some (f x)

-- the line that it sets, where it has limits
abbrev pub entry_line : Entry → Option LimitLine
entry_line (account_entry a) = None
entry_line (group_entry a g l) = group_line g l
entry_line (contract_entry a g c l) = line_with (Default c) (four_figures l)
entry_line (instrument_entry a c i l) = line_with (Own i) (four_figures l)

-- ---- the questions
-- is a contract or instrument of the roster where it stands: under its own group or contract?
abbrev pub contract_in_place : Roster → ℕ → ℕ → Bool
contract_in_place r g c = not (between 1 r.contracts c) || eqb (r.group_of c) g

abbrev pub instrument_in_place : Roster → ℕ → ℕ → Bool
instrument_in_place r c i = not (between 1 r.instruments i) || eqb (r.contract_of i) c

unfoldable pub in_place : Roster → Entry → Bool
in_place r (account_entry a) = true
in_place r (group_entry a g l) = true
in_place r (contract_entry a g c l) = contract_in_place r g c
in_place r (instrument_entry a c i l) = instrument_in_place r c i

abbrev pub entry_questions : Market → Roster → Entry → List Question
entry_questions mk r e =
    q 7 (between 1 r.accounts (entry_account e))
    ∷ q 8 (where_some (is_listed r) (entry_item e))
    ∷ q 9 (where_some (line_fits mk.largest) (entry_line e))
    ∷ []

unfoldable pub questions_of : Market → Roster → List Entry → List Question
questions_of mk r [] = []
questions_of mk r (e ∷ es) = entry_questions mk r e ++ questions_of mk r es

abbrev pub file_questions : State → Option (Value request) → List Question
file_questions k None = q 25 false ∷ []
file_questions k (Some v) =
    q 25 true ∷ q 26 (counts_right v && all (in_place k.roster) (entries v)) ∷ questions_of k.market k.roster (entries v)

-- the whole table of a load, 5 first
unfoldable pub load_questions : Bool → State → List ℕ → List Question
load_questions sound k s = q 5 sound ∷ file_questions k (file_of limit_file s)

-- ---- the events
-- something of each entry with limits, by its account and its line
abbrev pub where_limited : {A : Type 0} → (ℕ → LimitLine → A) → ℕ → Option LimitLine → List A
where_limited f a None = []
where_limited f a (Some l) = f a l ∷ []

unfoldable pub each_limited : {A : Type 0} → (ℕ → LimitLine → A) → List Entry → List A
each_limited f [] = []
each_limited f (e ∷ es) = where_limited f (entry_account e) (entry_line e) ++ each_limited f es

-- a LIMIT for each of them
abbrev pub events_of : List Entry → List Event
events_of es = each_limited (λ a l. Set (Limit a l)) es

abbrev pub file_events : Option (Value request) → List Event
file_events None = []
file_events (Some v) = events_of (entries v)

-- the memory when events are worked one after the other
unfoldable pub all_worked : List ℕ → List Event → List ℕ
all_worked m [] = m
all_worked m (e ∷ es) = all_worked (worked m e) es
