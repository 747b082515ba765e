-- What reading a part of a file does at a desk: entries are passed, one after the other, and the memory stays one that can be put back.
use Prim.Native.String.{String}
use Rattle.std.specs.Prelude.{◌≤◌, ◌≡◌, ◌&&◌, Result, Ok}
use Rattle.integers.specs.Basics.{ℕ, zero, suc, Bool, true, List, Option, None, Some, pos, negsuc, eqb}
use Rattle.integers.specs.Basics.{length, get_or}
use Rattle.limits.specs.declared.answer.Refusal.{Refusal}
use Rattle.limits.specs.Answers.{number_of}
use Rattle.limits.specs.Questions.{first_no}
use Rattle.book.specs.declared.Figures.{Figures}
use Rattle.book.specs.declared.LimitLine.{LimitLine}
use Rattle.book.specs.declared.LimitLine.TheVariants.{OfGroup}
use Rattle.grammar.specs.Grammar.{Numbers, Element, Value}
use Rattle.grammar.specs.Reader.{nothing, element_at, children_at}
use Rattle.grammar.specs.Document.{file_of}
use Rattle.grammar.specs.Place.{Place}
use Rattle.grammar.specs.Found.{found}
use Rattle.limit_file.specs.Layout.{two, four, request, limit_file}
use Rattle.memory_layout.specs.View.{market_of, roster_of, view}
use Rattle.memory_soundness.specs.SoundMemory.{SoundMemory}
use Rattle.memory_loading.specs.declared.progress.Progress.{Progress}
use Rattle.grammar.specs.Bytes.{all}
use Rattle.memory_loading.specs.Entries.{Entry, entries_of, entries, counts_right}
use Rattle.memory_loading.specs.Loading.{in_place, questions_of, events_of, all_worked, file_questions, file_events}

-- ---- limits as code hands them on
-- in an event's order, −1 throughout where there are none: such a line is asked as any other
abbrev pub figures_or : Option (Numbers four) → Figures
figures_or None = record { tci = negsuc 0; tvi = negsuc 0; lci = negsuc 0; lvi = negsuc 0 }
figures_or (Some (long, (short, (bid, (offer, t))))) = record { tci = pos bid; tvi = pos offer; lci = pos long; lvi = pos short }

abbrev pub group_line_or : ℕ → Option (Numbers two) → LimitLine
group_line_or g None = OfGroup g (negsuc 0) (negsuc 0)
group_line_or g (Some (long, (short, t))) = OfGroup g (pos long) (pos short)

-- ---- entries passed
-- the first of two answers that is a refusal
abbrev pub first_of : ℕ → ℕ → ℕ
first_of zero b = b
first_of (suc a) b = suc a

-- and whether a count is right besides
abbrev pub with_count : Progress → Bool → Progress
with_count j c = record { right = j.right && c; first = j.first }

-- n is a memory of the desk in m: sound, of the same market and roster, and no byte behind the desk is another
pub record Kept (m n : List ℕ) : Type 0 where
  pub sound : SoundMemory n
  pub same_length : length n ≡ length m
  pub same_market : market_of n ≡ market_of m
  pub same_roster : roster_of n ≡ roster_of m
  pub same_behind : (i : ℕ) → 65536 ≤ i → get_or n i 0 ≡ get_or m i 0

-- from progress j at memory m to progress k at memory n by these entries, whose counts are right or not
pub record Passed (m : List ℕ) (es : List Entry) (counts : Bool) (j : Progress) (n : List ℕ) (k : Progress) : Type 0 where
  pub right : k.right ≡ j.right && (counts && all (in_place (roster_of m)) es)
  pub first : number_of k.first ≡ first_of (number_of j.first) (first_no (questions_of (market_of m) (roster_of m) es))
  pub all_worked_lem : number_of k.first ≡ 0 → n ≡ all_worked m (events_of es)
  pub kept : Kept m n

-- ---- elements read from place p on, up to place q: f gives the entries of one, c whether its counts are right
abbrev pub ElementRead : (e : Element) → (Value e → List Entry) → (Value e → Bool) → Place → List ℕ → Progress → List ℕ
    → Option (Progress × Place) → Type 0
ElementRead e f c p m j n None = (element_at p.bytes e p.at ≡ nothing) × Kept m n
ElementRead e f c p m j n (Some (k, q)) =
    (v : Value e) × (found p.bytes (element_at p.bytes e p.at) ≡ Some (v, q)) × Passed m (f v) (c v) j n k

-- all those that an element of this name holds, from behind its attributes on; it says how many they are
abbrev pub ChildrenRead : (e : Element) → (Value e → List Entry) → (Value e → Bool) → String → (said : ℕ) → Place → List ℕ → Progress
    → List ℕ → Option (Progress × Place) → Type 0
ChildrenRead e f c name said p m j n None = (children_at p.bytes (element_at p.bytes e) name p.at ≡ nothing) × Kept m n
ChildrenRead e f c name said p m j n (Some (k, q)) =
    (vs : List (Value e)) × (found p.bytes (children_at p.bytes (element_at p.bytes e) name p.at) ≡ Some (vs, q))
    × Passed m (entries_of f vs) (eqb said (length vs) && all c vs) j n k

abbrev pub beginning : Progress
beginning = record { right = true; first = Ok tt }

-- ---- the whole file
abbrev pub FileRead : List ℕ → List ℕ → List ℕ → Option Progress → Type 0
FileRead m s n None = (file_of limit_file s ≡ None) × Kept m n
FileRead m s n (Some k) = (v : Value request) × (file_of limit_file s ≡ Some v) × Passed m (entries v) (counts_right v) beginning n k

pub record Loaded (m s n : List ℕ) (r : Result (Unit {0}) Refusal) : Type 0 where
  pub answer : number_of r ≡ first_no (file_questions (view m) (file_of limit_file s))
  pub all_worked_lem : number_of r ≡ 0 → n ≡ all_worked m (file_events (file_of limit_file s))
  pub kept : Kept m n
