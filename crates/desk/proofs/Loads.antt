-- A load as its LIMIT events: where every entry passes 7, 8 and 9, each event is accepted in its turn, and the memory is the same.
use Rattle.std.specs.Prelude.{◌≤◌, ◌<◌, ◌≡◌, ◌∷◌, ◌++◌, ◌⊎◌}
use Rattle.integers.specs.Basics.{ℕ, refl, ◌∙◌, sym, ap, Bool, true, false, List, [], inl, inr, ⊎_elim}
use Rattle.integers.specs.Basics.{Option, None, Some, false≢true, leb, length, replicate, arith, leb-true}
use Rattle.words.specs.Bytes.{Bytes}
use Rattle.limits.specs.Questions.{first_no}
use Rattle.limits.specs.Lines.{is_set}
use Rattle.limits.proofs.Answers.{both_true}
use Rattle.book.specs.declared.LimitLine.{LimitLine}
use Rattle.book.specs.declared.LimitLine.TheVariants.{Own, Default, OfGroup}
use Rattle.book.specs.declared.Setting.TheVariants.{Limit}
use Rattle.book.specs.declared.Event.{Event}
use Rattle.book.specs.declared.Event.TheVariants.{Set}
use Rattle.book.specs.Decoding.{between, decode}
use Rattle.book.specs.LimitBytes.{limit_bytes, number_in}
use Rattle.book.specs.declared.Item.{Item}
use Rattle.book.specs.Settings.{limited_item}
use Rattle.book.specs.Sound.{RosterFits}
use Rattle.book.specs.Table.{q, where_some, is_listed, line_fits}
use Rattle.book.proofs.LimitBytes.{limit_decoded_fits}
use Rattle.ledger.specs.Roster.{Roster}
use Rattle.memory_layout.specs.View.{market_of, roster_of}
use Rattle.memory_layout.specs.Judged.{judged}
use Rattle.memory_layout.proofs.MarketRead.{market_most}
use Rattle.memory_soundness.specs.SoundMemory.{SoundMemory}
use Rattle.memory_working.specs.Working.{worked}
use Rattle.memory_working.proofs.Writes.{bytes_worked, roster_worked, market_worked}
use Rattle.memory_working.proofs.SoundWorked.{sound_worked}
use Rattle.memory_loading.specs.Entries.{Entry, account_entry, group_entry, contract_entry, instrument_entry}
use Rattle.memory_loading.specs.Loading.{entry_account, entry_item, entry_line, entry_questions, questions_of, where_limited, each_limited}
use Rattle.memory_loading.specs.Loading.{events_of}
use Rattle.memory_loading.specs.Loading.{all_worked}
use Rattle.memory_loading.proofs.Passes.{first_of_zero, second_of_zero, asked_first_lem}
use Rattle.memory_loading.proofs.Entered.{limit_answer}
use Rattle.desk.specs.Step.{answer_to, after_event}
use Rattle.desk.specs.Days.{answers_over, memory_over}
use Rattle.desk.proofs.Events.{answer_sound, after_accepted}

-- an entry that passes 7, 8 and 9
all_three : (x y z : Bool) → first_no (q 7 x ∷ q 8 y ∷ q 9 z ∷ []) ≡ 0 → (x ≡ true) × (y ≡ true) × (z ≡ true)
unfolding first_no
all_three true true true e = (refl, refl, refl)
all_three true true false e = absurd (omega (arith, e))
all_three true false z e = absurd (omega (arith, e))
all_three false y z e = absurd (omega (arith, e))

-- an entry with limits names its line's item
item_of : Option LimitLine → Option Item
item_of None = None
item_of (Some l) = Some (limited_item l)

by_line : (e : Entry) → (entry_line e ≡ None) ⊎ (entry_item e ≡ item_of (entry_line e))
unfolding item_of
by_line (account_entry a) = inl refl
by_line (group_entry a g None) = inl refl
by_line (group_entry a g (Some x)) = inr refl
by_line (contract_entry a g c None) = inl refl
by_line (contract_entry a g c (Some x)) = inr refl
by_line (instrument_entry a c i None) = inl refl
by_line (instrument_entry a c i (Some x)) = inr refl

same_item : (e : Entry) (l : LimitLine) → entry_line e ≡ Some l → entry_item e ≡ Some (limited_item l)
unfolding item_of
same_item e l is =
    ⊎_elim (λ missing. absurd (false≢true (ap is_set (sym missing ∙ is)))) (λ item. item ∙ ap item_of is) (by_line e)

-- numbers of a roster fit 16 bits
small_between : {most n : ℕ} → between 1 most n ≡ true → most ≤ 32 → n < 65536
small_between {most = most} {n = n} h few = let le = leb-true n most (both_true (leb 1 n) (leb n most) h).1 in omega (arith, le)

small_item : (r : Roster) (l : LimitLine) → RosterFits r → is_listed r (limited_item l) ≡ true → number_in l < 65536
small_item r (Own i f) fits h = small_between h (let b = fits.instruments in omega arith)
small_item r (Default c f) fits h = small_between h (let b = fits.contracts in omega arith)
small_item r (OfGroup g x y) fits h = small_between h (let b = fits.groups in omega arith)

module _ (m : List ℕ) (bytes : Bytes m) (held : SoundMemory m) (e : Entry) (l : LimitLine) (is : entry_line e ≡ Some l)
    (asked : first_no (entry_questions (market_of m) (roster_of m) e) ≡ 0) where
  passes : (between 1 (roster_of m).accounts (entry_account e) ≡ true) × (is_listed (roster_of m) (limited_item l) ≡ true)
      × (line_fits (market_of m).largest l ≡ true)
  passes =
      let three = all_three _ _ _ asked in (
        three.0,
        sym (ap (where_some (is_listed (roster_of m))) (same_item e l is)) ∙ three.1,
        sym (ap (where_some (line_fits (market_of m).largest)) is) ∙ three.2,
      )

  -- the LIMIT of the entry, in its bytes
  limit_read : decode (limit_bytes (entry_account e) l) ≡ Set (Limit (entry_account e) l)
  limit_read =
      limit_decoded_fits (market_of m).largest (entry_account e) l passes.2 (market_most m)
      (small_between passes.0 (let b = held.book.roster.accounts in omega arith))
      (small_item (roster_of m) l held.book.roster passes.1)

  limit_judged : judged m (Set (Limit (entry_account e) l)) ≡ 0
  unfolding first_no
  limit_judged = limit_answer m (entry_account e) l true true true passes.0 passes.1 passes.2

  pub limit_accepted : answer_to m (limit_bytes (entry_account e) l) ≡ 0
  limit_accepted = answer_sound m _ held ∙ ap (judged m) limit_read ∙ limit_judged

  pub limit_worked : after_event m (limit_bytes (entry_account e) l) ≡ worked m (Set (Limit (entry_account e) l))
  limit_worked = after_accepted m _ limit_accepted ∙ ap (worked m) limit_read

-- ---- the whole load
-- these bytes are accepted one after the other, and leave what these events do
abbrev pub OneByOne : List ℕ → List (List ℕ) → List Event → Type 0
OneByOne m limits events =
    (memory_over m limits ≡ all_worked m events) × (answers_over m limits ≡ replicate (length limits) 0)

-- an entry, and then those behind it, at the memory that it leaves
entry_then : (m : List ℕ) → Bytes m → SoundMemory m → (e : Entry) → first_no (entry_questions (market_of m) (roster_of m) e) ≡ 0
    → (limits : List (List ℕ)) (events : List Event)
    → ((n : List ℕ) → Bytes n → SoundMemory n → market_of n ≡ market_of m → roster_of n ≡ roster_of m → OneByOne n limits events)
    → (x : Option LimitLine) → entry_line e ≡ x
    → OneByOne m (where_limited limit_bytes (entry_account e) x ++ limits)
    (where_limited (λ a l. Set (Limit a l)) (entry_account e) x ++ events)
unfolding memory_over answers_over all_worked
entry_then m bytes held e asked limits events rest None is = rest m bytes held refl refl
entry_then m bytes held e asked limits events rest (Some l) is =
    let z = limit_judged m bytes held e l is asked in
    let w = limit_worked m bytes held e l is asked in
    let then =
    rest (worked m (Set (Limit (entry_account e) l))) (bytes_worked m held _ z bytes) (sound_worked m bytes held _ tt tt z)
    (market_worked m held _ z) (roster_worked m held _ z) in (
      ap (λ n. memory_over n limits) w ∙ then.0,
      ap (λ a. a ∷ answers_over (after_event m (limit_bytes (entry_account e) l)) limits) (limit_accepted m bytes held e l is asked)
          ∙ ap (λ n. 0 ∷ answers_over n limits) w ∙ ap (λ l. 0 ∷ l) then.1,
    )

pub loads_worked : (es : List Entry) (m : List ℕ) → Bytes m → SoundMemory m → first_no (questions_of (market_of m) (roster_of m) es) ≡ 0
    → OneByOne m (each_limited limit_bytes es) (events_of es)
unfolding each_limited memory_over answers_over all_worked
loads_worked [] m bytes held asked = (refl, refl)
loads_worked (e ∷ es) m bytes held asked =
    let both = sym (asked_first_lem (market_of m) (roster_of m) e es) ∙ asked in
    let first = first_no (entry_questions (market_of m) (roster_of m) e) in
    entry_then m bytes held e (first_of_zero first _ both) (each_limited limit_bytes es) (events_of es)
    (λ n b h mk r. loads_worked es n b h
    (ap (λ x. first_no (questions_of x (roster_of n) es)) mk ∙ ap (λ x. first_no (questions_of (market_of m) x es)) r
    ∙ second_of_zero first _ both))
    (entry_line e) refl
