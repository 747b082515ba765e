-- Questions 14 to 17 and 19 to 24 at a sound desk, as the functions below answer them.
use Rattle.std.specs.Prelude.{◌≡◌}
use Rattle.integers.specs.Basics.{ℕ, refl, ◌∙◌, sym, ap, true, not, cond, List, ℤ, pos, eqb, length, arith}
use Rattle.ledger.specs.declared.order.Order.{Order}
use Rattle.ledger.specs.Roster.{Numbered, group_of_instrument}
use Rattle.ledger.specs.Records.{balances_in, roster_in}
use Rattle.ledger.specs.Derivatives.{one}
use Rattle.positions.specs.Gathered.{Gathered}
use Rattle.positions.specs.Bounds.{WeighBounds}
use Rattle.positions.proofs.Weighing.{cells_small}
use Rattle.limits.specs.Lines.{Lines, line_in_force, is_set}
use Rattle.limits.specs.Questions.{first_no}
use Rattle.limits.specs.Asked.{limits_set, position_questions}
use Rattle.limits.specs.Raised.{Raised}
use Rattle.limits.specs.Numbers.{existence_questions, size_questions}
use Rattle.limits.specs.Bounds.{InForce, OfGroup}
use Rattle.limits.proofs.Agreement.{same_in_force, same_questions}
use Rattle.limits.proofs.Answers.{both_true}
use Rattle.book.specs.Market.{market_of_kind}
use Rattle.memory_layout.specs.View.{market_of, roster_part, roster_of, balances_part, lines_of, blocks_of, balances_of, open_orders}
use Rattle.memory_layout.specs.Readable.{HoldsLine, HoldsGroupLine}
use Rattle.memory_layout.proofs.RosterRead.{instruments_same, contract_same}
use Rattle.memory_soundness.specs.SoundMemory.{SoundMemory}
use Rattle.memory_soundness.proofs.Bounded.{sound_readable, unfilled_small, group_bounds}
use Rattle.memory_soundness.proofs.Agreement.{group_same, words_agree}
use Rattle.memory_judging.specs.OrderFields.{AskedAt}
use Rattle.memory_judging.proofs.QuestionsInOrder.{first_of_both, refusal_counts}
use Rattle.memory_judging.specs.OrderQuestions.{admission, within_limits, PositionsAnswered, OnRoster, Sizable}

-- the contract that was read is the instrument's, and the group that contract's; a sound roster names its own
pub asked_of : (m : List ℕ) (o : Order) (contract group : ℕ) → SoundMemory m → OnRoster m o
    → contract ≡ (roster_of m).contract_of o.instrument → group ≡ (roster_of m).group_of contract → AskedAt m o contract group
unfolding group_of_instrument
asked_of m o contract group held on is of_group =
    let there = held.book.roster.contract_of _ on.instrument in
    let named = of_group ∙ rw is in
    record {
      on = on;
      contract = is;
      group = named;
      on_contract = rw is there;
      on_group = rw named (held.book.roster.group_of _ there);
    }

-- ---- 14 to 16 in their order, and then 17
pub admission_answer : (m : List ℕ) (o : Order) → first_no (admission m o) ≡
    cond (not ((blocks_of m).account o.account)) (cond (not ((blocks_of m).instrument o.instrument))
    (cond (not ((blocks_of m).group o.account (group_of_instrument (roster_of m) o.instrument)))
    (first_no (existence_questions (roster_of m) (lines_of m o.account) o)) 16) 15) 14
unfolding first_no admission existence_questions
admission_answer m o = refl

-- the line in force and the group line are set
pub both_set : (m : List ℕ) (o : Order) → limits_set (roster_of m) (lines_of m o.account) o ≡ true
    → (is_set (line_in_force (roster_of m) (lines_of m o.account) o.instrument) ≡ true)
    × (is_set ((lines_of m o.account).line_of_group (group_of_instrument (roster_of m) o.instrument)) ≡ true)
unfolding limits_set
both_set m o set = both_true _ _ set

-- ---- 19 and 20 before 21 to 24
pub within_first : (m : List ℕ) (after : List Order) (o : Order) →
    (let sizes = first_no (size_questions one (roster_of m) (lines_of m o.account) o) in
    first_no (within_limits m after o) ≡
    cond (eqb sizes 0)
    (first_no (position_questions (market_of m).unit (roster_of m) (lines_of m o.account) after (balances_of m o.account) o)) sizes)
unfolding within_limits market_of_kind size_questions
within_first m after o =
    first_of_both (size_questions one (roster_of m) (lines_of m o.account) o)
    (position_questions one (roster_of m) (lines_of m o.account) after (balances_of m o.account) o) (omega arith)

pub ruleset within = (within_first, both_set, refusal_counts)

-- ---- 21 to 24
pub order_account : (m : List ℕ) (o : Order) → SoundMemory m → OnRoster m o → Numbered 16 o.account
order_account m o held on = (on.account.0, omega (arith, on.account.1, (sound_readable m held).accounts))

-- the row of the order's account holds its B and V
module _ (m : List ℕ) (row : List ℕ) (o : Order) (held : SoundMemory m) (on : OnRoster m o) (size : length row ≡ 65)
    (own : Gathered row 0 (open_orders m) o.account) where
  pub weigh_bounds : WeighBounds row (balances_part m o.account) (roster_part m)
  weigh_bounds =
      let all = group_bounds m held o.account on.account in
      record {
        size = size;
        unfilled =
            cells_small row (open_orders m) o.account own
            (λ side i. omega (arith, unfilled_small m held side o.account i));
        balances_small = all.balances_small;
        roster_small = all.roster_small;
      }

  -- x is the answer about the desk's parts and the cells
  pub by_parts : (n : ℕ) → Sizable m o n → (x : ℕ) (z : ℤ) (line group_line : List ℕ) → z ≡ pos n →
      HoldsLine line (line_in_force (roster_of m) (lines_of m o.account) o.instrument) →
      HoldsGroupLine group_line ((lines_of m o.account).line_of_group (group_of_instrument (roster_of m) o.instrument)) →
      (let r = roster_in (roster_part m) in
      (ls : Lines) (k : ℕ) (before after : List Order) → z ≡ pos k →
      Gathered row 0 before o.account →
      InForce r ls o line → OfGroup r ls o group_line → Raised k o before after →
      x ≡ first_no (position_questions one r ls after (balances_in (balances_part m o.account)) o)) →
      PositionsAnswered m o n x
  unfolding market_of_kind
  by_parts n s x z line group_line more holds_line holds-group answer after raised =
      let ls = lines_of m o.account in
      let r = roster_in (roster_part m) in
      let contract = contract_same m o.instrument on.instrument in
      answer ls n (open_orders m) after
      more
      own
      (rw (← same_in_force ls o (roster_of m) r contract) (holds_line.line (both_set m o s.set).0))
      (rw (← group_same m held o.instrument on.instrument) (holds-group.line (both_set m o s.set).1))
      raised
      ∙ ap first_no (sym (same_questions ls o (roster_of m) r contract one after (balances_of m o.account)
      (balances_in (balances_part m o.account)) (words_agree m held o.account on.account) on.instrument))

-- what those parts say as the memory's view does
pub ruleset parts = (instruments_same, group_same)
