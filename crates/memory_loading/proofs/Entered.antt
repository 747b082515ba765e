-- An entry as the judge of LIMIT and its worker meet it: a line with its limits, or with −1 throughout where it has none, which
-- is then asked 7 and 8 alone.
use Rattle.std.specs.Prelude.{◌≡◌, ◌&&◌, ◌∷◌, is_some}
use Rattle.integers.specs.Basics.{ℕ, refl, ◌∙◌, sym, ap, subst, Bool, true, false, cond, List, [], Option, None, Some}
use Rattle.integers.specs.Basics.{eqb}
use Rattle.integers.specs.Basics.{true≢false, false≢true, eqb-true}
use Rattle.words.specs.Bytes.{Bytes}
use Rattle.limits.specs.Answers.{number_of}
use Rattle.limits.specs.Questions.{first_no}
use Rattle.limits.proofs.Answers.{both_true}
use Rattle.book.specs.declared.LimitLine.{LimitLine}
use Rattle.book.specs.declared.LimitLine.TheVariants.{Own, Default}
use Rattle.book.specs.declared.Setting.TheVariants.{Limit}
use Rattle.book.specs.declared.Event.TheVariants.{Set}
use Rattle.book.specs.Books.{unsets}
use Rattle.book.specs.Decoding.{between}
use Rattle.book.specs.Settings.{limited_item}
use Rattle.book.specs.Table.{q, is_event, account_known, is_listed, item_known, line_fits, figures_fit, where_some, not_yet_trading, id_open}
use Rattle.book.specs.Table.{quantity_fits}
use Rattle.book.specs.Table.{entered, id_free, place_free, questions_before, limit_questions, answer}
use Rattle.grammar.specs.Grammar.{Numbers}
use Rattle.limit_file.specs.Layout.{two, four}
use Rattle.memory_layout.specs.View.{market_of, roster_of}
use Rattle.memory_layout.specs.Judged.{judged}
use Rattle.memory_soundness.specs.SoundMemory.{SoundMemory}
use Rattle.memory_working.specs.Working.{worked}
use Rattle.memory_working.proofs.Writes.{length_worked, later_worked, roster_worked, market_worked}
use Rattle.memory_working.proofs.SoundWorked.{sound_worked}
use Rattle.memory_loading.specs.declared.progress.Progress.{Progress}
use Rattle.grammar.specs.Bytes.{all}
use Rattle.memory_loading.specs.Entries.{Entry, group_entry, contract_entry, instrument_entry}
use Rattle.memory_loading.specs.Loading.{entry_account, entry_item, entry_line, in_place, entry_questions, questions_of, each_limited}
use Rattle.memory_loading.specs.Loading.{events_of, all_worked}
use Rattle.memory_loading.specs.Passing.{first_of, figures_or, group_line_or, Kept, Passed}
use Rattle.memory_loading.proofs.Passes.{kept_self, and_true, second_of_zero}

-- a LIMIT is asked 7, 8 and 9 alone
pub limit_answer : (m : List ℕ) (a : ℕ) (l : LimitLine) (x y z : Bool) → between 1 (roster_of m).accounts a ≡ x
    → is_listed (roster_of m) (limited_item l) ≡ y → line_fits (market_of m).largest l ≡ z
    → judged m (Set (Limit a l)) ≡ first_no (q 7 x ∷ q 8 y ∷ q 9 z ∷ [])
unfolding judged answer questions_before limit_questions first_no is_event account_known item_known figures_fit not_yet_trading id_open
    quantity_fits entered id_free place_free
limit_answer m a l x y z d e f = rw (d, e, f)

-- the line that stands for an entry, and whether it is to be set
pub record StandsFor (e : Entry) (l : LimitLine) (sets : Bool) : Type 0 where
  pub item : entry_item e ≡ Some (limited_item l)
  pub fits : (largest : ℕ) → line_fits largest l ≡ where_some (line_fits largest) (entry_line e)
  pub set : sets ≡ true → entry_line e ≡ Some l
  pub unset : sets ≡ false → entry_line e ≡ None

pub group_stands : (a g : ℕ) (l : Option (Numbers two)) → StandsFor (group_entry a g l) (group_line_or g l) (is_some l)
group_stands a g None = record { item = refl; fits = λ n. refl; set = λ e. absurd (false≢true e); unset = λ e. refl }
group_stands a g (Some (long, (short, t))) =
    record { item = refl; fits = λ n. refl; set = λ e. refl; unset = λ e. absurd (true≢false e) }

pub contract_stands : (a g c : ℕ) (l : Option (Numbers four)) → StandsFor (contract_entry a g c l) (Default c (figures_or l)) (is_some l)
unfolding unsets
contract_stands a g c None = record { item = refl; fits = λ n. refl; set = λ e. absurd (false≢true e); unset = λ e. refl }
contract_stands a g c (Some (long, (short, (bid, (offer, t))))) =
    record { item = refl; fits = λ n. refl; set = λ e. refl; unset = λ e. absurd (true≢false e) }

pub instrument_stands : (a c i : ℕ) (l : Option (Numbers four)) → StandsFor (instrument_entry a c i l) (Own i (figures_or l)) (is_some l)
unfolding unsets
instrument_stands a c i None = record { item = refl; fits = λ n. refl; set = λ e. absurd (false≢true e); unset = λ e. refl }
instrument_stands a c i (Some (long, (short, (bid, (offer, t))))) =
    record { item = refl; fits = λ n. refl; set = λ e. refl; unset = λ e. absurd (true≢false e) }

-- line and flag as code has them
pub stands_as : {e : Entry} {l k : LimitLine} {s t : Bool} → StandsFor e l s → k ≡ l → t ≡ s → StandsFor e k t
stands_as stands d e = rw (d, e) stands

module _ (m : List ℕ) {e : Entry} {l : LimitLine} {sets : Bool} (stands : StandsFor e l sets) where
  pub same_answer : judged m (Set (Limit (entry_account e) l)) ≡ first_no (entry_questions (market_of m) (roster_of m) e)
  same_answer =
      limit_answer m (entry_account e) l _ _ _ refl (sym (ap (where_some (is_listed (roster_of m))) stands.item))
      (stands.fits (market_of m).largest)

  -- the memory where the entry is accepted, and what it is by the entry's events
  events_worked : (b : Bool) → sets ≡ b → cond b (worked m (Set (Limit (entry_account e) l))) m ≡ all_worked m (events_of (e ∷ []))
  unfolding each_limited all_worked
  events_worked true s = rw (stands.set s)
  events_worked false s = rw (stands.unset s)

  kept_worked : Bytes m → SoundMemory m → judged m (Set (Limit (entry_account e) l)) ≡ 0
      → Kept m (worked m (Set (Limit (entry_account e) l)))
  kept_worked bytes held accepted =
      record {
        sound = sound_worked m bytes held (Set (Limit (entry_account e) l)) tt tt accepted;
        same_length = length_worked m held _ accepted;
        same_market = market_worked m held _ accepted;
        same_roster = roster_worked m held _ accepted;
        same_behind = later_worked m held _ accepted;
      }

  kept_if : Bytes m → SoundMemory m → (t : Bool) → (t ≡ true → judged m (Set (Limit (entry_account e) l)) ≡ 0)
      → Kept m (cond t (worked m (Set (Limit (entry_account e) l))) m)
  kept_if bytes held true accepted = kept_worked bytes held (accepted refl)
  kept_if bytes held false accepted = kept_self held

  module _ {n : List ℕ} {j k : Progress} (bytes : Bytes m) (held : SoundMemory m)
      (first : number_of k.first ≡ first_of (number_of j.first) (judged m (Set (Limit (entry_account e) l))))
      (memory : n ≡ cond (eqb (number_of k.first) 0 && sets) (worked m (Set (Limit (entry_account e) l))) m)
      (right : k.right ≡ j.right && in_place (roster_of m) e) where
    pub passed_entry : Passed m (e ∷ []) true j n k
    unfolding all questions_of
    passed_entry =
        record {
          right = right ∙ ap (λ b. j.right && b) (and_true (in_place (roster_of m) e));
          first = first ∙ ap (first_of (number_of j.first)) same_answer;
          all_worked_lem =
              λ z. memory ∙ ap (λ a. cond (eqb a 0 && sets) (worked m (Set (Limit (entry_account e) l))) m) z ∙ events_worked sets refl;
          kept =
              subst (Kept m) (sym memory)
              (kept_if bytes held (eqb (number_of k.first) 0 && sets)
              (λ t. second_of_zero (number_of j.first) _ (sym first ∙ eqb-true (number_of k.first) 0 (both_true _ _ t).0)));
        }
