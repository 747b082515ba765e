-- The answer to a whole file by what its request was read as, and the memory with an acceptance.
use Rattle.std.specs.Prelude.{◌≡◌, ◌&&◌, ◌∷◌, Err}
use Rattle.integers.specs.Basics.{ℕ, refl, ◌∙◌, sym, ap, subst, Bool, true, false, cond, List, Option, None, Some}
use Rattle.integers.specs.Basics.{arith}
use Rattle.limits.specs.declared.answer.Refusal.TheVariants.{NoFileOfLimits, WrongCountOrPlace}
use Rattle.limits.specs.Questions.{Question, first_no}
use Rattle.book.specs.Table.{q}
use Rattle.grammar.specs.Bytes.{all}
use Rattle.grammar.specs.Grammar.{Value}
use Rattle.grammar.specs.Reader.{literal_at, past_blanks, element_at}
use Rattle.grammar.specs.Document.{root_opens, file_starts, file_of, file_ends}
use Rattle.grammar.specs.Found.{past_literal}
use Rattle.grammar.specs.Place.{Place, place}
use Rattle.grammar.proofs.Handed.{found_some}
use Rattle.grammar.proofs.Starts.{literal_stands, literal_missing}
use Rattle.grammar.proofs.Wholes.{root_place, element_place, no_root, no_element, by_end}
use Rattle.limit_file.specs.Layout.{request, limit_file}
use Rattle.memory_layout.specs.View.{market_of, roster_of, view}
use Rattle.memory_soundness.specs.SoundMemory.{SoundMemory}
use Rattle.memory_loading.specs.declared.progress.Progress.{Progress}
use Rattle.memory_loading.specs.Entries.{entries, counts_right}
use Rattle.memory_loading.specs.Loading.{in_place, questions_of, file_questions, file_events, all_worked}
use Rattle.memory_loading.specs.Passing.{beginning, Kept, Passed, ElementRead, FileRead, Loaded}
use Rattle.memory_loading.proofs.Passes.{kept_self}

-- 26 of the whole file, and what is asked behind it
asked_26 : (b : Bool) (qs : List Question) → first_no (q 25 true ∷ q 26 b ∷ qs) ≡ cond b (first_no qs) 26
unfolding first_no
asked_26 b qs = refl

module _ (s : List ℕ) {m n : List ℕ} where
  -- bytes that are no file of the layout
  pub loaded_none : file_of limit_file s ≡ None → Kept m n → Loaded m s n (Err NoFileOfLimits)
  unfolding first_no
  loaded_none is kept =
      record {
        answer = ap (λ x. first_no (file_questions (view m) x)) (sym is);
        all_worked_lem = λ z. absurd (omega (arith, z));
        kept = kept;
      }

  module _ {v : Value request} {k : Progress} (is : file_of limit_file s ≡ Some v)
      (passed : Passed m (entries v) (counts_right v) beginning n k) where
    by_right : (b : Bool) → k.right ≡ b
        → first_no (file_questions (view m) (file_of limit_file s))
        ≡ cond b (first_no (questions_of (market_of m) (roster_of m) (entries v))) 26
    by_right b e =
        ap (λ x. first_no (file_questions (view m) x)) is
        ∙ asked_26 (counts_right v && all (in_place (roster_of m)) (entries v)) (questions_of (market_of m) (roster_of m) (entries v))
        ∙ ap (λ c. cond c (first_no (questions_of (market_of m) (roster_of m) (entries v))) 26) (sym passed.right ∙ e)

    pub loaded_wrong : k.right ≡ false → Loaded m s n (Err WrongCountOrPlace)
    loaded_wrong wrong =
        record { answer = sym (by_right false wrong); all_worked_lem = λ z. absurd (omega (arith, z)); kept = passed.kept }

    pub loaded_right : k.right ≡ true → Loaded m s n k.first
    loaded_right right =
        record {
          answer = passed.first ∙ sym (by_right true right);
          all_worked_lem = λ z. passed.all_worked_lem z ∙ ap (λ x. all_worked m (file_events x)) (sym is);
          kept = passed.kept;
        }

-- ---- by the places that code goes to: the root's start tag was looked for at place p
abbrev past : Place → Place
past p = place p.bytes (past_blanks p.bytes p.at)

module _ (s : List ℕ) {d p : Place} (starts : d ≡ place s (file_starts limit_file s)) (blanks : p ≡ past d) {b : Option Place}
    (looked : b ≡ past_literal p.bytes (root_opens limit_file) p.at) where
  looked_at : b ≡ past_literal s (root_opens limit_file) (root_place limit_file s)
  looked_at = looked ∙ ap (λ (a : Place). past_literal a.bytes (root_opens limit_file) a.at) (blanks ∙ ap past starts)

  pub rootless : b ≡ None → {m : List ℕ} → SoundMemory m → FileRead m s m None
  rootless none sound =
      (no_root limit_file s (literal_missing s (root_opens limit_file) (root_place limit_file s) (sym looked_at ∙ none)), kept_self sound)

  -- and a request behind it and blanks, at place e
  module _ {root e : Place} (opens : b ≡ Some root) (next : e ≡ past root) (m n : List ℕ) (r : Option (Progress × Place))
      (read : ElementRead request entries counts_right e m beginning n r) where
    stands : (literal_at s (root_opens limit_file) (root_place limit_file s) ≡ true) × (e ≡ place s (element_place limit_file s))
    stands =
        let (there, here) = literal_stands s (root_opens limit_file) (root_place limit_file s) (sym looked_at ∙ opens) in
        (there, next ∙ ap past (sym here))

    reads : {g : Option (Progress × Place)} → r ≡ g
        → ElementRead request entries counts_right (place s (element_place limit_file s)) m beginning n g
    reads {g} is =
        subst (λ a. ElementRead request entries counts_right a m beginning n g) stands.1
        (subst (ElementRead request entries counts_right e m beginning n) is read)

    pub requestless : r ≡ None → FileRead m s n None
    requestless none = let (absent, kept) = reads none in (no_element limit_file s stands.0 absent, kept)

    module _ {x : Progress × Place} (is : r ≡ Some x) {t : Bool} (ends : t ≡ file_ends limit_file x.1.bytes x.1.at) where
      by_answer : {a : Bool} → t ≡ a → file_of limit_file s ≡ cond a (Some (reads is).0) None
      by_answer e =
          let (found, same) = found_some s (element_at s request (element_place limit_file s)) (reads is).1 in
          by_end limit_file s stands.0 found
          ∙ ap (λ a. cond a (Some (reads is).0) None) (sym (ends ∙ ap (λ a. file_ends limit_file a x.1.at) same) ∙ e)

      pub endless : t ≡ false → FileRead m s n None
      endless e = (by_answer e, (reads is).2.kept)

      pub file_read : t ≡ true → FileRead m s n (Some x.0)
      file_read e = ((reads is).0, by_answer e, (reads is).2)

-- ---- by what was read of the file
module _ (m s n : List ℕ) (r : Option Progress) (read : FileRead m s n r) where
  found_so : {g : Option Progress} → r ≡ g → FileRead m s n g
  found_so is = subst (FileRead m s n) is read

  pub loaded_nothing : r ≡ None → Loaded m s n (Err NoFileOfLimits)
  loaded_nothing is = let (none, kept) = found_so is in loaded_none s none kept

  module _ {k : Progress} (is : r ≡ Some k) where
    pub loaded_miscounted : k.right ≡ false → Loaded m s n (Err WrongCountOrPlace)
    loaded_miscounted wrong = let (v, file, passed) = found_so is in loaded_wrong s file passed wrong

    pub loaded_counted : k.right ≡ true → Loaded m s n k.first
    loaded_counted right = let (v, file, passed) = found_so is in loaded_right s file passed right
