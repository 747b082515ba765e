-- Entries passed one after the other: what two parts of a file do is what the whole does.
use Rattle.std.specs.Prelude.{◌≡◌, ◌&&◌, ◌∷◌, ◌++◌}
use Rattle.integers.specs.Basics.{ℕ, zero, suc, refl, ◌∙◌, sym, ap, Bool, true, false, List, [], arith}
use mathlib.Core.List.{append_assoc}
use Rattle.limits.specs.Answers.{number_of}
use Rattle.limits.specs.Questions.{Question, first_no}
use Rattle.book.specs.declared.LimitLine.{LimitLine}
use Rattle.book.specs.declared.Event.{Event}
use Rattle.book.specs.Market.{Market}
use Rattle.ledger.specs.Roster.{Roster}
use Rattle.book.specs.Table.{q}
use Rattle.memory_layout.specs.View.{market_of, roster_of}
use Rattle.memory_soundness.specs.SoundMemory.{SoundMemory}
use Rattle.memory_working.specs.Working.{worked}
use Rattle.memory_loading.specs.declared.progress.Progress.{Progress}
use Rattle.grammar.specs.Bytes.{all}
use Rattle.memory_loading.specs.Entries.{Entry}
use Rattle.memory_loading.specs.Loading.{in_place, entry_account, entry_line, entry_questions, questions_of, where_limited, each_limited}
use Rattle.memory_loading.specs.Loading.{events_of, all_worked}
use Rattle.memory_loading.specs.Passing.{first_of, with_count, Kept, Passed}

-- ---- memories
pub kept_self : {m : List ℕ} → SoundMemory m → Kept m m
kept_self held =
    record { sound = held; same_length = refl; same_market = refl; same_roster = refl; same_behind = λ i h. refl }

pub kept_on : {m n o : List ℕ} → Kept m n → Kept n o → Kept m o
kept_on k l =
    record {
      sound = l.sound;
      same_length = l.same_length ∙ k.same_length;
      same_market = l.same_market ∙ k.same_market;
      same_roster = l.same_roster ∙ k.same_roster;
      same_behind = λ i h. l.same_behind i h ∙ k.same_behind i h;
    }

-- ---- lists
and_assoc : (a b c : Bool) → (a && (b && c)) ≡ ((a && b) && c)
and_assoc true b c = refl
and_assoc false b c = refl

pub all_append : {A : Type 0} (f : A → Bool) (xs ys : List A) → all f (xs ++ ys) ≡ (all f xs && all f ys)
unfolding all
all_append f [] ys = refl
all_append f (x ∷ xs) ys = ap (λ b. f x && b) (all_append f xs ys) ∙ and_assoc (f x) (all f xs) (all f ys)

pub limited_append : {A : Type 0} (f : ℕ → LimitLine → A) (xs ys : List Entry)
    → each_limited f (xs ++ ys) ≡ each_limited f xs ++ each_limited f ys
unfolding each_limited
limited_append f [] ys = refl
limited_append f (x ∷ xs) ys =
    let first = where_limited f (entry_account x) (entry_line x) in
    ap (λ es. first ++ es) (limited_append f xs ys) ∙ sym (append_assoc first (each_limited f xs) (each_limited f ys))

pub worked_append : (m : List ℕ) (xs ys : List Event) → all_worked m (xs ++ ys) ≡ all_worked (all_worked m xs) ys
unfolding all_worked
worked_append m [] ys = refl
worked_append m (e ∷ xs) ys = worked_append (worked m e) xs ys

-- ---- questions
-- the first no of an entry and of those behind it
one_first : (a b c : Bool) (qs : List Question)
    → first_no (q 7 a ∷ q 8 b ∷ q 9 c ∷ qs) ≡ first_of (first_no (q 7 a ∷ q 8 b ∷ q 9 c ∷ [])) (first_no qs)
unfolding first_no
one_first false b c qs = refl
one_first true false c qs = refl
one_first true true false qs = refl
one_first true true true qs = refl

first_assoc : (a b c : ℕ) → first_of (first_of a b) c ≡ first_of a (first_of b c)
first_assoc zero b c = refl
first_assoc (suc a) b c = refl

module _ (mk : Market) (r : Roster) where
  pub asked_first_lem : (x : Entry) (xs : List Entry)
      → first_no (questions_of mk r (x ∷ xs)) ≡ first_of (first_no (entry_questions mk r x)) (first_no (questions_of mk r xs))
  unfolding questions_of
  asked_first_lem x xs = one_first _ _ _ (questions_of mk r xs)

  pub first_append : (xs ys : List Entry)
      → first_no (questions_of mk r (xs ++ ys)) ≡ first_of (first_no (questions_of mk r xs)) (first_no (questions_of mk r ys))
  unfolding questions_of first_no
  first_append [] ys = refl
  first_append (x ∷ xs) ys =
      asked_first_lem x (xs ++ ys)
      ∙ ap (first_of (first_no (entry_questions mk r x))) (first_append xs ys)
      ∙ sym (first_assoc (first_no (entry_questions mk r x)) (first_no (questions_of mk r xs)) (first_no (questions_of mk r ys)))
      ∙ sym (ap (λ a. first_of a (first_no (questions_of mk r ys))) (asked_first_lem x xs))

-- ---- entries
pub and_true : (a : Bool) → a ≡ (a && true)
and_true true = refl
and_true false = refl

first_zero : (a : ℕ) → a ≡ first_of a 0
first_zero zero = refl
first_zero (suc a) = refl

pub passed_none : {m : List ℕ} {j : Progress} → SoundMemory m → Passed m [] true j m j
unfolding all questions_of first_no each_limited all_worked
passed_none {j = j} held =
    record { right = and_true j.right; first = first_zero (number_of j.first); all_worked_lem = λ z. refl; kept = kept_self held }

right_counted : (j b x t : Bool) → (j && (b && x)) && t ≡ j && ((t && b) && x)
right_counted false b x t = refl
right_counted true true true true = refl
right_counted true true true false = refl
right_counted true true false true = refl
right_counted true true false false = refl
right_counted true false x true = refl
right_counted true false x false = refl

-- a count besides
pub passed_counted : {m : List ℕ} {es : List Entry} {b : Bool} {j : Progress} {n : List ℕ} {k : Progress} → Passed m es b j n k
    → (t : Bool) → Passed m es (t && b) j n (with_count k t)
passed_counted {m = m} {es = es} {b = b} {j = j} p t =
    record {
      right = ap (λ a. a && t) p.right ∙ right_counted j.right b (all (in_place (roster_of m)) es) t;
      first = p.first;
      all_worked_lem = p.all_worked_lem;
      kept = p.kept;
    }

-- right so far, and then by two parts
right_on : (i c d x y : Bool) → (i && (c && x)) && (d && y) ≡ i && ((c && d) && (x && y))
right_on false c d x y = refl
right_on true false d x y = refl
right_on true true true false y = refl
right_on true true false false y = refl
right_on true true d true y = refl

pub first_of_zero : (a b : ℕ) → first_of a b ≡ 0 → a ≡ 0
first_of_zero zero b e = refl
first_of_zero (suc a) b e = e

pub second_of_zero : (a b : ℕ) → first_of a b ≡ 0 → b ≡ 0
second_of_zero zero b e = e
second_of_zero (suc a) b e = omega (arith, e)

pub passed_on : {m n o : List ℕ} {es fs : List Entry} {c d : Bool} {i j k : Progress} → Passed m es c i n j → Passed n fs d j o k
    → Passed m (es ++ fs) (c && d) i o k
passed_on {m = m} {n = n} {o = o} {es = es} {fs = fs} {c = c} {d = d} {i = i} {j = j} {k = k} p q =
    record {
      right =
          q.right
          ∙ ap (λ r. j.right && (d && all (in_place r) fs)) p.kept.same_roster
          ∙ ap (λ b. b && (d && all (in_place (roster_of m)) fs)) p.right
          ∙ right_on i.right c d (all (in_place (roster_of m)) es) (all (in_place (roster_of m)) fs)
          ∙ ap (λ b. i.right && ((c && d) && b)) (sym (all_append (in_place (roster_of m)) es fs));
      first =
          q.first
          ∙ ap (λ mk. first_of (number_of j.first) (first_no (questions_of mk (roster_of n) fs))) p.kept.same_market
          ∙ ap (λ r. first_of (number_of j.first) (first_no (questions_of (market_of m) r fs))) p.kept.same_roster
          ∙ ap (λ a. first_of a (asked fs)) p.first
          ∙ first_assoc (number_of i.first) (asked es) (asked fs)
          ∙ ap (first_of (number_of i.first)) (sym (first_append (market_of m) (roster_of m) es fs));
      all_worked_lem =
          λ z.
          q.all_worked_lem z
          ∙ ap (λ l. all_worked l (events_of fs)) (p.all_worked_lem (first_of_zero (number_of j.first) _ (sym q.first ∙ z)))
          ∙ sym (worked_append m (events_of es) (events_of fs))
          ∙ ap (all_worked m) (sym (limited_append _ es fs));
      kept = kept_on p.kept q.kept;
    }
  where
    asked : List Entry → ℕ
    asked l = first_no (questions_of (market_of m) (roster_of m) l)
