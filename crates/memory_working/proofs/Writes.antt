-- Working an accepted event is a run of stores of words: what each store keeps, working keeps.
use Rattle.std.specs.Prelude.{◌≤◌, ◌<◌, ◌≡◌}
use Rattle.integers.specs.Basics.{ℕ, refl, ◌∙◌, List, length, get_or, arith}
use Rattle.words.specs.Bytes.{Bytes}
use Rattle.words.specs.Words.{word_at, put_word}
use Rattle.words.proofs.Memory.{length_put, bytes_put, byte_put_other, word_put_other}
use Rattle.ledger.specs.Orders.{place_from}
use Rattle.book.specs.declared.Event.{Event}
use Rattle.book.specs.declared.Event.TheVariants.{Set, New, Change, Junk}
use Rattle.book.specs.Books.{changed, book_after}
use Rattle.book.specs.States.{work}
use Rattle.book.proofs.SoundOrders.{count_after}
use Rattle.memory_layout.proofs.MarketRead.{market_same}
use Rattle.memory_layout.specs.Layout.{mark_word}
use Rattle.memory_layout.specs.View.{market_of, roster_of, open_orders, book_of, view}
use Rattle.memory_layout.specs.Stores.{store_from}
use Rattle.memory_layout.specs.Judged.{judged}
use Rattle.memory_layout.proofs.RosterLaws.{roster_same}
use Rattle.memory_layout.proofs.FirstRecord.{joined_small}
use Rattle.memory_soundness.specs.SoundMemory.{SoundMemory}
use Rattle.memory_working.specs.Working.{worked}
use Rattle.memory_working.proofs.AcceptedFacts.{sound, laid, passed, accepted_facts}
use Rattle.memory_working.proofs.FirstRecord.{after_small}
use Rattle.memory_working.proofs.StoreRuns.{Stores, keeps_orders, keeps_balance}
use Rattle.memory_working.proofs.SettingWorked.{setting_kept}

-- at most 256 orders are open afterwards
pub few_after : (m : List ℕ) → SoundMemory m → (e : Event) → judged m e ≡ 0 → length (work (view m) e).book.orders ≤ 256
few_after m held e passes = count_after (view m) (sound m held) e (passed m e passes)

-- a store of a word behind the roster and of no line
no_line : {m : List ℕ} (k v : ℕ) → 112 ≤ k → k < 8192 → (k ≡ 113 → v ≤ 256) → (1536 ≤ k → k < 2880 → ⊥) → Stores m k v
no_line k v low high first apart = record { low = low; high = high; first = first; figures = λ a b. absurd (apart a b) }

-- ---- the memory after an accepted event
module _ (m : List ℕ) (e : Event) (P : List ℕ → Type 0) (keeps : (l : List ℕ) (k v : ℕ) → Stores m k v → P l → P (put_word l k v))
    (held : SoundMemory m) where
  keeps_list : (f : ℕ) → f ≤ 256 → judged m e ≡ 0 → P m
      → P (store_from m f (work (view m) e).book.orders)
  keeps_list f inside passes =
      keeps_orders (Stores m) P keeps
      (λ j v low high. no_line j v (omega arith) (omega arith) (λ same. omega arith) (λ a b. omega arith))
      (λ v. no_line 112 v (omega arith) (omega arith) (λ same. omega arith) (λ a b. omega arith))
      (λ v small. no_line 113 v (omega arith) (omega arith) (λ same. small) (λ a b. omega arith))
      m f _ inside (few_after m held e passes)

pub worked_keeps : (m : List ℕ) (e : Event) (P : List ℕ → Type 0) → ((l : List ℕ) (k v : ℕ) → Stores m k v → P l → P (put_word l k v))
    → SoundMemory m → judged m e ≡ 0 → P m → P (worked m e)
unfolding worked book_after book_of
worked_keeps m (Set x) P keeps held passes p = setting_kept m held x (accepted_facts m held (Set x) passes) P keeps p
worked_keeps m (New s a i id n) P keeps held passes p =
    let t = accepted_facts m held (New s a i id n) passes in
    let sized = (laid m held).sized in
    keeps _ (mark_word a) 1 (omega arith) (keeps_list m (New s a i id n) P keeps held _ (joined_small m _ held.first) passes p)
worked_keeps m (Change id c) P keeps held passes p =
    let f = (accepted_facts m held (Change id c) passes).0 in
    let o = f.order in
    rw f.found (keeps_balance m P keeps held _ o.account o.instrument _ f.fits.account f.fits.instrument
    (keeps_list m (Change id c) P keeps held _ (after_small m held.first (place_from 0 id (open_orders m)) (changed c o)) passes
    p))
worked_keeps m Junk P keeps held passes p = p

-- ---- so are kept
module _ (m : List ℕ) (held : SoundMemory m) (e : Event) (passes : judged m e ≡ 0) where
  pub length_worked : length (worked m e) ≡ length m
  length_worked =
      worked_keeps m e (λ l. length l ≡ length m) (λ l k v s was. length_put l k v ∙ was) held passes refl

  pub bytes_worked : Bytes m → Bytes (worked m e)
  bytes_worked = worked_keeps m e Bytes (λ l k v s. bytes_put l k v) held passes

  -- bytes from 65,536 on are as they were
  pub later_worked : (i : ℕ) → 65536 ≤ i → get_or (worked m e) i 0 ≡ get_or m i 0
  later_worked i h =
      worked_keeps m e (λ l. get_or l i 0 ≡ get_or m i 0)
      (λ l k v s was. byte_put_other l k v i (λ same. omega arith) ∙ was) held passes refl

  -- and so are the kind of desk and the roster
  pub word_worked : (j : ℕ) → j < 112 → word_at (worked m e) j ≡ word_at m j
  word_worked j h =
      worked_keeps m e (λ l. word_at l j ≡ word_at m j) (λ l k v s was. word_put_other l k v j (λ same. omega arith) ∙ was) held passes refl

  pub roster_worked : roster_of (worked m e) ≡ roster_of m
  roster_worked = roster_same (worked m e) m (laid m held).sized (λ k low high. word_worked k (omega arith))

  pub market_worked : market_of (worked m e) ≡ market_of m
  market_worked = market_same (worked m e) m (word_worked 0 (omega arith))
