-- The contract can be met: a desk whose memory is what is kept itself.
use Rattle.std.specs.Prelude.{◌≡◌}
use Rattle.integers.specs.Basics.{ℕ, refl, ◌∙◌, ap, List}
use Rattle.ledger.specs.Roster.{Roster}
use Rattle.book.specs.Market.{Market}
use Rattle.book.specs.States.{State, begun, work}
use Rattle.book.specs.Table.{answer}
use Rattle.book.specs.Sound.{RosterFits, Sound}
use Rattle.book.specs.EventLists.{RawEvent, as_event, Desk, keep, state_after}
use Rattle.book.specs.Contract.{Contract}
use Rattle.book.specs.Demand3.{Demand3At}
use Rattle.book.proofs.SoundSteps.{sound_empty}
use Rattle.book.proofs.Runs.{keep_accepted, keep_refused, holds_after}
use Rattle.book.proofs.Demand3Proof.{demand3}

abbrev plain_answer : State → RawEvent → ℕ
plain_answer k e = answer k (as_event e)

abbrev pub plain : Desk
plain = record { Memory = State; answer_to = plain_answer; next = λ k e. keep k (as_event e) (plain_answer k e) }

pub plain_meets : Contract plain
plain_meets =
    record {
      Shows = λ m k. m ≡ k;
      judged = λ m k e same sound. ap (λ x. plain_answer x e) same;
      worked = λ m k e same sound zero. keep_accepted m e (plain_answer m e) zero ∙ ap (λ x. work x (as_event e)) same;
      refused = λ m e other. keep_refused m e (plain_answer m e) other;
    }

module _ (mk : Market) (r : Roster) (fits : RosterFits r) where
  pub plain_demand3 : Demand3At plain (begun mk r) (begun mk r)
  unfolding plain_meets
  plain_demand3 = demand3 plain_meets (begun mk r) (begun mk r) refl (sound_empty mk r fits)

  -- and after every list of events what it keeps is sound
  pub plain_sound : (es : List RawEvent) → Sound (state_after plain (begun mk r) (begun mk r) es)
  unfolding plain_meets
  plain_sound es =
      (holds_after plain_meets (begun mk r) (begun mk r) es (record { shown = refl; sound = sound_empty mk r fits })).sound
