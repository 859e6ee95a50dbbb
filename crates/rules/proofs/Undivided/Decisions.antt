-- A written decision stays through every tick, whatever it is handed.
use Prim.Native.Nat.{ℕ}
use mathlib.Core.Path.{◌≡◌, refl, sym, ◌∙◌}
use mathlib.Core.List.{List, [], ◌∷◌, ◌++◌}
use mathlib.Core.Bool.{Bool, true, false, cond}
use mathlib.Core.Logic.{inr}
use native.Mathlib.Decide.{ℕ_discrete}
use lib.Dec.{eqb}
use borrow.Author.Tests.{ne_eqb}
use Rattle.rules.specs.declared.Status.TheVariants.{Decided}
use Rattle.rules.specs.declared.Decision.TheVariants.{Unwritten}
use Rattle.rules.specs.declared.Head.{Head}
use Rattle.rules.specs.Ballot.{value_code}
use Rattle.rules.specs.Head.{decision_code, decision_for, is_decided}
use Rattle.rules.specs.Tick.{gathered, quorum, risen, stepped, settled, tick_number, tick_of}
use Rattle.rules.specs.Given.{WrittenDecision, DecidesOtherwise}
use Rattle.rules.proofs.Counting.Truth.{false_not}
use Rattle.rules.proofs.Meaning.Meanings.{means_decided, means_for}
use Rattle.rules.proofs.Meaning.Accepted.{tick_accepted}
use Rattle.rules.proofs.OneTick.Senders.{gathered_same}
use Rattle.rules.specs.Run.{Vote, Event, head_in, AWrittenOneStays}

-- step 3 keeps it
stepped_decision : (g : Head) (coin : ℕ) → (stepped g coin).decision ≡ g.decision
unfolding stepped
stepped_decision g coin = go (quorum g)
  where
    go : (t : Bool) → (cond t (risen g coin) g).decision ≡ g.decision
    go true = refl
    go false = refl

-- step 4 writes it again, or is refused by 11
settled_decision : (x : Head) → (x.decision ≡ Unwritten → ⊥) → (DecidesOtherwise x → ⊥) → (settled x).decision ≡ x.decision
unfolding settled
settled_decision x w fits = go (is_decided x) refl
  where
    alike : x.status ≡ Decided → decision_for x.value ≡ x.decision
    alike d = pick (eqb (decision_code x.decision) (value_code x.value)) refl
      where
        pick : (t : Bool) → eqb (decision_code x.decision) (value_code x.value) ≡ t → decision_for x.value ≡ x.decision
        pick true e = sym ((means_for x.decision x.value).0 e)
        pick false e = absurd (fits (d, inr (w, false_not (means_for x.decision x.value) e)))

    go : (t : Bool) → is_decided x ≡ t → cond t (decision_for x.value) x.decision ≡ x.decision
    go true e = alike ((means_decided x).0 e)
    go false e = refl

pub tick_keeps_decision : (h : Head) (l : List ℕ) (coin : ℕ) → (h.decision ≡ Unwritten → ⊥) → (tick_of h l coin).head.decision ≡ h.decision
unfolding tick_of
tick_keeps_decision h l coin w = go (ℕ_discrete (tick_number h l coin) 0)
  where
    same : (stepped (gathered h l) coin).decision ≡ h.decision
    same = stepped_decision (gathered h l) coin ∙ (gathered_same h l).2

    go : Dec (tick_number h l coin ≡ 0) → (cond (eqb (tick_number h l coin) 0) (settled (stepped (gathered h l) coin)) h).decision ≡ h.decision
    go (yes n) = rw n (settled_decision (stepped (gathered h l) coin) (λ z. w (sym same ∙ z)) (tick_accepted h l coin n).decides ∙ same)
    go (no n) = rw (ne_eqb (tick_number h l coin) 0 n)

-- "a written one stays", whatever comes later
pub decision_stays : (vote : Vote) (events later : List Event) → AWrittenOneStays vote events later
decision_stays vote events [] s h w = refl
decision_stays vote events (e ∷ later) s h w = let i = decision_stays vote events later s h w in go (eqb e.head s) (λ z. w (sym i ∙ z)) ∙ i
  where
    go : (t : Bool) → WrittenDecision (head_in vote (later ++ events) s)
        → (cond t (tick_of (head_in vote (later ++ events) s) e.bytes e.coin).head (head_in vote (later ++ events) s)).decision
        ≡ (head_in vote (later ++ events) s).decision
    go true written = tick_keeps_decision (head_in vote (later ++ events) s) e.bytes e.coin written
    go false written = refl
