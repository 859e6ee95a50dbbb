-- "each was proposed by some head": if no first ballot carried the decided bit, all would carry the other one.
use Prim.Native.Nat.{ℕ, ◌<◌}
use mathlib.Core.Path.{◌≡◌, refl, sym, ap, ◌∙◌}
use mathlib.Core.List.{List}
use mathlib.Core.Bool.{Bool, true, false}
use native.Mathlib.Omega.{arith}
use Rattle.rules.specs.declared.Value.{Value}
use Rattle.rules.specs.declared.Value.TheVariants.{Zero, One, Blank}
use Rattle.rules.specs.declared.Status.TheVariants.{Decided}
use Rattle.rules.specs.declared.Ballot.{Ballot}
use Rattle.rules.specs.Below.{some}
use Rattle.rules.specs.Ballot.{value_of, same_value}
use Rattle.rules.specs.Head.{decision_for}
use Rattle.rules.specs.Run.{Vote, Event, head_in, Sent, Run, NoTwoDecisionsDiffer, EachWasProposed}
use Rattle.rules.proofs.Counting.Truth.{false_not}
use Rattle.rules.proofs.Counting.Below.{means_some, not_some}
use Rattle.rules.proofs.Meaning.Meanings.{means_value}
use Rattle.rules.proofs.Undivided.Ledger.{decided_bit, decided_agree, all_carry}
use Rattle.rules.proofs.Undivided.OneEvent.{Kept}
use Rattle.rules.proofs.Undivided.Runs.{kept_run}
use Rattle.rules.proofs.Undivided.TheBit.{Bit, zero_bit, one_bit}

-- "No two decisions differ"
pub decisions_agree : (vote : Vote) (events : List Event) → Run vote events → NoTwoDecisionsDiffer vote events
decisions_agree vote events run s t hs ht ws wt =
    let K = kept_run vote events run in
    let x = K.decision s hs ws in
    let y = K.decision t ht wt in
    x.3 ∙ ap decision_for (decided_agree K.ledger x.0 y.0 x.1 y.1 x.2 y.2) ∙ sym y.3

-- the other bit
abbrev other : Value → Value
other Zero = One
other One = Zero
other Blank = Zero

other_bit : (v : Value) → Bit (other v)
other_bit Zero = one_bit
other_bit One = zero_bit
other_bit Blank = zero_bit

other_not : (v : Value) → v ≡ other v → ⊥
other_not Zero e = let z : ◌≡◌ {A = ℕ} 0 1 = cc in omega arith
other_not One e = let z : ◌≡◌ {A = ℕ} 0 1 = cc in omega arith
other_not Blank e = let z : ◌≡◌ {A = ℕ} 0 1 = cc in omega arith

two_bits : (a v : Value) → Bit a → Bit v → (a ≡ v → ⊥) → a ≡ other v
two_bits Zero Zero ba bv n = absurd (n refl)
two_bits Zero One ba bv n = refl
two_bits Zero Blank ba bv n = refl
two_bits One Zero ba bv n = refl
two_bits One One ba bv n = absurd (n refl)
two_bits One Blank ba bv n = absurd (bv refl)
two_bits Blank Zero ba bv n = absurd (ba refl)
two_bits Blank One ba bv n = absurd (ba refl)
two_bits Blank Blank ba bv n = absurd (ba refl)

pub decision_proposed : (vote : Vote) (events : List Event) → Run vote events → EachWasProposed vote events
decision_proposed vote events run s hs ws = go (some vote.n test) refl
  where
    K : Kept vote events
    K = kept_run vote events run

    x : (b : Ballot) × Sent vote events b × (b.status ≡ Decided) × ((head_in vote events s).decision ≡ decision_for b.value)
    x = (kept_run vote events run).decision s hs ws

    v : Value
    v = x.0.value

    test : ℕ → Bool
    test t = same_value (value_of (vote.proposal t)) x.0.value

    go : (a : Bool) → some vote.n test ≡ a → (t : ℕ) × (t < vote.n) × ((head_in vote events s).decision ≡ decision_for (value_of (vote.proposal t)))
    go true e = let r = (means_some (λ t. means_value (value_of (vote.proposal t)) x.0.value)).0 e in (r.0, r.1, x.3 ∙ ap decision_for (sym r.2))
    go false e = absurd (other_not v (all_carry K.ledger (other v) (other_bit v) first x.0 x.1))
      where
        -- a first ballot carries a proposal, and none is v
        first : (b : Ballot) → Sent vote events b → b.phase ≡ 1 → b.value ≡ other v
        first b sb p =
            let r = K.proposed b sb p in
            two_bits b.value v (K.ledger.start b sb p).0 (decided_bit K.ledger x.0 x.1 x.2)
            (λ z. false_not (means_value (value_of (vote.proposal r.0)) v) (not_some vote.n test e r.0 r.1) (sym r.2 ∙ z))
