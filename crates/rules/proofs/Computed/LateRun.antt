-- What demand 3 allows, at its edge: "Tick them in any order, with lists of at most 64 ballots that these heads sent
-- earlier in the vote, any of them lost, late or repeated, and any coin bits." Head 1 steps first. Then head 0 is
-- ticked with 64 ballots, four sixteen times over: head 1's of phase 2, then those that the heads sent at their starts,
-- the highest number first. Head 2's own ballot is lost to it. This is no round, and it is a run.
use Prim.Native.Nat.{ℕ, zero, suc, ◌≤◌, ◌<◌}
use mathlib.Core.Path.{◌≡◌, refl}
use mathlib.Core.List.{List, [], ◌∷◌}
use mathlib.Core.Logic.{inl, inr}
use native.Mathlib.Omega.{arith}
use lib.ListN.{length}
use lib.Dec.{lit<, lit≤}
use Rattle.rules.specs.declared.Ballot.{Ballot}
use Rattle.rules.specs.Ballot.{encode}
use Rattle.rules.specs.Head.{ballot_of}
use Rattle.rules.specs.Run.{Vote, Proper, Event, head_in, Sent, Allowed, Run}
use Rattle.rules.proofs.Computed.Computing.{computing}
use Rattle.rules.proofs.Layouts.Encoding.{nth, encode_length, encode_ballots, encode_five}

-- each of a list
abbrev Every : (Ballot → Type 0) → List Ballot → Type 0
Every P [] = Unit {0}
Every P (b ∷ list) = P b × Every P list

every : (P : Ballot → Type 0) (list : List Ballot) → Every P list → (i : ℕ) → i < length list → P (nth list i)
every P [] e i h = absurd (omega arith)
every P (b ∷ list) e zero h = e.0
every P (b ∷ list) e (suc i) h = every P list e.1 i (omega arith)

-- a tick with ballots that were all sent is allowed
pub sent_is_allowed : (vote : Vote) (events : List Event) (list : List Ballot) → Every (Sent vote events) list → length list ≤ 64
    → (s : ℕ) → s < vote.n → (coin : ℕ) → coin < 2
    → Allowed vote events (record { head = s; bytes = encode list; coin = coin })
sent_is_allowed vote events list all few s h coin bit =
    record {
      head = h;
      whole = omega (arith, encode_length list);
      few = omega (arith, encode_ballots list);
      sent = λ i b. let low : i < length list = omega (arith, encode_ballots list) in (nth list i, every (Sent vote events) list all i low, encode_five list i low);
      bit = bit;
    }

abbrev pub three : Vote
three = record { n = 3; proposal = λ s. 1 }

abbrev pub one_steps : Event
one_steps = record { head = 1; bytes = encode (ballot_of (head_in three [] 0) ∷ ballot_of (head_in three [] 1) ∷ []); coin = 0 }

-- head 1 has sent of phase 2 since
pub head_1_has_stepped : (head_in three (one_steps ∷ []) 1).phase ≡ 2
unfolding computing
head_1_has_stepped = refl

-- so many times the four
abbrev pub times : ℕ → List Ballot
times zero = []
times (suc k) =
    ballot_of (head_in three (one_steps ∷ []) 1)
    ∷ ballot_of (head_in three [] 2)
    ∷ ballot_of (head_in three [] 1)
    ∷ ballot_of (head_in three [] 0)
    ∷ times k

abbrev pub late_and_repeated : Event
late_and_repeated = record { head = 0; bytes = encode (times 16); coin = 1 }

pub proper_three : Proper three
proper_three = record { heads = (lit≤ tt, lit≤ tt); bits = λ s h. lit< tt }

pub late_and_repeated_is_a_run : Run three (late_and_repeated ∷ one_steps ∷ [])
late_and_repeated_is_a_run = ((proper_three, first), last)
  where
    first : Allowed three [] one_steps
    first =
        sent_is_allowed three [] (ballot_of (head_in three [] 0) ∷ ballot_of (head_in three [] 1) ∷ [])
        ((0, lit< tt, refl), ((1, lit< tt, refl), tt)) (lit≤ tt) 1 (lit< tt) 0 (lit< tt)

    all : (k : ℕ) → Every (Sent three (one_steps ∷ [])) (times k)
    all zero = tt
    all (suc k) =
        (inl (1, lit< tt, refl), (inr (2, lit< tt, refl), (inr (1, lit< tt, refl), (inr (0, lit< tt, refl), all k))))

    last : Allowed three (one_steps ∷ []) late_and_repeated
    last = sent_is_allowed three (one_steps ∷ []) (times 16) (all 16) (lit≤ tt) 0 (lit< tt) 1 (lit< tt)
