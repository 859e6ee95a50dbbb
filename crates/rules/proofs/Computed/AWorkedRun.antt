-- Demand 3 at short runs, computed: under a wrong rule the demand's own statement is false at one of them. They are
-- document 01's rounds, and so runs (WorkedRunsAreRuns). The prover takes the files by name: this one and AWorkedTick
-- stand first, so that a wrong rule is refused here, before the lemmas that no longer fit (tests/edits checks where).
use Prim.Native.Nat.{ℕ, ◌<◌}
use mathlib.Core.Path.{◌≡◌, refl, sym, ◌∙◌}
use mathlib.Core.List.{List, [], ◌∷◌, ◌++◌}
use mathlib.Core.Logic.{inl}
use lib.ListN.{get_or, take}
use lib.Dec.{lit<}
use Rattle.rules.specs.declared.Decision.{Decision}
use Rattle.rules.specs.declared.Decision.TheVariants.{One as ForOne}
use Rattle.rules.specs.Ballot.{value_of}
use Rattle.rules.specs.Heard.{member}
use Rattle.rules.specs.Head.{decision_for}
use Rattle.rules.specs.Given.{WrittenDecision}
use Rattle.rules.specs.Run.{Vote, Event, head_in, NoTwoDecisionsDiffer, EachWasProposed, AWrittenOneStays, NotRefusedBeforeTheLastPhase, EveryHeadDecides}
use Rattle.rules.specs.Round.{Channel, received, ticks_of_round, round}
use Rattle.rules.proofs.Computed.Computing.{computing, each}

abbrev decision : Vote → List Event → ℕ → Decision
decision vote events s = (head_in vote events s).decision

-- both sides compute to x
is : {A : Type 0} (x : A) → x ≡ x
is x = refl

-- the heads' proposals, in number order
abbrev pub proposing : ℕ → List ℕ → Vote
proposing n proposals = record { n = n; proposal = λ s. get_or proposals s 0 }

-- a round's rows, one per receiver: "Bit s set: the ballot of head s is lost to it." Every coin is 0.
abbrev pub losing : List ℕ → Channel
losing rows = record { lost = λ receiver sender. member sender (get_or rows receiver 0); coin = λ s. 0 }

-- the rounds with these rows, the last first
abbrev pub rounds : Vote → List (List ℕ) → List Event
rounds vote [] = []
rounds vote (rows ∷ before) = round vote (rounds vote before) (losing rows)

-- "two of document 01's rounds that lose nothing"
abbrev pub two_rounds : Vote → List Event
two_rounds vote = rounds vote ([] ∷ [] ∷ [])

-- both heads propose the bit; two of three do
abbrev pub two_of_two : ℕ → Vote
two_of_two bit = proposing 2 (bit ∷ bit ∷ [])

abbrev pub two_of_three : ℕ → ℕ → Vote
two_of_three bit other = proposing 3 (bit ∷ bit ∷ other ∷ [])

-- ---- "no tick is refused unless its step needs phase 65,536": the last tick of a first round

abbrev pub earlier : List Event
earlier = ticks_of_round (two_of_two 1) [] (losing []) 1

abbrev pub last : Event
last = record { head = 1; bytes = received (head_in (two_of_two 1) []) ((losing []).lost 1) 2; coin = 0 }

pub a_tick_is_accepted : NotRefusedBeforeTheLastPhase (two_of_two 1) earlier last
unfolding computing
a_tick_is_accepted = inl refl

-- ---- "every head decides that bit in them"

pub two_of_three_decide_0 : EveryHeadDecides (two_of_three 0 1) (two_rounds (two_of_three 0 1)) 0
unfolding computing
two_of_three_decide_0 = each 3 (λ s. decision (two_of_three 0 1) (two_rounds (two_of_three 0 1)) s ≡ decision_for (value_of 0)) (((tt, refl), refl), refl)

pub two_of_two_decide_1 : EveryHeadDecides (two_of_two 1) (two_rounds (two_of_two 1)) 1
unfolding computing
two_of_two_decide_1 = each 2 (λ s. decision (two_of_two 1) (two_rounds (two_of_two 1)) s ≡ decision_for (value_of 1)) ((tt, refl), refl)

-- ---- "No two decisions differ": two heads propose 0 and 1, and each hears only itself, which is half of them

abbrev pub halves : Vote
halves = proposing 2 (0 ∷ 1 ∷ [])

abbrev pub alone : List (List ℕ)
alone = (2 ∷ 1 ∷ []) ∷ (2 ∷ 1 ∷ []) ∷ []

pub two_halves_do_not_differ : NoTwoDecisionsDiffer halves (rounds halves alone)
unfolding computing
two_halves_do_not_differ s t hs ht ws wt = as_0 s hs ∙ sym (as_0 t ht)
  where
    as_0 : (s : ℕ) → s < 2 → decision halves (rounds halves alone) s ≡ decision halves (rounds halves alone) 0
    as_0 = each 2 (λ s. decision halves (rounds halves alone) s ≡ decision halves (rounds halves alone) 0) ((tt, refl), refl)

-- ---- "each was proposed by some head": both propose one bit

pub a_decision_for_0_was_proposed : EachWasProposed (two_of_two 0) (two_rounds (two_of_two 0))
unfolding computing
a_decision_for_0_was_proposed s h w =
    (0, lit< tt, each 2 (λ s. decision (two_of_two 0) (two_rounds (two_of_two 0)) s ≡ decision_for (value_of 0)) ((tt, refl), refl) s h)

pub a_decision_for_1_was_proposed : EachWasProposed (two_of_two 1) (two_rounds (two_of_two 1))
a_decision_for_1_was_proposed s h w = (0, lit< tt, two_of_two_decide_1 s h)

-- ---- "a written one stays": head 0 decides in two rounds; in two more, head 1, who is undecided, moves it to phase 4

abbrev pub deciding : List (List ℕ)
deciding = (4 ∷ 1 ∷ 1 ∷ []) ∷ (4 ∷ 4 ∷ 1 ∷ []) ∷ []

abbrev pub moving : List (List ℕ)
moving = (4 ∷ 7 ∷ 7 ∷ []) ∷ (7 ∷ 1 ∷ 1 ∷ []) ∷ deciding

abbrev pub decides : List Event
decides = rounds (two_of_three 1 0) deciding

abbrev pub later : List Event
later = take 6 (rounds (two_of_three 1 0) moving)

pub a_decision_stays : AWrittenOneStays (two_of_three 1 0) decides later
unfolding computing
a_decision_stays s h =
    each 3 (λ s. WrittenDecision (head_in (two_of_three 1 0) decides s) → decision (two_of_three 1 0) (later ++ decides) s ≡ decision (two_of_three 1 0) decides s)
    (((tt, λ w. is ForOne), λ w. absurd (w refl)), λ w. absurd (w refl)) s h
