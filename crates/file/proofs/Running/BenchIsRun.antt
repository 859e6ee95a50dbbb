-- A bench run is a run of demand 3: the heads in the table are the heads of the vote after the ticks of the rounds.
use Prim.Native.Nat.{ℕ, zero, suc, ◌+◌, ◌*◌, ◌≤◌, ◌<◌}
use mathlib.Core.Path.{◌≡◌, refl, sym, ap, ap₂, ◌∙◌}
use mathlib.Core.List.{List, [], ◌++◌}
use mathlib.Core.Bool.{cond}
use native.Mathlib.Decide.{ℕ_discrete}
use native.Mathlib.Nat.{mul-le-mul, mul-le-mul_right, suc-mul}
use native.Mathlib.Omega.{arith}
use lib.ListN.{length, get_or, drop}
use lib.Seq.{get_or-take, get_or-drop}
use Rattle.rules.specs.declared.Head.{Head}
use Rattle.rules.specs.Ballot.{bytes_of}
use Rattle.rules.specs.Heard.{member}
use Rattle.rules.specs.Head.{ballot_of}
use Rattle.rules.specs.Tick.{tick_number, tick_of}
use Rattle.rules.specs.Record.{four_bytes_at}
use Rattle.rules.specs.Run.{head_in, Run}
use Rattle.rules.specs.Round.{received, ticks_of_round}
use Rattle.rules.proofs.Rounds.Rounds.{round_is_run, untouched, ticked_once}
use Rattle.rules.proofs.Undivided.Phases.{no_early_refusal}
use Rattle.file.specs.Plan.{Plan}
use Rattle.file.specs.Table.{head_of, start_in, starts_in, rows_in, coins_in, ticked_in, round_in, rounds_in}
use Rattle.file.proofs.Reading.Plans.{RuleByRule}
use Rattle.file.proofs.Running.Voting.{vote_in, channel_in, events_in}
use Rattle.file.proofs.Running.Placing.{placed_length, placed_at, rounds_length}

module _ (file : List ℕ) (plan : Plan) (table : List Head) (accepted : RuleByRule file (length table) plan) where
  abbrev starts : List Head
  starts = starts_in file plan.n table

  -- what is received from the table is what is received from the vote's heads
  received_same : (r : ℕ)
      → ((s : ℕ) → s < plan.n → head_of (rounds_in file plan r starts) s
      ≡ head_in (vote_in file plan) (events_in file plan r) s)
      → (receiver k : ℕ) → k ≤ plan.n
      → received (head_of (rounds_in file plan r starts)) (λ k. member k (four_bytes_at (rows_in file plan r) (receiver * 4))) k
      ≡ received (head_in (vote_in file plan) (events_in file plan r)) ((channel_in file plan r).lost receiver) k
  received_same r same receiver zero h = refl
  received_same r same receiver (suc k) h =
      ap₂ (λ (list : List ℕ) (head : Head). list
      ++ cond (member k (four_bytes_at (rows_in file plan r) (receiver * 4))) [] (bytes_of (ballot_of head)))
      (received_same r same receiver k (omega arith)) (same k h)

  -- "A round": each head of the table is ticked as the vote's is
  pub heads_are : (r : ℕ) (s : ℕ) → s < plan.n
      → head_of (rounds_in file plan r starts) s ≡ head_in (vote_in file plan) (events_in file plan r) s
  unfolding rounds_in round_in
  heads_are zero s h = placed_at plan.n (start_in file plan.n) table s h accepted.enough
  heads_are (suc r) s h =
      placed_at plan.n (ticked_in plan.n (rows_in file plan r) (coins_in file plan r) (rounds_in file plan r starts))
      (rounds_in file plan r starts) s h room
      ∙ ap₂ (λ (head : Head) (list : List ℕ). (tick_of head list (get_or (coins_in file plan r) s 0)).head)
      (heads_are r s h) (received_same r (heads_are r) s plan.n (omega arith))
      ∙ sym (ticked_once (vote_in file plan) (events_in file plan r) (channel_in file plan r) plan.n s h)
    where
      room : plan.n ≤ length (rounds_in file plan r starts)
      room =
          omega (
            arith,
            accepted.enough,
            rounds_length file plan r starts,
            placed_length plan.n (start_in file plan.n) table,
          )

  -- a coin of a round is a coin of the file
  pub coin_bit : (r : ℕ) → r < plan.rounds → (s : ℕ) → s < plan.n → get_or (coins_in file plan r) s 0 < 2
  coin_bit r early s h =
      let at : get_or (coins_in file plan r) s 0 ≡ get_or file (plan.coins + r * plan.n + s) 0 =
      get_or-take plan.n (drop (plan.coins + r * plan.n) file) s 0 h
      ∙ get_or-drop (plan.coins + r * plan.n) file s 0 in
      let place : plan.coins + r * plan.n + s ≡ plan.coins + (r * plan.n + s) = omega arith in
      omega (
        arith,
        at,
        ap (λ (k : ℕ). get_or file k 0) place,
        accepted.coin (r * plan.n + s) (omega (arith, h, mul-le-mul_right plan.n early, suc-mul r plan.n)),
      )

  -- "Tick them in any order ..": the rounds are a run
  pub rounds_are_run : (r : ℕ) → r ≤ plan.rounds → Run (vote_in file plan) (events_in file plan r)
  rounds_are_run zero h = record { heads = accepted.heads; bits = accepted.proposal }
  rounds_are_run (suc r) h =
      round_is_run (vote_in file plan) (events_in file plan r) (channel_in file plan r) (rounds_are_run r (omega arith))
      (coin_bit r h)

  -- ---- no tick of a bench run is refused

  -- a round adds a tick a head
  round_length : (r k : ℕ)
      → length (ticks_of_round (vote_in file plan) (events_in file plan r) (channel_in file plan r) k)
      ≡ k + length (events_in file plan r)
  round_length r zero = omega arith
  round_length r (suc k) = let i = round_length r k in omega (arith, i)

  pub events_length : (r : ℕ) → length (events_in file plan r) ≡ r * plan.n
  events_length zero = omega arith
  events_length (suc r) = let i = events_length r in omega (arith, i, round_length r plan.n, suc-mul r plan.n)

  -- every tick of a round comes in a run
  up_to : (r k s : ℕ) → s < k
      → Run (vote_in file plan) (ticks_of_round (vote_in file plan) (events_in file plan r) (channel_in file plan r) k)
      → Run (vote_in file plan) (ticks_of_round (vote_in file plan) (events_in file plan r) (channel_in file plan r) (suc s))
  up_to r zero s h run = absurd (omega arith)
  up_to r (suc k) s h run = go (ℕ_discrete s k) (up_to r k s)
    where
      Prefix : ℕ → Type 0
      Prefix j =
          Run (vote_in file plan) (ticks_of_round (vote_in file plan) (events_in file plan r) (channel_in file plan r) j)

      go : Dec (s ≡ k) → (s < k → Prefix k → Prefix (suc s)) → Prefix (suc s)
      go (yes e) f = rw e run
      go (no e) f = f (omega (arith, e)) run.0

  pub bench_tick_accepted : (r s : ℕ) → r < plan.rounds → s < plan.n
      → tick_number (head_of (rounds_in file plan r starts) s)
      (received (head_of (rounds_in file plan r starts)) (λ k. member k (four_bytes_at (rows_in file plan r) (s * 4))) plan.n)
      (get_or (coins_in file plan r) s 0) ≡ 0
  bench_tick_accepted r s early h =
      ap₂ (λ (head : Head) (list : List ℕ). tick_number head list (get_or (coins_in file plan r) s 0))
      (heads_are r s h ∙ sym (untouched (vote_in file plan) (events_in file plan r) (channel_in file plan r) s s
      (omega arith)))
      (received_same r (heads_are r) s plan.n (omega arith))
      ∙ no_early_refusal (vote_in file plan) _ _ (up_to r plan.n s h (rounds_are_run (suc r) early)) few
    where
      few : length (ticks_of_round (vote_in file plan) (events_in file plan r) (channel_in file plan r) s) < 65534
      few =
          let least : plan.n ≤ 32 = omega (arith, accepted.heads) in
          let most : r ≤ 256 = omega (arith, accepted.rounds) in
          omega (arith, round_length r s, events_length r, mul-le-mul most least, least)
