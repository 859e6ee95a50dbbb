-- The plan of a file whose sections were read one after the other.
use Rattle.std.proofs.Common.{◌≡◌, ℕ, ◌+◌, ◌*◌, ◌<◌, ◌≤◌, List, cond, length, get_or, Result, Ok, Err, IsErrAnd, refl, ap}
use lib.Dec.{ltb}
use borrow.Author.Tests.{lt-ltb, le-ltb}
use Rattle.file.specs.declared.Refusal.{Refusal}
use Rattle.file.specs.declared.Plan.{Plan as Said}
use Rattle.file.specs.Fault.{number_of}
use Rattle.file.specs.Section.{Body, Refused, count_at, proposals_of, needed_of, losses_of, coins_of}
use Rattle.file.specs.declared.Figures.{Figures}
use Rattle.file.specs.Figures.{refused_outcome, outcome_read}
use Rattle.file.specs.Plan.{Plan, refused_plan, plan_read, plan_of}

-- what an answer that hands a refusal on stands for
pub refused_read : (answer : Result Said Refusal) (refusal : Refusal) → IsErrAnd answer (λ e. e ≡ refusal)
    → plan_read answer ≡ refused_plan (number_of refusal.fault) refusal.place
refused_read (Ok said) refusal is = absurd is
refused_read (Err e) refusal is = ap (λ (r : Refusal). refused_plan (number_of r.fault) r.place) is

-- the same of the bench's
pub refused_answer : (answer : Result Figures Refusal) (refusal : Refusal) → IsErrAnd answer (λ e. e ≡ refusal)
    → outcome_read answer ≡ refused_outcome (number_of refusal.fault) refusal.place
refused_answer (Ok figures) refusal is = absurd is
refused_answer (Err e) refusal is = ap (λ (r : Refusal). refused_outcome (number_of r.fault) r.place) is

module _ (file : List ℕ) (room : ℕ) where
  pub refused_1 : (number place : ℕ) → Refused number place ≡ proposals_of file
      → refused_plan number place ≡ plan_of file room
  unfolding plan_of
  refused_1 number place e = rw (← e) refl

  module _ {start n second : ℕ} (proposals : Body start n ≡ proposals_of file) (to_second : second ≡ start + n) where
    pub refused_2 : (number place : ℕ) → Refused number place ≡ needed_of file second n
        → refused_plan number place ≡ plan_of file room
    unfolding plan_of
    refused_2 number place e = rw (← proposals, ← to_second, ← e) refl

    module _ {need one third : ℕ} (needed : Body need one ≡ needed_of file second n) (to_third : third ≡ need + one) where
      pub refused_3 : (number place : ℕ) → Refused number place ≡ losses_of file third n
          → refused_plan number place ≡ plan_of file room
      unfolding plan_of
      refused_3 number place e = rw (← proposals, ← to_second, ← needed, ← to_third, ← e) refl

      module _ {rows size fourth rounds : ℕ} (losses : Body rows size ≡ losses_of file third n) (to_fourth : fourth ≡ rows + size)
          (many : rounds ≡ count_at file third) where
        pub refused_4 : (number place : ℕ) → Refused number place ≡ coins_of file fourth (rounds * n)
            → refused_plan number place ≡ plan_of file room
        unfolding plan_of
        refused_4 number place e = rw (← proposals, ← to_second, ← needed, ← to_third, ← losses, ← to_fourth, ← many, ← e) refl

        module _ {coins count end k : ℕ} (drawn : Body coins count ≡ coins_of file fourth (rounds * n)) (to_end : end ≡ coins + count)
            (heads : k ≡ get_or file need 0) where
          closed : cond (ltb end (length file)) (refused_plan 15 end)
              (cond (ltb room n) (refused_plan 16 0)
              (record { number = 0; place = 0; n = n; needed = k; rounds = rounds; losses = rows; coins = coins }))
              ≡ plan_of file room
          unfolding plan_of
          closed =
              rw (← proposals, ← to_second, ← needed, ← to_third, ← losses, ← to_fourth, ← many, ← drawn, ← to_end, ← heads)
              refl

          pub refused_15 : end < length file → refused_plan 15 end ≡ plan_of file room
          refused_15 h = rw (lt-ltb end (length file) h) at closed

          pub refused_16 : length file ≤ end → room < n → refused_plan 16 0 ≡ plan_of file room
          refused_16 h l = rw (le-ltb end (length file) h, lt-ltb room n l) at closed

          pub accepts : length file ≤ end → n ≤ room
              → ◌≡◌ {A = Plan}
              (record { number = 0; place = 0; n = n; needed = k; rounds = rounds; losses = rows; coins = coins })
              (plan_of file room)
          accepts h l = rw (le-ltb end (length file) h, le-ltb room n l) at closed
