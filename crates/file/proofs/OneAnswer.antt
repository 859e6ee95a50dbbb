-- What an answer of the code stands for is one answer only: no two faults have one number, none has 0, and no two
-- answers of the bench stand for the same.
use Prim.Native.Nat.{ℕ}
use mathlib.Core.Path.{◌≡◌, refl, sym, ap, ap₂, ◌∙◌}
use mathlib.Core.List.{List}
use mathlib.Core.Bool.{cond}
use native.Mathlib.Omega.{arith}
use lib.Dec.{eqb}
use Rattle.std.specs.Prelude.{Result, Ok, Err}
use Rattle.rules.specs.declared.Head.{Head}
use Rattle.file.specs.declared.Fault.{Fault}
use Rattle.file.specs.declared.Fault.TheVariants.{EndsInsideCountOrBody, CountBreaksItsRule, BytesBreakTheirRule}
use Rattle.file.specs.declared.Fault.TheVariants.{BytesAfterTheLastSection, TableTooShort}
use Rattle.file.specs.declared.Refusal.{Refusal}
use Rattle.file.specs.declared.Figures.{Figures}
use Rattle.file.specs.declared.Benched.{Benched as Answered}
use Rattle.file.specs.Fault.{number_of}
use Rattle.file.specs.Figures.{Outcome, refused_outcome, outcome_read}
use Rattle.file.specs.Benched.{Benched, benched_read}

-- "0 is accepted": no fault has it
pub never_0 : (fault : Fault) → number_of fault ≡ 0 → ⊥
never_0 EndsInsideCountOrBody e = omega arith
never_0 CountBreaksItsRule e = omega arith
never_0 BytesBreakTheirRule e = omega arith
never_0 BytesAfterTheLastSection e = omega arith
never_0 TableTooShort e = omega arith

-- the fault of a number
abbrev fault_of : ℕ → Fault
fault_of number =
    cond (eqb number 12) EndsInsideCountOrBody
    (cond (eqb number 13) CountBreaksItsRule
    (cond (eqb number 14) BytesBreakTheirRule
    (cond (eqb number 15) BytesAfterTheLastSection TableTooShort)))

-- the answer that stands for an outcome
abbrev answer_of : Outcome → Result Figures Refusal
answer_of o =
    cond (eqb o.number 0)
    (Ok
    (record {
      n = o.n;
      needed = o.needed;
      bound = o.bound;
      rounds = o.rounds;
      good = o.good;
      decided = o.decided;
    }))
    (Err (record { fault = fault_of o.number; place = o.place }))

read_back : (answer : Result Figures Refusal) → answer_of (outcome_read answer) ≡ answer
read_back (Ok figures) = refl
read_back (Err refusal) = go refusal.fault
  where
    go : (fault : Fault) → answer_of (refused_outcome (number_of fault) refusal.place)
        ≡ Err (record { fault = fault; place = refusal.place })
    go EndsInsideCountOrBody = refl
    go CountBreaksItsRule = refl
    go BytesBreakTheirRule = refl
    go BytesAfterTheLastSection = refl
    go TableTooShort = refl

pub one_outcome : (answer other : Result Figures Refusal) → outcome_read answer ≡ outcome_read other → answer ≡ other
one_outcome answer other e = sym (read_back answer) ∙ ap answer_of e ∙ read_back other

pub one_vote : (answer other : Answered) → benched_read answer ≡ benched_read other → answer ≡ other
one_vote answer other e =
    ap₂ (λ (outcome : Result Figures Refusal) (heads : List Head). answered outcome heads)
    (one_outcome answer.outcome other.outcome (ap (λ (b : Benched). b.outcome) e))
    (ap (λ (b : Benched). b.heads) e)
  where
    answered : Result Figures Refusal → List Head → Answered
    answered outcome heads = record { outcome = outcome; heads = heads }
